use Rattle.std.proofs.Common.{◌≡◌, ◌++◌, drop}
use Rattle.std.specs.String.{string_bytes}
use Rattle.std.specs.List.{flat_map}
use Rattle.template_fill.specs.Templates.{part_text}
use Rattle.template_fill.specs.WebAddress.{Extends}
use Rattle.template_fill.proofs.template.Template.expand.Given as goal

abbrev pub invariant-loop-part : goal.invariant-loop-part
invariant-loop-part l = record {
  text : string_bytes l.initial.text ++ flat_map (part_text l.values) l.part-items ≡ string_bytes l.text ++ flat_map (part_text l.values) (drop l.part-index l.part-items);
  extends : Extends l.self-inside.start (string_bytes l.text);
}
