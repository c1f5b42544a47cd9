use Rattle.std.proofs.Common.{◌≡◌, ◌++◌, ◌<◌, drop}
use Rattle.std.specs.String.{string_bytes}
use Rattle.template_fill.specs.Templates.{pairs_text}
use Rattle.template_fill.proofs.part.push_pairs.Given as goal

abbrev pub invariant-loop-name : goal.invariant-loop-name
invariant-loop-name l = record {
  text : string_bytes l.initial.out ++ pairs_text l.initial.mark l.names l.values ≡ string_bytes l.out ++ pairs_text l.mark (drop l.name-index l.names) l.values;
  ascii : l.mark < 128;
}
