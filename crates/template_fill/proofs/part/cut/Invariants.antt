use Rattle.std.proofs.Common.{◌≡◌, ◌++◌, take, drop}
use Rattle.template_fill.specs.Templates.{before, after}
use Rattle.template_fill.proofs.part.cut.Given as goal

abbrev pub invariant-loop-i : goal.invariant-loop-i
invariant-loop-i l = record {
  before : before l.x l.bytes ≡ take l.i l.bytes ++ before l.x (drop l.i l.bytes);
  after : after l.x l.bytes ≡ after l.x (drop l.i l.bytes);
}
