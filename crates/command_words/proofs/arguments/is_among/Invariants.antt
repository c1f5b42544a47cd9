use Rattle.std.proofs.Common.{◌≡◌, drop}
use Rattle.command_words.specs.Words.{is_among}
use Rattle.command_words.specs.Forms.{texts}
use Rattle.command_words.proofs.arguments.is_among.Given as goal

abbrev pub invariant-loop-other : goal.invariant-loop-other
invariant-loop-other l = is_among l.name (texts l.names) ≡ is_among l.name (texts (drop l.other-index l.names))
