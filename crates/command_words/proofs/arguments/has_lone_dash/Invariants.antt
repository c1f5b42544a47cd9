use Rattle.std.proofs.Common.{◌≡◌, drop, map, string_bytes, false}
use Rattle.command_words.specs.Apps.{has_lone_dash}
use Rattle.command_words.specs.Forms.{texts}
use Rattle.command_words.proofs.arguments.has_lone_dash.Given as goal

abbrev pub invariant-loop-word : goal.invariant-loop-word
invariant-loop-word l = has_lone_dash (texts l.options) false (map string_bytes l.words) ≡ has_lone_dash (texts l.options) l.waits (map string_bytes (drop l.word-index l.words))
