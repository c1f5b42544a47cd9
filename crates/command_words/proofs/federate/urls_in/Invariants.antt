use Rattle.std.proofs.Common.{◌≡◌, ◌++◌, drop, option_map}
use Rattle.command_words.specs.Apps.{found_in}
use Rattle.command_words.specs.Forms.{texts}
use Rattle.command_words.specs.Commands.{urls_in}
use Rattle.command_words.proofs.federate.urls_in.Given as goal

abbrev pub invariant-loop-name : goal.invariant-loop-name
invariant-loop-name l = urls_in (found_in l.matches) (texts l.names) ≡ option_map (λ urls. l.urls.items ++ urls) (urls_in (found_in l.matches) (texts (drop l.name-index l.names)))
