-- What is left is what was not taken.
use Rattle.std.proofs.Common.{refl, rules}
use Rattle.echo_server.specs.Laws.{takes_front}
use Rattle.echo_server.proofs.echo.EchoConverses.take.Goals as goal

pub returns-clause-takes : goal.returns-clause-takes
returns-clause-takes c = takes_front _ _ _ (search rules) refl
