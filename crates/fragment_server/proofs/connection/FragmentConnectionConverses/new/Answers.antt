use Rattle.fragment_server.specs.Laws.{opens_as}
use Rattle.fragment_server.proofs.connection.FragmentConnectionConverses.new.Goals as goal

pub returns-clause-opens : goal.returns-clause-opens
returns-clause-opens c = opens_as _ c.new.ensures.opening c.new.ensures.answers
