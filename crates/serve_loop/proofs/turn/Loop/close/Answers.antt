use Rattle.serve_loop.proofs.SlotLemmas.{none_held}
use Rattle.serve_loop.proofs.turn.Loop.close.Goals as goal

pub returns-clause-len : goal.returns-clause-len
returns-clause-len g c = none_held c.close_all.new.live c.close_all.ensures.none
