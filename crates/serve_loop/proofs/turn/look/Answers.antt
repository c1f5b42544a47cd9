-- Nothing changed on the wire, so it is the same.
use Rattle.serve_loop.proofs.CallLemmas.{same_wire}
use Rattle.serve_loop.proofs.turn.look.Goals as goal

pub returns : goal.returns
returns g c = record { same = same_wire _ _ c.look.ensures.same }
