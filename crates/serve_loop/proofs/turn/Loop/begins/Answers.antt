-- Nothing happened yet.
use Rattle.serve_loop.proofs.StepLemmas.{begins}
use Rattle.serve_loop.proofs.turn.Loop.begins.Goals as goal

pub returns : goal.returns
returns g c = λ first h. begins _ _ first _ _ _ _ h c.requires
