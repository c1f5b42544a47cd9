use Rattle.base_tests.proofs.played.Played.recv.Goals as goal

pub returns : goal.returns
returns c = λ n moved. (c.recv.ensures.receives.moved n moved).1
