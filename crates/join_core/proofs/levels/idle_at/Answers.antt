use Rattle.join_core.proofs.Plain.{same-set}
use Rattle.join_core.proofs.levels.idle_at.Goals as goal

pub returns-clause-same : goal.returns-clause-same
returns-clause-same c = same-set c.args.levels.now.items c.args.depth c.index_mut.result.now c.first_idle.new.self c.requires.deep c.index_mut.ensures.value c.first_idle.ensures.same
