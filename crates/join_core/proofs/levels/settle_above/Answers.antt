use Rattle.join_core.proofs.Plain.{settled-above, settled-back}
use Rattle.join_core.proofs.levels.settle_above.Goals as goal

pub returns-in-Ok-settle-clause-done : goal.returns-in-Ok-settle-clause-done
returns-in-Ok-settle-clause-done c =
    settled-above c.args.levels.now.items c.args.place.depth c.args.place.key c.index_mut.result.now c.append.new.self c.index_mut-2.result.now c.settle.new.self c.args.opened.items c.args.after c.requires.deep c.index_mut.ensures.value c.in-Ok.ensures.done c.index_mut-2.ensures.value c.in-Ok-settle.ensures.done

pub returns-in-Err-clause-failed : goal.returns-in-Err-clause-failed
returns-in-Err-clause-failed c =
    settled-back c.args.levels.now.items c.args.place.depth c.unstarted-below.result c.index.result.now c.index_mut.result.now c.append.new.self c.index_mut-2.result.now c.settle.new.self c.index_mut-in-Err.result.now c.shorten.new.self c.args.opened.items c.requires.deep c.index.ensures c.unstarted-below.ensures c.index_mut.ensures.value c.in-Ok.ensures.done c.index_mut-2.ensures.value c.in-Err.ensures.failed
    c.index_mut-in-Err.ensures.value c.shorten.ensures
