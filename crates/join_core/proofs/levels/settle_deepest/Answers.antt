use Rattle.join_core.proofs.Plain.{settled-deepest}
use Rattle.join_core.proofs.levels.settle_deepest.Goals as goal

pub returns-in-Ok-settle-clause-done : goal.returns-in-Ok-settle-clause-done
returns-in-Ok-settle-clause-done c =
    settled-deepest c.args.levels.now.items c.push.new.self.items c.args.place.depth c.args.place.key c.from_openings.result c.index_mut.result.now c.settle.new.self c.args.opened.items c.args.after c.requires.deep c.in-Ok.ensures.items c.from_openings.ensures c.index_mut.ensures.value c.in-Ok-settle.ensures.done
