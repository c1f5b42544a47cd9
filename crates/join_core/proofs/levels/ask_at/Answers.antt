use Rattle.std.proofs.lemmas.Result.{on_ok_weaker}
use Rattle.join_core.specs.Events.{asked}
use Rattle.join_core.proofs.Plain.{asked-level, found-level}
use Rattle.join_core.proofs.levels.ask_at.Goals as goal

pub returns-clause-done : goal.returns-clause-done
returns-clause-done c = λ n e.
    on_ok_weaker c.ask_at.result
    (λ x. asked-level c.args.levels.now.items c.args.place.depth c.args.place.key c.index_mut.result.now c.ask_at.new.self (asked c.args.ticket n) c.requires.deep c.index_mut.ensures.value x)
    (c.ask_at.ensures.done n (found-level c.args.levels.now.items c.args.place.depth c.args.place.key c.index_mut.result.now n c.requires.deep c.index_mut.ensures.value e))
