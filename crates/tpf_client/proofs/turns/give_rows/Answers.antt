-- One row more at each turn.
use Rattle.std.proofs.Common.{◌≡◌, [], ◌++◌, ◌∷◌}
use Rattle.tpf_client.specs.Turns.{keeps_both}
use Rattle.tpf_client.proofs.Turning.{give-none, give-one, give-then, give-same, none-waits, none-so}
use Rattle.tpf_client.proofs.Sinks.{stays-none, stays-then, stays-ok, keeps-behind, keeps-ok}
use Rattle.tpf_client.proofs.turns.give_rows.Goals as goal

pub waiting-init : goal.waiting-init
waiting-init g c = record {
  gives = ([], give-none g.E.Evaluates.suits g.E.Evaluates.account (keeps_both g.E.Evaluates.keeps_to g.E.Evaluates.keeps_small) g.E.Evaluates.standing c.args.evaluation.now, g.met.T.TakesRows.takes_none c.args.rows.now c.args.behind.now);
  sink = stays-none (g.T.TakesRows.sink c.args.behind.now);
}

pub waiting-preserved : goal.waiting-preserved
waiting-preserved g c =
    let i = c.waiting.invariant in
    let one = give-one g.E.Evaluates.suits g.E.Evaluates.account (keeps_both g.E.Evaluates.keeps_to g.E.Evaluates.keeps_small) g.E.Evaluates.standing c.waiting.evaluation c.take_row.new.self c.in-Some.row c.in-Some.ensures.none (λ limits k. (c.in-Some.ensures.keeps limits.terms k.0, c.in-Some.ensures.small limits.sizes k.1)) (λ limits k. c.in-Some.ensures.width limits.terms k.0) c.in-Some.ensures.suits c.in-Some.ensures.owes in
    record {
      gives = (
        i.gives.0 ++ c.in-Some.row ∷ [],
        give-then g.E.Evaluates.suits g.E.Evaluates.account (keeps_both g.E.Evaluates.keeps_to g.E.Evaluates.keeps_small) g.E.Evaluates.standing c.args.evaluation.now c.waiting.evaluation c.take_row.new.self i.gives.0 (c.in-Some.row ∷ []) i.gives.1 one,
        g.met.T.TakesRows.takes_then i.gives.0 (c.in-Some.row ∷ []) _ _ _ _ _ _ i.gives.2 c.in-Ok.ensures.ok,
      );
      sink = stays-then _ _ _ i.sink (stays-ok _ _ _ c.in-Ok.ensures.sink);
    }

pub returns-in-Err-clause-gives : goal.returns-in-Err-clause-gives
returns-in-Err-clause-gives g c =
    let i = c.waiting.invariant in
    let one = give-one g.E.Evaluates.suits g.E.Evaluates.account (keeps_both g.E.Evaluates.keeps_to g.E.Evaluates.keeps_small) g.E.Evaluates.standing c.waiting.evaluation c.take_row.new.self c.in-Some.row c.in-Some.ensures.none (λ limits k. (c.in-Some.ensures.keeps limits.terms k.0, c.in-Some.ensures.small limits.sizes k.1)) (λ limits k. c.in-Some.ensures.width limits.terms k.0) c.in-Some.ensures.suits c.in-Some.ensures.owes in (
      i.gives.0 ++ c.in-Some.row ∷ [],
      give-then g.E.Evaluates.suits g.E.Evaluates.account (keeps_both g.E.Evaluates.keeps_to g.E.Evaluates.keeps_small) g.E.Evaluates.standing c.args.evaluation.now c.waiting.evaluation c.take_row.new.self i.gives.0 (c.in-Some.row ∷ []) i.gives.1 one,
      tt,
      g.met.T.TakesRows.front_then i.gives.0 (c.in-Some.row ∷ []) _ _ _ _ _ _ i.gives.2 c.in-Err.ensures.err,
    )

pub returns-clause-gives : goal.returns-clause-gives
returns-clause-gives g c =
    let i = c.waiting.invariant in
    let same = none-so c.take_row.result (c.take_row.new.self ≡ c.waiting.evaluation) (λ row. Unit {0}) c.in_default.is c.take_row.ensures.unchanged in
    (i.gives.0, give-same g.E.Evaluates.suits g.E.Evaluates.account (keeps_both g.E.Evaluates.keeps_to g.E.Evaluates.keeps_small) g.E.Evaluates.standing c.args.evaluation.now c.waiting.evaluation c.take_row.new.self i.gives.0 same i.gives.1, i.gives.2, tt)

pub returns-clause-none : goal.returns-clause-none
returns-clause-none g c =
    none-waits g.E.Evaluates.suits g.E.Evaluates.account (keeps_both g.E.Evaluates.keeps_to g.E.Evaluates.keeps_small) g.E.Evaluates.standing c.waiting.evaluation c.take_row.new.self (none-so c.take_row.result _ _ c.in_default.is c.take_row.ensures.unchanged) (none-so c.take_row.result _ _ c.in_default.is c.take_row.ensures.none)

pub returns-in-Err-clause-sink : goal.returns-in-Err-clause-sink
returns-in-Err-clause-sink g c = keeps-behind _ _ _ _ c.waiting.invariant.sink c.in-Err.ensures.sink

pub returns-clause-sink : goal.returns-clause-sink
returns-clause-sink g c = keeps-ok _ _ _ c.waiting.invariant.sink
