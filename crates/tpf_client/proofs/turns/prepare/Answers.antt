-- Rows are taken, and then all asks are handed over.
use Rattle.std.proofs.Common.{[], ◌∙◌, sym, subst}
use Rattle.tpf_client.specs.declared.fault.ClientFault.{ClientFault}
use Rattle.tpf_client.specs.Causes.{IsLocal}
use Rattle.tpf_client.specs.Turns.{keeps_both}
use Rattle.tpf_client.proofs.Turning.{give-meets, hands-nothing}
use Rattle.tpf_client.proofs.Going.{sink-local}
use Rattle.tpf_client.proofs.Sinks.{stays-ok, leaves-ok, leaves-lacking, leaves-fault}
use Rattle.tpf_client.proofs.turns.prepare.Goals as goal

pub hand_over-requires-clause-meets : goal.hand_over-requires-clause-meets
hand_over-requires-clause-meets g c =
    let m = c.requires.meets in
    let r = c.in-Ok.ensures.gives in
    (m.0, give-meets g.E.Evaluates.suits g.E.Evaluates.account (keeps_both g.E.Evaluates.keeps_to g.E.Evaluates.keeps_small) g.E.Evaluates.standing c.args.evaluation.now c.give_rows.new.evaluation r.0 c.args.asks.now m.0 r.1 m.1)

pub hand_over-requires-clause-given : goal.hand_over-requires-clause-given
hand_over-requires-clause-given g c = c.requires.given ∙ sym c.in-Ok.ensures.gives.1.given

pub returns-in-Ok-hand_over-clause-ok : goal.returns-in-Ok-hand_over-clause-ok
returns-in-Ok-hand_over-clause-ok g c =
    let r = c.in-Ok.ensures.gives in
    let h = c.in-Ok-hand_over.ensures.ok in
    (r.0, h.0, record { mid = c.give_rows.new.evaluation; gives = r.1; hands = h.1 }, r.2)

pub returns-in-Ok-hand_over-clause-quiet : goal.returns-in-Ok-hand_over-clause-quiet
returns-in-Ok-hand_over-clause-quiet g c = c.in-Ok-hand_over.ensures.ok.2

pub returns-in-Ok-hand_over-clause-none : goal.returns-in-Ok-hand_over-clause-none
returns-in-Ok-hand_over-clause-none g c = c.in-Ok-hand_over.ensures.ok.1.waiting ∙ c.in-Ok.ensures.none

pub returns-in-Err-hand_over-clause-err : goal.returns-in-Err-hand_over-clause-err
returns-in-Err-hand_over-clause-err g c =
    let r = c.in-Ok.ensures.gives in
    let h = c.in-Err-hand_over.ensures.err in
    (r.0, h.0, h.1, record { mid = c.give_rows.new.evaluation; gives = r.1; hands = h.2 }, g.met.T.TakesRows.front_all r.0 _ _ _ _ r.2, tt)

pub returns-in-Err-clause-err : goal.returns-in-Err-clause-err
returns-in-Err-clause-err g c =
    let r = c.in-Err.ensures.gives in (
      r.0,
      [],
      c.give_rows.new.evaluation,
      record { mid = c.give_rows.new.evaluation; gives = r.1; hands = hands-nothing g.E.Evaluates.suits g.E.Evaluates.account (keeps_both g.E.Evaluates.keeps_to g.E.Evaluates.keeps_small) g.E.Evaluates.standing c.give_rows.new.evaluation c.args.asks.now },
      r.3,
      subst (λ (f : ClientFault). IsLocal f) (sym c.of_sink.ensures) (sink-local c.in-Err.fault),
    )

pub returns-in-Err-clause-sink : goal.returns-in-Err-clause-sink
returns-in-Err-clause-sink g c = leaves-fault _ _ c.in-Err.fault c.of_sink.result c.of_sink.ensures c.in-Err.ensures.sink

pub returns-in-Err-hand_over-clause-sink : goal.returns-in-Err-hand_over-clause-sink
returns-in-Err-hand_over-clause-sink g c = leaves-lacking _ _ (stays-ok _ _ _ c.in-Ok.ensures.sink)

pub returns-in-Ok-hand_over-clause-sink : goal.returns-in-Ok-hand_over-clause-sink
returns-in-Ok-hand_over-clause-sink g c = leaves-ok _ _ _ (stays-ok _ _ _ c.in-Ok.ensures.sink)
