-- Rows and asks, and then the next reply.
use Rattle.std.proofs.Common.{Bool, List, [], ◌++◌, ◌∙◌, sym, map, subst, append-nil, inl, inr}
use Rattle.bgp_core.specs.Solutions.{Places}
use Rattle.tpf_client.specs.declared.fault.ClientFault.{ClientFault}
use Rattle.tpf_client.specs.declared.fault.ClientFault.TheVariants as faults
use Rattle.tpf_client.specs.Causes.{IsLocal}
use Rattle.tpf_client.specs.Traffic.{Asked}
use Rattle.tpf_client.specs.Told.{told_in}
use Rattle.tpf_client.specs.Turns.{keeps_both}
use Rattle.tpf_base.proofs.SendingLemmas.{allowed_same}
use Rattle.tpf_client.proofs.Meeting.{meets-some}
use Rattle.tpf_client.proofs.Going.{ready-meets, went-ready, went-then, failed-ready, failed-here, failed-then, explains-local, sink-local, err-as}
use Rattle.tpf_client.proofs.Sinks.{stays-then, stays-ok, leaves-stays, leaves-ok, leaves-behind, leaves-other, leaves-fault}
use Rattle.tpf_client.proofs.turns.turn.Goals as goal

pub take_next-requires-clause-meets : goal.take_next-requires-clause-meets
take_next-requires-clause-meets g c =
    let m = c.requires.meets in
    let r = c.in-Ok.ensures.ok in
    (m.0, ready-meets g.E.Evaluates.suits g.E.Evaluates.account (keeps_both g.E.Evaluates.keeps_to g.E.Evaluates.keeps_small) g.E.Evaluates.standing g.E.Evaluates.is_true (told_in c.args.bounds) c.args.evaluation.now.state c.prepare.new.evaluation r.0 r.1 c.args.asks.now c.prepare.new.asks m.0 r.2 m.1)

pub take_next-requires-clause-some : goal.take_next-requires-clause-some
take_next-requires-clause-some g c =
    let m = c.requires.meets in
    let r = c.in-Ok.ensures.ok in
    meets-some m.0 (keeps_both g.E.Evaluates.keeps_to g.E.Evaluates.keeps_small m.0 c.prepare.new.evaluation) (g.E.Evaluates.standing c.prepare.new.evaluation) c.prepare.new.asks
    (ready-meets g.E.Evaluates.suits g.E.Evaluates.account (keeps_both g.E.Evaluates.keeps_to g.E.Evaluates.keeps_small) g.E.Evaluates.standing g.E.Evaluates.is_true (told_in c.args.bounds) c.args.evaluation.now.state c.prepare.new.evaluation r.0 r.1 c.args.asks.now c.prepare.new.asks m.0 r.2 m.1)
    c.in-Ok.ensures.quiet c.in-Ok.ensures.none (sym c.in-Ok.ensures.done ∙ c.if-done.false)

pub take_next-requires-clause-suits : goal.take_next-requires-clause-suits
take_next-requires-clause-suits g c = let r = c.in-Ok.ensures.ok in (went-ready g.E.Evaluates.suits g.E.Evaluates.account (keeps_both g.E.Evaluates.keeps_to g.E.Evaluates.keeps_small) g.E.Evaluates.standing g.E.Evaluates.is_true (told_in c.args.bounds) (g.W.Wire.allows c.args.wire.now) c.args.evaluation.now.state c.prepare.new.evaluation r.0 r.1 c.args.asks.now c.prepare.new.asks (g.W.Wire.state c.args.wire.now) c.requires.suits c.is_lawful.ensures r.2).on_wire

pub returns-in-Err-clause-failed : goal.returns-in-Err-clause-failed
returns-in-Err-clause-failed g c =
    let r = c.in-Err.ensures.err in
    (map Asked r.1, r.0, failed-ready g.E.Evaluates.suits g.E.Evaluates.account (keeps_both g.E.Evaluates.keeps_to g.E.Evaluates.keeps_small) g.E.Evaluates.standing g.E.Evaluates.is_true (told_in c.args.bounds) (g.W.Wire.allows c.args.wire.now) c.args.evaluation.now.state r.2 c.args.bounds.budget c.in-Err.fault r.0 r.1 c.args.asks.now c.prepare.new.asks (g.W.Wire.state c.args.wire.now) c.requires.suits c.is_lawful.ensures r.3 r.5, r.4, inl r.5)

pub returns-in-Err-clause-allowed : goal.returns-in-Err-clause-allowed
returns-in-Err-clause-allowed g c = allowed_same (g.W.Wire.allows c.args.wire.now)

pub returns-then-done-clause-went : goal.returns-then-done-clause-went
returns-then-done-clause-went g c = let r = c.in-Ok.ensures.ok in (map Asked r.1, r.0, went-ready g.E.Evaluates.suits g.E.Evaluates.account (keeps_both g.E.Evaluates.keeps_to g.E.Evaluates.keeps_small) g.E.Evaluates.standing g.E.Evaluates.is_true (told_in c.args.bounds) (g.W.Wire.allows c.args.wire.now) c.args.evaluation.now.state c.prepare.new.evaluation r.0 r.1 c.args.asks.now c.prepare.new.asks (g.W.Wire.state c.args.wire.now) c.requires.suits c.is_lawful.ensures r.2, r.3)

pub returns-then-done-clause-done : goal.returns-then-done-clause-done
returns-then-done-clause-done g c = λ e. sym c.in-Ok.ensures.done ∙ c.if-done.true

pub returns-then-done-clause-allowed : goal.returns-then-done-clause-allowed
returns-then-done-clause-allowed g c = allowed_same (g.W.Wire.allows c.args.wire.now)

pub returns-in-Err-hand_on-clause-failed : goal.returns-in-Err-hand_on-clause-failed
returns-in-Err-hand_on-clause-failed g c =
    let r = c.in-Ok.ensures.ok in (
      map Asked r.1,
      r.0,
      failed-here g.E.Evaluates.suits g.E.Evaluates.account (keeps_both g.E.Evaluates.keeps_to g.E.Evaluates.keeps_small) g.E.Evaluates.standing g.E.Evaluates.is_true (told_in c.args.bounds) (g.W.Wire.allows c.args.wire.now) c.args.evaluation.now.state c.prepare.new.evaluation c.args.bounds.budget c.of_sink.result (map Asked r.1) r.0 c.args.asks.now c.prepare.new.asks (g.W.Wire.state c.args.wire.now) (g.W.Wire.state c.args.wire.now)
          (explains-local (told_in c.args.bounds) c.args.bounds.budget c.of_sink.result (map Asked r.1) (subst (λ (f : ClientFault). IsLocal f) (sym c.of_sink.ensures) (sink-local c.in-Err-hand_on.fault)))
          (went-ready g.E.Evaluates.suits g.E.Evaluates.account (keeps_both g.E.Evaluates.keeps_to g.E.Evaluates.keeps_small) g.E.Evaluates.standing g.E.Evaluates.is_true (told_in c.args.bounds) (g.W.Wire.allows c.args.wire.now) c.args.evaluation.now.state c.prepare.new.evaluation r.0 r.1 c.args.asks.now c.prepare.new.asks (g.W.Wire.state c.args.wire.now) c.requires.suits c.is_lawful.ensures r.2),
      subst (λ (l : List Places). g.T.TakesRows.takes_front l c.args.rows.now c.hand_on.new.self c.args.behind.now c.hand_on.new.behind) (append-nil r.0) (g.met.T.TakesRows.front_then r.0 [] _ _ _ _ _ _ r.3 c.in-Err-hand_on.ensures.err),
      inl (subst (λ (f : ClientFault). IsLocal f) (sym c.of_sink.ensures) (sink-local c.in-Err-hand_on.fault)),
    )

pub returns-in-Err-take_next-clause-failed : goal.returns-in-Err-take_next-clause-failed
returns-in-Err-take_next-clause-failed g c =
    let r = c.in-Ok.ensures.ok in
    let f = c.in-Err-take_next.ensures.err in (
      map Asked r.1 ++ f.0,
      r.0 ++ [],
      failed-then g.E.Evaluates.suits g.E.Evaluates.account (keeps_both g.E.Evaluates.keeps_to g.E.Evaluates.keeps_small) g.E.Evaluates.standing g.E.Evaluates.is_true (told_in c.args.bounds) (g.W.Wire.allows c.args.wire.now) (g.W.Wire.allows c.args.wire.now) c.args.evaluation.now.state c.prepare.new.evaluation c.args.bounds.budget c.in-Err-take_next.fault (map Asked r.1) f.0 r.0 [] c.args.asks.now c.prepare.new.asks c.take_next.new.asks
          (g.W.Wire.state c.args.wire.now) (g.W.Wire.state c.args.wire.now) (g.W.Wire.state c.take_next.new.wire) (allowed_same (g.W.Wire.allows c.args.wire.now)) (went-ready g.E.Evaluates.suits g.E.Evaluates.account (keeps_both g.E.Evaluates.keeps_to g.E.Evaluates.keeps_small) g.E.Evaluates.standing g.E.Evaluates.is_true (told_in c.args.bounds) (g.W.Wire.allows c.args.wire.now) c.args.evaluation.now.state c.prepare.new.evaluation r.0 r.1 c.args.asks.now c.prepare.new.asks (g.W.Wire.state c.args.wire.now) c.requires.suits c.is_lawful.ensures r.2) f.1,
      g.met.T.TakesRows.front_all (r.0 ++ []) _ _ _ _ (g.met.T.TakesRows.takes_then r.0 [] _ _ _ _ _ _ r.3 c.in-Ok-hand_on.ensures.ok),
      inr (g.met.T.TakesRows.takes_then r.0 [] _ _ _ _ _ _ r.3 c.in-Ok-hand_on.ensures.ok),
    )

pub returns-in-Ok-take_next-clause-went : goal.returns-in-Ok-take_next-clause-went
returns-in-Ok-take_next-clause-went g c =
    let r = c.in-Ok.ensures.ok in
    let f = c.in-Ok-take_next.ensures.ok in (
      map Asked r.1 ++ f.0,
      r.0 ++ [],
      went-then g.E.Evaluates.suits g.E.Evaluates.account (keeps_both g.E.Evaluates.keeps_to g.E.Evaluates.keeps_small) g.E.Evaluates.standing g.E.Evaluates.is_true (told_in c.args.bounds) (g.W.Wire.allows c.args.wire.now) (g.W.Wire.allows c.args.wire.now) c.args.evaluation.now.state c.prepare.new.evaluation c.take_next.new.evaluation (map Asked r.1) f.0 r.0 [] c.args.asks.now c.prepare.new.asks c.take_next.new.asks
          (g.W.Wire.state c.args.wire.now) (g.W.Wire.state c.args.wire.now) (g.W.Wire.state c.take_next.new.wire) (allowed_same (g.W.Wire.allows c.args.wire.now)) (went-ready g.E.Evaluates.suits g.E.Evaluates.account (keeps_both g.E.Evaluates.keeps_to g.E.Evaluates.keeps_small) g.E.Evaluates.standing g.E.Evaluates.is_true (told_in c.args.bounds) (g.W.Wire.allows c.args.wire.now) c.args.evaluation.now.state c.prepare.new.evaluation r.0 r.1 c.args.asks.now c.prepare.new.asks (g.W.Wire.state c.args.wire.now) c.requires.suits c.is_lawful.ensures r.2) f.1,
      g.met.T.TakesRows.takes_then r.0 [] _ _ _ _ _ _ r.3 c.in-Ok-hand_on.ensures.ok,
    )

pub returns-in-Ok-take_next-clause-given : goal.returns-in-Ok-take_next-clause-given
returns-in-Ok-take_next-clause-given g c = c.in-Ok.ensures.given ∙ sym c.in-Ok-take_next.ensures.given

pub returns-then-done-clause-sink : goal.returns-then-done-clause-sink
returns-then-done-clause-sink g c = leaves-ok _ _ _ (leaves-stays _ _ _ c.in-Ok.ensures.sink)

pub returns-in-Err-hand_on-clause-sink : goal.returns-in-Err-hand_on-clause-sink
returns-in-Err-hand_on-clause-sink g c = leaves-behind _ _ _ _ (leaves-stays _ _ _ c.in-Ok.ensures.sink) (leaves-fault _ _ c.in-Err-hand_on.fault c.of_sink.result c.of_sink.ensures c.in-Err-hand_on.ensures.sink)

pub returns-in-Err-take_next-clause-sink : goal.returns-in-Err-take_next-clause-sink
returns-in-Err-take_next-clause-sink g c =
    leaves-other _ _ c.in-Err-take_next.fault (λ e. c.in-Err-take_next.ensures.no_sink (err-as Bool (Unit {0}) c.in-Err-take_next.fault faults.Sink e))
    (stays-then _ _ _ (leaves-stays _ _ _ c.in-Ok.ensures.sink) (stays-ok _ _ _ c.in-Ok-hand_on.ensures.sink))

pub returns-in-Ok-take_next-clause-sink : goal.returns-in-Ok-take_next-clause-sink
returns-in-Ok-take_next-clause-sink g c = leaves-ok _ _ _ (stays-then _ _ _ (leaves-stays _ _ _ c.in-Ok.ensures.sink) (stays-ok _ _ _ c.in-Ok-hand_on.ensures.sink))
