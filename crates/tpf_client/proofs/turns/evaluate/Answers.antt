-- One turn more.
use Rattle.std.proofs.Common.{Bool, [], ◌++◌, ◌⊎◌, inl, inr, ap}
use Rattle.std.specs.Prelude.{Ok}
use Rattle.tpf_client.specs.Told.{told_in}
use Rattle.tpf_client.specs.Turns.{keeps_both}
use Rattle.tpf_base.proofs.SendingLemmas.{allowed_same}
use Rattle.tpf_client.proofs.Going.{went-none, went-then, failed-then}
use Rattle.tpf_client.proofs.Sinks.{stays-none, stays-then, leaves-stays, leaves-ok, leaves-behind, leaves-as}
use Rattle.tpf_client.proofs.Waiting.{allowed-then}
use Rattle.tpf_client.proofs.turns.evaluate.Goals as goal

-- what was taken behind the rows that were taken before
behind-takes : (A B C : Type 0) → (B → C) → A ⊎ B → A ⊎ C
behind-takes A B C f (inl a) = inl a
behind-takes A B C f (inr b) = inr (f b)

pub loop-init : goal.loop-init
loop-init g c = record {
  went = ([], [], went-none g.E.Evaluates.suits g.E.Evaluates.account (keeps_both g.E.Evaluates.keeps_to g.E.Evaluates.keeps_small) g.E.Evaluates.standing g.E.Evaluates.is_true (told_in c.args.bounds) (g.W.Wire.allows c.args.wire.now) c.args.evaluation.now.state c.args.asks.now (g.W.Wire.state c.args.wire.now) c.requires.suits, g.met.T.TakesRows.takes_none c.args.rows.now c.args.behind.now);
  counts = c.requires.given;
  sink = stays-none (g.T.TakesRows.sink c.args.behind.now);
  allowed = allowed_same (g.W.Wire.allows c.args.wire.now);
}

pub turn-requires-clause-meets : goal.turn-requires-clause-meets
turn-requires-clause-meets g c = let m = c.requires.meets in (m.0, c.loop.invariant.went.2.meets m.0 m.1)

pub turn-requires-clause-suits : goal.turn-requires-clause-suits
turn-requires-clause-suits g c = c.loop.invariant.went.2.on_wire

pub loop-preserved : goal.loop-preserved
loop-preserved g c =
    let i = c.loop.invariant in
    let t = c.in-Ok.ensures.went in
    record {
      went = (
        i.went.0 ++ t.0,
        i.went.1 ++ t.1,
        went-then g.E.Evaluates.suits g.E.Evaluates.account (keeps_both g.E.Evaluates.keeps_to g.E.Evaluates.keeps_small) g.E.Evaluates.standing g.E.Evaluates.is_true (told_in c.args.bounds) (g.W.Wire.allows c.args.wire.now) (g.W.Wire.allows c.loop.wire) c.args.evaluation.now.state c.loop.evaluation.state c.turn.new.evaluation.state i.went.0 t.0 i.went.1 t.1 c.args.asks.now c.loop.asks c.turn.new.asks
            (g.W.Wire.state c.args.wire.now) (g.W.Wire.state c.loop.wire) (g.W.Wire.state c.turn.new.wire) i.allowed i.went.2 t.2,
        g.met.T.TakesRows.takes_then i.went.1 t.1 _ _ _ _ _ _ i.went.3 t.3,
      );
      counts = c.in-Ok.ensures.given;
      sink = stays-then _ _ _ i.sink (leaves-stays _ _ _ c.in-Ok.ensures.sink);
      allowed = allowed-then (g.W.Wire.allows c.args.wire.now) (g.W.Wire.allows c.loop.wire) (g.W.Wire.allows c.turn.new.wire) i.allowed c.in-Ok.ensures.allowed;
    }

pub returns-then-done-clause-went : goal.returns-then-done-clause-went
returns-then-done-clause-went g c =
    let i = c.loop.invariant in
    let t = c.in-Ok.ensures.went in (
      i.went.0 ++ t.0,
      i.went.1 ++ t.1,
      went-then g.E.Evaluates.suits g.E.Evaluates.account (keeps_both g.E.Evaluates.keeps_to g.E.Evaluates.keeps_small) g.E.Evaluates.standing g.E.Evaluates.is_true (told_in c.args.bounds) (g.W.Wire.allows c.args.wire.now) (g.W.Wire.allows c.loop.wire) c.args.evaluation.now.state c.loop.evaluation.state c.turn.new.evaluation.state i.went.0 t.0 i.went.1 t.1 c.args.asks.now c.loop.asks c.turn.new.asks
          (g.W.Wire.state c.args.wire.now) (g.W.Wire.state c.loop.wire) (g.W.Wire.state c.turn.new.wire) i.allowed i.went.2 t.2,
      g.met.T.TakesRows.takes_then i.went.1 t.1 _ _ _ _ _ _ i.went.3 t.3,
    )

pub returns-then-done-clause-done : goal.returns-then-done-clause-done
returns-then-done-clause-done g c = c.in-Ok.ensures.done (ap (λ (b : Bool). Ok b) c.if-done.true)

pub returns-then-done-clause-allowed : goal.returns-then-done-clause-allowed
returns-then-done-clause-allowed g c = allowed-then (g.W.Wire.allows c.args.wire.now) (g.W.Wire.allows c.loop.wire) (g.W.Wire.allows c.turn.new.wire) c.loop.invariant.allowed c.in-Ok.ensures.allowed

pub returns-in-Err-clause-failed : goal.returns-in-Err-clause-failed
returns-in-Err-clause-failed g c =
    let i = c.loop.invariant in
    let t = c.in-Err.ensures.failed in (
      i.went.0 ++ t.0,
      i.went.1 ++ t.1,
      failed-then g.E.Evaluates.suits g.E.Evaluates.account (keeps_both g.E.Evaluates.keeps_to g.E.Evaluates.keeps_small) g.E.Evaluates.standing g.E.Evaluates.is_true (told_in c.args.bounds) (g.W.Wire.allows c.args.wire.now) (g.W.Wire.allows c.loop.wire) c.args.evaluation.now.state c.loop.evaluation.state c.args.bounds.budget c.in-Err.fault i.went.0 t.0 i.went.1 t.1 c.args.asks.now c.loop.asks c.turn.new.asks
          (g.W.Wire.state c.args.wire.now) (g.W.Wire.state c.loop.wire) (g.W.Wire.state c.turn.new.wire) i.allowed i.went.2 t.2,
      g.met.T.TakesRows.front_then i.went.1 t.1 _ _ _ _ _ _ i.went.3 t.3,
      behind-takes _ _ _ (g.met.T.TakesRows.takes_then i.went.1 t.1 _ _ _ _ _ _ i.went.3) t.4,
    )

pub returns-in-Err-clause-allowed : goal.returns-in-Err-clause-allowed
returns-in-Err-clause-allowed g c = allowed-then (g.W.Wire.allows c.args.wire.now) (g.W.Wire.allows c.loop.wire) (g.W.Wire.allows c.turn.new.wire) c.loop.invariant.allowed c.in-Err.ensures.allowed

pub returns-then-done-clause-sink : goal.returns-then-done-clause-sink
returns-then-done-clause-sink g c = leaves-ok _ _ _ (stays-then _ _ _ c.loop.invariant.sink (leaves-stays _ _ _ c.in-Ok.ensures.sink))

pub returns-in-Err-clause-sink : goal.returns-in-Err-clause-sink
returns-in-Err-clause-sink g c = leaves-behind _ _ _ _ c.loop.invariant.sink (leaves-as _ _ c.in-Err.fault c.in-Err.ensures.sink)
