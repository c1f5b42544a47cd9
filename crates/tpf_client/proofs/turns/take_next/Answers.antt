-- The reply that comes is to an ask that is held, so its ticket is out.
use Rattle.std.proofs.Common.{[], ◌∷◌, ◌++◌}
use Rattle.tpf_client.specs.Traffic.{Broke}
use Rattle.tpf_client.specs.Asking.{ask_of}
use Rattle.std.specs.Prelude.{OnOk, IfErr}
use Rattle.tpf_client.specs.Causes.{IsTakeFault}
use Rattle.tpf_client.specs.Told.{told_in}
use Rattle.tpf_client.specs.Turns.{keeps_both, TakesReply}
use Rattle.tpf_client.proofs.Meeting.{meets-out}
use Rattle.tpf_client.proofs.Going.{went-taken, given-taken, failed-taken, failed-shown, never-sink, shown-no-sink}
use Rattle.tpf_client.proofs.Taking.{take-at, takes-at}
use Rattle.std.proofs.lemmas.Result.{on_ok_weaker}
use Rattle.tpf_client.proofs.Shutting.{if-err-from}
use Rattle.tpf_client.proofs.turns.take_next.Given as given
use Rattle.tpf_client.proofs.turns.take_next.Goals as goal

pub next_reply-requires-clause-no_fault : goal.next_reply-requires-clause-no_fault
next_reply-requires-clause-no_fault g c = c.requires.meets.1.no_fault

pub take_reply-requires : goal.take_reply-requires
take_reply-requires g c =
    let m = c.requires.meets in
    record { out = meets-out m.0 (keeps_both g.E.Evaluates.keeps_to g.E.Evaluates.keeps_small m.0 c.args.evaluation.now) (g.E.Evaluates.standing c.args.evaluation.now) c.args.asks.now c.next_reply.new.asks (ask_of c.in-Ok.arrived) m.1 c.in-Ok.ensures.awaits.others }

-- the page was taken, by the version that the start page of its server told
taken : (g : given.Over) (c : goal.After-take_reply g) → OnOk c.take_reply.result (TakesReply g.E.Evaluates.suits g.E.Evaluates.account (keeps_both g.E.Evaluates.keeps_to g.E.Evaluates.keeps_small) g.E.Evaluates.standing g.E.Evaluates.is_true c.args.evaluation.now c.take_reply.new.evaluation c.in-Ok.arrived (told_in c.args.bounds))
taken g c =
    on_ok_weaker c.take_reply.result
    (λ t. takes-at g.E.Evaluates.suits g.E.Evaluates.account (keeps_both g.E.Evaluates.keeps_to g.E.Evaluates.keeps_small) g.E.Evaluates.standing g.E.Evaluates.is_true c.args.evaluation.now c.take_reply.new.evaluation c.in-Ok.arrived c.version_at-version.result (told_in c.args.bounds) c.version_at-version.ensures t)
    c.take_reply.ensures.ok

-- or it was not
refused : (g : given.Over) (c : goal.After-take_reply g) → IfErr c.take_reply.result (IsTakeFault c.in-Ok.arrived (told_in c.args.bounds))
refused g c = if-err-from c.take_reply.result _ _ c.take_reply.ensures.err (λ fault h. take-at c.in-Ok.arrived c.version_at-version.result (told_in c.args.bounds) c.version_at-version.ensures fault h)

pub returns-in-Ok-clause-ok : goal.returns-in-Ok-clause-ok
returns-in-Ok-clause-ok g c = went-taken g.E.Evaluates.suits g.E.Evaluates.account (keeps_both g.E.Evaluates.keeps_to g.E.Evaluates.keeps_small) g.E.Evaluates.standing g.E.Evaluates.is_true (told_in c.args.bounds) c.take_reply.result (g.W.Wire.allows c.args.wire.now) c.args.evaluation.now c.take_reply.new.evaluation c.in-Ok.arrived c.args.asks.now c.next_reply.new.asks (g.W.Wire.state c.args.wire.now) (g.W.Wire.state c.next_reply.new.wire) c.in-Ok.ensures.awaits (taken g c)

pub returns-in-Ok-clause-given : goal.returns-in-Ok-clause-given
returns-in-Ok-clause-given g c = given-taken g.E.Evaluates.suits g.E.Evaluates.account (keeps_both g.E.Evaluates.keeps_to g.E.Evaluates.keeps_small) g.E.Evaluates.standing g.E.Evaluates.is_true (told_in c.args.bounds) c.take_reply.result c.args.evaluation.now c.take_reply.new.evaluation c.in-Ok.arrived (taken g c)

pub returns-in-Ok-clause-err : goal.returns-in-Ok-clause-err
returns-in-Ok-clause-err g c = failed-taken g.E.Evaluates.suits g.E.Evaluates.account (keeps_both g.E.Evaluates.keeps_to g.E.Evaluates.keeps_small) g.E.Evaluates.standing g.E.Evaluates.is_true (told_in c.args.bounds) c.take_reply.result (g.W.Wire.allows c.args.wire.now) c.args.evaluation.now c.args.bounds.budget c.in-Ok.arrived c.args.asks.now c.next_reply.new.asks (g.W.Wire.state c.args.wire.now) (g.W.Wire.state c.next_reply.new.wire) c.in-Ok.ensures.awaits (refused g c)

pub returns-in-Ok-clause-no_sink : goal.returns-in-Ok-clause-no_sink
returns-in-Ok-clause-no_sink g c = λ e. never-sink c.in-Ok.arrived (told_in c.args.bounds) c.take_reply.result (refused g c) e

pub returns-in-Err-clause-err : goal.returns-in-Err-clause-err
returns-in-Err-clause-err g c =
    let s = c.in-Err.ensures.awaits in (
      s.before ++ Broke s.fault ∷ [],
      failed-shown g.E.Evaluates.suits g.E.Evaluates.account (keeps_both g.E.Evaluates.keeps_to g.E.Evaluates.keeps_small) g.E.Evaluates.standing g.E.Evaluates.is_true (told_in c.args.bounds) (g.W.Wire.allows c.args.wire.now) c.args.evaluation.now c.args.bounds.budget c.in-Err.fault c.shown.result c.args.asks.now c.next_reply.new.asks (g.W.Wire.state c.args.wire.now) (g.W.Wire.state c.next_reply.new.wire) c.shown.ensures s,
    )

pub returns-in-Err-clause-no_sink : goal.returns-in-Err-clause-no_sink
returns-in-Err-clause-no_sink g c = λ e. shown-no-sink c.args.bounds.budget c.in-Err.fault c.shown.result c.shown.ensures e
