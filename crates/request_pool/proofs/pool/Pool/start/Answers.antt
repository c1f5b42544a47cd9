-- The budget is spent, or an ask is begun and polled.
use Rattle.std.proofs.Common.{refl, sym}
use Rattle.request_pool.specs.Runs.{Overruns, Flies, Starves}
use Rattle.request_pool.proofs.Steps.{linked_as, begun_linked, over_now, below_budget, shuts_as}
use Rattle.request_pool.proofs.pool.Pool.start.Goals as goal

pub returns-then-self-clause-starts : goal.returns-then-self-clause-starts
returns-then-self-clause-starts g c = Overruns refl (over_now _ _ c.self.view_is c.requires.some c.requires.room c.if-self.true) refl refl

pub returns-then-self-clause-allowed : goal.returns-then-self-clause-allowed
returns-then-self-clause-allowed g c = λ host port sent owed. (λ x. x, λ x. x)

pub begin-requires-clause-room : goal.begin-requires-clause-room
begin-requires-clause-room g c = c.requires.room

pub begin-requires-clause-some : goal.begin-requires-clause-some
begin-requires-clause-some g c = c.requires.some

pub begin-requires-clause-budget : goal.begin-requires-clause-budget
begin-requires-clause-budget g c = below_budget _ _ c.self.view_is c.if-self.false

pub poll_flight-requires-clause-linked : goal.poll_flight-requires-clause-linked
poll_flight-requires-clause-linked g c = begun_linked c.args.self.now c.begin.new.self c.in-Ok.flight (g.W.Wire.state c.args.wire.now) c.requires.suits c.in-Ok.ensures.ok

pub shut-requires : goal.shut-requires
shut-requires g c =
    let e = c.in-Err.ensures.err in
    linked_as c.in-Err.link e.1.exchange.link (g.W.Wire.state c.args.wire.now) (sym e.4) (begun_linked c.args.self.now e.0 e.1 (g.W.Wire.state c.args.wire.now) c.requires.suits e.2)

pub returns-in-Ok-clause-starts : goal.returns-in-Ok-clause-starts
returns-in-Ok-clause-starts g c = Flies c.begin.new.self c.in-Ok.flight (below_budget _ _ c.self.view_is c.if-self.false) c.in-Ok.ensures.ok c.poll_flight.ensures.to

pub returns-in-Ok-clause-allowed : goal.returns-in-Ok-clause-allowed
returns-in-Ok-clause-allowed g c = c.poll_flight.ensures.allowed

pub returns-in-Err-clause-starts : goal.returns-in-Err-clause-starts
returns-in-Err-clause-starts g c = let e = c.in-Err.ensures.err in Starves refl e.0 e.1 e.2 e.3 (shuts_as _ _ _ _ e.4 c.shut.ensures.shuts)

pub returns-in-Err-clause-allowed : goal.returns-in-Err-clause-allowed
returns-in-Err-clause-allowed g c = c.shut.ensures.allowed
