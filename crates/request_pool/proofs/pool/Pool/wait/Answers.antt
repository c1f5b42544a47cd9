-- One wait, and what follows it.
use Rattle.std.proofs.Common.{ℕ, ◌≡◌, ◌<◌, ◌≤◌, refl, arith, Err}
use Rattle.request_pool.specs.Steps.{IsWait, Passes, Stalls, Misses}
use Rattle.request_pool.proofs.pool.Pool.wait.Goals as goal

fewer : (counted told most : ℕ) → counted ≡ told → counted < most → told < most
fewer counted told most is few = omega (arith, is, few)

as_many : (counted told most : ℕ) → counted ≡ told → most ≤ counted → most ≤ told
as_many counted told most is many = omega (arith, is, many)

pub returns-then-idle-lt-MOST_IDLE-clause-waits : goal.returns-then-idle-lt-MOST_IDLE-clause-waits
returns-then-idle-lt-MOST_IDLE-clause-waits g c =
    Passes c.in-Ok.field-0 refl (record { ok = c.in-Ok.ensures.ok; err = c.in-Ok.ensures.err; only = c.in-Ok.ensures.only; cause = c.in-Ok.ensures.cause; steady = c.in-Ok.ensures.steady }) (fewer _ _ _ c.idle.ensures c.if-idle-lt-MOST_IDLE.true) refl

pub returns-else-idle-lt-MOST_IDLE-clause-waits : goal.returns-else-idle-lt-MOST_IDLE-clause-waits
returns-else-idle-lt-MOST_IDLE-clause-waits g c =
    Stalls c.in-Ok.field-0 (g.W.Wire.state c.wait.new.self) (record { ok = c.in-Ok.ensures.ok; err = c.in-Ok.ensures.err; only = c.in-Ok.ensures.only; cause = c.in-Ok.ensures.cause; steady = c.in-Ok.ensures.steady })
    (as_many _ _ _ c.idle.ensures c.if-idle-lt-MOST_IDLE.false) c.give_up.ensures.gives_up

pub returns-in-Err-Failed-clause-waits : goal.returns-in-Err-Failed-clause-waits
returns-in-Err-Failed-clause-waits g c =
    let e = c.in-Err-Failed.ensures in
    let w : IsWait (Err c.in-Err-Failed.field-0) (g.W.Wire.state c.args.wire.now) (g.W.Wire.state c.wait.new.self) = record { ok = e.ok; err = e.err; only = e.only; cause = e.cause; steady = e.steady } in
    Misses (g.W.Wire.state c.wait.new.self) (rw c.in-Err-Failed.field-0-is at w) c.give_up-in-Err-Failed.ensures.gives_up
