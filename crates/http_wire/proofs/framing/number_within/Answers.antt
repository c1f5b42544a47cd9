use Rattle.std.proofs.Common.{arith, ◌+◌}
use Rattle.http_wire.proofs.FramingLemmas.{number_step, number_front}
use Rattle.http_wire.proofs.framing.number_within.Goals as goal

pub returns-then-n-from : goal.returns-then-n-from
returns-then-n-from c =
    let step = number_step c.args.digits.now c.loop-d.d-index c.requires c.loop-d-test.true in
    let whole = number_front c.args.digits.now (c.loop-d.d-index + 1) in
    let before = c.loop-d.invariant.0 in
    let digit = c.from.ensures in
    let most = c.from-in-loop-d.ensures in
    let over = c.if-n-from.true in
    omega arith
