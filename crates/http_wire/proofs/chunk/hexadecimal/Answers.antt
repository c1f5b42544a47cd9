use Rattle.std.proofs.Common.{arith, ◌+◌}
use Rattle.http_wire.proofs.ChunkLemmas.{hex_step, hex_front}
use Rattle.http_wire.proofs.chunk.hexadecimal.Goals as goal

pub overflow_add-n : goal.overflow_add-n
overflow_add-n c =
    let step = hex_step c.args.digits.now c.loop-d.d-index c.loop-d-test.true in
    let whole = hex_front c.args.digits.now (c.loop-d.d-index + 1) in
    let before = c.loop-d.invariant in
    let digit = c.digit.ensures in
    let fits = c.requires.fits in
    omega arith
