use Rattle.std.proofs.Common.{vec_len}
use Rattle.wire_real.proofs.socket.connect_last.Given as goal

abbrev pub decreases-loop-address : goal.decreases-loop-address
decreases-loop-address g l = vec_len l.addresses
