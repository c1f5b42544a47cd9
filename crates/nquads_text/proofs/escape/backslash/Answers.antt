use Rattle.std.proofs.Common.{nat_eq}
use Rattle.nquads_text.proofs.Places.{first_byte}
use Rattle.nquads_text.proofs.escape.backslash.Goals as goal

pub returns-clause-place : goal.returns-clause-place
returns-clause-place c = first_byte (λ b. nat_eq b 92) c.args.bytes.now c.memchr.result c.memchr.ensures
