use Rattle.std.proofs.Common.{◌||◌, nat_eq}
use Rattle.nquads_text.proofs.Places.{first_byte}
use Rattle.nquads_text.proofs.text.line_end.Goals as goal

pub returns-clause-place : goal.returns-clause-place
returns-clause-place c = first_byte (λ b. nat_eq b 10 || nat_eq b 13) c.args.bytes.now c.memchr2.result c.memchr2.ensures
