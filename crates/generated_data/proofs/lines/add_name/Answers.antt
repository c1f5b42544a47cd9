use Rattle.std.proofs.Common.{sym, append-nil, arith, rules}
use Rattle.generated_data.proofs.Texts.{name_text, no_name_text}
use Rattle.generated_data.proofs.lines.add_name.Goals as goal

pub returns-then-person-ne0 : goal.returns-then-person-ne0
returns-then-person-ne0 c = rw (no_name_text c.args.person (search rules)) (sym (append-nil c.args.buffer.now.items))

pub returns : goal.returns
returns c = rw (name_text c.args.person (omega (arith, c.ranges.person.fits)) (search rules)) c.add_line.ensures
