use Rattle.std.proofs.Common.{sym, append-nil, rules}
use Rattle.generated_data.proofs.Texts.{city_text, no_city_text}
use Rattle.generated_data.proofs.lines.add_city.Goals as goal

pub returns-then-person-ne0 : goal.returns-then-person-ne0
returns-then-person-ne0 c = rw (no_city_text c.args.person (search rules)) (sym (append-nil c.args.buffer.now.items))

pub returns : goal.returns
returns c = rw (city_text c.args.person (search rules)) c.add_line.ensures
