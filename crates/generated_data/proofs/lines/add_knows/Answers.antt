use Rattle.generated_data.proofs.Texts.{knows_text}
use Rattle.generated_data.proofs.lines.add_knows.Goals as goal

pub returns : goal.returns
returns c = rw (knows_text c.args.persons c.args.person) c.add_line.ensures
