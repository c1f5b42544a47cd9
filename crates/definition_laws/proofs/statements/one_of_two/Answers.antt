use Rattle.nquads_text.proofs.ReadLaws.{one_of_two, not_both}
use Rattle.definition_laws.proofs.statements.one_of_two.Goals as goal

pub returns : goal.returns
returns c = record { one = one_of_two; not_both = not_both }
