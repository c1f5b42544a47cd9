use Rattle.template_fill.proofs.Reading.{one_address}
use Rattle.template_fill.proofs.Authorities.{own_text}
use Rattle.template_fill.proofs.laws.an_address_is_one.Goals as goal

pub returns-clause-one : goal.returns-clause-one
returns-clause-one c = one_address

pub returns-clause-own : goal.returns-clause-own
returns-clause-own c = own_text
