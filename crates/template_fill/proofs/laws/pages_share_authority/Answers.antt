use Rattle.template_fill.proofs.Authorities.{pages, pages_share}
use Rattle.template_fill.proofs.laws.pages_share_authority.Goals as goal

pub returns-clause-addresses : goal.returns-clause-addresses
returns-clause-addresses c = pages

pub returns-clause-authority : goal.returns-clause-authority
returns-clause-authority c = pages_share
