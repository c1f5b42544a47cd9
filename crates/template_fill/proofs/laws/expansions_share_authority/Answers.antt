use Rattle.template_fill.proofs.Authorities.{server_kept, expansions, expansions_share}
use Rattle.template_fill.proofs.ReadTemplates.{templates_are_kept}
use Rattle.template_fill.proofs.laws.expansions_share_authority.Goals as goal

pub returns-clause-kept : goal.returns-clause-kept
returns-clause-kept c = templates_are_kept

pub returns-clause-server : goal.returns-clause-server
returns-clause-server c = server_kept

pub returns-clause-addresses : goal.returns-clause-addresses
returns-clause-addresses c = expansions

pub returns-clause-authority : goal.returns-clause-authority
returns-clause-authority c = expansions_share
