use Rattle.tpf_base.specs.Addresses.{authority_of}
use Rattle.page_controls.proofs.Homes.{home_or_foreign, same_start}
use Rattle.page_controls.proofs.link.is_home.Goals as goal

pub returns : goal.returns
returns c =
    home_or_foreign c.expansions_share_authority.ensures.kept c.expansions_share_authority.ensures.addresses c.expansions_share_authority.ensures.authority
    c.args.template.now (authority_of c.args.address.now) c.same_authority.result (same_start c.args.template.now.start c.start.result.now (authority_of c.args.address.now) c.same_authority.result c.start.ensures c.same_authority.ensures)
