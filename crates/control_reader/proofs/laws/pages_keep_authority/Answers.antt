use Rattle.control_reader.proofs.KeptAuthorities.{pages_keep_authority}
use Rattle.control_reader.proofs.laws.pages_keep_authority.Goals as goal

pub returns : goal.returns
returns c =
    pages_keep_authority c.authorities_are_hosts_and_ports.ensures c.expansions_share_authority.ensures.kept c.expansions_share_authority.ensures.authority
