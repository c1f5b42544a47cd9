use Rattle.template_fill.proofs.Authorities.{hosts_and_ports}
use Rattle.template_fill.proofs.laws.authorities_are_hosts_and_ports.Goals as goal

pub returns : goal.returns
returns c = hosts_and_ports
