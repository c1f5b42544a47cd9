use Rattle.std.proofs.Common.{refl}
use Rattle.std.specs.Prelude.{codes}
use Rattle.test_servers.proofs.servers.host.Goals as goal

pub returns : goal.returns
returns c = record { host = codes "localhost"; port = 80; is_text = refl; is_host = refl; is_port = refl }
