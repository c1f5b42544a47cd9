use Rattle.data_files.specs.KeptLaws.{reads_as}
use Rattle.data_servers.proofs.server.server_of_file.Goals as goal

pub returns-in-Err-clause-reads : goal.returns-in-Err-clause-reads
returns-in-Err-clause-reads g c = reads_as _ _ _ _ _ (λ e. cc) (λ e. cc) c.in-Err.ensures.reads
