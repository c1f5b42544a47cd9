use Rattle.nquads_text.proofs.RoundTrip.{read_again}
use Rattle.nquads_text.proofs.laws.canonical_text_reads_back.Goals as goal

pub returns : goal.returns
returns c = read_again
