-- No data set follows, and nobody says why a reload failed.
use Rattle.serve_command.proofs.Sentences.{serves_links_from}
use Rattle.serve_command.proofs.service.serve_once.Goals as goal

pub returns : goal.returns
returns g c = record { serves = serves_links_from _ (λ triples. ⊥) (λ triples none. none) _ (Unit {0}) (λ rose. tt) _ _ _ _ _ c.serve_links.ensures.serves }
