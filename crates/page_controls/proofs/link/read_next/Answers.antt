use Rattle.std.proofs.Common.{subst}
use Rattle.std.specs.Prelude.{◌↔◌}
use Rattle.std.specs.List.{Contains}
use Rattle.rdf_terms.specs.declared.term.Term.{Term}
use Rattle.rdf_terms.specs.declared.term.Term.TheVariants.{Iri}
use Rattle.control_triples.specs.Controls.{Says}
use Rattle.control_triples.specs.Parts.{objects_in}
use Rattle.page_controls.proofs.link.read_next.Goals as goal

pub returns : goal.returns
returns c =
    let q = c.args.controls.now in
    c.next_of.ensures q.quads q.topic
    (subst (λ (p : Term). (o : Term) → Contains (objects_in c.objects.result.now) o ↔ Says q.quads q.topic (Iri q.topic) p o) c.in_ok-next.ensures
    (subst (λ (s : Term). (o : Term) → Contains (objects_in c.objects.result.now) o ↔ Says q.quads q.topic s c.in_ok-next.next o) c.topic.ensures c.objects.ensures.members))
