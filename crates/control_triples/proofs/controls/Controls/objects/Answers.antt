use Rattle.control_triples.specs.Parts.{iri_text}
use Rattle.control_triples.proofs.Controlled.{objects_say}
use Rattle.control_triples.proofs.controls.Controls.objects.Goals as goal

pub returns-clause-members : goal.returns-clause-members
returns-clause-members c = λ object.
    objects_say c.args.self.now c.self.inside.quads.now (iri_text c.self.inside.topic.now) c.self.inside.triples.items c.as_slice.result.now _ c.args.subject.now c.args.predicate.now object
    c.self.view_is c.self.invariant.1 c.as_slice.ensures.value (c.range_of.ensures.members object)
