use Rattle.std.proofs.Common.{subst, arith, ◌≡◌, length}
use Rattle.std.specs.Prelude.{◌↔◌}
use Rattle.std.specs.List.{Contains}
use Rattle.rdf_terms.specs.declared.term.Term.{Term}
use Rattle.rdf_terms.specs.declared.term.Term.TheVariants.{Iri}
use Rattle.control_triples.specs.Controls.{Says}
use Rattle.control_triples.specs.Parts.{objects_in}
use Rattle.page_controls.proofs.Counted.{total_first, void_second}
use Rattle.page_controls.proofs.count.count_objects.Goals as goal

pub returns-then-not-is_empty-clause-members : goal.returns-then-not-is_empty-clause-members
returns-then-not-is_empty-clause-members c =
    let a = c.is_empty.ensures in let b = c.if-not-is_empty.true in
    total_first c.args.controls.now.quads c.args.controls.now.topic c.objects-objects.result.now (λ e. grind (arith, a, b, e)) (subst (λ (p : Term). (o : Term) → Contains (objects_in c.objects-objects.result.now) o ↔ Says c.args.controls.now.quads c.args.controls.now.topic (Iri c.args.controls.now.topic) p o) c.requires.total (subst (λ (s : Term). (o : Term) → Contains (objects_in c.objects-objects.result.now) o ↔ Says c.args.controls.now.quads c.args.controls.now.topic s c.args.total.now o) c.topic.ensures c.objects-objects.ensures.members))

pub returns-clause-members : goal.returns-clause-members
returns-clause-members c =
    let a = c.is_empty.ensures in let b = c.if-not-is_empty.false in
    let none : length c.objects-objects.result.now ≡ 0 = grind (arith, a, b) in
    void_second c.args.controls.now.quads c.args.controls.now.topic c.objects-objects.result.now c.objects.result.now none (subst (λ (p : Term). (o : Term) → Contains (objects_in c.objects-objects.result.now) o ↔ Says c.args.controls.now.quads c.args.controls.now.topic (Iri c.args.controls.now.topic) p o) c.requires.total (subst (λ (s : Term). (o : Term) → Contains (objects_in c.objects-objects.result.now) o ↔ Says c.args.controls.now.quads c.args.controls.now.topic s c.args.total.now o) c.topic.ensures c.objects-objects.ensures.members)) (subst (λ (p : Term). (o : Term) → Contains (objects_in c.objects.result.now) o ↔ Says c.args.controls.now.quads c.args.controls.now.topic (Iri c.args.controls.now.topic) p o) c.requires.triples (subst (λ (s : Term). (o : Term) → Contains (objects_in c.objects.result.now) o ↔ Says c.args.controls.now.quads c.args.controls.now.topic s c.args.triples.now o) c.topic-2.ensures c.objects.ensures.members))
