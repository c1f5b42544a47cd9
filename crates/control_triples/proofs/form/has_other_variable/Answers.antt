use Rattle.std.proofs.Common.{arith, subst, refl, Bor}
use Rattle.std.specs.Prelude.{◌↔◌}
use Rattle.std.specs.List.{Contains}
use Rattle.list_laws.proofs.Tests.{not_both_ways}
use Rattle.rdf_terms.specs.declared.term.Term.{Term}
use Rattle.rdf_terms.specs.declared.term.Triple.{Triple}
use Rattle.control_triples.specs.Controls.{Says}
use Rattle.control_triples.specs.Parts.{objects_in}
use Rattle.control_triples.specs.Places.{NamesOther}
use Rattle.control_triples.proofs.Formed.{maps, no_other_variable, passed_more, item_in}
use Rattle.control_triples.proofs.form.has_other_variable.Goals as goal

pub returns-then-names_other : goal.returns-then-names_other
returns-then-names_other c =
    let q = c.args.index.now.controls.now in
    let m = subst (λ (p : Term). (o : Term) → Contains (objects_in c.objects-mappings.result.now) o ↔ Says q.quads q.topic c.args.node.now p o) c.requires.mappings.mapping c.objects-mappings.ensures.members in
    let other = c.names_other.ensures.0 c.if-names_other.true in (
      (λ h. (
        other.0,
        maps q.quads q.topic c.args.node.now c.args.property.now c.mapping-item.result.now.object other.0
            ((m c.mapping-item.result.now.object).0 (item_in c.objects-mappings.result.now c.loop-mapping.mapping-index c.mapping-item.result c.loop-mapping-test.true c.mapping-item.is)) other.1,
        other.2,
      )),
      (λ h. refl),
    )

pub loop-mapping-preserved : goal.loop-mapping-preserved
loop-mapping-preserved c =
    let q = c.args.index.now.controls.now in
    passed_more (λ (t : Bor Triple). NamesOther q.quads q.topic t.now.object c.args.property.now c.args.text.now) c.objects-mappings.result.now c.loop-mapping.mapping-index c.mapping-item.result c.loop-mapping-test.true c.mapping-item.is
    c.loop-mapping.invariant (λ h. not_both_ways c.names_other.result (c.names_other.ensures.1 h) c.if-names_other.false)

pub returns : goal.returns
returns c =
    let q = c.args.index.now.controls.now in
    let m = subst (λ (p : Term). (o : Term) → Contains (objects_in c.objects-mappings.result.now) o ↔ Says q.quads q.topic c.args.node.now p o) c.requires.mappings.mapping c.objects-mappings.ensures.members in
    let past = c.loop-mapping-test.false in (
      (λ h. absurd (not_both_ways _ h refl)),
      (λ h. absurd (no_other_variable q.quads q.topic c.args.node.now c.args.property.now c.objects-mappings.result.now m c.args.text.now (λ k d l. c.loop-mapping.invariant k d (omega (arith, l, past))) h)),
    )
