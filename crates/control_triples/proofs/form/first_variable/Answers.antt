use Rattle.std.proofs.Common.{arith, subst, Bor}
use Rattle.std.specs.Prelude.{◌↔◌}
use Rattle.std.specs.List.{Contains}
use Rattle.rdf_terms.specs.declared.term.Term.{Term}
use Rattle.rdf_terms.specs.declared.term.Triple.{Triple}
use Rattle.control_triples.specs.Controls.{Says}
use Rattle.control_triples.specs.Parts.{objects_in}
use Rattle.control_triples.specs.Places.{Names}
use Rattle.control_triples.proofs.Formed.{maps, no_variable, passed_more, item_in}
use Rattle.control_triples.proofs.form.first_variable.Goals as goal

pub returns-in-Some : goal.returns-in-Some
returns-in-Some c =
    let q = c.args.index.now.controls.now in
    let m = subst (λ (p : Term). (o : Term) → Contains (objects_in c.objects-mappings.result.now) o ↔ Says q.quads q.topic c.args.node.now p o) c.requires.mappings.mapping c.objects-mappings.ensures.members in
    maps q.quads q.topic c.args.node.now c.args.property.now c.mapping-item.result.now.object c.in-Some.text.now
    ((m c.mapping-item.result.now.object).0 (item_in c.objects-mappings.result.now c.loop-mapping.mapping-index c.mapping-item.result c.loop-mapping-test.true c.mapping-item.is)) c.in-Some.ensures

pub loop-mapping-preserved : goal.loop-mapping-preserved
loop-mapping-preserved c = λ k d l text.
    let q = c.args.index.now.controls.now in
    passed_more (λ (t : Bor Triple). Names q.quads q.topic t.now.object c.args.property.now text) c.objects-mappings.result.now c.loop-mapping.mapping-index c.mapping-item.result c.loop-mapping-test.true c.mapping-item.is
    (λ k d l. c.loop-mapping.invariant k d l text) (c.in_default.ensures text) k d l

pub returns : goal.returns
returns c =
    let q = c.args.index.now.controls.now in
    let m = subst (λ (p : Term). (o : Term) → Contains (objects_in c.objects-mappings.result.now) o ↔ Says q.quads q.topic c.args.node.now p o) c.requires.mappings.mapping c.objects-mappings.ensures.members in
    let past = c.loop-mapping-test.false in
    no_variable q.quads q.topic c.args.node.now c.args.property.now c.objects-mappings.result.now m (λ k d l text. c.loop-mapping.invariant k d (omega (arith, l, past)) text)
