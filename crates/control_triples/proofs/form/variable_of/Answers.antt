use Rattle.std.proofs.Common.{subst, sym, ℕ, List, refl}
use Rattle.rdf_terms.specs.declared.term.Term.{Term}
use Rattle.std.specs.List.{Contains}
use Rattle.list_laws.proofs.Members.{none_in}
use Rattle.list_laws.proofs.Tests.{not_both_ways}
use Rattle.control_triples.specs.Controls.{Says}
use Rattle.control_triples.specs.Variables.{texts_in}
use Rattle.control_triples.proofs.Formed.{match_map, texts_are}
use Rattle.control_triples.proofs.form.variable_of.Goals as goal

pub returns-then-holds : goal.returns-then-holds
returns-then-holds c =
    let q = c.args.index.now.controls.now in
    let m = texts_are q.quads q.topic c.args.mapping.now c.args.index.now.variables.now c.args.index.now.variables.now (texts_in c.variables_of.result.now) refl c.requires.variables c.variables_of.ensures.members in
    let has = subst (λ (p : Term). Says q.quads q.topic c.args.mapping.now p c.args.property.now) c.requires.mappings.property (c.holds.ensures.0 c.if-holds.true) in
    match_map c.first_text.result c.first_text.ensures
    (λ none text h. none_in text (subst (λ (l : List (List ℕ)). Contains l text) none ((m text).1 h.1)))
    (λ text h. (has, (m text.now).0 h))

pub returns-else-holds : goal.returns-else-holds
returns-else-holds c = λ text h.
    let q = c.args.index.now.controls.now in
    not_both_ways c.holds.result (c.holds.ensures.1 (subst (λ (p : Term). Says q.quads q.topic c.args.mapping.now p c.args.property.now) (sym c.requires.mappings.property) h.0)) c.if-holds.false
