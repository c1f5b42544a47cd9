use Rattle.std.proofs.Common.{subst, sym, Bor, List}
use Rattle.std.specs.Prelude.{◌↔◌, MatchOption}
use Rattle.std.specs.List.{Contains}
use Rattle.rdf_terms.specs.declared.term.Term.{Term}
use Rattle.control_triples.specs.Controls.{HasNoForm, IsLeastForm}
use Rattle.control_triples.specs.Parts.{Source, borrowed_terms}
use Rattle.control_triples.specs.Places.{IsSearched, texts_of}
use Rattle.control_triples.proofs.form.least_form.Goals as goal

pub first_form-requires-clause-members : goal.first_form-requires-clause-members
first_form-requires-clause-members c =
    let members = subst (λ (s : Source). (node : Term) → Contains (borrowed_terms c.in_ok-nodes.nodes.items) node ↔ IsSearched s.quads s.topic node) (sym c.form_index-index.ensures.controls) c.in_ok-nodes.ensures.members in
    subst (λ (l : List (Bor Term)). (node : Term) → Contains (borrowed_terms l) node ↔ IsSearched c.form_index-index.result.controls.now.quads c.form_index-index.result.controls.now.topic node) (sym c.as_slice-2.ensures.value) members

pub returns : goal.returns
returns c =
    subst (λ (s : Source). MatchOption c.first_form.result (HasNoForm s.quads s.topic) (λ parts. IsLeastForm s.quads s.topic (texts_of parts))) c.form_index-index.ensures.controls c.first_form.ensures
