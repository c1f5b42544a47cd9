use Rattle.std.proofs.Common.{ℕ, ◌<◌, get_or, Bor}
use Rattle.rdf_terms.specs.declared.term.Term.{Term}
use Rattle.control_triples.specs.Controls.{FormTexts, IsForm}
use Rattle.control_triples.proofs.form.first_form.Given as goal

abbrev pub invariant-loop-node : goal.invariant-loop-node
invariant-loop-node l = (k : ℕ) (d : Bor Term) → k < l.node-index → (texts : FormTexts) → IsForm l.index.controls.now.quads l.index.controls.now.topic (get_or l.nodes k d).now texts → ⊥
