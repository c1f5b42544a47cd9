use Rattle.std.proofs.Common.{ℕ, ◌<◌, get_or, Bor}
use Rattle.rdf_terms.specs.declared.term.Triple.{Triple}
use Rattle.control_triples.specs.Places.{NamesOther}
use Rattle.control_triples.proofs.form.has_other_variable.Given as goal

abbrev pub invariant-loop-mapping : goal.invariant-loop-mapping
invariant-loop-mapping l = (k : ℕ) (d : Bor Triple) → k < l.mapping-index → NamesOther l.index.controls.now.quads l.index.controls.now.topic (get_or l.mappings k d).now.object l.property l.text → ⊥
