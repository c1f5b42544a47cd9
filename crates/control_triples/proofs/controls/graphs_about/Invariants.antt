use Rattle.std.proofs.Common.{◌≡◌, take}
use Rattle.std.specs.List.{list_any}
use Rattle.rdf_terms.specs.declared.term.Term.{Term}
use Rattle.control_triples.specs.Parts.{is_about_in}
use Rattle.control_triples.specs.Ranges.{holds_term}
use Rattle.control_triples.proofs.controls.graphs_about.Given as goal

abbrev pub invariant-loop-found : goal.invariant-loop-found
invariant-loop-found l = (graph : Term) → holds_term l.graphs graph ≡ list_any (is_about_in l.topic graph) (take l.found-index l.topics)
