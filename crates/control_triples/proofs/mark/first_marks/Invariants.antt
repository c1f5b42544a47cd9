use Rattle.std.proofs.Common.{◌≡◌, [], ◌++◌, take, drop}
use Rattle.std.specs.List.{list_any}
use Rattle.rdf_terms.specs.Same.{triple_eq}
use Rattle.rdf_terms.specs.declared.term.Triple.{Triple}
use Rattle.control_triples.specs.Contents.{default_triples}
use Rattle.control_triples.specs.Marks.{is_seen}
use Rattle.control_triples.proofs.Firsts.{marks_after}
use Rattle.control_triples.proofs.mark.first_marks.Given as goal

abbrev pub invariant-loop-quad : goal.invariant-loop-quad
invariant-loop-quad l = (marks_after [] l.quads ≡ l.marks.items ++ marks_after (default_triples (take l.quad-index l.quads)) (drop l.quad-index l.quads))
    × ((t : Triple) → is_seen l.seen t ≡ list_any (λ s. triple_eq s t) (default_triples (take l.quad-index l.quads)))
