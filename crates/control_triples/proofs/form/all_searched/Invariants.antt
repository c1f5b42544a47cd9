use Rattle.std.proofs.Common.{◌≡◌, take}
use Rattle.std.specs.List.{filter_map}
use Rattle.control_triples.specs.Parts.{borrowed_terms, borrowed_triples}
use Rattle.control_triples.specs.Places.{searched_of}
use Rattle.control_triples.proofs.form.all_searched.Given as goal

abbrev pub invariant-loop-triple : goal.invariant-loop-triple
invariant-loop-triple l = borrowed_terms l.nodes.items ≡ filter_map searched_of (borrowed_triples (take l.triple-index l.triples))
