use Rattle.std.proofs.Common.{◌≡◌, take, map, All}
use Rattle.rdf_terms.specs.Valid.{IsValidTerm}
use Rattle.triple_table.specs.Lengths.{kept_length}
use Rattle.triple_table.specs.Ranking.{borrowed_terms}
use Rattle.triple_table.proofs.build.copies_of.Given as goal

abbrev pub invariant-loop-term : goal.invariant-loop-term
invariant-loop-term l = record {
  copies : l.copies.items ≡ borrowed_terms (take l.term-index l.terms);
  valid : All IsValidTerm l.copies.items;
  lengths : l.lengths.items ≡ map kept_length l.copies.items;
}
