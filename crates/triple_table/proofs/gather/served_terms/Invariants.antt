use Rattle.std.proofs.Common.{ℕ, ◌≡◌, List, take, drop, map}
use Rattle.std.specs.List.{filter_map}
use Rattle.triple_table.specs.Genid.{skolem}
use Rattle.triple_table.specs.Ranking.{borrowed_terms, genid_of}
use Rattle.triple_table.proofs.gather.served_terms.Given as goal

abbrev pub invariant-loop-term : goal.invariant-loop-term
invariant-loop-term l =
    (authority : List ℕ) → l.genids ≡ filter_map (genid_of authority) (borrowed_terms l.terms) →
    (borrowed_terms l.served.items ≡ map (skolem authority) (borrowed_terms (take l.term-index l.terms))) × (l.rest ≡ filter_map (genid_of authority) (borrowed_terms (drop l.term-index l.terms)))
