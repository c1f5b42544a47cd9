use Rattle.std.proofs.Common.{ℕ, ◌≡◌, ◌≤◌, List, Option}
use Rattle.pattern_parser.specs.Queries.{excess}
use Rattle.group_faults.specs.Signs.{runs_of}
use Rattle.group_faults.specs.Faults.{triples_in, place_at}
use Rattle.group_faults.specs.Walks.{runs_from}
use Rattle.group_faults.proofs.limits.excess_in_groups.Given as goal

abbrev pub invariant-loop-i : goal.invariant-loop-i
invariant-loop-i l = (l.walk.from ≤ l.i) × ((iri : List ℕ → Option (List ℕ)) (names : List (List ℕ)) → (later : List (List ℕ)) × (place_at l.walk.left (triples_in iri later (runs_from l.walk.from l.i l.words)) ≡ excess (triples_in iri names (runs_of l.words))))
