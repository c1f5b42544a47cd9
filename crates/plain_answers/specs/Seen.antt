-- The triples that a set of borrowed triples holds.
use Rattle.std.specs.Prelude.{Bool, List, [], ◌∷◌, if◌then◌else◌}
use Rattle.std.specs.List.{list_any}
use Rattle.std.specs.Ordering.{is_eq}
use Rattle.std.specs.BTreeSet.{BTreeSet}
use Rattle.std.proofs.Common.{Bor}
use Rattle.rdf_terms.specs.Order.{triple_order}
use Rattle.rdf_terms.specs.declared.term.Triple.{Triple}

-- a triple of the set is this one
abbrev pub is_seen : BTreeSet (Bor Triple) → Triple → Bool
is_seen seen t = list_any (λ key. is_eq (triple_order t key.now)) seen.keys

-- the triple, unless it stands already
abbrev pub once_more : Bool → Triple → List Triple
once_more stands t = if stands then [] else t ∷ []
