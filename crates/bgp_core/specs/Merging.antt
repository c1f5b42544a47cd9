-- Rows that go together (SPARQL 1.1 Query, 18.3: compatible solution mappings, and their union).
use Rattle.std.specs.Prelude.{ℕ, Bool, true, false, ◌&&◌, List, [], ◌∷◌, Option, Some, None, ◌≡◌, ◌↔◌}
use Rattle.rdf_terms.specs.Same.{term_eq}
use Rattle.rdf_terms.specs.declared.term.Term.{Term}
use Rattle.bgp_core.specs.Solutions.{Places, term_at}

-- a name that is bound on both sides has one term
abbrev pub agree_at : Option Term → Option Term → Bool
agree_at None p = true
agree_at (Some t) None = true
agree_at (Some t) (Some u) = term_eq t u

abbrev pub compatible : Places → Places → Bool
compatible [] s = true
compatible (o ∷ r) [] = true
compatible (o ∷ r) (p ∷ s) = agree_at o p && compatible r s

abbrev pub either : Option Term → Option Term → Option Term
either None p = p
either (Some t) p = Some t

-- what is bound on either side
abbrev pub merged : Places → Places → Places
merged [] s = s
merged (o ∷ r) [] = o ∷ r
merged (o ∷ r) (p ∷ s) = either o p ∷ merged r s

abbrev pub if_kept : Bool → Option Term → Option Term
if_kept true o = o
if_kept false o = None

-- the row with some of its places emptied
abbrev pub kept : List Bool → Places → Places
kept [] r = r
kept (b ∷ bs) [] = []
kept (b ∷ bs) (o ∷ r) = if_kept b o ∷ kept bs r

-- the row binds the name
abbrev pub Binds : Places → ℕ → Type 0
Binds row n = (t : Term) × (term_at row n ≡ Some t)

-- ---- the law

-- two rows are compatible exactly where no name has two different terms in them, and their union has for each name what either binds
pub record MergingIsUnion : Type 0 where
  pub agreeing : (r s : Places) → (compatible r s ≡ true) ↔ ((n : ℕ) (t u : Term) → term_at r n ≡ Some t → term_at s n ≡ Some u → t ≡ u)
  pub union : (r s : Places) (n : ℕ) → term_at (merged r s) n ≡ either (term_at r n) (term_at s n)
