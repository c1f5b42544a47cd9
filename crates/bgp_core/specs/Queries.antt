-- Queries as contracts see them.
use Rattle.std.specs.Prelude.{ℕ, ◌<◌, List, ⊤}
use Rattle.rdf_terms.specs.Valid.{IsValidTerm, IsNotBlank}
use Rattle.bgp_core.specs.declared.pattern.Part.{Part}
use Rattle.bgp_core.specs.declared.pattern.Part.TheVariants.{Fixed, Name}
use Rattle.bgp_core.specs.declared.pattern.Pattern.{Pattern}

-- a query: its patterns, the text of each name, and the numbers of the selected names
pub record QueryData : Type 0 where
  pub patterns : List Pattern
  pub names : List (List ℕ)
  pub selected : List ℕ

-- a name's number is below the count
abbrev pub HasPlaceFor : ℕ → Part → Type 0
HasPlaceFor count (Fixed t) = ⊤
HasPlaceFor count (Name n) = n < count

-- a row of so many places has one for each name of the pattern
pub record HasPlacesFor (count : ℕ) (p : Pattern) : Type 0 where
  pub subject : HasPlaceFor count p.subject
  pub predicate : HasPlaceFor count p.predicate
  pub object : HasPlaceFor count p.object

-- a fixed part is a valid term
abbrev pub IsValidPart : Part → Type 0
IsValidPart (Fixed t) = IsValidTerm t
IsValidPart (Name n) = ⊤

pub record IsValidPattern (p : Pattern) : Type 0 where
  pub subject : IsValidPart p.subject
  pub predicate : IsValidPart p.predicate
  pub object : IsValidPart p.object

-- a name's number is below the count, and a fixed part is no blank node
abbrev pub IsPartOf : ℕ → Part → Type 0
IsPartOf count (Fixed t) = IsNotBlank t
IsPartOf count (Name n) = n < count

pub record IsPatternOf (count : ℕ) (p : Pattern) : Type 0 where
  pub subject : IsPartOf count p.subject
  pub predicate : IsPartOf count p.predicate
  pub object : IsPartOf count p.object
