-- Whether a row has an extension, told without making it.
use Rattle.std.specs.Prelude.{Bool, true, not, ◌==◌, ◌&&◌, ◌||◌, Option, Some, None, slice_get}
use Rattle.rdf_terms.specs.Same.{term_eq}
use Rattle.rdf_terms.specs.declared.term.Term.{Term}
use Rattle.rdf_terms.specs.declared.term.Triple.{Triple}
use Rattle.bgp_core.specs.declared.pattern.Part.{Part}
use Rattle.bgp_core.specs.declared.pattern.Part.TheVariants.{Fixed, Name}
use Rattle.bgp_core.specs.declared.pattern.Pattern.{Pattern}
use Rattle.bgp_core.specs.Solutions.{Places}

-- what stands at a place lets it become a term
abbrev pub allows_at : Option (Option Term) → Term → Bool
allows_at None t = true
allows_at (Some None) t = true
allows_at (Some (Some u)) t = term_eq u t

abbrev pub allows : Part → Term → Places → Bool
allows (Fixed u) t row = term_eq u t
allows (Name n) t row = allows_at (slice_get row n) t

-- two parts that are one name become one term
abbrev pub agree : Part → Term → Part → Term → Bool
agree (Fixed u) t q s = true
agree (Name n) t (Fixed v) s = true
agree (Name n) t (Name m) s = not (n == m) || term_eq t s

abbrev pub fits : Pattern → Places → Triple → Bool
fits p row t = allows p.subject t.subject row && allows p.predicate t.predicate row && allows p.object t.object row
    && agree p.subject t.subject p.predicate t.predicate && agree p.subject t.subject p.object t.object && agree p.predicate t.predicate p.object t.object
