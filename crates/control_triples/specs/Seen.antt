-- Triples that are new.
use Rattle.std.specs.Prelude.{Bool, not, List, [], ◌∷◌, if◌then◌else◌}
use Rattle.std.specs.List.{list_any}
use Rattle.rdf_terms.specs.Same.{triple_eq}
use Rattle.rdf_terms.specs.declared.term.Triple.{Triple}

-- the triple, unless it stands already
abbrev pub once_more : Bool → Triple → List Triple
once_more stands t = if stands then [] else t ∷ []

-- the triple is none of these
abbrev pub is_new : List Triple → Triple → Bool
is_new before t = not (list_any (λ s. triple_eq s t) before)
