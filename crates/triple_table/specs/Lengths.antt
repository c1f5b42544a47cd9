-- The lengths of terms as a table keeps them.
use Rattle.std.specs.Prelude.{ℕ, min, length}
use Rattle.rdf_terms.specs.declared.term.Term.{Term}
use Rattle.rdf_terms.specs.Canon.{canonical_term}

-- the length of the canonical text; 4294967295 stands for itself and all above
abbrev pub kept_length : Term → ℕ
kept_length term = min (length (canonical_term term)) 4294967295
