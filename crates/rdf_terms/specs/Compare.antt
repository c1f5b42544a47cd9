-- The order of terms again, without their canonical texts.
use Rattle.std.specs.Prelude.{ℕ, ◌==◌, List, [], ◌∷◌, if◌then◌else◌}
use Rattle.std.specs.declared.cmp.Ordering.{Ordering}
use Rattle.std.specs.declared.cmp.Ordering.TheVariants.{Less, Equal, Greater}
use Rattle.std.specs.Ordering.{nat_cmp, ordering_then}
use Rattle.rdf_terms.specs.declared.term.Term.{Term}
use Rattle.rdf_terms.specs.declared.term.Term.TheVariants.{Iri, Blank, Literal}
use Rattle.rdf_terms.specs.declared.term.Kind.{Kind}
use Rattle.rdf_terms.specs.declared.term.Kind.TheVariants.{Plain, Typed, Tagged}
use Rattle.rdf_terms.specs.Canon.{is_marked, after_mark}
use Rattle.rdf_terms.specs.Order.{bytes_order}

-- two texts, each with this byte behind it
abbrev pub ended_cmp : ℕ → List ℕ → List ℕ → Ordering
ended_cmp end [] [] = Equal
ended_cmp end [] (y ∷ ys) = ordering_then (nat_cmp end y) Less
ended_cmp end (x ∷ xs) [] = ordering_then (nat_cmp x end) Greater
ended_cmp end (x ∷ xs) (y ∷ ys) = ordering_then (nat_cmp x y) (ended_cmp end xs ys)

-- the first byte that is written for b
abbrev pub first_written : ℕ → ℕ
first_written b = if is_marked b then 92 else b

-- what is written for two bytes that differ
abbrev pub byte_cmp : ℕ → ℕ → Ordering
byte_cmp x y = if is_marked x then (if is_marked y then nat_cmp (after_mark x) (after_mark y) else nat_cmp 92 y) else (if is_marked y then nat_cmp x 92 else nat_cmp x y)

-- two forms, of which the rest decides where they are the same
abbrev pub form_cmp : Ordering → List ℕ → List ℕ → Ordering
form_cmp rest [] [] = rest
form_cmp rest [] (y ∷ ys) = nat_cmp 34 (first_written y)
form_cmp rest (x ∷ xs) [] = nat_cmp (first_written x) 34
form_cmp rest (x ∷ xs) (y ∷ ys) = if x == y then form_cmp rest xs ys else byte_cmp x y

-- what follows the closing quotes
abbrev pub kind_cmp : Kind → Kind → Ordering
kind_cmp Plain Plain = Equal
kind_cmp Plain (Typed e) = Less
kind_cmp Plain (Tagged u) = Less
kind_cmp (Typed d) Plain = Greater
kind_cmp (Typed d) (Typed e) = ended_cmp 62 d e
kind_cmp (Typed d) (Tagged u) = Greater
kind_cmp (Tagged t) Plain = Greater
kind_cmp (Tagged t) (Typed e) = Less
kind_cmp (Tagged t) (Tagged u) = bytes_order t u

abbrev pub term_cmp : Term → Term → Ordering
term_cmp (Iri a) (Iri b) = ended_cmp 62 a b
term_cmp (Iri a) (Blank b) = Less
term_cmp (Iri a) (Literal b l) = Less
term_cmp (Blank a) (Iri b) = Greater
term_cmp (Blank a) (Blank b) = bytes_order a b
term_cmp (Blank a) (Literal b l) = Less
term_cmp (Literal a k) (Iri b) = Greater
term_cmp (Literal a k) (Blank b) = Greater
term_cmp (Literal a k) (Literal b l) = form_cmp (kind_cmp k l) a b
