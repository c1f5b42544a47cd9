-- Places in the list of control triples.
use Rattle.std.specs.Prelude.{ℕ, Bool, true, false, length}
use Rattle.std.specs.List.{list_any}
use Rattle.std.specs.BTreeSet.{BTreeSet}
use Rattle.std.specs.Borrow.{Bor}
use Rattle.std.specs.declared.cmp.Ordering.{Ordering}
use Rattle.std.specs.declared.cmp.Ordering.TheVariants.{Less, Equal, Greater}
use Rattle.std.specs.Ordering.{nat_cmp, is_eq, ordering_then}
use Rattle.rdf_terms.specs.declared.term.Term.{Term}
use Rattle.rdf_terms.specs.declared.term.Term.TheVariants.{Iri, Blank, Literal}
use Rattle.rdf_terms.specs.declared.term.Triple.{Triple}
use Rattle.rdf_terms.specs.Order.{term_order}

-- a term of the set is this one
abbrev pub holds_term : BTreeSet (Bor Term) → Term → Bool
holds_term terms t = list_any (λ key. is_eq (term_order t key.now)) terms.keys

-- the length of a term's own text
abbrev pub text_length : Term → ℕ
text_length (Iri text) = length text
text_length (Blank label) = length label
text_length (Literal form kind) = length form

-- The shorter text comes first, and terms whose texts have one length stand in the order of terms: most terms of a page
-- are told apart by their lengths alone.
unfoldable pub length_order : Term → Term → Ordering
length_order a b = ordering_then (nat_cmp (text_length a) (text_length b)) (term_order a b)

-- subject, predicate, object
abbrev pub length_triple_order : Triple → Triple → Ordering
length_triple_order a b = ordering_then (length_order a.subject b.subject) (ordering_then (length_order a.predicate b.predicate) (length_order a.object b.object))

-- subject, then predicate
abbrev pub pair_order : Triple → Triple → Ordering
pair_order a b = ordering_then (length_order a.subject b.subject) (length_order a.predicate b.predicate)

-- whether an answer puts a triple before what is sought
abbrev pub is_before : Bool → Ordering → Bool
is_before with_equal Less = true
is_before with_equal Equal = with_equal
is_before with_equal Greater = false

-- the triple stands before those with this subject and predicate, or with them where that is asked
abbrev pub goes_before : Bool → Term → Term → Triple → Bool
goes_before with_equal subject predicate t = is_before with_equal (ordering_then (length_order t.subject subject) (length_order t.predicate predicate))

-- the triple stands before this one
abbrev pub is_triple_before : Triple → Triple → Bool
is_triple_before sought t = is_before false (length_triple_order t sought)
