-- Serves proofs alone: the order of terms by the lengths of their texts is total, and tells terms apart.
use Rattle.std.proofs.Common.{◌≡◌, ◌↔◌, subst}
use Rattle.std.specs.declared.cmp.Ordering.TheVariants.{Equal}
use Rattle.std.specs.Ordering.{nat_cmp, ordering_then, is_eq}
use Rattle.std.specs.Bool.{one_answer}
use Rattle.std.specs.Cmp.{IsTotalOrder, Equal-is}
use Rattle.std.proofs.lemmas.Cmp.{nat_cmp_total, on_total, then_total, tied_itself}
use Rattle.list_laws.proofs.Ascending.{then_equal}
use Rattle.rdf_terms.specs.declared.term.Term.{Term}
use Rattle.rdf_terms.specs.declared.term.Triple.{Triple}
use Rattle.rdf_terms.specs.Order.{term_order}
use Rattle.rdf_terms.specs.OrderLaws.{term_total, term_equal}
use Rattle.rdf_terms.specs.Same.{triple_eq}
use Rattle.rdf_terms.specs.EqualityLaws.{triple_decides}
use Rattle.control_triples.specs.Ranges.{text_length, length_order, length_triple_order}

pub length_total : IsTotalOrder length_order
unfolding length_order
length_total = then_total (on_total text_length nat_cmp_total) term_total

length_same : (a b : Term) → length_order a b ≡ Equal → a ≡ b
unfolding length_order
length_same a b h = (term_equal a b).0 (then_equal (nat_cmp (text_length a) (text_length b)) (term_order a b) h).1

pub length_equal : (a b : Term) → (length_order a b ≡ Equal) ↔ (a ≡ b)
length_equal a b = (length_same a b, λ e. subst (λ (t : Term). length_order a t ≡ Equal) e (tied_itself length_total a))

-- ---- triples

pub length_triple_total : IsTotalOrder length_triple_order
length_triple_total = then_total (on_total (λ (t : Triple). t.subject) length_total) (then_total (on_total (λ (t : Triple). t.predicate) length_total) (on_total (λ (t : Triple). t.object) length_total))

same_triple : (a b : Triple) → a.subject ≡ b.subject → a.predicate ≡ b.predicate → a.object ≡ b.object → a ≡ b
same_triple a b e f g = λ i. record { subject = e i; predicate = f i; object = g i }

triple_same : (a b : Triple) → length_triple_order a b ≡ Equal → a ≡ b
triple_same a b h =
    let p = then_equal (length_order a.subject b.subject) (ordering_then (length_order a.predicate b.predicate) (length_order a.object b.object)) h in
    let q = then_equal (length_order a.predicate b.predicate) (length_order a.object b.object) p.1 in
    same_triple a b (length_same a.subject b.subject p.0) (length_same a.predicate b.predicate q.0) (length_same a.object b.object q.1)

triple_tied : (a b : Triple) → a ≡ b → length_triple_order a b ≡ Equal
triple_tied a b e = subst (λ (t : Triple). length_triple_order a t ≡ Equal) e (tied_itself length_triple_total a)

pub length_triple_equal : (a b : Triple) → (length_triple_order a b ≡ Equal) ↔ (a ≡ b)
length_triple_equal a b = (triple_same a b, triple_tied a b)

-- a test of equality answers what the order does
pub length_triple_ties : (a b : Triple) → triple_eq a b ≡ is_eq (length_triple_order a b)
length_triple_ties a b =
    one_answer (triple_eq a b) (is_eq (length_triple_order a b)) ((λ h. triple_tied a b ((triple_decides a b).0 h)), (λ h. (triple_decides a b).1 (triple_same a b h))) (Equal-is (length_triple_order a b))
