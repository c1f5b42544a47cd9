-- Ranks follow the order of terms, and rows the order of triples.
use Rattle.std.proofs.Common.{ℕ, ◌≡◌, ◌<◌, List, [], refl, sym, ap, subst, ◌∙◌, length, ⊎_elim, Option, Some, None}
use Rattle.std.specs.List.Sorted.{IsStrictlySortedBy}
use Rattle.std.specs.declared.cmp.Ordering.{Ordering}
use Rattle.std.specs.Ordering.{nat_cmp, ordering_reverse}
use Rattle.std.proofs.lemmas.Cmp.{tied_itself}
use Rattle.list_laws.proofs.Tests.{is_less, is_greater}
use Rattle.list_laws.proofs.Ascending.{apart, pair_less}
use Rattle.rdf_terms.specs.declared.term.Term.{Term}
use Rattle.rdf_terms.specs.declared.term.Term.TheVariants.{Iri}
use Rattle.rdf_terms.specs.declared.term.Triple.{Triple}
use Rattle.rdf_terms.specs.Order.{term_order, triple_order}
use Rattle.rdf_terms.specs.OrderLaws.{term_total}
use Rattle.rdf_terms.specs.Slots.{pos_order, osp_order, order_of}
use Rattle.triple_table.specs.declared.ids.Row.{Row}
use Rattle.triple_table.specs.declared.ids.Order.{Order}
use Rattle.triple_table.specs.declared.ids.Order.TheVariants.{Spo, Pos, Osp}
use Rattle.triple_table.specs.Rows.{row_order, id_triple_of, order_by}
use Rattle.triple_table.specs.Stored.{term_at, triple_at, IsIdTriple, slot_at}
use Rattle.triple_table.proofs.Bounds.{cmp_equal, three_ways}

pub rank_cmp : (terms : List Term) → IsStrictlySortedBy term_order terms → (a b : ℕ) → a < length terms → b < length terms → term_order (term_at terms a) (term_at terms b) ≡ nat_cmp a b
rank_cmp terms s a b l m =
    ⊎_elim (λ i. pair_less term_order terms s a b (Iri []) (Iri []) i m ∙ sym (is_less a b i))
    (λ r. ⊎_elim (λ e. subst (λ k. term_order (term_at terms a) (term_at terms k) ≡ nat_cmp a k) e (tied_itself term_total (term_at terms a) ∙ sym (cmp_equal a a refl)))
    (λ i. term_total.antisymm (term_at terms a) (term_at terms b) ∙ ap ordering_reverse (pair_less term_order terms s b a (Iri []) (Iri []) i l) ∙ sym (is_greater a b i)) r)
    (three_ways a b)

pub same_rank : (terms : List Term) → IsStrictlySortedBy term_order terms → (a b : ℕ) → a < length terms → b < length terms → term_at terms a ≡ term_at terms b → a ≡ b
same_rank terms s a b l m e =
    ⊎_elim (λ i. absurd (apart term_total terms s a b (Iri []) (Iri []) i m e)) (λ r. ⊎_elim (λ f. f) (λ i. absurd (apart term_total terms s b a (Iri []) (Iri []) i l (sym e))) r) (three_ways a b)

-- the order of triples that an order of rows stands for
abbrev pub triples_cmp : Order → Triple → Triple → Ordering
triples_cmp Spo = triple_order
triples_cmp Pos = pos_order
triples_cmp Osp = osp_order

pub rows_cmp : (terms : List Term) → IsStrictlySortedBy term_order terms → (o : Order) (r q : Row) → IsIdTriple terms (id_triple_of o r) → IsIdTriple terms (id_triple_of o q) →
    row_order r q ≡ triples_cmp o (triple_at terms (id_triple_of o r)) (triple_at terms (id_triple_of o q))
rows_cmp terms s Spo r q h k = rw (rank_cmp terms s r.first q.first h.subject k.subject, rank_cmp terms s r.second q.second h.predicate k.predicate, rank_cmp terms s r.third q.third h.object k.object) refl
rows_cmp terms s Pos r q h k = rw (rank_cmp terms s r.first q.first h.predicate k.predicate, rank_cmp terms s r.second q.second h.object k.object, rank_cmp terms s r.third q.third h.subject k.subject) refl
rows_cmp terms s Osp r q h k = rw (rank_cmp terms s r.first q.first h.object k.object, rank_cmp terms s r.second q.second h.subject k.subject, rank_cmp terms s r.third q.third h.predicate k.predicate) refl

pub kind_is : (terms : List Term) (a b c : Option ℕ) → order_of record { subject = slot_at terms a; predicate = slot_at terms b; object = slot_at terms c } ≡ triples_cmp (order_by a b c)
kind_is terms None None None = refl
kind_is terms (Some x) None None = refl
kind_is terms None (Some y) None = refl
kind_is terms None None (Some z) = refl
kind_is terms (Some x) (Some y) None = refl
kind_is terms None (Some y) (Some z) = refl
kind_is terms (Some x) None (Some z) = refl
kind_is terms (Some x) (Some y) (Some z) = refl
