-- Serves proofs alone: triples by the order of their subjects, predicates and objects, for any order of terms.
use Rattle.std.proofs.Common.{◌≡◌, ◌↔◌, subst}
use Rattle.std.specs.declared.cmp.Ordering.{Ordering}
use Rattle.std.specs.declared.cmp.Ordering.TheVariants.{Equal}
use Rattle.std.specs.Ordering.{ordering_then, is_eq}
use Rattle.std.specs.Bool.{one_answer}
use Rattle.std.specs.Cmp.{IsTotalOrder, Equal-is}
use Rattle.std.proofs.lemmas.Cmp.{on_total, then_total, tied_itself}
use Rattle.list_laws.proofs.Ascending.{then_three}
use Rattle.rdf_terms.specs.declared.term.Term.{Term}
use Rattle.rdf_terms.specs.declared.term.Triple.{Triple}
use Rattle.rdf_terms.specs.Same.{triple_eq}
use Rattle.rdf_terms.specs.EqualityLaws.{same_triple, triple_decides}

-- subject, predicate, object
abbrev pub by_terms : (Term → Term → Ordering) → Triple → Triple → Ordering
by_terms R a b = ordering_then (R a.subject b.subject) (ordering_then (R a.predicate b.predicate) (R a.object b.object))

module _ {R : Term → Term → Ordering} (total : IsTotalOrder R) where
  pub by_terms_total : IsTotalOrder (by_terms R)
  by_terms_total = then_total (on_total (λ (t : Triple). t.subject) total) (then_total (on_total (λ (t : Triple). t.predicate) total) (on_total (λ (t : Triple). t.object) total))

  module _ (equal : (a b : Term) → (R a b ≡ Equal) ↔ (a ≡ b)) where
    same : (a b : Triple) → by_terms R a b ≡ Equal → a ≡ b
    same a b h =
        let p = then_three (R a.subject b.subject) (R a.predicate b.predicate) (R a.object b.object) h in
        same_triple a b ((equal a.subject b.subject).0 p.0) ((equal a.predicate b.predicate).0 p.1) ((equal a.object b.object).0 p.2)

    tied : (a b : Triple) → a ≡ b → by_terms R a b ≡ Equal
    tied a b e = subst (λ (t : Triple). by_terms R a t ≡ Equal) e (tied_itself by_terms_total a)

    pub by_terms_equal : (a b : Triple) → (by_terms R a b ≡ Equal) ↔ (a ≡ b)
    by_terms_equal a b = (same a b, tied a b)

    -- the test of equality answers what the order does
    pub by_terms_ties : (a b : Triple) → triple_eq a b ≡ is_eq (by_terms R a b)
    by_terms_ties a b = one_answer (triple_eq a b) (is_eq (by_terms R a b)) ((λ h. tied a b ((triple_decides a b).0 h)), (λ h. (triple_decides a b).1 (same a b h))) (Equal-is (by_terms R a b))
