-- The order by canonical text and the comparison that makes none agree; the orders are total, and equal where the values are the same.
use Rattle.std.proofs.Common.{ℕ, ◌≡◌, ◌↔◌, Bool, cond, if◌then◌else◌, true, false, List, [], ◌∷◌, ◌++◌, nat_eq, nat_lt, refl, ap, sym, subst, ◌∙◌, arith, append_assoc}
use Rattle.std.specs.declared.cmp.Ordering.{Ordering}
use Rattle.std.specs.declared.cmp.Ordering.TheVariants.{Less, Equal, Greater}
use Rattle.std.specs.Ordering.{nat_cmp, ordering_then, is_eq, as_partial_cmp}
use Rattle.std.specs.Bool.{Decides, one_answer}
use Rattle.std.specs.Cmp.{IsTotalOrder, IsPartialOrder, Equal-is, po}
use Rattle.std.proofs.lemmas.Cmp.{nat_cmp_total, nat_list_cmp_total, on_total, then_total, tied_itself}
use Rattle.list_laws.proofs.Ascending.{less_not_equal, greater_not_equal, then_equal}
use Rattle.list_laws.proofs.Lists.{cons_same}
use Rattle.list_laws.proofs.Tests.{not_both_ways}
use Rattle.rdf_terms.specs.Same.{term_eq, triple_eq}
use Rattle.rdf_terms.specs.EqualityLaws.{term_decides}
use Rattle.rdf_terms.specs.TripleOrders.{by_terms_total, by_terms_equal, by_terms_ties}
use Rattle.rdf_terms.specs.declared.term.Triple.{Triple}
use Rattle.rdf_terms.specs.declared.term.Term.{Term}
use Rattle.rdf_terms.specs.declared.term.Term.TheVariants.{Iri, Blank, Literal}
use Rattle.rdf_terms.specs.declared.term.Kind.{Kind}
use Rattle.rdf_terms.specs.declared.term.Kind.TheVariants.{Plain, Typed, Tagged}
use Rattle.rdf_terms.specs.Canon.{is_marked, after_mark, canonical_byte, canonical_form, canonical_kind, canonical_term}
use Rattle.rdf_terms.specs.Order.{bytes_order, class, term_order, triple_order}
use Rattle.rdf_terms.specs.Compare.{ended_cmp, first_written, byte_cmp, form_cmp, kind_cmp, term_cmp}

pub term_total : IsTotalOrder term_order
unfolding term_order
term_total = then_total (on_total class nat_cmp_total) (on_total canonical_term nat_list_cmp_total)

same_nat : (n : ℕ) → nat_cmp n n ≡ Equal
same_nat n = let less : nat_lt n n ≡ false = grind arith in let eq : nat_eq n n ≡ true = grind arith in rw (less, eq) refl

-- a front that both have
same_front : (front xs ys : List ℕ) → bytes_order (front ++ xs) (front ++ ys) ≡ bytes_order xs ys
same_front [] xs ys = refl
same_front (b ∷ front) xs ys = rw (same_nat b) (same_front front xs ys)

ended_is : (end : ℕ) (xs ys : List ℕ) → ended_cmp end xs ys ≡ bytes_order (xs ++ end ∷ []) (ys ++ end ∷ [])
ended_is end [] [] = sym (rw (same_nat end) refl)
ended_is end [] (y ∷ ys) = less_than (nat_cmp end y) ys
  where
    less_than : (o : Ordering) (ys : List ℕ) → ordering_then o Less ≡ ordering_then o (bytes_order [] (ys ++ end ∷ []))
    less_than o [] = refl
    less_than o (z ∷ zs) = refl
ended_is end (x ∷ xs) [] = more_than (nat_cmp x end) xs
  where
    more_than : (o : Ordering) (xs : List ℕ) → ordering_then o Greater ≡ ordering_then o (bytes_order (xs ++ end ∷ []) [])
    more_than o [] = refl
    more_than o (z ∷ zs) = refl
ended_is end (x ∷ xs) (y ∷ ys) = ap (λ (o : Ordering). ordering_then (nat_cmp x y) o) (ended_is end xs ys)

-- numbers that differ decide
decides : (x y : ℕ) (o : Ordering) → nat_eq x y ≡ false → ordering_then (nat_cmp x y) o ≡ nat_cmp x y
decides x y o e = by (nat_lt x y) e
  where
    by : (t : Bool) → nat_eq x y ≡ false → ordering_then (cond t Less (cond (nat_eq x y) Equal Greater)) o ≡ cond t Less (cond (nat_eq x y) Equal Greater)
    by true e = refl
    by false e = rw e refl

seconds_differ : (x y : ℕ) → is_marked x ≡ true → is_marked y ≡ true → nat_eq x y ≡ false → nat_eq (after_mark x) (after_mark y) ≡ false
seconds_differ x y h k e = grind (arith, h, k, e)

not_mark : (y : ℕ) → is_marked y ≡ false → (nat_eq 92 y ≡ false) × (nat_eq y 92 ≡ false) × (nat_eq 34 y ≡ false) × (nat_eq y 34 ≡ false)
not_mark y h = (grind (arith, h), grind (arith, h), grind (arith, h), grind (arith, h))

bytes_by : (k l : Bool) (x y : ℕ) (xs ys : List ℕ) → is_marked x ≡ k → is_marked y ≡ l → nat_eq x y ≡ false →
    bytes_order ((if k then 92 ∷ after_mark x ∷ [] else x ∷ []) ++ xs) ((if l then 92 ∷ after_mark y ∷ [] else y ∷ []) ++ ys)
    ≡ (if k then (if l then nat_cmp (after_mark x) (after_mark y) else nat_cmp 92 y) else (if l then nat_cmp x 92 else nat_cmp x y))
bytes_by true true x y xs ys h k e = decides (after_mark x) (after_mark y) (bytes_order xs ys) (seconds_differ x y h k e)
bytes_by true false x y xs ys h k e = decides 92 y (bytes_order (after_mark x ∷ xs) ys) (not_mark y k).0
bytes_by false true x y xs ys h k e = decides x 92 (bytes_order xs (after_mark y ∷ ys)) (not_mark x h).1
bytes_by false false x y xs ys h k e = decides x y (bytes_order xs ys) e

quote_by : (l : Bool) (y : ℕ) (xs ys : List ℕ) → is_marked y ≡ l → bytes_order (34 ∷ xs) ((if l then 92 ∷ after_mark y ∷ [] else y ∷ []) ++ ys) ≡ nat_cmp 34 (if l then 92 else y)
quote_by true y xs ys h = refl
quote_by false y xs ys h = decides 34 y (bytes_order xs ys) (not_mark y h).2

by_quote : (l : Bool) (x : ℕ) (xs ys : List ℕ) → is_marked x ≡ l → bytes_order ((if l then 92 ∷ after_mark x ∷ [] else x ∷ []) ++ xs) (34 ∷ ys) ≡ nat_cmp (if l then 92 else x) 34
by_quote true x xs ys h = refl
by_quote false x xs ys h = decides x 34 (bytes_order xs ys) (not_mark x h).3

form_step : (t : Bool) (x y : ℕ) (o : Ordering) (xs ys : List ℕ) → nat_eq x y ≡ t → o ≡ bytes_order xs ys → (if t then o else byte_cmp x y) ≡ bytes_order (canonical_byte x ++ xs) (canonical_byte y ++ ys)
form_step true x y o xs ys e h =
    let same : x ≡ y = grind (arith, e) in
    h ∙ sym (same_front (canonical_byte x) xs ys) ∙ ap (λ (k : ℕ). bytes_order (canonical_byte x ++ xs) (canonical_byte k ++ ys)) same
form_step false x y o xs ys e h = sym (bytes_by (is_marked x) (is_marked y) x y xs ys refl refl e)

form_is : (xs ys k l : List ℕ) → form_cmp (bytes_order k l) xs ys ≡ bytes_order (canonical_form xs ++ 34 ∷ k) (canonical_form ys ++ 34 ∷ l)
form_is [] [] k l = refl
form_is [] (y ∷ ys) k l = sym (ap (λ (z : List ℕ). bytes_order (34 ∷ k) z) (append_assoc (canonical_byte y) (canonical_form ys) (34 ∷ l)) ∙ quote_by (is_marked y) y k (canonical_form ys ++ 34 ∷ l) refl)
form_is (x ∷ xs) [] k l = sym (ap (λ (z : List ℕ). bytes_order z (34 ∷ l)) (append_assoc (canonical_byte x) (canonical_form xs) (34 ∷ k)) ∙ by_quote (is_marked x) x (canonical_form xs ++ 34 ∷ k) l refl)
form_is (x ∷ xs) (y ∷ ys) k l =
    form_step (nat_eq x y) x y (form_cmp (bytes_order k l) xs ys) (canonical_form xs ++ 34 ∷ k) (canonical_form ys ++ 34 ∷ l) refl (form_is xs ys k l)
    ∙ sym (ap (λ (z : List ℕ). bytes_order z (canonical_form (y ∷ ys) ++ 34 ∷ l)) (append_assoc (canonical_byte x) (canonical_form xs) (34 ∷ k)) ∙ ap (λ (z : List ℕ). bytes_order (canonical_byte x ++ (canonical_form xs ++ 34 ∷ k)) z) (append_assoc (canonical_byte y) (canonical_form ys) (34 ∷ l)))

kind_is : (k l : Kind) → kind_cmp k l ≡ bytes_order (canonical_kind k) (canonical_kind l)
kind_is Plain Plain = refl
kind_is Plain (Typed e) = refl
kind_is Plain (Tagged u) = refl
kind_is (Typed d) Plain = refl
kind_is (Typed d) (Typed e) = ended_is 62 d e
kind_is (Typed d) (Tagged u) = refl
kind_is (Tagged t) Plain = refl
kind_is (Tagged t) (Typed e) = refl
kind_is (Tagged t) (Tagged u) = refl

pub cmp_is : (a b : Term) → term_cmp a b ≡ term_order a b
unfolding term_order
cmp_is (Iri a) (Iri b) = ended_is 62 a b
cmp_is (Iri a) (Blank b) = refl
cmp_is (Iri a) (Literal b l) = refl
cmp_is (Blank a) (Iri b) = refl
cmp_is (Blank a) (Blank b) = refl
cmp_is (Blank a) (Literal b l) = refl
cmp_is (Literal a k) (Iri b) = refl
cmp_is (Literal a k) (Blank b) = refl
cmp_is (Literal a k) (Literal b l) = ap (λ (o : Ordering). form_cmp o a b) (kind_is k l) ∙ form_is a b (canonical_kind k) (canonical_kind l)

-- ---- the same where equal

nat_by : (t u : Bool) (x y : ℕ) → nat_lt x y ≡ t → nat_eq x y ≡ u → cond t Less (cond u Equal Greater) ≡ Equal → x ≡ y
nat_by true u x y e f h = cc
nat_by false true x y e f h = grind (arith, f)
nat_by false false x y e f h = cc

nat_same : (x y : ℕ) → nat_cmp x y ≡ Equal → x ≡ y
nat_same x y h = nat_by (nat_lt x y) (nat_eq x y) x y refl refl h

pub bytes_same : (xs ys : List ℕ) → bytes_order xs ys ≡ Equal → xs ≡ ys
bytes_same [] [] h = refl
bytes_same [] (y ∷ ys) h = cc
bytes_same (x ∷ xs) [] h = cc
bytes_same (x ∷ xs) (y ∷ ys) h = let p = then_equal (nat_cmp x y) (bytes_order xs ys) h in cons_same x y xs ys (nat_same x y p.0) (bytes_same xs ys p.1)

ended_same : (end : ℕ) (xs ys : List ℕ) → ended_cmp end xs ys ≡ Equal → xs ≡ ys
ended_same end [] [] h = refl
ended_same end [] (y ∷ ys) h = absurd (less_not_equal (then_equal (nat_cmp end y) Less h).1)
ended_same end (x ∷ xs) [] h = absurd (greater_not_equal (then_equal (nat_cmp x end) Greater h).1)
ended_same end (x ∷ xs) (y ∷ ys) h = let p = then_equal (nat_cmp x y) (ended_cmp end xs ys) h in cons_same x y xs ys (nat_same x y p.0) (ended_same end xs ys p.1)

differ_by : (k l : Bool) (x y : ℕ) → is_marked x ≡ k → is_marked y ≡ l → nat_eq x y ≡ false → (if k then (if l then nat_cmp (after_mark x) (after_mark y) else nat_cmp 92 y) else (if l then nat_cmp x 92 else nat_cmp x y)) ≡ Equal → ⊥
differ_by true true x y h k e g = let s = nat_same (after_mark x) (after_mark y) g in let d = seconds_differ x y h k e in let t : nat_eq (after_mark x) (after_mark y) ≡ true = grind (arith, s) in not_both_ways _ t d
differ_by true false x y h k e g = let s = nat_same 92 y g in let d = (not_mark y k).0 in let t : nat_eq 92 y ≡ true = grind (arith, s) in not_both_ways _ t d
differ_by false true x y h k e g = let s = nat_same x 92 g in let d = (not_mark x h).1 in let t : nat_eq x 92 ≡ true = grind (arith, s) in not_both_ways _ t d
differ_by false false x y h k e g = let s = nat_same x y g in let t : nat_eq x y ≡ true = grind (arith, s) in not_both_ways _ t e

no_quote : (l : Bool) (y : ℕ) → is_marked y ≡ l → 34 ≡ (if l then 92 else y) → ⊥
no_quote true y h e = omega (arith, e)
no_quote false y h e = grind (arith, h, e)

form_same_step : (t : Bool) (o : Ordering) (x y : ℕ) (xs ys : List ℕ) (P : Type 0) → nat_eq x y ≡ t → (o ≡ Equal → (xs ≡ ys) × P) → (if t then o else byte_cmp x y) ≡ Equal → (x ∷ xs ≡ y ∷ ys) × P
form_same_step true o x y xs ys P e ih h = let same : x ≡ y = grind (arith, e) in let r = ih h in (cons_same x y xs ys same r.0, r.1)
form_same_step false o x y xs ys P e ih h = absurd (differ_by (is_marked x) (is_marked y) x y refl refl e h)

form_same : (rest : Ordering) (xs ys : List ℕ) → form_cmp rest xs ys ≡ Equal → (xs ≡ ys) × (rest ≡ Equal)
form_same rest [] [] h = (refl, h)
form_same rest [] (y ∷ ys) h = absurd (no_quote (is_marked y) y refl (nat_same 34 (first_written y) h))
form_same rest (x ∷ xs) [] h = absurd (no_quote (is_marked x) x refl (sym (nat_same (first_written x) 34 h)))
form_same rest (x ∷ xs) (y ∷ ys) h = form_same_step (nat_eq x y) (form_cmp rest xs ys) x y xs ys (rest ≡ Equal) refl (form_same rest xs ys) h

kind_same : (k l : Kind) → kind_cmp k l ≡ Equal → k ≡ l
kind_same Plain Plain h = refl
kind_same Plain (Typed e) h = absurd (less_not_equal h)
kind_same Plain (Tagged u) h = absurd (less_not_equal h)
kind_same (Typed d) Plain h = absurd (greater_not_equal h)
kind_same (Typed d) (Typed e) h = ap (λ (t : List ℕ). Typed t) (ended_same 62 d e h)
kind_same (Typed d) (Tagged u) h = absurd (greater_not_equal h)
kind_same (Tagged t) Plain h = absurd (greater_not_equal h)
kind_same (Tagged t) (Typed e) h = absurd (less_not_equal h)
kind_same (Tagged t) (Tagged u) h = ap (λ (t : List ℕ). Tagged t) (bytes_same t u h)

literal_same : (a b : List ℕ) (k l : Kind) → a ≡ b → k ≡ l → Literal a k ≡ Literal b l
literal_same a b k l e f = cc

cmp_same : (a b : Term) → term_cmp a b ≡ Equal → a ≡ b
cmp_same (Iri a) (Iri b) h = ap (λ (t : List ℕ). Iri t) (ended_same 62 a b h)
cmp_same (Iri a) (Blank b) h = absurd (less_not_equal h)
cmp_same (Iri a) (Literal b l) h = absurd (less_not_equal h)
cmp_same (Blank a) (Iri b) h = absurd (greater_not_equal h)
cmp_same (Blank a) (Blank b) h = ap (λ (t : List ℕ). Blank t) (bytes_same a b h)
cmp_same (Blank a) (Literal b l) h = absurd (less_not_equal h)
cmp_same (Literal a k) (Iri b) h = absurd (greater_not_equal h)
cmp_same (Literal a k) (Blank b) h = absurd (greater_not_equal h)
cmp_same (Literal a k) (Literal b l) h = let p = form_same (kind_cmp k l) a b h in literal_same a b k l p.0 (kind_same k l p.1)

term_same : (a b : Term) → term_order a b ≡ Equal → a ≡ b
term_same a b h = cmp_same a b (cmp_is a b ∙ h)

term_tied : (a b : Term) → a ≡ b → term_order a b ≡ Equal
term_tied a b e = subst (λ (t : Term). term_order a t ≡ Equal) e (tied_itself term_total a)

pub term_equal : (a b : Term) → (term_order a b ≡ Equal) ↔ (a ≡ b)
term_equal a b = (term_same a b, term_tied a b)

-- a test of equality answers what an order does, where both tell the values apart
ties_by : {X : Type 0} (R : X → X → Ordering) (E : X → X → Bool) → ((x y : X) → Decides (E x y) (x ≡ y)) → ((x y : X) → (R x y ≡ Equal) ↔ (x ≡ y)) → (x y : X) → E x y ≡ is_eq (R x y)
ties_by R E d e x y = one_answer (E x y) (is_eq (R x y)) ((λ h. (e x y).1 ((d x y).0 h)), (λ h. (d x y).1 ((e x y).0 h))) (Equal-is (R x y))

pub term_ties : (a b : Term) → term_eq a b ≡ is_eq (term_order a b)
term_ties = ties_by term_order term_eq term_decides term_equal

pub term_partial : IsPartialOrder term_eq (as_partial_cmp term_order)
term_partial = po term_total term_ties

-- ---- triples

pub triple_total : IsTotalOrder triple_order
triple_total = by_terms_total term_total

pub triple_equal : (a b : Triple) → (triple_order a b ≡ Equal) ↔ (a ≡ b)
triple_equal = by_terms_equal term_total term_equal

pub triple_ties : (a b : Triple) → triple_eq a b ≡ is_eq (triple_order a b)
triple_ties = by_terms_ties term_total term_equal

pub triple_partial : IsPartialOrder triple_eq (as_partial_cmp triple_order)
triple_partial = po triple_total triple_ties
