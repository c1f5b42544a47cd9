-- The book of the tickets that are out.
use Rattle.std.proofs.Common.{ℕ, suc, ◌≡◌, ◌+◌, ◌<◌, ◌≤◌, inl, inr, ◌==◌, Bool, true, false, cond, if◌then◌else◌, List, [], ◌∷◌, Option, Some, None, refl, ap, sym, subst, ◌∙◌, zero-add, arith}
use Rattle.std.specs.Prelude.{is_some}
use Rattle.std.specs.Option.{option_map}
use Rattle.std.specs.List.{All}
use Rattle.std.specs.List.Sorted.{IsPermutation}
use Rattle.std.proofs.lemmas.Bool.{cases_eq}
use Rattle.std.proofs.lemmas.Bool.Decides.{nat_tests}
use Rattle.std.proofs.lemmas.List.Sums.{sum_by-append}
use Rattle.std.proofs.lemmas.List.Elements.{All-head, All-tail}
use Rattle.std.proofs.lemmas.List.Sorted.{sum_by-IsPermutation}
use Rattle.bgp_core.specs.declared.pattern.Pattern.{Pattern}
use Rattle.bgp_core.specs.Solutions.{Places}
use Rattle.join_core.specs.declared.first.First.{First}
use Rattle.join_core.specs.declared.first.First.TheVariants.{Out, Got}
use Rattle.join_core.specs.declared.node.Waits.TheVariants.{First as ForFirst, Next as ForNext}
use Rattle.join_core.specs.Nodes.{Stage, NodeData, node}
use Rattle.join_core.specs.Nodes.Stage.{Asking, Walking}
use Rattle.join_core.specs.Events.{first_waiting, waits_for}
use Rattle.join_core.specs.Joins.{first_tickets, tickets_of}
use Rattle.join_core.specs.Levels.{times, once_under, IsBook}
use Rattle.join_core.proofs.Outs.{no-ticket-in}

-- ---- numbers

one-by : (a b : ℕ) (c : Bool) → (a == b) ≡ c → a ≡ b → ◌≡◌ {A = ℕ} (cond c 1 0) 1
one-by a b true e h = refl
one-by a b false e h = grind (arith, nat_tests)

one : (a b : ℕ) → a ≡ b → ◌≡◌ {A = ℕ} (cond (a == b) 1 0) 1
one a b h = one-by a b (a == b) refl h

none-by : (a b : ℕ) (c : Bool) → (a == b) ≡ c → (a ≡ b → ⊥) → ◌≡◌ {A = ℕ} (cond c 1 0) 0
none-by a b true e h = absurd (h (grind (arith, nat_tests)))
none-by a b false e h = refl

none : (a b : ℕ) → (a ≡ b → ⊥) → ◌≡◌ {A = ℕ} (cond (a == b) 1 0) 0
none a b h = none-by a b (a == b) refl h

is-same : (a b : ℕ) (c : Bool) → (a == b) ≡ c → 0 < cond c 1 0 → a ≡ b
is-same a b true e h = grind (arith, nat_tests)
is-same a b false e h = absurd (omega arith)

pub times-turned : (t : ℕ) (xs ys : List ℕ) → IsPermutation xs ys → times t ys ≡ times t xs
times-turned t xs ys h = sum_by-IsPermutation (λ x. cond (x == t) 1 0) xs ys h

times-one : (t x : ℕ) → times t (x ∷ []) ≡ cond (x == t) 1 0
times-one t x = omega arith

times-cons : (t x : ℕ) (xs : List ℕ) → times t (x ∷ xs) ≡ cond (x == t) 1 0 + times t xs
times-cons t x xs = sum_by-append (λ y. cond (y == t) 1 0) (x ∷ []) xs ∙ ap (λ (k : ℕ). k + times t xs) (times-one t x)

times-here : (t : ℕ) (xs : List ℕ) → times t (t ∷ xs) ≡ 1 + times t xs
times-here t xs = times-cons t t xs ∙ ap (λ (k : ℕ). k + times t xs) (one t t refl)

times-past : (t x : ℕ) (xs : List ℕ) → (x ≡ t → ⊥) → times t (x ∷ xs) ≡ times t xs
times-past t x xs h = times-cons t x xs ∙ ap (λ (k : ℕ). k + times t xs) (none x t h) ∙ zero-add (times t xs)

pub no-times : (t : ℕ) (xs : List ℕ) → All (λ x. x ≡ t → ⊥) xs → times t xs ≡ 0
no-times t [] a = refl
no-times t (x ∷ xs) a = times-past t x xs (All-head (λ x. x ≡ t → ⊥) x xs a) ∙ no-times t xs (All-tail (λ x. x ≡ t → ⊥) x xs a)

-- ---- the book

under-here : (k q : ℕ) → q ≡ k → once_under k (Some q) ≡ 1
under-here k q e = one q k e

under-other : (k q : ℕ) → (q ≡ k → ⊥) → once_under k (Some q) ≡ 0
under-other k q h = none q k h

-- a ticket that is under a number is under no other
under-one : (o : Option ℕ) (k j : ℕ) → 0 < once_under k o → (j ≡ k → ⊥) → once_under j o ≡ 0
under-one None k j h d = refl
under-one (Some q) k j h d =
    let e : q ≡ k = is-same q k (q == k) refl h in
    under-other j q (λ g. d (sym g ∙ e))

under-few : (o : Option ℕ) (k : ℕ) → once_under k o ≤ 1
under-few None k = omega arith
under-few (Some q) k = by (q == k) where
  by : (c : Bool) → cond c 1 0 ≤ 1
  by true = omega arith
  by false = omega arith

module _ (g g' : ℕ → Option ℕ) (f f' : ℕ → List ℕ) (t₀ k₀ : ℕ) where
  -- a ticket that was not out is noted under the number of the node that asked
  pub book-ask : IsBook g f → g' t₀ ≡ Some k₀ → ((q : ℕ) → (q ≡ t₀ → ⊥) → g' q ≡ g q) → IsPermutation (f' k₀) (t₀ ∷ f k₀) → ((q : ℕ) → (q ≡ k₀ → ⊥) → f' q ≡ f q) → ((q : ℕ) → times t₀ (f q) ≡ 0) → IsBook g' f'
  book-ask b now rest more others new = record {
    told = λ t k. elim (cases_eq t t₀) [
      | inl s ↦ elim (cases_eq k k₀) [
        | inl r ↦ subst (λ (x : ℕ). times x (f' k) ≡ once_under k (g' x)) (sym s) (subst (λ (x : ℕ). times t₀ (f' x) ≡ once_under x (g' t₀)) (sym r)
            (sym (times-turned t₀ (f' k₀) (t₀ ∷ f k₀) more) ∙ times-here t₀ (f k₀) ∙ ap (λ (x : ℕ). 1 + x) (new k₀) ∙ sym (ap (once_under k₀) now ∙ under-here k₀ k₀ refl)))
        | inr d ↦ subst (λ (x : ℕ). times x (f' k) ≡ once_under k (g' x)) (sym s) (ap (times t₀) (others k d) ∙ new k ∙ sym (ap (once_under k) now ∙ under-other k k₀ (λ e. d (sym e))))
      ]
      | inr c ↦ elim (cases_eq k k₀) [
        | inl r ↦ subst (λ (x : ℕ). times t (f' x) ≡ once_under x (g' t)) (sym r)
            (sym (times-turned t (f' k₀) (t₀ ∷ f k₀) more) ∙ times-past t t₀ (f k₀) (λ e. c (sym e)) ∙ b.told t k₀ ∙ ap (once_under k₀) (sym (rest t c)))
        | inr d ↦ ap (times t) (others k d) ∙ b.told t k ∙ ap (once_under k) (sym (rest t c))
      ]
    ];
  }

  -- a ticket is out no more
  pub book-end : IsBook g f → g' t₀ ≡ None → ((q : ℕ) → (q ≡ t₀ → ⊥) → g' q ≡ g q) → IsPermutation (f k₀) (t₀ ∷ f' k₀) → ((q : ℕ) → (q ≡ k₀ → ⊥) → f' q ≡ f q) → IsBook g' f'
  book-end b now rest less others =
      let whole : times t₀ (f k₀) ≡ 1 + times t₀ (f' k₀) = sym (times-turned t₀ (f k₀) (t₀ ∷ f' k₀) less) ∙ times-here t₀ (f' k₀) in
      let told : times t₀ (f k₀) ≡ once_under k₀ (g t₀) = b.told t₀ k₀ in
      let few : once_under k₀ (g t₀) ≤ 1 = under-few (g t₀) k₀ in
      let gone : times t₀ (f' k₀) ≡ 0 = omega arith in
      let some : 0 < once_under k₀ (g t₀) = omega arith in
      record {
        told = λ t k. elim (cases_eq t t₀) [
          | inl s ↦ elim (cases_eq k k₀) [
            | inl r ↦ subst (λ (x : ℕ). times x (f' k) ≡ once_under k (g' x)) (sym s) (subst (λ (x : ℕ). times t₀ (f' x) ≡ once_under x (g' t₀)) (sym r) (gone ∙ sym (ap (once_under k₀) now)))
            | inr d ↦ subst (λ (x : ℕ). times x (f' k) ≡ once_under k (g' x)) (sym s) (ap (times t₀) (others k d) ∙ b.told t₀ k ∙ under-one (g t₀) k₀ k some d ∙ sym (ap (once_under k) now))
          ]
          | inr c ↦ elim (cases_eq k k₀) [
            | inl r ↦ subst (λ (x : ℕ). times t (f' x) ≡ once_under x (g' t)) (sym r)
                (sym (sym (times-turned t (f k₀) (t₀ ∷ f' k₀) less) ∙ times-past t t₀ (f' k₀) (λ e. c (sym e))) ∙ b.told t k₀ ∙ ap (once_under k₀) (sym (rest t c)))
            | inr d ↦ ap (times t) (others k d) ∙ b.told t k ∙ ap (once_under k) (sym (rest t c))
          ]
        ];
      }

-- the same tickets
pub book-same : (g g' : ℕ → Option ℕ) (f f' : ℕ → List ℕ) → IsBook g f → ((q : ℕ) → g' q ≡ g q) → ((q : ℕ) → f' q ≡ f q) → IsBook g' f'
book-same g g' f f' b e h = record { told = λ t k. ap (times t) (h k) ∙ b.told t k ∙ ap (once_under k) (sym (e t)) }

-- a ticket that is under no number is not out
pub book-none : (g : ℕ → Option ℕ) (f : ℕ → List ℕ) (t k : ℕ) → IsBook g f → g t ≡ None → times t (f k) ≡ 0
book-none g f t k b e = b.told t k ∙ ap (once_under k) e

pub book-some : (g : ℕ → Option ℕ) (f : ℕ → List ℕ) (t k : ℕ) → IsBook g f → g t ≡ Some k → times t (f k) ≡ 1
book-some g f t k b e = b.told t k ∙ ap (once_under k) e ∙ under-here k k refl

-- ---- what a node waits for, by its tickets

none-map : {A B : Type 0} (f : A → B) (o : Option A) → is_some o ≡ false → is_some (option_map f o) ≡ false
none-map f None e = refl
none-map f (Some x) e = cc

first-by : (t : ℕ) (fs : List First) (rest : ℕ) (c : Bool) → cond c 1 0 + rest ≡ 0 → (rest ≡ 0 → is_some (first_waiting t fs) ≡ false) → is_some (if c then Some 0 else option_map suc (first_waiting t fs)) ≡ false
first-by t fs rest true e more = absurd (omega (arith, e))
first-by t fs rest false e more = none-map suc (first_waiting t fs) (more (omega (arith, e)))

first-none : (t : ℕ) (fs : List First) → times t (first_tickets fs) ≡ 0 → is_some (first_waiting t fs) ≡ false
first-none t [] e = refl
first-none t (Out u ∷ fs) e = first-by t fs (times t (first_tickets fs)) (u == t) (sym (times-cons t u (first_tickets fs)) ∙ e) (λ h. first-none t fs h)
first-none t (Got page ∷ fs) e = none-map suc (first_waiting t fs) (first-none t fs e)

next-by : (t u : ℕ) (c : Bool) → cond c 1 0 + 0 ≡ 0 → is_some (if c then Some ForNext else None) ≡ false
next-by t u true e = absurd (omega (arith, e))
next-by t u false e = refl

none-in : (t : ℕ) (rows : List Places) (ps : List Pattern) (s : Stage) → times t (tickets_of (node rows ps s)) ≡ 0 → is_some (waits_for t (node rows ps s)) ≡ false
none-in t rows ps (Asking fs) e = none-map ForFirst (first_waiting t fs) (first-none t fs e)
none-in t rows ps (Walking p k next None) e = refl
none-in t rows ps (Walking p k next (Some u)) e = next-by t u (u == t) (sym (times-cons t u []) ∙ e)

pub none-waits : (t : ℕ) (n : NodeData) → times t (tickets_of n) ≡ 0 → is_some (waits_for t n) ≡ false
none-waits t n e = none-in t n.rows n.rest n.stage e

-- a node that waits for nothing under a ticket does not have it
pub waits-none : (t : ℕ) (n : NodeData) → waits_for t n ≡ None → times t (tickets_of n) ≡ 0
waits-none t n e = no-times t (tickets_of n) (no-ticket-in t n.rows n.rest n.stage (ap is_some e))
