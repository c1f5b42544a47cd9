-- A loop over the kinds keeps the place in the grammar.
use Rattle.std.proofs.Common.{ℕ, ◌≡◌, ◌+◌, ◌<◌, ◌≤◌, ◌⊎◌, inl, inr, true, false, List, [], ◌∷◌, ◌++◌, Option, Some, None, refl, sym, ap, ◌∙◌, take, drop, append_assoc, subst, length, get_or, arith}
use Rattle.std.proofs.lemmas.List.{take_more, map-append, take_all, take-append-drop, take-take}
use Rattle.std.proofs.lemmas.Bool.{cases_order}
use Rattle.regular_expressions.specs.Regular.{Regular, Matches, left, lefts, nullable, MatchingIsDecided, BeginningIsDecided}
use Rattle.regular_expressions.proofs.Left.{lefts-append, alive-begins, nothing-begins, ends-matches, matches-ends}
use Rattle.regular_expressions.proofs.Decide.{IsGreatest, greatest_or_none}
use Rattle.query_grammar.specs.declared.kind.Kind.{Kind}
use Rattle.query_grammar.specs.declared.machine.State.{State}
use Rattle.query_grammar.specs.declared.machine.State.TheVariants.{Start, AtEnd}
use Rattle.query_grammar.specs.Steps.{next, is_end}
use Rattle.query_grammar.specs.Grammar.{code, codes, query, IsQuery, BeginsQuery, IsGrammarFault}
use Rattle.query_grammar.proofs.Follows.{rest_of, rest_after, follows, alive, ends, starts}

-- these tokens lead to what is left in this state, or to nothing
pub record At (ks : List Kind) (i : ℕ) (o : Option State) : Type 0 where
  pub left_is : lefts query (codes (take i ks)) ≡ rest_after o

pub one_more : (ks : List Kind) (i : ℕ) (s : State) (d : Kind) (o : Option State) → i < length ks → At ks i (Some s) → next s (get_or ks i d) ≡ o → At ks (i + 1) o
one_more ks i s d o below at e =
    let k = get_or ks i d in
    let split : codes (take (i + 1) ks) ≡ codes (take i ks) ++ code k ∷ [] = ap codes (take_more ks i d below) ∙ map-append code (take i ks) (k ∷ []) in
    let step : lefts query (codes (take i ks) ++ code k ∷ []) ≡ left (lefts query (codes (take i ks))) (code k) = lefts-append query (codes (take i ks)) (code k ∷ []) in
    let after : left (rest_of s) (code k) ≡ rest_after o = follows s k ∙ ap rest_after e in
    record { left_is = ap (lefts query) split ∙ step ∙ ap (λ (r : Regular). left r (code k)) at.left_is ∙ after }

pub stops : (ks : List Kind) (i : ℕ) (s : State) → i < length ks → At ks i (Some s) → At ks (i + 1) None → IsGrammarFault ks i
stops ks i s below at none = record {
  no_query = λ q. nothing-begins query (codes (take (i + 1) ks)) none.left_is (whole q);
  within = omega arith;
  before = alive-begins query (rest_of s) (codes (take i ks)) at.left_is (alive s);
  here = λ h. nothing-begins query (codes (take (i + 1) ks)) none.left_is;
}
  where
    whole : IsQuery ks → BeginsQuery (take (i + 1) ks)
    whole q =
        let split : codes ks ≡ codes (take (i + 1) ks) ++ codes (drop (i + 1) ks) = sym (ap codes (take-append-drop (i + 1) ks)) ∙ map-append code (take (i + 1) ks) (drop (i + 1) ks) in
        (codes (drop (i + 1) ks), subst (λ (l : List ℕ). Matches query l) split q)

pub all_read : (ks : List Kind) → At ks (length ks) (Some AtEnd) → IsQuery ks
all_read ks at = ends-matches query (rest_of AtEnd) (codes ks) (rw (← take_all (length ks) ks (omega arith)) at.left_is) (ends AtEnd)

pub too_early : (ks : List Kind) (s : State) → is_end s ≡ false → At ks (length ks) (Some s) → IsGrammarFault ks (length ks)
too_early ks s e at = record {
  no_query = λ q. differ (matches-ends query (rest_of s) (codes ks) at_end q);
  within = omega arith;
  before = alive-begins query (rest_of s) (codes (take (length ks) ks)) at.left_is (alive s);
  here = λ h. absurd (omega arith);
}
  where
    at_end : lefts query (codes ks) ≡ rest_of s
    at_end = rw (← take_all (length ks) ks (omega arith)) at.left_is

    differ : nullable (rest_of s) ≡ true → ⊥
    differ n = let f = ends s in cc

pub is_end-is : (s : State) → is_end s ≡ true → s ≡ AtEnd
is_end-is AtEnd e = refl
is_end-is _ e = cc

pub read : (ks : List Kind) (i : ℕ) (s : State) → length ks ≡ i → At ks i (Some s) → is_end s ≡ true → IsQuery ks
read ks i s e at end = all_read ks (subst (λ (t : State). At ks (length ks) (Some t)) (is_end-is s end) (subst (λ (n : ℕ). At ks n (Some s)) (sym e) at))

pub not_read : (ks : List Kind) (i : ℕ) (s : State) → length ks ≡ i → At ks i (Some s) → is_end s ≡ false → IsGrammarFault ks (length ks)
not_read ks i s e at end = too_early ks s end (subst (λ (n : ℕ). At ks n (Some s)) (sym e) at)

-- a front of a front of a query is the front of a query
fewer : (ks : List Kind) (m n : ℕ) → m ≤ n → BeginsQuery (take n ks) → BeginsQuery (take m ks)
fewer ks m n h b =
    let same : take m (take n ks) ≡ take m ks = take-take m n ks h in
    let split : codes (take n ks) ≡ codes (take m ks) ++ codes (drop m (take n ks)) = sym (ap codes (take-append-drop m (take n ks))) ∙ map-append code (take m (take n ks)) (drop m (take n ks)) ∙ ap (λ (l : List Kind). codes l ++ codes (drop m (take n ks))) same in
    (codes (drop m (take n ks)) ++ b.0, subst (λ (l : List ℕ). Matches query l) (ap (λ (l : List ℕ). l ++ b.0) split ∙ append_assoc (codes (take m ks)) _ _) b.1)

not_less : (ks : List Kind) (m n : ℕ) → IsGrammarFault ks m → IsGrammarFault ks n → m < n → ⊥
not_less ks m n a b h = let w = b.within in a.here (omega arith) (fewer ks (m + 1) n (omega arith) b.before)

pub one_place : (ks : List Kind) (m n : ℕ) → IsGrammarFault ks m → IsGrammarFault ks n → m ≡ n
one_place ks m n a b = pick (cases_order m n)
  where
    pick : (m ≡ n) ⊎ ((m < n) ⊎ (n < m)) → m ≡ n
    pick (inl e) = e
    pick (inr (inl h)) = absurd (not_less ks m n a b h)
    pick (inr (inr h)) = absurd (not_less ks n m b a h)

-- ---- a query or a fault

pub some_reading : MatchingIsDecided → BeginningIsDecided → (ks : List Kind) → IsQuery ks ⊎ ((n : ℕ) × IsGrammarFault ks n)
some_reading matching beginning ks = pick (matching query (codes ks)) (greatest_or_none front (λ n. beginning query (codes (take n ks))) (length ks))
  where
    front : ℕ → Type 0
    front n = BeginsQuery (take n ks)

    none_begun : ((n : ℕ) → n ≤ length ks → front n → ⊥) → ⊥
    none_begun none = none 0 (omega arith) (alive-begins query (rest_of Start) [] (sym starts) (alive Start))

    stopped : (IsQuery ks → ⊥) → (n : ℕ) → IsGreatest front (length ks) n → IsGrammarFault ks n
    stopped no_reading n g = record {
      no_query = no_reading;
      within = g.within;
      before = g.is;
      here = λ h b. let m = g.greatest (n + 1) (omega arith) b in absurd (omega arith);
    }

    pick : IsQuery ks ⊎ (IsQuery ks → ⊥) → ((n : ℕ) × IsGreatest front (length ks) n) ⊎ ((n : ℕ) → n ≤ length ks → front n → ⊥) → IsQuery ks ⊎ ((n : ℕ) × IsGrammarFault ks n)
    pick (inl q) g = inl q
    pick (inr no_reading) (inl g) = inr (g.0, stopped no_reading g.0 g.1)
    pick (inr no_reading) (inr none) = absurd (none_begun none)
