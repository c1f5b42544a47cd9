-- What may still come where groups are open: up to the end of each, and behind it.
use Rattle.std.proofs.Common.{ℕ, zero, suc, ◌≡◌, ◌+◌, ◌-◌, ◌⊎◌, inl, inr, Bool, true, false, nat_eq, List, [], ◌∷◌, ◌++◌, refl, sym, ap, subst, ◌∙◌, arith}
use Rattle.std.proofs.lemmas.Bool.{or_cases}
use Rattle.list_laws.proofs.Tests.{self_test}
use Rattle.regular_expressions.specs.Regular.{Regular, nothing, one_of, seq, Matches, left, nullable}
use Rattle.regular_expressions.proofs.Left.{left-matches, matches-left, nullable-matches, matches-nullable}
use Rattle.query_grammar.specs.declared.kind.Kind.TheVariants as kinds
use Rattle.query_grammar.specs.Grammar.{code}
use Rattle.query_grammar.specs.Groups.{group_of, query_of, inside}
use Rattle.query_grammar.proofs.GroupFollows.{group_letter, inside_letters, head_letters}
use Rattle.query_grammar.proofs.GroupTexts.{Piece, Expands, Read, sub, is_clean, sub-read, sub-write}

abbrev pub brace : ℕ
brace = code kinds.OpenBrace

abbrev pub end_brace : ℕ
end_brace = code kinds.CloseBrace

-- ---- a group

inside-clean : is_clean inside_letters ≡ true
unfolding inside_letters
inside-clean = refl

head-clean : is_clean head_letters ≡ true
unfolding head_letters
head-clean = refl

inside-sub : (g : Regular) → sub g inside_letters ≡ inside g
unfolding inside_letters
inside-sub g = refl

query-sub : (m : ℕ) → sub (group_of m) head_letters ≡ query_of m
unfolding head_letters
query-sub m = refl

-- the texts of groups that nest at most so deep
abbrev pub In : ℕ → List ℕ → Type 0
In m w = Matches (group_of m) w

-- a text over letters and what it stands for, where groups nest at most so deep
abbrev pub Reads : Regular → ℕ → List ℕ → Type 0
Reads r m w = Read r (In m) w

pub query-reads : (m : ℕ) (w : List ℕ) → Matches (query_of m) w → Reads head_letters m w
query-reads m w h = sub-read (group_of m) head_letters head-clean w (subst (λ (r : Regular). Matches r w) (sym (query-sub m)) h)

pub reads-query : (m : ℕ) (w : List ℕ) → Reads head_letters m w → Matches (query_of m) w
reads-query m w h = subst (λ (r : Regular). Matches r w) (query-sub m) (sub-write (group_of m) head_letters head-clean h.0 w h.1 h.2)

-- a group is a brace, what stands inside, and a brace
pub record Braced (m : ℕ) (w : List ℕ) : Type 0 where
  pub inner : List ℕ
  pub reads : Reads inside_letters m inner
  pub is : w ≡ brace ∷ (inner ++ end_brace ∷ [])

-- the parts of a text that matches three expressions, the outer two being one letter each
letters : (a b : ℕ) (r : Regular) (w : List ℕ) → Matches (seq (seq (one_of (a ∷ [])) r) (one_of (b ∷ []))) w → (v : List ℕ) × Matches r v × (w ≡ a ∷ (v ++ b ∷ []))
letters a b r w h =
    let first : h.2.0 ≡ a ∷ [] = one_is a h.2.0 h.2.2 in
    let last : h.1 ≡ b ∷ [] = one_is b h.1 h.3 in
    (h.2.1, h.2.3, h.4 ∙ ap (λ (l : List ℕ). l ++ h.1) (h.2.4 ∙ ap (λ (l : List ℕ). l ++ h.2.1) first) ∙ ap (λ (l : List ℕ). a ∷ (h.2.1 ++ l)) last)
  where
    one_is : (a : ℕ) (u : List ℕ) → Matches (one_of (a ∷ [])) u → u ≡ a ∷ []
    one_is a u m = m.2 ∙ ap (λ (k : ℕ). k ∷ []) (pick (or_cases (nat_eq a m.0) false m.1))
      where
        pick : (nat_eq a m.0 ≡ true) ⊎ (false ≡ true) → m.0 ≡ a
        pick (inl e) = grind (arith, e)
        pick (inr e) = cc

letters-match : (a b : ℕ) (r : Regular) (v : List ℕ) → Matches r v → Matches (seq (seq (one_of (a ∷ [])) r) (one_of (b ∷ []))) (a ∷ (v ++ b ∷ []))
letters-match a b r v h = (a ∷ v, b ∷ [], (a ∷ [], v, (a, rw (self_test a) refl, refl), h, refl), (b, rw (self_test b) refl, refl), refl)

pub group-braced : (m : ℕ) (w : List ℕ) → In (suc m) w → Braced m w
unfolding group_of
group-braced m w h =
    let p = letters brace end_brace (inside (group_of m)) w h in
    record {
      inner = p.0;
      reads = sub-read (group_of m) inside_letters inside-clean p.0 (subst (λ (r : Regular). Matches r p.0) (sym (inside-sub (group_of m))) p.1);
      is = p.2;
    }

pub braced-group : (m : ℕ) (inner : List ℕ) → Reads inside_letters m inner → In (suc m) (brace ∷ (inner ++ end_brace ∷ []))
unfolding group_of
braced-group m inner h =
    letters-match brace end_brace (inside (group_of m)) inner
    (subst (λ (r : Regular). Matches r inner) (inside-sub (group_of m)) (sub-write (group_of m) inside_letters inside-clean h.0 inner h.1 h.2))

pub none_at_zero : (w : List ℕ) → In 0 w → ⊥
unfolding group_of
none_at_zero w h = h

-- a group begins with a brace
pub begins-brace : (m : ℕ) (w : List ℕ) → In m w → (v : List ℕ) × (w ≡ brace ∷ v)
begins-brace zero w h = absurd (none_at_zero w h)
begins-brace (suc m) w h = let b = group-braced m w h in (b.inner ++ end_brace ∷ [], b.is)

-- ---- one letter of a text

-- no group begins here
pub plain_step : (r : Regular) (m k : ℕ) (w : List ℕ) → (k ≡ brace → ⊥) → Reads r m (k ∷ w) → Reads (left r k) m w
plain_step r m k w other ([], match, e) = cc
plain_step r m k w other (l ∷ u, match, e) = pick (nat_eq l group_letter) refl e.2
  where
    pick : (t : Bool) → nat_eq l group_letter ≡ t → Piece (In m) t l e.0 → Reads (left r k) m w
    pick true q p =
        let b = begins-brace m e.0 p in
        let begins : k ∷ w ≡ brace ∷ (b.0 ++ e.1) = e.4 ∙ ap (λ (x : List ℕ). x ++ e.1) b.1 in
        absurd (other cc)
    pick false q p =
        let whole : k ∷ w ≡ l ∷ e.1 = e.4 ∙ ap (λ (x : List ℕ). x ++ e.1) p in
        let letter : l ≡ k = cc in
        let rest : e.1 ≡ w = cc in
        (u, subst (λ (n : ℕ). Matches (left r n) u) letter (matches-left r l u match), subst (λ (x : List ℕ). Expands (In m) u x) rest e.3)

pub plain_back : (r : Regular) (m k : ℕ) (w : List ℕ) → nat_eq k group_letter ≡ false → Reads (left r k) m w → Reads r m (k ∷ w)
plain_back r m k w q h = (k ∷ h.0, left-matches r k h.0 h.1, (k ∷ [], w, subst (λ (t : Bool). Piece (In m) t k (k ∷ [])) (sym q) refl, h.2, refl))

-- a group begins here
pub record Opens (r : Regular) (m : ℕ) (w : List ℕ) : Type 0 where
  pub group : List ℕ
  pub rest : List ℕ
  pub is_group : In m group
  pub reads : Reads (left r group_letter) m rest
  pub whole : w ≡ group ++ rest

pub group_step : (r : Regular) (m : ℕ) (w : List ℕ) → left r brace ≡ nothing → Reads r m (brace ∷ w) → Opens r m (brace ∷ w)
group_step r m w none ([], match, e) = cc
group_step r m w none (l ∷ u, match, e) = pick (nat_eq l group_letter) refl e.2
  where
    pick : (t : Bool) → nat_eq l group_letter ≡ t → Piece (In m) t l e.0 → Opens r m (brace ∷ w)
    pick true q p =
        let letter : l ≡ group_letter = grind (arith, q) in
        record { group = e.0; rest = e.1; is_group = p; reads = (u, subst (λ (n : ℕ). Matches (left r n) u) letter (matches-left r l u match), e.3); whole = e.4 }
    pick false q p =
        let whole : brace ∷ w ≡ l ∷ e.1 = e.4 ∙ ap (λ (x : List ℕ). x ++ e.1) p in
        let letter : l ≡ brace = cc in
        absurd (subst (λ (s : Regular). Matches s u) none (subst (λ (n : ℕ). Matches (left r n) u) letter (matches-left r l u match)))

pub group_back : (r : Regular) (m : ℕ) (v x : List ℕ) → In m v → Reads (left r group_letter) m x → Reads r m (v ++ x)
group_back r m v x g h = (group_letter ∷ h.0, left-matches r group_letter h.0 h.1, (v, x, g, h.2, refl))

-- nothing comes
pub empty_step : (r : Regular) (m : ℕ) → Reads r m [] → nullable r ≡ true
empty_step r m ([], match, e) = matches-nullable r match
empty_step r m (l ∷ u, match, e) = pick (nat_eq l group_letter) refl e.2
  where
    pick : (t : Bool) → nat_eq l group_letter ≡ t → Piece (In m) t l e.0 → nullable r ≡ true
    pick true q p =
        let b = begins-brace m e.0 p in
        let begins : [] ≡ brace ∷ (b.0 ++ e.1) = e.4 ∙ ap (λ (x : List ℕ). x ++ e.1) b.1 in
        cc
    pick false q p =
        let whole : [] ≡ l ∷ e.1 = e.4 ∙ ap (λ (x : List ℕ). x ++ e.1) p in
        cc

pub empty_back : (r : Regular) (m : ℕ) → nullable r ≡ true → Reads r m []
empty_back r m n = ([], nullable-matches r n, refl)
