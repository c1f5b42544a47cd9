-- Rows that stand once, by what stands before them.
use Rattle.std.proofs.Common.{Bor, ℕ, suc, ◌≡◌, ◌<◌, ◌≤◌, ◌+◌, Bool, true, false, not, cond, ◌&&◌, ◌||◌, List, [], ◌∷◌, ◌++◌, length, get_or, take, drop, Option, refl, ap, sym, ◌∙◌, append-nil, append_assoc, add-one}
use Rattle.std.proofs.Math.Seq.{drop-cons, take-suc}
use Rattle.std.proofs.lemmas.List.{drop_all}
use Rattle.std.specs.Prelude.{Vec}
use Rattle.std.specs.BTreeSet.{BTreeSet}
use Rattle.std.specs.List.{AllByRecursion, filter, list_any}
use Rattle.list_laws.proofs.Each.{all_so, all_filter}
use Rattle.list_laws.proofs.Lists.{any_snoc}
use Rattle.rdf_terms.specs.declared.term.Term.{Term}
use Rattle.bgp_core.specs.Solutions.{Places}
use Rattle.row_algebra.specs.Algebra.{row_eq, once, BindsOnly}
use Rattle.row_algebra.specs.Finding.{news, same_key, flagged, row_if, HasKeys}
use Rattle.row_algebra.proofs.Keys.{key_decides}

-- ---- filters

module _ {X : Type 0} where
  pub filter_same : (p q : X → Bool) (xs : List X) → AllByRecursion (λ x. p x ≡ q x) xs → filter p xs ≡ filter q xs
  filter_same p q [] h = refl
  filter_same p q (x ∷ xs) h = let one : p x ≡ q x = h.0 in let rest : filter p xs ≡ filter q xs = filter_same p q xs h.1 in cc

  filter_all : (p : X → Bool) (xs : List X) → ((x : X) → p x ≡ true) → filter p xs ≡ xs
  filter_all p [] h = refl
  filter_all p (x ∷ xs) h = let one : p x ≡ true = h x in let rest : filter p xs ≡ xs = filter_all p xs h in rw (one, rest) refl

  twice : (a b : Bool) (p : X → Bool) (x : X) (xs rest : List X) → p x ≡ b → filter p xs ≡ rest → filter p (cond a (x ∷ xs) xs) ≡ cond (a && b) (x ∷ rest) rest
  twice true b p x xs rest e h = rw (e, h) refl
  twice false b p x xs rest e h = h

  -- two filters are one
  pub filter_filter : (p q r : X → Bool) (xs : List X) → ((x : X) → r x ≡ (q x && p x)) → filter p (filter q xs) ≡ filter r xs
  filter_filter p q r [] h = refl
  filter_filter p q r (x ∷ xs) h =
      twice (q x) (p x) p x (filter q xs) (filter r xs) refl (filter_filter p q r xs h) ∙
      ap (λ (b : Bool). cond b (x ∷ filter r xs) (filter r xs)) (sym (h x))

-- ---- once by a test

abbrev once_by : (Places → Places → Bool) → List Places → List Places
once_by same [] = []
once_by same (r ∷ rs) = r ∷ filter (λ s. not (same r s)) (once_by same rs)

once_all : (P : Places → Type 0) (same : Places → Places → Bool) (rows : List Places) → AllByRecursion P rows → AllByRecursion P (once_by same rows)
once_all P same [] h = tt
once_all P same (r ∷ rs) h = (h.0, all_filter P (λ s. not (same r s)) (once_by same rs) (once_all P same rs h.1))

-- by tests that agree on these rows
once_same : (P : Places → Type 0) (same : Places → Places → Bool) → ((r s : Places) → P r → P s → same r s ≡ row_eq r s) → (rows : List Places) → AllByRecursion P rows → once_by same rows ≡ once rows
once_same P same agree [] h = refl
once_same P same agree (r ∷ rs) h =
    let rest : once_by same rs ≡ once rs = once_same P same agree rs h.1 in
    let one : filter (λ s. not (same r s)) (once_by same rs) ≡ filter (λ s. not (row_eq r s)) (once_by same rs) =
    filter_same (λ s. not (same r s)) (λ s. not (row_eq r s)) (once_by same rs) (all_so P (λ s. not (same r s) ≡ not (row_eq r s)) (λ s k. ap not (agree r s h.0 k)) (once_by same rs) (once_all P same rs h.1)) in
    ap (λ (l : List Places). r ∷ l) (one ∙ ap (filter (λ s. not (row_eq r s))) rest)

not_or : (a b : Bool) → not (a || b) ≡ (not a && not b)
not_or true b = refl
not_or false b = refl

row_first : (b : Bool) (r : Places) (rest : List Places) → row_if b r ++ rest ≡ cond b (r ∷ rest) rest
row_first true r rest = refl
row_first false r rest = refl

-- the flags of rows leave those of their own that do not stand before
flagged_news : (same : Places → Places → Bool) (before rows : List Places) → flagged (news same before rows) rows ≡ filter (λ s. not (list_any (λ b. same b s) before)) (once_by same rows)
flagged_news same before [] = refl
flagged_news same before (r ∷ rs) =
    let late : filter (λ s. not (list_any (λ b. same b s) before)) (filter (λ s. not (same r s)) (once_by same rs)) ≡ filter (λ s. not (list_any (λ b. same b s) (before ++ r ∷ []))) (once_by same rs) =
    filter_filter (λ s. not (list_any (λ b. same b s) before)) (λ s. not (same r s)) (λ s. not (list_any (λ b. same b s) (before ++ r ∷ []))) (once_by same rs)
    (λ s. ap not (any_snoc (λ b. same b s) before r) ∙ not_or (same r s) (list_any (λ b. same b s) before)) in
    row_first (not (list_any (λ b. same b r) before)) r (flagged (news same (before ++ r ∷ []) rs) rs) ∙
    ap (λ (l : List Places). cond (not (list_any (λ b. same b r) before)) (r ∷ l) l) (flagged_news same (before ++ r ∷ []) rs ∙ sym late)

fits_both : (width : ℕ) (names : List ℕ) (rows : List Places) → AllByRecursion (λ row. width ≡ length row) rows → AllByRecursion (BindsOnly names) rows → AllByRecursion (λ row. (width ≡ length row) × BindsOnly names row) rows
fits_both width names [] h g = tt
fits_both width names (r ∷ rows) h g = ((h.0, g.0), fits_both width names rows h.1 g.1)

-- the rows whose flags say that none before has their terms
pub flagged_once : (width : ℕ) (names : List ℕ) (rows : List Places) (flags : List Bool) → AllByRecursion (λ row. width ≡ length row) rows → AllByRecursion (BindsOnly names) rows → flags ≡ news (same_key names) [] rows → flagged flags rows ≡ once rows
flagged_once width names rows flags h g e =
    ap (λ (l : List Bool). flagged l rows) e ∙
    flagged_news (same_key names) [] rows ∙
    filter_all (λ s. not (list_any (λ b. same_key names b s) [])) (once_by (same_key names) rows) (λ s. refl) ∙
    once_same (λ row. (width ≡ length row) × BindsOnly names row) (same_key names) (λ r s a b. key_decides names r s (sym a.0 ∙ b.0) a.1 b.1) rows (fits_both width names rows h g)

-- ---- one more row

pub news_step : (same : Places → Places → Bool) (rows : List Places) (i : ℕ) (r : Places) (all flags flags' : List Bool) (b : Bool) → i < length rows → r ≡ get_or rows i r → b ≡ not (list_any (λ s. same s r) (take i rows)) → flags' ≡ flags ++ b ∷ [] → all ≡ flags ++ news same (take i rows) (drop i rows) → all ≡ flags' ++ news same (take (i + 1) rows) (drop (i + 1) rows)
news_step same rows i r all flags flags' b below at is add before =
    let rest : drop i rows ≡ r ∷ drop (suc i) rows = drop-cons rows i r below ∙ ap (λ (x : Places). x ∷ drop (suc i) rows) (sym at) in
    let front : take (suc i) rows ≡ take i rows ++ r ∷ [] = take-suc rows i r below ∙ ap (λ (x : Places). take i rows ++ x ∷ []) (sym at) in
    rw (add-one, front, add, is, append_assoc) (before ∙ ap (λ (l : List Places). flags ++ news same (take i rows) l) rest)

-- behind the last row
pub news_all : (same : Places → Places → Bool) (rows : List Places) (i : ℕ) (all flags : List Bool) → length rows ≤ i → all ≡ flags ++ news same (take i rows) (drop i rows) → flags ≡ all
news_all same rows i all flags past h = sym (append-nil flags) ∙ ap (λ (l : List Places). flags ++ news same (take i rows) l) (sym (drop_all i rows past)) ∙ sym h

-- a set that has the keys of the rows before the next, and its key
pub keys_step : {Z : Type 0} (names : List ℕ) (rows : List Places) (i : ℕ) (r : Places) (seen : BTreeSet (Vec (Option (Bor Term)) Z)) → i < length rows → r ≡ get_or rows i r → HasKeys names (take i rows ++ r ∷ []) seen → HasKeys names (take (i + 1) rows) seen
keys_step {Z} names rows i r seen below at h =
    let front : take (suc i) rows ≡ take i rows ++ r ∷ [] = take-suc rows i r below ∙ ap (λ (x : Places). take i rows ++ x ∷ []) (sym at) in
    rw (add-one, front) h

set_step : (tie old : Bool) → cond tie true old ≡ (tie || old)
set_step true old = refl
set_step false old = refl

-- one key more
pub seen_more : (p : Places → Bool) (before : List Places) (r : Places) (new tie old : Bool) → new ≡ cond tie true old → tie ≡ p r → old ≡ list_any p before → new ≡ list_any p (before ++ r ∷ [])
seen_more p before r new tie old e is h = e ∙ set_step tie old ∙ ap (λ (b : Bool). b || old) is ∙ ap (λ b. p r || b) h ∙ sym (any_snoc p before r)

-- behind the last row no flag is read
flagged_none : (flags : List Bool) → flagged flags [] ≡ []
flagged_none [] = refl
flagged_none (b ∷ flags) = refl

pub flagged_all : (kept whole rows : List Places) (flags : List Bool) → kept ++ flagged flags rows ≡ whole → rows ≡ [] → kept ≡ whole
flagged_all kept whole rows flags h e = sym (append-nil kept) ∙ sym (ap (λ (l : List Places). kept ++ l) (ap (flagged flags) e ∙ flagged_none flags)) ∙ h
