-- Maps from keys to places.
use Rattle.std.proofs.Common.{ℕ, suc, ◌≡◌, ◌<◌, ◌+◌, Bool, true, false, cond, if◌then◌else◌, List, [], ◌∷◌, ◌++◌, length, get_or, drop, Some, refl, ap, sym, ◌∙◌, append-nil, append_assoc, add-one}
use Rattle.std.proofs.Math.Seq.{drop-cons}
use Rattle.std.specs.Ordering.{is_eq, ordering_reverse}
use Rattle.std.specs.declared.cmp.Ordering.{Ordering}
use Rattle.std.specs.declared.cmp.Ordering.TheVariants.{Less, Equal, Greater}
use Rattle.std.specs.Cmp.{IsTotalOrder, Equal-is}
use Rattle.std.specs.Map.{lookup}
use Rattle.std.specs.BTreeMap.{BTreeMap, get, is_at, UpdatesBy}
use Rattle.row_algebra.specs.Finding.{places_where, listed, Adds}

lookup_same : {K X : Type 0} (f g : K → Bool) (es : List (K × X)) → ((k : K) → f k ≡ g k) → lookup f es ≡ lookup g es
lookup_same f g [] h = refl
lookup_same f g (e ∷ es) h = let one : f e.0 ≡ g e.0 = h e.0 in let rest : lookup f es ≡ lookup g es = lookup_same f g es h in cc

reversed : (o : Ordering) → is_eq (ordering_reverse o) ≡ is_eq o
reversed Less = refl
reversed Equal = refl
reversed Greater = refl

added_by : (b : Bool) (new old there w : List ℕ) (p : ℕ) → w ≡ there ++ p ∷ [] → (b ≡ true → old ≡ there) → (b ≡ true → new ≡ w) → (b ≡ false → new ≡ old) → new ≡ old ++ (if b then p ∷ [] else [])
added_by true new old there w p e f g h = g refl ∙ e ∙ ap (λ (l : List ℕ). l ++ p ∷ []) (sym (f refl))
added_by false new old there w p e f g h = h refl ∙ sym (append-nil old)

module _ {K : Type 0} {R : K → K → Ordering} (o : IsTotalOrder R) where
  turned : (x y : K) → is_eq (R x y) ≡ is_eq (R y x)
  turned x y = ap is_eq (o.antisymm x y) ∙ reversed (R y x)

  same_get : (m : BTreeMap K (List ℕ)) (k q : K) → is_eq (R k q) ≡ true → get R m q ≡ get R m k
  same_get m k q e = sym (lookup_same (is_at (R k)) (is_at (R q)) m.entries (λ x. ap is_eq (o.congr k q x ((Equal-is (R k q)).0 e))))

  -- one place more at a key
  pub added : (m n : BTreeMap K (List ℕ)) (k : K) (w : List ℕ) (p : ℕ) → UpdatesBy R (R k) m n (Some w) → w ≡ listed (get R m k) ++ p ∷ [] → Adds R k p m n
  added m n k w p updates e q =
      added_by (is_eq (R q k)) (listed (get R n q)) (listed (get R m q)) (listed (get R m k)) w p e
      (λ is. ap listed (same_get m k q (turned k q ∙ is)))
      (λ is. ap listed (updates.0 q ∙ ap (λ (b : Bool). cond b (Some w) (get R m q)) (turned k q ∙ is)))
      (λ is. ap listed (updates.0 q ∙ ap (λ (b : Bool). cond b (Some w) (get R m q)) (turned k q ∙ is)))

-- the next element of a list of which the places are gathered
next_place : (b c : Bool) (all old new rest : List ℕ) (i : ℕ) → c ≡ b → all ≡ old ++ (if b then i ∷ rest else rest) → new ≡ old ++ (if c then i ∷ [] else []) → all ≡ new ++ rest
next_place true true all old new rest i e f g = f ∙ sym (append_assoc old (i ∷ []) rest) ∙ ap (λ (l : List ℕ). l ++ rest) (sym g)
next_place false false all old new rest i e f g = f ∙ ap (λ (l : List ℕ). l ++ rest) (sym (append-nil old) ∙ sym g)
next_place true false all old new rest i e f g = cc
next_place false true all old new rest i e f g = cc

pub places_step : {X : Type 0} (p : X → Bool) (xs : List X) (i : ℕ) (x : X) (c : Bool) (all old new : List ℕ) → i < length xs → x ≡ get_or xs i x → c ≡ p x → all ≡ old ++ places_where p i (drop i xs) → new ≡ old ++ (if c then i ∷ [] else []) → all ≡ new ++ places_where p (i + 1) (drop (i + 1) xs)
places_step {X} p xs i x c all old new below at is before add =
    let rest : drop i xs ≡ x ∷ drop (suc i) xs = drop-cons xs i x below ∙ ap (λ (y : X). y ∷ drop (suc i) xs) (sym at) in
    rw add-one (next_place (p x) c all old new (places_where p (suc i) (drop (suc i) xs)) i is (before ∙ ap (λ (l : List X). old ++ places_where p i l) rest) add)
