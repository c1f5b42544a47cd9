-- One item more of a list that is gone through.
use Rattle.std.proofs.Common.{ℕ, ◌≡◌, ◌+◌, ◌<◌, ◌≤◌, Bool, ◌||◌, List, [], ◌∷◌, ◌++◌, length, take, get_or, map, refl, ap, sym, ◌∙◌, append-nil, add-one, Option, Some, None}
use Rattle.std.proofs.Math.Seq.{take-suc}
use Rattle.std.specs.List.{filter_map, list_any}
use Rattle.std.specs.Option.{option_to_list}
use Rattle.std.proofs.lemmas.List.{map-append, take_all}
use Rattle.std.proofs.lemmas.List.Elements.{filter_map-append}
use Rattle.list_laws.proofs.Lists.{any_snoc}
use Rattle.list_laws.proofs.Places.{any_default}

-- one item more
pub taken_more : {X : Type 0} (all : List X) (i : ℕ) (x : X) → i < length all → x ≡ get_or all i x → take (i + 1) all ≡ take i all ++ x ∷ []
taken_more all i x below at = rw add-one (take-suc all i x below ∙ ap (λ y. take i all ++ y ∷ []) (sym at))

-- all items are there
pub all_taken : {X : Type 0} (all : List X) (i : ℕ) → length all ≤ i → take i all ≡ all
all_taken all i h = take_all i all h

pub map_more_at : {X Y : Type 0} (f : X → Y) (all : List X) (i : ℕ) (d : X) (old new : List Y) → i < length all → old ≡ map f (take i all) → new ≡ old ++ f (get_or all i d) ∷ [] → new ≡ map f (take (i + 1) all)
map_more_at {X} {Y} f all i d old new below so_far added =
    let x = get_or all i d in
    added ∙ ap (λ (l : List Y). l ++ f x ∷ []) so_far ∙ sym (ap (map f) (taken_more all i x below (any_default all i d x below)) ∙ map-append f (take i all) (x ∷ []))

pub any_more : {X : Type 0} (p : X → Bool) (all : List X) (i : ℕ) (x : X) (old new : Bool) → i < length all → x ≡ get_or all i x → old ≡ list_any p (take i all) → new ≡ (p x || old) → new ≡ list_any p (take (i + 1) all)
any_more p all i x old new below at so_far added =
    added ∙ ap (λ (b : Bool). p x || b) so_far ∙ sym (ap (list_any p) (taken_more all i x below at) ∙ any_snoc p (take i all) x)

module _ {X Y Z : Type 0} (v : Z → Y) (f : X → Option Y) (all : List X) (i : ℕ) (x : X) (old new : List Z) (below : i < length all) (at : x ≡ get_or all i x) (so_far : map v old ≡ filter_map f (take i all)) where
  more : filter_map f (take (i + 1) all) ≡ filter_map f (take i all) ++ filter_map f (x ∷ [])
  more = ap (filter_map f) (taken_more all i x below at) ∙ filter_map-append f (take i all) (x ∷ [])

  pub listed_some : (z : Z) → f x ≡ Some (v z) → new ≡ old ++ z ∷ [] → map v new ≡ filter_map f (take (i + 1) all)
  listed_some z e added =
      let last : filter_map f (x ∷ []) ≡ v z ∷ [] = rw e refl in
      ap (map v) added ∙ map-append v old (z ∷ []) ∙ ap (λ (l : List Y). l ++ v z ∷ []) so_far ∙ sym (more ∙ ap (λ (l : List Y). filter_map f (take i all) ++ l) last)

  pub listed_none : f x ≡ None → new ≡ old → map v new ≡ filter_map f (take (i + 1) all)
  listed_none e same =
      let last : filter_map f (x ∷ []) ≡ [] = rw e refl in
      ap (map v) same ∙ so_far ∙ sym (append-nil (filter_map f (take i all))) ∙ sym (more ∙ ap (λ (l : List Y). filter_map f (take i all) ++ l) last)

-- one item more, which is there or not
pub listed_or_not : {X Y : Type 0} (f : X → Option Y) (all : List X) (i : ℕ) (x : X) (old new : List Y) → i < length all → x ≡ get_or all i x → old ≡ filter_map f (take i all) →
    new ≡ old ++ option_to_list (f x) → new ≡ filter_map f (take (i + 1) all)
listed_or_not {X} {Y} f all i x old new below at so_far added =
    added ∙ ap (λ (l : List Y). l ++ option_to_list (f x)) so_far ∙ ap (λ (l : List Y). filter_map f (take i all) ++ l) (sym (by (f x) refl))
    ∙ sym (ap (filter_map f) (taken_more all i x below at) ∙ filter_map-append f (take i all) (x ∷ []))
  where
    by : (o : Option Y) → f x ≡ o → filter_map f (x ∷ []) ≡ option_to_list (f x)
    by None e = rw e refl
    by (Some y) e = rw e refl

pub filter_map-map : {W X Y : Type 0} (f : X → Option Y) (g : W → X) (xs : List W) → filter_map f (map g xs) ≡ filter_map (λ w. f (g w)) xs
filter_map-map f g [] = refl
filter_map-map {W} {X} {Y} f g (x ∷ xs) = by (f (g x)) refl (filter_map-map f g xs)
  where
    by : (o : Option Y) → f (g x) ≡ o → filter_map f (map g xs) ≡ filter_map (λ w. f (g w)) xs → filter_map f (map g (x ∷ xs)) ≡ filter_map (λ w. f (g w)) (x ∷ xs)
    by None e ih = rw e ih
    by (Some y) e ih = rw e (ap (λ l. y ∷ l) ih)

module _ {W X Y Z : Type 0} (v : Z → Y) (f : X → Option Y) (g : W → X) (all : List W) (i : ℕ) (x : W) (old new : List Z) (below : i < length all) (at : x ≡ get_or all i x) (so_far : map v old ≡ filter_map f (map g (take i all))) where
  pub mapped_some : (z : Z) → f (g x) ≡ Some (v z) → new ≡ old ++ z ∷ [] → map v new ≡ filter_map f (map g (take (i + 1) all))
  mapped_some z e added = listed_some v (λ w. f (g w)) all i x old new below at (so_far ∙ filter_map-map f g (take i all)) z e added ∙ sym (filter_map-map f g (take (i + 1) all))

  pub mapped_none : f (g x) ≡ None → new ≡ old → map v new ≡ filter_map f (map g (take (i + 1) all))
  mapped_none e same = listed_none v (λ w. f (g w)) all i x old new below at (so_far ∙ filter_map-map f g (take i all)) e same ∙ sym (filter_map-map f g (take (i + 1) all))
