-- One item more of what is gone through.
use Rattle.std.proofs.Common.{ℕ, ◌≡◌, ◌+◌, ◌<◌, ◌≤◌, List, [], ◌∷◌, ◌++◌, length, drop, get_or, map, sym, ap, ◌∙◌, append-nil}
use Rattle.std.specs.Char.{encode_utf8}
use Rattle.std.specs.Str.{encode_utf8_all}
use Rattle.std.proofs.lemmas.List.{drop_more, drop_all, append_assoc}
use Rattle.list_laws.proofs.Lists.{snoc_append}
use Rattle.list_laws.proofs.Places.{any_default}

-- the items from a place on are the one there and those behind it
pub from_place : {X : Type 0} (xs : List X) (i : ℕ) (x : X) → i < length xs → x ≡ get_or xs i x → drop i xs ≡ x ∷ drop (i + 1) xs
from_place {X} xs i x below at = drop_more xs i x below ∙ ap (λ (y : X). y ∷ drop (i + 1) xs) (sym at)

pub one_more : {X Y : Type 0} (f : X → Y) (xs : List X) (i : ℕ) (x : X) (before after whole : List Y) → i < length xs → x ≡ get_or xs i x → after ≡ before ++ f x ∷ [] → before ++ map f (drop i xs) ≡ whole → after ++ map f (drop (i + 1) xs) ≡ whole
one_more {X} {Y} f xs i x before after whole below at added so_far =
    ap (λ (l : List Y). l ++ map f (drop (i + 1) xs)) added ∙ snoc_append before (f x) (map f (drop (i + 1) xs))
    ∙ ap (λ (l : List X). before ++ map f l) (sym (from_place xs i x below at)) ∙ so_far

pub one_more_at : {X Y : Type 0} (f : X → Y) (xs : List X) (i : ℕ) (d : X) (before after whole : List Y) → i < length xs → after ≡ before ++ f (get_or xs i d) ∷ [] → before ++ map f (drop i xs) ≡ whole → after ++ map f (drop (i + 1) xs) ≡ whole
one_more_at f xs i d before after whole below added so_far = one_more f xs i (get_or xs i d) before after whole below (any_default xs i d (get_or xs i d) below) added so_far

pub no_more : {X Y : Type 0} (f : List X → List Y) (xs : List X) (i : ℕ) (before whole : List Y) → f [] ≡ [] → length xs ≤ i → before ++ f (drop i xs) ≡ whole → before ≡ whole
no_more {X} {Y} f xs i before whole none all so_far =
    sym (append-nil before) ∙ ap (λ (l : List Y). before ++ l) (sym none) ∙ ap (λ (l : List X). before ++ f l) (sym (drop_all i xs all)) ∙ so_far

-- one character more of a text
pub char_more : (c : ℕ) (rest next before after whole : List ℕ) → rest ≡ c ∷ next → after ≡ before ++ encode_utf8 c → before ++ encode_utf8_all rest ≡ whole → after ++ encode_utf8_all next ≡ whole
char_more c rest next before after whole is added so_far =
    ap (λ (l : List ℕ). l ++ encode_utf8_all next) added ∙ append_assoc before (encode_utf8 c) (encode_utf8_all next)
    ∙ ap (λ (l : List ℕ). before ++ encode_utf8_all l) (sym is) ∙ so_far
