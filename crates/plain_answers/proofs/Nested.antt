-- Nested matching takes one triple more.
use Rattle.std.proofs.Common.{ℕ, ◌≡◌, ◌+◌, ◌<◌, List, [], ◌∷◌, ◌++◌, length, map, take, get_or, Option, Some, None, sym, ap, ◌∙◌}
use Rattle.std.specs.List.{flat_map}
use Rattle.std.proofs.lemmas.List.{map_more, flat_map_more}
use Rattle.bgp_core.specs.Solutions.{Places, rows_from}

-- what a row that there is gives stands behind what was there
pub some_added : {A : Type 0} (o : Option Places) (row : Places) (f : Places → List A) (old new : List A) → o ≡ Some row → new ≡ old ++ f row → new ≡ old ++ rows_from o f
some_added o row f old new is e = e ∙ ap (λ (p : Option Places). old ++ rows_from p f) (sym is)

-- where there is no row nothing is added
pub none_added : {A : Type 0} (o : Option Places) (f : Places → List A) (old new : List A) → o ≡ None → new ≡ old ++ [] → new ≡ old ++ rows_from o f
none_added o f old new is e = e ∙ ap (λ (p : Option Places). old ++ rows_from p f) (sym is)

-- what one item more gives stands behind what those before it give
pub one_more : {X Y A : Type 0} (g : X → Y) (f : Y → List A) (xs : List X) (i : ℕ) (x : X) (had old new : List A)
    → i < length xs → x ≡ get_or xs i x → old ≡ had ++ flat_map f (map g (take i xs)) → new ≡ old ++ f (g x) → new ≡ had ++ flat_map f (map g (take (i + 1) xs))
one_more g f xs i x had old new below is before e =
    e ∙ ap (λ l. l ++ f (g x)) before ∙ flat_map_more f had (map g (take i xs)) (g x)
    ∙ ap (λ y. had ++ flat_map f (map g (take i xs) ++ g y ∷ [])) is
    ∙ ap (λ l. had ++ flat_map f l) (sym (map_more g xs i x below))
