-- A strictly ascending list is told by its members.
use Rattle.std.proofs.Common.{◌≡◌, ◌⊎◌, inl, inr, List, [], ◌∷◌, refl, ap, sym, subst, ◌∙◌, ⊎_elim}
use Rattle.std.specs.List.{AllByRecursion, Contains}
use Rattle.std.specs.List.Sorted.{IsStrictlySortedBy}
use Rattle.std.specs.Cmp.{IsTotalOrder}
use Rattle.std.specs.declared.cmp.Ordering.{Ordering}
use Rattle.std.specs.declared.cmp.Ordering.TheVariants.{Less}
use Rattle.std.specs.Ordering.{ordering_reverse}
use Rattle.std.proofs.lemmas.Cmp.{tied_itself}
use Rattle.list_laws.proofs.Members.{at_head, in_tail, head_or_tail, none_in}
use Rattle.list_laws.proofs.Lists.{cons_same}
use Rattle.list_laws.proofs.Ascending.{less_not_equal, less_not_greater}

pub all_in : {X : Type 0} (P : X → Type 0) (xs : List X) (x : X) → AllByRecursion P xs → Contains xs x → P x
all_in P [] x a h = absurd (none_in x h)
all_in P (y ∷ xs) x a h = ⊎_elim (λ e. subst P e a.0) (λ t. all_in P xs x a.1 t) (head_or_tail y x xs h)

module _ {X : Type 0} {R : X → X → Ordering} (o : IsTotalOrder R) where
  -- the first elements of two such lists with the same elements
  heads : (x y : X) (xs ys : List X) → AllByRecursion (λ t. R x t ≡ Less) xs → AllByRecursion (λ t. R y t ≡ Less) ys → (y ≡ x) ⊎ Contains ys x → (x ≡ y) ⊎ Contains xs y → x ≡ y
  heads x y xs ys a b (inl e) k = sym e
  heads x y xs ys a b (inr h) (inl e) = e
  heads x y xs ys a b (inr h) (inr k) =
      absurd (less_not_greater (sym (all_in (λ t. R x t ≡ Less) xs y a k) ∙ o.antisymm x y ∙ ap ordering_reverse (all_in (λ t. R y t ≡ Less) ys x b h)))

  -- an element of the one list's rest stands in the other's rest
  rest : (x y t : X) (xs ys : List X) → AllByRecursion (λ u. R x u ≡ Less) xs → x ≡ y → Contains xs t → (y ≡ t) ⊎ Contains ys t → Contains ys t
  rest x y t xs ys a e h (inl k) = absurd (less_not_equal (sym (all_in (λ u. R x u ≡ Less) xs t a h) ∙ ap (λ u. R x u) (sym (e ∙ k)) ∙ tied_itself o x))
  rest x y t xs ys a e h (inr k) = k

  pub one_list : (xs ys : List X) → IsStrictlySortedBy R xs → IsStrictlySortedBy R ys → ((t : X) → Contains xs t → Contains ys t) → ((t : X) → Contains ys t → Contains xs t) → xs ≡ ys
  unfolding IsStrictlySortedBy
  one_list [] [] s u f g = refl
  one_list [] (y ∷ ys) s u f g = absurd (none_in y (g y (at_head y ys)))
  one_list (x ∷ xs) [] s u f g = absurd (none_in x (f x (at_head x xs)))
  one_list (x ∷ xs) (y ∷ ys) s u f g =
      let e = heads x y xs ys s.0 u.0 (head_or_tail y x ys (f x (at_head x xs))) (head_or_tail x y xs (g y (at_head y ys))) in
      cons_same x y xs ys e (one_list xs ys s.1 u.1 (λ t h. rest x y t xs ys s.0 e h (head_or_tail y t ys (f t (in_tail x t xs h)))) (λ t h. rest y x t ys xs u.0 (sym e) h (head_or_tail x t xs (g t (in_tail y t ys h)))))
