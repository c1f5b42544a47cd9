-- A link is taken out of a list, or put behind one.
use Rattle.std.proofs.Common.{ℕ, ◌≡◌, ◌+◌, ◌<◌, ◌++◌, List, ◌∷◌, length, take, drop, sym, ◌∙◌, ap, suc, slice_index_or, add-one, drop-cons}
use Rattle.std.proofs.lemmas.List.{take-append-drop}
use Rattle.request_pool.specs.declared.asks.Spare.{Spare}
use Rattle.request_pool.specs.Polls.{TakesOne}

dropped : (xs : List Spare) (i : ℕ) (x : Spare) → i < length xs → x ≡ slice_index_or xs i x → drop i xs ≡ x ∷ drop (i + 1) xs
dropped xs i x h e = rw (add-one, drop-cons xs i x) (ap (λ (y : Spare). y ∷ drop (suc i) xs) (sym e))

pub takes_one : (xs ys : List Spare) (i : ℕ) (x : Spare) → i < length xs → x ≡ slice_index_or xs i x → ys ≡ take i xs ++ drop (i + 1) xs → TakesOne x xs ys
takes_one xs ys i x h e is = record {
  before = take i xs;
  after = drop (i + 1) xs;
  is_old = sym (take-append-drop i xs) ∙ ap (λ (l : List Spare). take i xs ++ l) (dropped xs i x h e);
  is_new = is;
}
