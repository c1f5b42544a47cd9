-- What is known of a label where it is taken.
use Rattle.std.proofs.Common.{ℕ, ◌≡◌, ◌+◌, ◌<◌, Bool, true, false, List, ◌∷◌, Option, Some, sym, ap, ◌∙◌, drop, length, get_or}
use Rattle.query_words.specs.declared.word.Word.{Word}
use Rattle.group_faults.specs.Faults.{label_text, block_after, with_label, at_label, by_label, shared_from}
use Rattle.group_faults.specs.Walks.{Takes}
use Rattle.group_faults.proofs.Runs.{at_token}

pub label_taken : (first now : List ℕ → Option ℕ) (n : ℕ) (w : Word) (t : List ℕ) (r : Bool) (rest : List Word) → label_text w.value ≡ Some t → Takes first n t r now → r ≡ false → shared_from now n rest ≡ shared_from first n (w ∷ rest)
label_taken first now n w t true rest e k h = absurd (cc)
label_taken first now n w t false rest e k h =
    k w.at (λ g. shared_from g n rest) ∙
    sym (ap (λ (o : Option (List ℕ)). by_label o (λ t. at_label (first t) n w.at (shared_from (with_label first t n) n rest) (shared_from first n rest)) (shared_from first (block_after n w.value) rest)) e)

-- the same, where the block is told apart
pub label_goes : (first now : List ℕ → Option ℕ) (n m : ℕ) (w : Word) (t : List ℕ) (r : Bool) (rest : List Word) → m ≡ n → label_text w.value ≡ Some t → Takes first n t r now → r ≡ false → shared_from now m rest ≡ shared_from first n (w ∷ rest)
label_goes first now n m w t r rest b e k h = ap (λ (i : ℕ). shared_from now i rest) b ∙ label_taken first now n w t r rest e k h

-- ---- one token of the walk

pub shared_found : (first : List ℕ → Option ℕ) (n : ℕ) (ws : List Word) (i : ℕ) (w : Word) → i < length ws → w ≡ get_or ws i w → ((rest : List Word) → shared_from first n (w ∷ rest) ≡ Some w.at) → (all : Option ℕ) → shared_from first n (drop i ws) ≡ all → Some w.at ≡ all
shared_found first n ws i w l e f all h = sym (f (drop (i + 1) ws)) ∙ sym (ap (shared_from first n) (at_token ws i w l e)) ∙ h

pub shared_goes : (first now : List ℕ → Option ℕ) (n m : ℕ) (ws : List Word) (i : ℕ) (w : Word) → i < length ws → w ≡ get_or ws i w → ((rest : List Word) → shared_from now m rest ≡ shared_from first n (w ∷ rest)) → (all : Option ℕ) → shared_from first n (drop i ws) ≡ all → shared_from now m (drop (i + 1) ws) ≡ all
shared_goes first now n m ws i w l e f all h = f (drop (i + 1) ws) ∙ sym (ap (shared_from first n) (at_token ws i w l e)) ∙ h
