-- A list that was only added to.
use Rattle.std.proofs.Common.{ℕ, ◌≡◌, List, [], ◌++◌, length, take, refl, ap, sym, ◌∙◌, append_assoc, append-nil}
use Rattle.std.proofs.lemmas.List.{take_at}
use Rattle.list_laws.specs.Begins.{Begins}

pub itself_begins : (old : List ℕ) → Begins old old
itself_begins old = record { more = []; same = sym (append-nil old) }

pub same_begins : (old new : List ℕ) → new ≡ old → Begins old new
same_begins old new e = record { more = []; same = e ∙ sym (append-nil old) }

pub more_begins : (old new more : List ℕ) → new ≡ old ++ more → Begins old new
more_begins old new more e = record { more = more; same = e }

pub begins_on : (a b d : List ℕ) → Begins a b → Begins b d → Begins a d
begins_on a b d h k = record { more = h.more ++ k.more; same = k.same ∙ ap (λ (l : List ℕ). l ++ k.more) h.same ∙ append_assoc a h.more k.more }

pub cut_back : (old new : List ℕ) → Begins old new → take (length old) new ≡ old
cut_back old new h = ap (λ (l : List ℕ). take (length old) l) h.same ∙ take_at old h.more (length old) refl
