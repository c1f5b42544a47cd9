-- The number of the version that the start page told of the server of an address.
use Rattle.std.proofs.Common.{ℕ, suc, ◌≡◌, ◌<◌, inl, inr, Bool, true, false, if◌then◌else◌, List, [], ◌∷◌, map, length, Option, Some, refl, sym, ap, subst, ◌∙◌, ⊎_elim, arith}
use Rattle.std.specs.Str.{bytes_eq}
use Rattle.std.specs.List.{All, Contains}
use Rattle.std.proofs.lemmas.Bool.{false_from_ne_true}
use Rattle.std.proofs.lemmas.Slice.Eq.{bytes_eq-Decides}
use Rattle.std.proofs.lemmas.List.Elements.{All-contains}
use Rattle.list_laws.proofs.Members.{head_or_tail, none_in, one_of}
use Rattle.tpf_base.specs.Addresses.{Address, authority_of}
use Rattle.template_fill.specs.Authorities.{ShareAuthority}
use Rattle.tpf_client.specs.Told.{told_at}
use Rattle.tpf_client.specs.Offers.{HasAmong}
use Rattle.federated_query.specs.Servers.{AreApart}
use Rattle.federated_query.proofs.Standing.{same-authority}

-- as `told_at` has it
abbrev pub number_at : List Address → List ℕ → Address → ℕ
number_at starts [] address = 0
number_at [] (n ∷ ns) address = n
number_at (start ∷ []) (n ∷ ns) address = n
number_at (start ∷ next ∷ starts) (n ∷ ns) address = if bytes_eq (authority_of start) (authority_of address) then n else number_at (next ∷ starts) ns address

by-test : (b : Bool) (n m : ℕ) (x : Option ℕ) → x ≡ Some m → (if b then Some n else x) ≡ Some (if b then n else m)
by-test true n m x e = refl
by-test false n m x e = e

pub told-number : (starts : List Address) (ns : List ℕ) (address : Address) → 0 < length ns → length starts ≡ length ns → told_at starts (map (λ n. Some n) ns) address ≡ Some (number_at starts ns address)
told-number starts [] address some same = absurd (let e : length {A = ℕ} [] ≡ 0 = refl in omega (arith, some, e))
told-number [] (n ∷ ns) address some same = refl
told-number (start ∷ []) (n ∷ ns) address some same = refl
told-number (start ∷ next ∷ starts) (n ∷ ns) address some same =
    by-test (bytes_eq (authority_of start) (authority_of address)) n (number_at (next ∷ starts) ns address) (told_at (next ∷ starts) (map (λ m. Some m) ns) address)
    (told-number (next ∷ starts) ns address (more (length starts) (length ns) (less (length starts) (length ns) same)) (less (length starts) (length ns) same))
  where
    less : (a b : ℕ) → suc (suc a) ≡ suc b → suc a ≡ b
    less a b e = omega (arith, e)

    more : (a b : ℕ) → suc a ≡ b → 0 < b
    more a b e = omega (arith, e)

-- the address has the authority of the start, or of one that is apart from it
pub is-here : (start address : Address) → ShareAuthority start address → bytes_eq (authority_of start) (authority_of address) ≡ true
is-here start address own = (bytes_eq-Decides (authority_of start) (authority_of address)).1 (same-authority start address own)

pub not-here : (start home address : Address) → (authority_of start ≡ authority_of home → ⊥) → ShareAuthority home address → authority_of start ≡ authority_of address → ⊥
not-here start home address apart own e = apart (e ∙ sym (same-authority home address own))

pub is-behind : (start home address : Address) → (authority_of start ≡ authority_of home → ⊥) → ShareAuthority home address → bytes_eq (authority_of start) (authority_of address) ≡ false
is-behind start home address apart own =
    false_from_ne_true (bytes_eq (authority_of start) (authority_of address)) (λ e. not-here start home address apart own ((bytes_eq-Decides (authority_of start) (authority_of address)).0 e))

pub apart-from : (start : Address) (starts : List Address) (home : Address) → All (λ other. authority_of start ≡ authority_of other → ⊥) starts → Contains starts home → authority_of start ≡ authority_of home → ⊥
apart-from start starts home apart m = All-contains (λ x. authority_of start ≡ authority_of x → ⊥) starts home apart m

pub has-number : (starts : List Address) (ns : List ℕ) → length starts ≡ length ns → AreApart starts → (address home : Address) → Contains starts home → ShareAuthority home address → HasAmong starts ns address (number_at starts ns address)
has-number [] ns same apart address home c own = absurd (none_in home c)
has-number (start ∷ starts) [] same apart address home c own = absurd (let e : length (start ∷ starts) ≡ suc (length starts) = refl in omega (arith, same, e))
has-number (start ∷ []) (n ∷ ns) same apart address home c own = inl (subst (λ (x : Address). ShareAuthority x address) (sym (one_of start home c)) own, refl)
has-number (start ∷ next ∷ starts) (n ∷ ns) same apart address home c own =
    ⊎_elim
    (λ (e : start ≡ home). let mine : ShareAuthority start address = subst (λ (x : Address). ShareAuthority x address) (sym e) own in
    let r : HasAmong (start ∷ next ∷ starts) (n ∷ ns) address (number_at (start ∷ next ∷ starts) (n ∷ ns) address) = inl (mine, ap (λ (b : Bool). if b then n else number_at (next ∷ starts) ns address) (is-here start address mine)) in r)
    (λ (m : Contains (next ∷ starts) home). let rest = has-number (next ∷ starts) ns (less (length starts) (length ns) same) apart.1 address home m own in
    let skip : number_at (start ∷ next ∷ starts) (n ∷ ns) address ≡ number_at (next ∷ starts) ns address = ap (λ (b : Bool). if b then n else number_at (next ∷ starts) ns address) (is-behind start home address (apart-from start (next ∷ starts) home apart.0 m) own) in
    let r : HasAmong (start ∷ next ∷ starts) (n ∷ ns) address (number_at (start ∷ next ∷ starts) (n ∷ ns) address) = inr (subst (λ (k : ℕ). HasAmong (next ∷ starts) ns address k) (sym skip) rest) in r)
    (head_or_tail start home (next ∷ starts) c)
  where
    less : (a b : ℕ) → suc (suc a) ≡ suc b → suc a ≡ b
    less a b e = omega (arith, e)
