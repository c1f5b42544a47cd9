-- Resolving escapes.
use Rattle.std.proofs.Common.{ℕ, suc, ◌≡◌, ◌+◌, ◌-◌, ◌<◌, ◌⊎◌, inl, inr, Bool, true, false, List, [], ◌∷◌, ◌++◌, length, take, drop, slice_index, Option, Some, None, nat_eq, refl, ap, sym, subst, ◌∙◌, arith, append_assoc, append-nil}
use Rattle.std.specs.Str.{IsUtf8}
use Rattle.std.proofs.lemmas.List.{drop_more, take_rest}
use Rattle.std.proofs.lemmas.Option.{same_Some}
use Rattle.list_laws.specs.Options.{◌>>=◌}
use Rattle.nquads_text.specs.declared.scan.Awaits.{Awaits}
use Rattle.nquads_text.specs.declared.scan.Awaits.TheVariants.{Item, Escape, Digits}
use Rattle.nquads_text.specs.Scan.{first_place, is_item}
use Rattle.nquads_text.specs.Escape.{Resolving, resolve_step, resolve_from, resolved}
use Rattle.nquads_text.specs.Meaning.{IsItem}
use Rattle.nquads_text.specs.Line.{IsWrittenText}
use Rattle.nquads_text.proofs.Lines.{chosen}
use Rattle.nquads_text.proofs.Resolve.{resolved_means}
use Rattle.nquads_text.proofs.Texts.{text_utf8}

-- ---- bytes without a backslash are appended as they are

abbrev is_back : ℕ → Bool
is_back b = nat_eq b 92

pub record Run (iri : Bool) (out : List ℕ) (i : ℕ) (bs : List ℕ) (m : ℕ) : Type 0 where
  pub n : ℕ
  pub place : m ≡ i + n
  pub same : resolve_from iri out Item 0 bs ≡ resolve_from iri (out ++ take n bs) Item 0 (drop n bs)

run_step : (iri : Bool) (out bs : List ℕ) (b i m : ℕ) → ((out : List ℕ) → first_place is_back (i + 1) bs ≡ Some m → Run iri out (i + 1) bs m)
    → ((nat_eq b 92 ≡ true) × (◌≡◌ {A = Option ℕ} (Some i) (Some m))) ⊎ ((nat_eq b 92 ≡ false) × (first_place is_back (i + 1) bs ≡ Some m)) → Run iri out i (b ∷ bs) m
run_step iri out bs b i m ih (inl here) =
    let same : i ≡ m = same_Some i m here.1 in
    record { n = 0; place = omega (arith, same); same = ap (λ (o : List ℕ). resolve_from iri o Item 0 (b ∷ bs)) (sym (append-nil out)) }
run_step iri out bs b i m ih (inr later) =
    let r = ih (out ++ b ∷ []) later.1 in
    let plain : nat_eq b 92 ≡ false = later.0 in
    let one : resolve_from iri out Item 0 (b ∷ bs) ≡ resolve_from iri (out ++ b ∷ []) Item 0 bs = rw plain refl in
    record { n = suc r.n; place = omega (arith, r.place); same = one ∙ r.same ∙ ap (λ (o : List ℕ). resolve_from iri o Item 0 (drop r.n bs)) (append_assoc out (b ∷ []) (take r.n bs)) }

run_from : (iri : Bool) (out : List ℕ) (i : ℕ) (bs : List ℕ) (m : ℕ) → first_place is_back i bs ≡ Some m → Run iri out i bs m
run_from iri out i [] m h = cc
run_from iri out i (b ∷ bs) m h = run_step iri out bs b i m (λ o. run_from iri o (i + 1) bs m) (chosen (nat_eq b 92) (Some i) (first_place is_back (i + 1) bs) (Some m) h)

pub run_at : (iri : Bool) (out bs : List ℕ) (n : ℕ) → first_place is_back 0 bs ≡ Some n → resolve_from iri out Item 0 bs ≡ resolve_from iri (out ++ take n bs) Item 0 (drop n bs)
run_at iri out bs n h =
    let r = run_from iri out 0 bs n h in
    let same : r.n ≡ n = omega (arith, r.place) in
    subst (λ (k : ℕ). resolve_from iri out Item 0 bs ≡ resolve_from iri (out ++ take k bs) Item 0 (drop k bs)) same r.same

plain_step : (iri : Bool) (out bs : List ℕ) (b i : ℕ) → (first_place is_back (i + 1) bs ≡ None → resolve_from iri (out ++ b ∷ []) Item 0 bs ≡ Some ((out ++ b ∷ []) ++ bs))
    → ((nat_eq b 92 ≡ true) × (◌≡◌ {A = Option ℕ} (Some i) None)) ⊎ ((nat_eq b 92 ≡ false) × (first_place is_back (i + 1) bs ≡ None)) → resolve_from iri out Item 0 (b ∷ bs) ≡ Some (out ++ b ∷ bs)
plain_step iri out bs b i ih (inl here) = cc
plain_step iri out bs b i ih (inr later) =
    let plain : nat_eq b 92 ≡ false = later.0 in
    rw plain (ih later.1 ∙ ap (λ (l : List ℕ). Some l) (append_assoc out (b ∷ []) bs))

pub plain_from : (iri : Bool) (out : List ℕ) (i : ℕ) (bs : List ℕ) → first_place is_back i bs ≡ None → resolve_from iri out Item 0 bs ≡ Some (out ++ bs)
plain_from iri out i [] h = ap (λ (l : List ℕ). Some l) (sym (append-nil out))
plain_from iri out i (b ∷ bs) h = plain_step iri out bs b i (plain_from iri (out ++ b ∷ []) (i + 1) bs) (chosen (nat_eq b 92) (Some i) (first_place is_back (i + 1) bs) None h)

pub plain_resolved : (iri : Bool) (bs : List ℕ) → first_place is_back 0 bs ≡ None → resolved iri bs ≡ Some bs
unfolding resolved
plain_resolved iri bs h = plain_from iri [] 0 bs h

-- before an item no digits are counted
pub before_any : (iri : Bool) (s : Awaits) (v : ℕ) (out bs : List ℕ) → is_item s ≡ true → resolve_from iri out s v bs ≡ resolve_from iri out Item 0 bs
before_any iri Item v out [] h = refl
before_any iri Item v out (b ∷ bs) h = refl
before_any iri Escape v out bs h = cc
before_any iri (Digits more) v out bs h = cc

-- an item ends at the byte in place i
pub item_done : (iri : Bool) (s t : Awaits) (v w i : ℕ) (out new bytes : List ℕ) (x : Option (List ℕ)) → x ≡ resolve_from iri out s v (drop i bytes) → i < length bytes → resolve_step iri out s v (slice_index bytes i) ≡ Some (new, t, w) → is_item t ≡ true
    → x ≡ resolve_from iri new Item 0 (take (length bytes - (i + 1)) (drop (i + 1) bytes))
item_done iri s t v w i out new bytes x e l step h =
    e
    ∙ ap (λ (bs : List ℕ). resolve_from iri out s v bs) (drop_more bytes i 0 l)
    ∙ ap (λ (o : Option Resolving). o >>= λ r. resolve_from iri r.0 r.1 r.2 (drop (i + 1) bytes)) step
    ∙ before_any iri t w new (drop (i + 1) bytes) h
    ∙ ap (λ (bs : List ℕ). resolve_from iri new Item 0 bs) (sym (take_rest bytes (i + 1)))

-- up to the backslash in place n
pub run_to : (iri : Bool) (out mid rest front back : List ℕ) (n : ℕ) (x : Option (List ℕ)) → x ≡ resolve_from iri out Item 0 rest → first_place is_back 0 rest ≡ Some n → front ≡ take n rest → back ≡ drop n rest → mid ≡ out ++ front → x ≡ resolve_from iri mid Item 0 back
run_to iri out mid rest front back n x e h f b m =
    e
    ∙ run_at iri out rest n h
    ∙ ap (λ (l : List ℕ). resolve_from iri (out ++ l) Item 0 (drop n rest)) (sym f)
    ∙ ap (λ (l : List ℕ). resolve_from iri l Item 0 (drop n rest)) (sym m)
    ∙ ap (λ (l : List ℕ). resolve_from iri mid Item 0 l) (sym b)

-- what is resolved is text
pub resolved_utf8 : (iri : Bool) (bytes text : List ℕ) → IsWrittenText (IsItem iri) bytes → resolve_from iri [] Item 0 bytes ≡ Some text → IsUtf8 text
unfolding resolved
resolved_utf8 iri bytes text w e = text_utf8 iri bytes text w.utf8 (resolved_means iri bytes text w.items e)
