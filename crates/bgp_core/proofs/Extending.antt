-- What binding a part does to a row.
use Rattle.std.proofs.Common.{ℕ, zero, suc, ◌≡◌, ◌<◌, ◌⊎◌, inl, inr, Bool, if◌then◌else◌, true, false, [], ◌∷◌, length, Option, Some, None, slice_get, slice_set, refl, ap, sym, subst, ◌∙◌, arith}
use Rattle.std.proofs.Math.ListN.{length-set}
use Rattle.std.proofs.lemmas.Bool.{cases_eq}
use Rattle.rdf_terms.specs.Same.{term_eq}
use Rattle.rdf_terms.specs.declared.term.Term.{Term}
use Rattle.rdf_terms.specs.declared.term.Triple.{Triple}
use Rattle.rdf_terms.proofs.Equality.{term_same, term_self}
use Rattle.bgp_core.specs.declared.pattern.Part.{Part}
use Rattle.bgp_core.specs.declared.pattern.Part.TheVariants.{Fixed, Name}
use Rattle.bgp_core.specs.declared.pattern.Pattern.{Pattern}
use Rattle.bgp_core.specs.Solutions.{Places, put, bind, extended, extension}
use Rattle.bgp_core.specs.Queries.{HasPlaceFor, HasPlacesFor}
use Rattle.bgp_core.specs.Extends.{Becomes, IsNameOf, Grows, Extends}

pub get-set : (row : Places) (n : ℕ) (x y : Option Term) → slice_get row n ≡ Some x → slice_get (slice_set row n y) n ≡ Some y
get-set [] n x y h = cc
get-set (p ∷ row) zero x y h = refl
get-set (p ∷ row) (suc n) x y h = get-set row n x y h

pub get-set_other : (row : Places) (n k : ℕ) (y : Option Term) → (n ≡ k → ⊥) → slice_get (slice_set row n y) k ≡ slice_get row k
get-set_other [] n k y h = refl
get-set_other (p ∷ row) zero zero y h = absurd (h refl)
get-set_other (p ∷ row) zero (suc k) y h = refl
get-set_other (p ∷ row) (suc n) zero y h = refl
get-set_other (p ∷ row) (suc n) (suc k) y h = get-set_other row n k y (λ e. h (ap suc e))

stays : (IsNew : ℕ → Type 0) (row : Places) → Grows IsNew row row
stays IsNew row = record { places = refl; keeps = λ k u h. h; others = λ k h. refl }

filled : (row : Places) (n : ℕ) (t : Term) → slice_get row n ≡ Some None → Grows (λ k. n ≡ k) row (slice_set row n (Some t))
filled row n t empty = record {
  places = length-set row n (Some t);
  keeps = λ k u h. elim (cases_eq n k) [
    | inl e ↦ (let here : slice_get row k ≡ Some None = subst (λ m. slice_get row m ≡ Some None) e empty in cc)
    | inr other ↦ get-set_other row n k (Some t) other ∙ h
  ];
  others = λ k other. get-set_other row n k (Some t) other;
}

chosen : (b : Bool) (row new : Places) → ◌≡◌ {A = Option Places} (if b then Some row else None) (Some new) → (b ≡ true) × (row ≡ new)
chosen true row new e = (refl, cc)
chosen false row new e = cc

put-some : (o : Option (Option Term)) (n : ℕ) (t : Term) (row new : Places) → slice_get row n ≡ o → put o n t row ≡ Some new → (slice_get new n ≡ Some (Some t)) × Grows (λ k. n ≡ k) row new
put-some None n t row new at e = cc
put-some (Some None) n t row new at e =
    let is : slice_set row n (Some t) ≡ new = cc in
    subst (λ (r : Places). (slice_get r n ≡ Some (Some t)) × Grows (λ k. n ≡ k) row r) is (get-set row n None (Some t) at, filled row n t at)
put-some (Some (Some u)) n t row new at e =
    let c = chosen (term_eq u t) row new e in
    let same : u ≡ t = term_same u t c.0 in
    let here : slice_get row n ≡ Some (Some t) = at ∙ ap (λ (x : Term). let y : Option (Option Term) = Some (Some x) in y) same in
    subst (λ (r : Places). (slice_get r n ≡ Some (Some t)) × Grows (λ k. n ≡ k) row r) c.1 (here, stays _ row)

pub bind-some : (p : Part) (t : Term) (row new : Places) → bind p t row ≡ Some new → Becomes new p t × Grows (λ k. IsNameOf k p) row new
bind-some (Fixed u) t row new e =
    let c = chosen (term_eq u t) row new e in
    subst (λ (r : Places). (u ≡ t) × Grows (λ k. ⊥) row r) c.1 (term_same u t c.0, stays _ row)
bind-some (Name n) t row new e = put-some (slice_get row n) n t row new refl e

-- ---- the whole pattern

extended_some : (o : Option Places) (f : Places → Option Places) (y : Places) → extended o f ≡ Some y → (x : Places) × (o ≡ Some x) × (f x ≡ Some y)
extended_some None f y e = cc
extended_some (Some x) f y e = (x, refl, e)

kept : (p : Part) (t : Term) (row new : Places) → ((k : ℕ) (u : Term) → slice_get row k ≡ Some (Some u) → slice_get new k ≡ Some (Some u)) → Becomes row p t → Becomes new p t
kept (Fixed u) t row new h b = b
kept (Name n) t row new h b = h n t b

pub extension-some : (p : Pattern) (row : Places) (t : Triple) (new : Places) → extension p row t ≡ Some new → Extends p row t new
unfolding extension
extension-some p row t new e =
    let o = extended_some (extended (bind p.subject t.subject row) (bind p.predicate t.predicate)) (bind p.object t.object) new e in
    let q = extended_some (bind p.subject t.subject row) (bind p.predicate t.predicate) o.0 o.1 in
    let s = bind-some p.subject t.subject row q.0 q.1 in
    let r = bind-some p.predicate t.predicate q.0 o.0 q.2 in
    let b = bind-some p.object t.object o.0 new o.2 in
    record {
      subject = kept p.subject t.subject o.0 new b.1.keeps (kept p.subject t.subject q.0 o.0 r.1.keeps s.0);
      predicate = kept p.predicate t.predicate o.0 new b.1.keeps r.0;
      object = b.0;
      grows = record {
        places = b.1.places ∙ r.1.places ∙ s.1.places;
        keeps = λ k u h. b.1.keeps k u (r.1.keeps k u (s.1.keeps k u h));
        others = λ k other. b.1.others k (λ x. other (inr (inr x))) ∙ r.1.others k (λ x. other (inr (inl x))) ∙ s.1.others k (λ x. other (inl x));
      };
    }

no_place : (row : Places) (n : ℕ) → n < length row → slice_get row n ≡ None → ⊥
no_place [] n h e = omega arith
no_place (p ∷ row) zero h e = cc
no_place (p ∷ row) (suc n) h e = no_place row n (omega arith) e

put-at : (o : Option (Option Term)) (n : ℕ) (t : Term) (row final : Places) → slice_get row n ≡ o → n < length row → slice_get final n ≡ Some (Some t) → ((k : ℕ) (u : Term) → slice_get row k ≡ Some (Some u) → slice_get final k ≡ Some (Some u)) →
    (mid : Places) × (put o n t row ≡ Some mid) × ((k : ℕ) (u : Term) → slice_get mid k ≡ Some (Some u) → slice_get final k ≡ Some (Some u))
put-at None n t row final at h b keeps = absurd (no_place row n h at)
put-at (Some None) n t row final at h b keeps = (
  slice_set row n (Some t),
  refl,
  λ k u e. elim (cases_eq n k) [
    | inl s ↦ (let here : slice_get (slice_set row n (Some t)) k ≡ Some (Some t) = subst (λ m. slice_get (slice_set row n (Some t)) m ≡ Some (Some t)) s (get-set row n None (Some t) at) in
        let there : slice_get final k ≡ Some (Some t) = subst (λ m. slice_get final m ≡ Some (Some t)) s b in cc)
    | inr other ↦ keeps k u (sym (get-set_other row n k (Some t) other) ∙ e)
  ],
)
put-at (Some (Some u)) n t row final at h b keeps =
    let there : slice_get final n ≡ Some (Some u) = keeps n u at in
    let same : u ≡ t = cc in
    let passes : term_eq u t ≡ true = subst (λ (x : Term). term_eq u x ≡ true) same (term_self u) in
    (row, rw passes refl, keeps)

pub bind-at : (p : Part) (t : Term) (row final : Places) → HasPlaceFor (length row) p → Becomes final p t → ((k : ℕ) (u : Term) → slice_get row k ≡ Some (Some u) → slice_get final k ≡ Some (Some u)) →
    (mid : Places) × (bind p t row ≡ Some mid) × ((k : ℕ) (u : Term) → slice_get mid k ≡ Some (Some u) → slice_get final k ≡ Some (Some u))
bind-at (Fixed u) t row final h b keeps =
    let passes : term_eq u t ≡ true = subst (λ (x : Term). term_eq u x ≡ true) b (term_self u) in
    (row, rw passes refl, keeps)
bind-at (Name n) t row final h b keeps = put-at (slice_get row n) n t row final refl h b keeps

-- two rows of one length with the same places are one
same_places : (a b : Places) → length a ≡ length b → ((k : ℕ) → slice_get a k ≡ slice_get b k) → a ≡ b
same_places [] [] l h = refl
same_places [] (y ∷ ys) l h = absurd (omega (arith, l))
same_places (x ∷ xs) [] l h = absurd (omega (arith, l))
same_places (x ∷ xs) (y ∷ ys) l h =
    let first : ◌≡◌ {A = Option (Option Term)} (Some x) (Some y) = h 0 in
    let head : x ≡ y = cc in
    let tail : xs ≡ ys = same_places xs ys (omega (arith, l)) (λ k. h (suc k)) in
    cc

NotBound : Option (Option Term) → Type 0
NotBound None = Unit {0}
NotBound (Some None) = Unit {0}
NotBound (Some (Some u)) = ⊥

not_name : (row : Places) (k : ℕ) (p : Part) (t : Term) → Becomes row p t → NotBound (slice_get row k) → IsNameOf k p → ⊥
unfolding NotBound
not_name row k (Fixed u) t b free h = h
not_name row k (Name n) t b free h =
    let here : slice_get row k ≡ Some (Some t) = subst (λ m. slice_get row m ≡ Some (Some t)) h b in
    subst NotBound here free

none_of : (p : Pattern) (t : Triple) (mid : Places) (k : ℕ) {row : Places} → Extends p row t mid → NotBound (slice_get mid k) → (IsNameOf k p.subject ⊎ (IsNameOf k p.predicate ⊎ IsNameOf k p.object)) → ⊥
none_of p t mid k e free (inl h) = not_name mid k p.subject t.subject e.subject free h
none_of p t mid k e free (inr (inl h)) = not_name mid k p.predicate t.predicate e.predicate free h
none_of p t mid k e free (inr (inr h)) = not_name mid k p.object t.object e.object free h

made : (p : Pattern) (row : Places) (t : Triple) (a b c : Places) → bind p.subject t.subject row ≡ Some a → bind p.predicate t.predicate a ≡ Some b → bind p.object t.object b ≡ Some c → extension p row t ≡ Some c
unfolding extension
made p row t a b c x y z = rw (x, y, z) refl

at_place : (p : Pattern) (row : Places) (t : Triple) (mid final : Places) → Extends p row t mid → Extends p row t final → ((k : ℕ) (u : Term) → slice_get mid k ≡ Some (Some u) → slice_get final k ≡ Some (Some u)) → (k : ℕ) (o : Option (Option Term)) → slice_get mid k ≡ o → slice_get mid k ≡ slice_get final k
unfolding NotBound
at_place p row t mid final e f keeps k (Some (Some u)) at = at ∙ sym (keeps k u at)
at_place p row t mid final e f keeps k (Some None) at =
    let free : NotBound (slice_get mid k) = subst NotBound (sym at) tt in
    let no = λ (h : IsNameOf k p.subject ⊎ (IsNameOf k p.predicate ⊎ IsNameOf k p.object)). none_of p t mid k e free h in
    e.grows.others k no ∙ sym (f.grows.others k no)
at_place p row t mid final e f keeps k None at =
    let free : NotBound (slice_get mid k) = subst NotBound (sym at) tt in
    let no = λ (h : IsNameOf k p.subject ⊎ (IsNameOf k p.predicate ⊎ IsNameOf k p.object)). none_of p t mid k e free h in
    e.grows.others k no ∙ sym (f.grows.others k no)

pub extension-only : (p : Pattern) (row : Places) (t : Triple) (final : Places) → HasPlacesFor (length row) p → Extends p row t final → extension p row t ≡ Some final
extension-only p row t final h f =
    let s = bind-at p.subject t.subject row final h.subject f.subject f.grows.keeps in
    let one : length s.0 ≡ length row = (bind-some p.subject t.subject row s.0 s.1).1.places in
    let r = bind-at p.predicate t.predicate s.0 final (subst (λ n. HasPlaceFor n p.predicate) (sym one) h.predicate) f.predicate s.2 in
    let two : length r.0 ≡ length row = (bind-some p.predicate t.predicate s.0 r.0 r.1).1.places ∙ one in
    let b = bind-at p.object t.object r.0 final (subst (λ n. HasPlaceFor n p.object) (sym two) h.object) f.object r.2 in
    let is : extension p row t ≡ Some b.0 = made p row t s.0 r.0 b.0 s.1 r.1 b.1 in
    let e : Extends p row t b.0 = extension-some p row t b.0 is in
    let same : b.0 ≡ final = same_places b.0 final (e.grows.places ∙ sym f.grows.places) (λ k. at_place p row t b.0 final e f b.2 k (slice_get b.0 k) refl) in
    is ∙ ap (λ (x : Places). let y : Option Places = Some x in y) same
