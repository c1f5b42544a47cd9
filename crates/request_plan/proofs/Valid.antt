-- What is bound under a valid row by a valid triple is valid.
use Rattle.std.proofs.Common.{ℕ, zero, suc, ◌≡◌, ◌+◌, ◌<◌, ◌⊎◌, inl, inr, Bool, true, false, ◌&&◌, List, [], ◌∷◌, length, map, drop, drop-cons, get_or, Option, Some, None, slice_get, replicate, refl, ap, sym, subst, ◌∙◌, arith}
use Rattle.std.specs.List.{All, AllByRecursion, flat_map, list_all, remove}
use Rattle.std.proofs.lemmas.List.{get_or_default}
use Rattle.std.proofs.lemmas.Bool.{and_parts, cases_eq}
use Rattle.std.proofs.lemmas.List.Elements.{All-nil, All-cons, All-weaker}
use Rattle.list_laws.proofs.Each.{every_at}
use Rattle.rdf_terms.specs.declared.term.Term.{Term}
use Rattle.rdf_terms.specs.declared.term.Triple.{Triple}
use Rattle.rdf_terms.specs.Askable.{askable}
use Rattle.rdf_terms.specs.Valid.{IsValidTerm, IsValidTriple}
use Rattle.rdf_terms.specs.Kept.{IsValidSlot, AreValid}
use Rattle.bgp_core.specs.declared.pattern.Part.{Part}
use Rattle.bgp_core.specs.declared.pattern.Part.TheVariants.{Fixed, Name}
use Rattle.bgp_core.specs.declared.pattern.Pattern.{Pattern}
use Rattle.bgp_core.specs.Solutions.{Places, joined, extension, rows_from}
use Rattle.bgp_core.specs.Instances.{slot_of, slot, instance}
use Rattle.bgp_core.specs.Extends.{Becomes, IsNameOf}
use Rattle.bgp_core.specs.Queries.{IsValidPart, IsValidPattern, HasPlacesFor}
use Rattle.bgp_core.proofs.Extending.{extension-some}
use Rattle.bgp_core.proofs.Lengths.{IfLength, extension-length}
use Rattle.request_plan.specs.Plans.{HavePlacesFor, IsValidRow, found, all_askable}
use Rattle.request_plan.proofs.Lists.{all-flat_map}

name_or_not : (k : ℕ) (p : Part) → IsNameOf k p ⊎ (IsNameOf k p → ⊥)
name_or_not k (Fixed u) = inr (λ h. h)
name_or_not k (Name n) = cases_eq n k

named : (new : Places) (k : ℕ) (u : Term) (q : Part) (s : Term) → Becomes new q s → IsNameOf k q → slice_get new k ≡ Some (Some u) → s ≡ u
named new k u (Fixed v) s b h at = absurd h
named new k u (Name m) s b h at =
    let there : slice_get new k ≡ Some (Some s) = subst (λ x. slice_get new x ≡ Some (Some s)) h b in
    cc

pub valid-extension : (p : Pattern) (row : Places) (t : Triple) (new : Places) → extension p row t ≡ Some new → IsValidRow row → IsValidTriple t → IsValidRow new
valid-extension p row t new e valid ok =
    let x = extension-some p row t new e in
    λ k u at. elim (name_or_not k p.subject) [
      | inl h ↦ subst IsValidTerm (named new k u p.subject t.subject x.subject h at) ok.subject
      | inr a ↦ elim (name_or_not k p.predicate) [
        | inl h ↦ subst IsValidTerm (named new k u p.predicate t.predicate x.predicate h at) ok.predicate
        | inr b ↦ elim (name_or_not k p.object) [
          | inl h ↦ subst IsValidTerm (named new k u p.object t.object x.object h at) ok.object
          | inr c ↦ valid k u (sym (x.grows.others k (λ h. elim h [ inl y ↦ a y | inr z ↦ elim z [ inl y ↦ b y | inr y ↦ c y ] ])) ∙ at)
        ]
      ]
    ]

one-made : (P : Places → Type 0) (o : Option Places) → ((r : Places) → o ≡ Some r → P r) → All P (rows_from o (λ r. r ∷ []))
one-made P None h = All-nil P
one-made P (Some r) h = All-cons P r [] (h r refl) (All-nil P)

-- what triples make of rows has what each triple leaves
pub found-all : (Q : Triple → Type 0) (P : Places → Type 0) (p : Pattern) (rows : List Places) (ts : List Triple) → ((row : Places) (t : Triple) (r : Places) → extension p row t ≡ Some r → P row → Q t → P r) → All Q ts → All P rows → All P (found p rows ts)
found-all Q P p rows ts step ok a =
    all-flat_map Q P (λ t. flat_map (λ row. rows_from (extension p row t) (λ r. r ∷ [])) rows) ts ok
    (λ t h. all-flat_map P P (λ row. rows_from (extension p row t) (λ r. r ∷ [])) rows a (λ row k. one-made P (extension p row t) (λ r e. step row t r e k h)))

-- what valid triples make of valid rows is valid
pub found-valid : (p : Pattern) (rows : List Places) (ts : List Triple) → All IsValidTriple ts → All IsValidRow rows → All IsValidRow (found p rows ts)
found-valid p rows ts ok v = found-all IsValidTriple IsValidRow p rows ts (λ row t r e k h. valid-extension p row t r e k h) ok v

every-triple : (ts : List Triple) → All (λ t. Unit {0}) ts
every-triple [] = All-nil (λ t. Unit {0})
every-triple (t ∷ ts) = All-cons (λ x. Unit {0}) t ts tt (every-triple ts)

if-long : (n : ℕ) (o : Option Places) (r : Places) → IfLength n o → o ≡ Some r → length r ≡ n
if-long n None r h e = cc
if-long n (Some x) r h e = let same : x ≡ r = cc in subst (λ (y : Places). length y ≡ n) same h

-- each row that triples make is as long as the row that it comes of
pub found-long : (P : ℕ → Type 0) (p : Pattern) (rows : List Places) (ts : List Triple) → All (λ row. P (length row)) rows → All (λ row. P (length row)) (found p rows ts)
found-long P p rows ts a =
    found-all (λ t. Unit {0}) (λ row. P (length row)) p rows ts (λ row t r e k h. subst P (sym (if-long (length row) (extension p row t) r (extension-length (length row) p row t refl) e)) k) (every-triple ts) a

pub name-valid : (row : Places) (n : ℕ) (o : Option (Option Term)) → slice_get row n ≡ o → IsValidRow row → IsValidSlot (slot_of (joined o))
name-valid row n None e h = tt
name-valid row n (Some None) e h = tt
name-valid row n (Some (Some u)) e h = h n u e

pub slot-valid : (row : Places) (q : Part) → IsValidPart q → IsValidRow row → IsValidSlot (slot row q)
slot-valid row (Fixed t) v h = v
slot-valid row (Name n) v h = name-valid row n (slice_get row n) refl h

pub instance-valid : (p : Pattern) (row : Places) → IsValidPattern p → IsValidRow row → AreValid (instance p row)
instance-valid p row v h = record { subject = slot-valid row p.subject v.subject h; predicate = slot-valid row p.predicate v.predicate h; object = slot-valid row p.object v.object h }

-- ---- one of all

pub list_all-at : {X : Type 0} (test : X → Bool) (xs : List X) (i : ℕ) (x : X) → list_all test xs ≡ true → i < length xs → x ≡ get_or xs i x → test x ≡ true
list_all-at test [] i x h l e = absurd (omega arith)
list_all-at test (y ∷ ys) zero x h l e = subst (λ z. test z ≡ true) (sym e) (and_parts (test y) (list_all test ys) h).0
list_all-at test (y ∷ ys) (suc i) x h l e = list_all-at test ys i x (and_parts (test y) (list_all test ys) h).1 (omega arith) e

pub askable-at : (row : Places) (ps : List Pattern) (i : ℕ) (p : Pattern) → all_askable row ps ≡ true → i < length ps → p ≡ get_or ps i p → askable (instance p row) ≡ true
askable-at row ps i p h l e = list_all-at (λ q. askable (instance q row)) ps i p h l e

pub askable-all-at : (rows : List Places) (ps : List Pattern) (i : ℕ) (p : Pattern) → All (λ row. all_askable row ps ≡ true) rows → i < length ps → p ≡ get_or ps i p → All (λ row. askable (instance p row) ≡ true) rows
askable-all-at rows ps i p a l e = All-weaker (λ row. all_askable row ps ≡ true) (λ row. askable (instance p row) ≡ true) (λ row h. askable-at row ps i p h l e) rows a

pub every-remove : {X : Type 0} (P : X → Type 0) (xs : List X) (i : ℕ) → AllByRecursion P xs → AllByRecursion P (remove xs i)
every-remove P [] zero h = h
every-remove P [] (suc i) h = h
every-remove P (y ∷ ys) zero h = h.1
every-remove P (y ∷ ys) (suc i) h = (h.0, every-remove P ys i h.1)

pub pattern-at : (ps : List Pattern) (i : ℕ) → i < length ps → (p : Pattern) × (p ≡ get_or ps i p)
pattern-at [] i h = absurd (omega arith)
pattern-at (q ∷ qs) i h = (get_or (q ∷ qs) i q, get_or_default (q ∷ qs) i q (get_or (q ∷ qs) i q) h)

pub found-askable : (row : Places) (ps : List Pattern) (i : ℕ) (found : Pattern) → all_askable row ps ≡ true → i < length ps → ((p : Pattern) → p ≡ get_or ps i p → found ≡ p) → askable (instance found row) ≡ true
found-askable row ps i found h l is =
    let p = pattern-at ps i l in
    subst (λ (x : Pattern). askable (instance x row) ≡ true) (sym (is p.0 p.1)) (askable-at row ps i p.0 h l p.1)

-- ---- tests of all patterns, from the front

askable-next : (row : Places) (ps : List Pattern) (i : ℕ) (found : Pattern) → i < length ps → ((p : Pattern) → p ≡ get_or ps i p → found ≡ p) → all_askable row (drop i ps) ≡ (askable (instance found row) && all_askable row (drop (i + 1) ps))
askable-next row ps i found l is =
    let p = pattern-at ps i l in
    let same : get_or ps i p.0 ≡ found = sym p.1 ∙ sym (is p.0 p.1) in
    let one : suc i ≡ i + 1 = omega arith in
    ap (λ (x : List Pattern). all_askable row x) (drop-cons ps i p.0 l) ∙ ap (λ (x : Pattern). askable (instance x row) && all_askable row (drop (suc i) ps)) same ∙ ap (λ k. askable (instance found row) && all_askable row (drop k ps)) one

pub askable-yes : (row : Places) (ps : List Pattern) (i : ℕ) (found : Pattern) (r rest : Bool) → i < length ps → ((p : Pattern) → p ≡ get_or ps i p → found ≡ p) → r ≡ askable (instance found row) → r ≡ true → rest ≡ all_askable row (drop (i + 1) ps) → rest ≡ all_askable row (drop i ps)
askable-yes row ps i found r rest l is e t h =
    let yes : askable (instance found row) ≡ true = sym e ∙ t in
    h ∙ ap (λ b. b && all_askable row (drop (i + 1) ps)) (sym yes) ∙ sym (askable-next row ps i found l is)

pub askable-no : (row : Places) (ps : List Pattern) (i : ℕ) (found : Pattern) (r : Bool) → i < length ps → ((p : Pattern) → p ≡ get_or ps i p → found ≡ p) → r ≡ askable (instance found row) → r ≡ false → r ≡ all_askable row (drop i ps)
askable-no row ps i found r l is e f =
    let no : askable (instance found row) ≡ false = sym e ∙ f in
    f ∙ ap (λ b. b && all_askable row (drop (i + 1) ps)) (sym no) ∙ sym (askable-next row ps i found l is)

pub found-every : (P : Pattern → Type 0) (ps : List Pattern) (i : ℕ) (found : Pattern) → AllByRecursion P ps → i < length ps → ((p : Pattern) → p ≡ get_or ps i p → found ≡ p) → P found
found-every P ps i found h l is = let p = pattern-at ps i l in subst P (sym (is p.0 p.1)) (every_at P ps i p.0 h l p.1)

pub places-remove : (ps : List Pattern) (rows : List Places) (i : ℕ) → HavePlacesFor ps rows → HavePlacesFor (remove ps i) rows
places-remove ps rows i a = All-weaker (λ row. AllByRecursion (HasPlacesFor (length row)) ps) (λ row. AllByRecursion (HasPlacesFor (length row)) (remove ps i)) (λ row h. every-remove (HasPlacesFor (length row)) ps i h) rows a

pub places-found : (ps : List Pattern) (rows : List Places) (i : ℕ) (found : Pattern) → HavePlacesFor ps rows → i < length ps → ((p : Pattern) → p ≡ get_or ps i p → found ≡ p) → All (λ row. HasPlacesFor (length row) found) rows
places-found ps rows i found a l is = All-weaker (λ row. AllByRecursion (HasPlacesFor (length row)) ps) (λ row. HasPlacesFor (length row) found) (λ row h. found-every (HasPlacesFor (length row)) ps i found h l is) rows a

pub found-places : (ps : List Pattern) (p : Pattern) (rows : List Places) (ts : List Triple) → HavePlacesFor ps rows → HavePlacesFor ps (found p rows ts)
found-places ps p rows ts a = found-long (λ n. AllByRecursion (HasPlacesFor n) ps) p rows ts a

pub found-askable-all : (rows : List Places) (ps : List Pattern) (i : ℕ) (found : Pattern) → All (λ row. all_askable row ps ≡ true) rows → i < length ps → ((p : Pattern) → p ≡ get_or ps i p → found ≡ p) → All (λ row. askable (instance found row) ≡ true) rows
found-askable-all rows ps i found a l is = All-weaker (λ row. all_askable row ps ≡ true) (λ row. askable (instance found row) ≡ true) (λ row h. found-askable row ps i found h l is) rows a

pub map-remove : {A B : Type 0} (f : A → B) (xs : List A) (i : ℕ) → map f (remove xs i) ≡ remove (map f xs) i
map-remove f [] zero = refl
map-remove f [] (suc i) = refl
map-remove f (x ∷ xs) zero = refl
map-remove f (x ∷ xs) (suc i) = ap (λ l. f x ∷ l) (map-remove f xs i)

-- ---- a row that binds nothing

pub empty-place : (n k : ℕ) (t : Term) → slice_get (replicate {A = Option Term} n None) k ≡ Some (Some t) → ⊥
empty-place zero k t e = cc
empty-place (suc n) zero t e = cc
empty-place (suc n) (suc k) t e = empty-place n k t e

pub empty-valid : (n : ℕ) → IsValidRow (replicate n None)
empty-valid n k t e = absurd (empty-place n k t e)
