-- The bytes of requests and heads, part by part.
use Rattle.std.proofs.Common.{◌≡◌, ℕ, suc, ◌+◌, ◌<◌, List, [], ◌∷◌, ◌++◌, length, map, take, get_or, ap, sym, ◌∙◌, refl, arith, append_assoc, append-nil}
use Rattle.std.specs.Prelude.{codes}
use Rattle.std.specs.List.{flat_map}
use Rattle.std.proofs.Math.Seq.{take-append_seam, take-suc}
use Rattle.tpf_base.specs.HttpText.{request_text, status_line, field_line, answer_head}
use Rattle.http_wire.specs.declared.message.Field.{Field}
use Rattle.http_wire.specs.Fields.{pair_of, pairs_of}

-- what stood before stays at the front
pub ruleset fronts = (take-append_seam)

pub request_is : (authority target : List ℕ) → request_text authority target
    ≡ codes "GET " ++ (target ++ ((codes " HTTP/1.1" ++ (13 ∷ 10 ∷ []) ++ codes "Host: ") ++ (authority ++ (((13 ∷ 10 ∷ []) ++ codes "Accept: application/n-quads" ++ (13 ∷ 10 ∷ 13 ∷ 10 ∷ [])) ++ []))))
request_is authority target = simp append_assoc refl

pub status_is : (digits phrase : List ℕ) → status_line digits phrase ≡ codes "HTTP/1.1 " ++ (digits ++ (codes " " ++ (phrase ++ (13 ∷ 10 ∷ []))))
status_is digits phrase = simp append_assoc refl

pub field_is : (name value : List ℕ) → field_line (name, value) ≡ name ++ (codes ": " ++ (value ++ ((13 ∷ 10 ∷ []) ++ [])))
field_is name value = simp append_assoc refl

pub head_more : (digits phrase : List ℕ) (fields : List (List ℕ × List ℕ)) (old lines : List ℕ) → lines ≡ old ++ (status_line digits phrase ++ flat_map field_line fields)
    → lines ++ (13 ∷ 10 ∷ []) ≡ old ++ answer_head digits phrase fields
head_more digits phrase fields old lines is = ap (λ (x : List ℕ). x ++ (13 ∷ 10 ∷ [])) is ∙ append_assoc old _ _

-- ---- one line more

lines_next : (fields : List Field) (field : Field) → flat_map field_line (map pair_of (fields ++ field ∷ [])) ≡ flat_map field_line (map pair_of fields) ++ field_line (pair_of field)
lines_next [] field = append-nil (field_line (pair_of field))
lines_next (first ∷ more) field =
    ap (λ (l : List ℕ). field_line (pair_of first) ++ l) (lines_next more field)
    ∙ sym (append_assoc (field_line (pair_of first)) (flat_map field_line (map pair_of more)) (field_line (pair_of field)))

lines_up_to : (fields : List Field) (i : ℕ) (other : Field) → i < length fields
    → flat_map field_line (pairs_of (take (i + 1) fields)) ≡ flat_map field_line (pairs_of (take i fields)) ++ field_line (pair_of (get_or fields i other))
lines_up_to fields i other h =
    let e : i + 1 ≡ suc i = omega arith in
    ap (λ (n : ℕ). flat_map field_line (map pair_of (take n fields))) e
    ∙ ap (λ (l : List Field). flat_map field_line (map pair_of l)) (take-suc fields i other h)
    ∙ lines_next (take i fields) (get_or fields i other)

pub head_next : (digits phrase : List ℕ) (fields : List Field) (i : ℕ) (other field : Field) (old lines new : List ℕ) → i < length fields → field ≡ get_or fields i other
    → lines ≡ old ++ (status_line digits phrase ++ flat_map field_line (pairs_of (take i fields))) → new ≡ lines ++ field_line (pair_of field)
    → new ≡ old ++ (status_line digits phrase ++ flat_map field_line (pairs_of (take (i + 1) fields)))
head_next digits phrase fields i other field old lines new h is before appended =
    let text : List ℕ = flat_map field_line (pairs_of (take i fields)) in
    appended ∙ ap (λ (l : List ℕ). l ++ field_line (pair_of field)) before
    ∙ append_assoc old (status_line digits phrase ++ text) (field_line (pair_of field))
    ∙ ap (λ (l : List ℕ). old ++ l) (append_assoc (status_line digits phrase) text (field_line (pair_of field))
    ∙ ap (λ (l : List ℕ). status_line digits phrase ++ l) (ap (λ (f : Field). text ++ field_line (pair_of f)) is ∙ sym (lines_up_to fields i other h)))
