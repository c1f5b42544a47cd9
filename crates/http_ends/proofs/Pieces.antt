-- The bytes of a link, cut behind each empty line.
use Rattle.std.proofs.Common.{append-nil, ◌≡◌, ℕ, ◌+◌, ◌-◌, ◌<◌, Bool, true, false, List, [], ◌∷◌, ◌++◌, length, take, drop, refl, sym, ap, if◌then◌else◌, ◌∙◌, subst, arith, append_assoc, length-append}
use Rattle.std.specs.Prelude.{codes, bytes_eq}
use Rattle.std.specs.List.{flat_map}
use Rattle.std.proofs.lemmas.Bool.{both_ways}
use Rattle.std.proofs.lemmas.List.{take-append-drop, drop_at}
use Rattle.std.proofs.lemmas.Slice.Eq.{bytes_eq-Decides}
use Rattle.tpf_base.specs.HttpHeads.{ends_empty}
use Rattle.tpf_base.specs.HttpText.{request_text}
use Rattle.http_ends.specs.Requests.{RequestParts, parts_text, IsPlain, PartsHaveNone, ends_in_empty_line, cut_pieces, PiecesAreRequests}
use Rattle.http_ends.proofs.EmptyLines.{EndsOnce, ends_three, front_no_end}
use Rattle.http_ends.proofs.Plain.{requests_differ}
use Rattle.http_ends.proofs.Requests.{request_ends}

pub parts_have_none : PartsHaveNone
parts_have_none asked part more plain is some other rest other_plain same =
    let whole : parts_text asked ++ [] ≡ parts_text other ++ (rest ++ more) =
    append-nil (parts_text asked) ∙ is ∙ ap (λ (t : List ℕ). t ++ more) same ∙ append_assoc (parts_text other) rest more in
    let left : [] ≡ rest ++ more = (requests_differ asked other [] (rest ++ more) plain other_plain whole).1 in
    let count : 0 ≡ length rest + length more = ap (λ (t : List ℕ). length t) left ∙ length-append rest more in
    omega (arith, count, some)

-- ---- ends

-- what ends in four such bytes ends in an empty line
four_end : (front : List ℕ) → ends_empty (front ++ 13 ∷ 10 ∷ 13 ∷ 10 ∷ []) (length (front ++ 13 ∷ 10 ∷ 13 ∷ 10 ∷ [])) ≡ true
four_end front =
    let count : length (front ++ 13 ∷ 10 ∷ 13 ∷ 10 ∷ []) ≡ length front + 4 = length-append front _ in
    let one : length (front ++ 13 ∷ []) ≡ length front + 1 = length-append front (13 ∷ []) in
    ap (λ (t : List ℕ). ends_empty t (length (front ++ 13 ∷ 10 ∷ 13 ∷ 10 ∷ []))) (sym (append_assoc front (13 ∷ []) (10 ∷ 13 ∷ 10 ∷ [])))
    ∙ ends_three (front ++ 13 ∷ []) 10 13 10 [] (length (front ++ 13 ∷ 10 ∷ 13 ∷ 10 ∷ [])) (omega arith)

says_end : (piece : List ℕ) → ends_in_empty_line piece ≡ true → ends_empty piece (length piece) ≡ true
says_end piece is =
    let last : drop (length piece - 4) piece ≡ 13 ∷ 10 ∷ 13 ∷ 10 ∷ [] = (bytes_eq-Decides (drop (length piece - 4) piece) (13 ∷ 10 ∷ 13 ∷ 10 ∷ [])).0 is in
    let whole : take (length piece - 4) piece ++ 13 ∷ 10 ∷ 13 ∷ 10 ∷ [] ≡ piece = ap (λ (t : List ℕ). take (length piece - 4) piece ++ t) (sym last) ∙ take-append-drop (length piece - 4) piece in
    subst (λ (t : List ℕ). ends_empty t (length t) ≡ true) whole (four_end (take (length piece - 4) piece))

no_end : (text front rest : List ℕ) → EndsOnce text → text ≡ front ++ rest → 0 < length rest → ends_in_empty_line front ≡ false
no_end text front rest once is some = decided (ends_in_empty_line front) refl
  where
    decided : (v : Bool) → ends_in_empty_line front ≡ v → v ≡ false
    decided false e = refl
    decided true e = absurd (both_ways (ends_empty front (length front)) (front_no_end text front rest (length front) once is some (omega arith)) (says_end front e))

four_said : (front : List ℕ) → ends_in_empty_line (front ++ 13 ∷ 10 ∷ 13 ∷ 10 ∷ []) ≡ true
four_said front =
    let count : length (front ++ 13 ∷ 10 ∷ 13 ∷ 10 ∷ []) ≡ length front + 4 = length-append front _ in
    ap (λ (n : ℕ). bytes_eq (drop n (front ++ 13 ∷ 10 ∷ 13 ∷ 10 ∷ [])) (13 ∷ 10 ∷ 13 ∷ 10 ∷ [])) (less (length front) (length (front ++ 13 ∷ 10 ∷ 13 ∷ 10 ∷ [])) count)
    ∙ ap (λ (t : List ℕ). bytes_eq t (13 ∷ 10 ∷ 13 ∷ 10 ∷ [])) (drop_at front (13 ∷ 10 ∷ 13 ∷ 10 ∷ []) (length front) refl)
  where
    less : (k n : ℕ) → n ≡ k + 4 → n - 4 ≡ k
    less k n is = omega arith

request_end : (authority target : List ℕ) → ends_in_empty_line (request_text authority target) ≡ true
request_end authority target =
    ap ends_in_empty_line (parts authority target) ∙ four_said (codes "GET " ++ (target ++ (codes " HTTP/1.1" ++ 13 ∷ 10 ∷ codes "Host: " ++ (authority ++ 13 ∷ 10 ∷ codes "Accept: application/n-quads"))))
  where
    parts : (authority target : List ℕ) → request_text authority target
        ≡ (codes "GET " ++ (target ++ (codes " HTTP/1.1" ++ 13 ∷ 10 ∷ codes "Host: " ++ (authority ++ 13 ∷ 10 ∷ codes "Accept: application/n-quads")))) ++ 13 ∷ 10 ∷ 13 ∷ 10 ∷ []
    parts authority target = simp append_assoc refl

-- ---- cuts

cut_go : (text : List ℕ) → EndsOnce text → (seen xs rest after : List ℕ) → text ≡ (seen ++ xs) ++ rest → 0 < length rest → cut_pieces seen (xs ++ after) ≡ cut_pieces (seen ++ xs) after
cut_go text once seen [] rest after is some = ap (λ (t : List ℕ). cut_pieces t after) (sym (append-nil seen))
cut_go text once seen (b ∷ xs) rest after is some =
    let next : seen ++ b ∷ xs ≡ (seen ++ b ∷ []) ++ xs = sym (append_assoc seen (b ∷ []) xs) in
    let split : text ≡ ((seen ++ b ∷ []) ++ xs) ++ rest = is ∙ ap (λ (t : List ℕ). t ++ rest) next in
    let whole : text ≡ (seen ++ b ∷ []) ++ (xs ++ rest) = split ∙ append_assoc (seen ++ b ∷ []) xs rest in
    let more : length (xs ++ rest) ≡ length xs + length rest = length-append xs rest in
    ap (λ (v : Bool). if v then ((seen ++ b ∷ []) ∷ (cut_pieces [] (xs ++ after)).0, (cut_pieces [] (xs ++ after)).1) else cut_pieces (seen ++ b ∷ []) (xs ++ after))
    (no_end text (seen ++ b ∷ []) (xs ++ rest) once whole (omega arith))
    ∙ cut_go text once (seen ++ b ∷ []) xs rest after split some ∙ ap (λ (t : List ℕ). cut_pieces t after) (sym next)

onto_pieces : List ℕ → List (List ℕ) × List ℕ → List (List ℕ) × List ℕ
onto_pieces piece cut = (piece ∷ cut.0, cut.1)

cut_one : (text after : List ℕ) → EndsOnce text → ends_in_empty_line text ≡ true → cut_pieces [] (text ++ after) ≡ onto_pieces text (cut_pieces [] after)
unfolding onto_pieces
cut_one text after once ends =
    let is : text ≡ (once.first ∷ once.second ∷ once.middle) ++ 10 ∷ [] = once.is_text in
    ap (λ (t : List ℕ). cut_pieces [] (t ++ after)) is ∙ ap (λ (t : List ℕ). cut_pieces [] t) (append_assoc (once.first ∷ once.second ∷ once.middle) (10 ∷ []) after)
    ∙ cut_go text once [] (once.first ∷ once.second ∷ once.middle) (10 ∷ []) (10 ∷ after) is (omega arith)
    ∙ ap (λ (t : List ℕ). if ends_in_empty_line t then (t ∷ (cut_pieces [] after).0, (cut_pieces [] after).1) else cut_pieces t after) (sym is)
    ∙ ap (λ (v : Bool). if v then (text ∷ (cut_pieces [] after).0, (cut_pieces [] after).1) else cut_pieces text after) ends

ends_once : (asked : RequestParts) → IsPlain asked → EndsOnce (parts_text asked)
ends_once asked plain = request_ends asked.authority asked.target plain.authority plain.target

pub pieces_are_requests : PiecesAreRequests
unfolding onto_pieces
pieces_are_requests [] last part more plain own is some =
    ap (λ (t : List ℕ). cut_pieces [] t) (sym (append-nil part)) ∙ cut_go (parts_text last) (ends_once last own) [] part more [] is some
pieces_are_requests (asked ∷ all) last part more plain own is some =
    ap (λ (t : List ℕ). cut_pieces [] t) (append_assoc (parts_text asked) (flat_map parts_text all) part)
    ∙ cut_one (parts_text asked) (flat_map parts_text all ++ part) (ends_once asked plain.0) (request_end asked.authority asked.target)
    ∙ ap (onto_pieces (parts_text asked)) (pieces_are_requests all last part more plain.1 own is some)
