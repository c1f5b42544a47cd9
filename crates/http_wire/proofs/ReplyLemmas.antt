-- A reply head that is all of a text: the reader and the parser agree.
use Rattle.std.proofs.Common.{◌≡◌, ℕ, suc, ◌+◌, ◌≤◌, ◌==◌, Bool, true, false, List, [], ◌∷◌, ◌++◌, length, drop, Option, Some, None, refl, sym, ap, ap₂, if◌then◌else◌, ◌∙◌, subst, arith, append-nil}
use Rattle.std.specs.Prelude.{◌&&◌}
use Rattle.std.proofs.Math.Seq.{drop-append_seam}
use Rattle.std.proofs.lemmas.Grind.{common_steps}
use Rattle.std.proofs.lemmas.Bool.{eqb-true}
use Rattle.httparse.specs.Grammar.{LineEnd, crlf, lf, print_end, print_blank, print_version, print_reason, ResponseHead, ReadsResponse, print_response, print_section}
use Rattle.httparse.specs.Pieces.{Stops, is_newline}
use Rattle.tpf_base.specs.HttpHeads.{blank_length, taken_whole}
use Rattle.tpf_base.specs.HttpReader.{read_response}
use Rattle.tpf_base.specs.HttpReply.{response_head}
use Rattle.tpf_base.proofs.HttpReaderLemmas.{response_sound, response_complete}
use Rattle.http_wire.proofs.JudgeLemmas.{feeds, feeds-append, feeds_end, feeds_section}

stops_none : (after : List ℕ) → Stops is_newline after → blank_length after ≡ 0
unfolding blank_length
stops_none [] stops = absurd stops
stops_none (b ∷ []) stops = grind (arith, common_steps)
stops_none (b ∷ c ∷ bs) stops = grind (arith, common_steps)

feed_on : (xs : List ℕ) → blank_length (10 ∷ xs) ≡ suc (blank_length xs)
unfolding blank_length
feed_on [] = refl
feed_on (c ∷ bs) = refl

blank_front : (ends : List LineEnd) (after : List ℕ) → Stops is_newline after → blank_length (print_blank ends ++ after) ≡ length (print_blank ends)
unfolding blank_length
blank_front [] after stops = stops_none after stops
blank_front (crlf ∷ ends) after stops = ap (λ (n : ℕ). suc (suc n)) (blank_front ends after stops)
blank_front (lf ∷ ends) after stops = feed_on (print_blank ends ++ after) ∙ ap (λ (n : ℕ). suc n) (blank_front ends after stops)

pub response_whole : (h : ResponseHead) (text : List ℕ) → ReadsResponse text h [] → response_head text ≡ Some (record h { blank = [] })
unfolding response_head
response_whole h text reads =
    let found = response_complete h text [] reads in
    let count : blank_length text ≡ length (print_blank h.blank) = ap blank_length found.1 ∙ blank_front h.blank found.0 found.2 in
    let behind : drop (blank_length text) text ≡ found.0 = ap₂ (λ (n : ℕ) (x : List ℕ). drop n x) count found.1 ∙ drop-append_seam (print_blank h.blank) found.0 in
    ap (λ (x : List ℕ). taken_whole (read_response x)) behind ∙ ap taken_whole found.3

-- the empty lines at the front are empty lines
blank_split : (text : List ℕ) → (ends : List LineEnd) × (text ≡ print_blank ends ++ drop (blank_length text) text)
unfolding blank_length
blank_split [] = ([], refl)
blank_split (b ∷ []) = split_one (b == 10) refl
  where
    split_one : (v : Bool) → (b == 10) ≡ v → (ends : List LineEnd) × ((b ∷ []) ≡ print_blank ends ++ drop (if v then 1 else 0) (b ∷ []))
    split_one true e = (lf ∷ [], ap (λ (x : ℕ). x ∷ []) (eqb-true b 10 e))
    split_one false e = ([], refl)
blank_split (b ∷ c ∷ bs) = split_two (blank_split (c ∷ bs)) (blank_split bs) (b == 10) (b == 13 && c == 10) refl refl
  where
    both : (v w : Bool) → (v && w) ≡ true → (v ≡ true) × (w ≡ true)
    both true w e = (refl, e)
    both false w e = absurd cc

    split_two : (ends : List LineEnd) × ((c ∷ bs) ≡ print_blank ends ++ drop (blank_length (c ∷ bs)) (c ∷ bs)) → (ends : List LineEnd) × (bs ≡ print_blank ends ++ drop (blank_length bs) bs)
        → (v w : Bool) → (b == 10) ≡ v → (b == 13 && c == 10) ≡ w
        → (ends : List LineEnd) × ((b ∷ c ∷ bs) ≡ print_blank ends ++ drop (if v then suc (blank_length (c ∷ bs)) else (if w then suc (suc (blank_length bs)) else 0)) (b ∷ c ∷ bs))
    split_two one two true w e f = (lf ∷ one.0, ap₂ (λ (x : ℕ) (xs : List ℕ). x ∷ xs) (eqb-true b 10 e) one.1)
    split_two one two false true e f =
        let parts = both (b == 13) (c == 10) f in
        (crlf ∷ two.0, ap₂ (λ (x : ℕ) (xs : List ℕ). x ∷ xs) (eqb-true b 13 parts.0) (ap₂ (λ (x : ℕ) (xs : List ℕ). x ∷ xs) (eqb-true c 10 parts.1) two.1))
    split_two one two false false e f = ([], refl)

none_at : (text behind : List ℕ) (ends : List LineEnd) → text ≡ print_blank ends ++ behind → (o : Option (ResponseHead × List ℕ)) → read_response behind ≡ o
    → ((h : ResponseHead) → ¬ (ReadsResponse text h [])) → taken_whole o ≡ None
none_at text behind ends is None e never = refl
none_at text behind ends is (Some (h, [])) e never =
    absurd (never (record h { blank = ends }) (subst (λ (x : List ℕ). ReadsResponse x (record h { blank = ends }) []) (sym is) (response_sound h behind [] ends e)))
none_at text behind ends is (Some (h, b ∷ bs)) e never = refl

pub response_none : (text : List ℕ) → ((h : ResponseHead) → ¬ (ReadsResponse text h [])) → response_head text ≡ None
unfolding response_head
response_none text never =
    let split = blank_split text in
    none_at text (drop (blank_length text) text) split.0 split.1 (read_response (drop (blank_length text) text)) refl never

pub response_end : (h : ResponseHead) (text : List ℕ) (n : ℕ) → n ≡ length text → ReadsResponse text h (drop n text) → ReadsResponse text h []
response_end h text n end reads = subst (λ (rest : List ℕ). ReadsResponse text h rest) (nothing_left text n end) reads
  where
    nothing_left : (text : List ℕ) (n : ℕ) → n ≡ length text → drop n text ≡ []
    nothing_left text n end = grind (arith, common_steps)

pub response_len : (h : ResponseHead) (text : List ℕ) (n : ℕ) → n ≡ length (print_response h) → ReadsResponse text h [] → n ≡ length text
response_len h text n is reads =
    let whole : length text ≡ length (print_response h ++ []) = ap (λ (x : List ℕ). length x) reads.1 in
    is ∙ sym (whole ∙ ap (λ (x : List ℕ). length x) (append-nil (print_response h)))

-- a head of lines so few has fields so few
pub reply_fields_fit : (head : List ℕ) (h : ResponseHead) → ReadsResponse head h [] → length h.fields + 2 ≤ feeds head
unfolding print_response
reply_fields_fit head h reads =
    let front : List ℕ = print_blank h.blank ++ print_version h.minor ++ 32 ∷ h.digits ++ print_reason h.reason in
    let whole : feeds head ≡ feeds (front ++ print_end h.line_end ++ print_section h.fields h.last) + 0 = ap feeds reads.1 ∙ feeds-append (front ++ print_end h.line_end ++ print_section h.fields h.last) [] in
    let parts : feeds (front ++ print_end h.line_end ++ print_section h.fields h.last) ≡ feeds (front ++ print_end h.line_end) + feeds (print_section h.fields h.last) = feeds-append (front ++ print_end h.line_end) (print_section h.fields h.last) in
    let lines : feeds (front ++ print_end h.line_end) ≡ feeds front + feeds (print_end h.line_end) = feeds-append front (print_end h.line_end) in
    let end : feeds (print_end h.line_end) ≡ 1 = feeds_end h.line_end in
    let section = feeds_section h.fields h.last in
    omega arith
