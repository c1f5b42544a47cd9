-- A head that is all of a text: the reader and the parser agree.
use Rattle.std.proofs.Common.{append-nil, ◌≡◌, ℕ, ◌+◌, ◌≤◌, ◌==◌, List, [], ◌∷◌, ◌++◌, length, take, drop, Option, Some, None, refl, sym, ap, ◌∙◌, subst, arith}
use Rattle.std.specs.Prelude.{map}
use Rattle.httparse.specs.declared.spans.HeaderSpan.{HeaderSpan}
use Rattle.httparse.specs.Spans.{AreFieldsAt, header_bytes}
use Rattle.tpf_base.specs.HttpHeads.{pairs_of}
use Rattle.std.specs.Prelude.{count_by}
use Rattle.std.specs.List.{flat_map}
use Rattle.std.proofs.lemmas.Grind.{common_steps}
use Rattle.std.proofs.lemmas.List.Sums.{sum_by-append}
use Rattle.httparse.specs.Grammar.{LineEnd, crlf, lf, print_end, print_blank, Field, print_field, print_section, print_version, RequestHead, ReadsRequest, print_request}
use Rattle.httparse.specs.Pieces.{Stops, is_newline}
use Rattle.httparse.proofs.GrammarLemmas.{request_pieces}
use Rattle.tpf_base.specs.HttpHeads.{blank_length, taken_whole}
use Rattle.tpf_base.specs.HttpReader.{read_request}
use Rattle.tpf_base.proofs.HttpReaderLemmas.{request_sound, request_complete}

-- ---- the lines of a head

abbrev pub feeds : List ℕ → ℕ
feeds = count_by (λ b. b == 10)

pub feeds-append : (xs ys : List ℕ) → feeds (xs ++ ys) ≡ feeds xs + feeds ys
feeds-append xs ys = sum_by-append _ xs ys

pub feeds_end : (end : LineEnd) → feeds (print_end end) ≡ 1
feeds_end crlf = refl
feeds_end lf = refl

feeds_field : (f : Field) → 1 ≤ feeds (print_field f)
feeds_field f =
    let whole : feeds (print_field f) ≡ feeds (f.name ++ 58 ∷ f.raw) + feeds (print_end f.end) = feeds-append (f.name ++ 58 ∷ f.raw) (print_end f.end) in
    let last : feeds (print_end f.end) ≡ 1 = feeds_end f.end in
    omega arith

feeds_fields : (fields : List Field) → length fields ≤ feeds (flat_map print_field fields)
feeds_fields [] = omega arith
feeds_fields (f ∷ fields) =
    let whole : feeds (print_field f ++ flat_map print_field fields) ≡ feeds (print_field f) + feeds (flat_map print_field fields) = feeds-append (print_field f) (flat_map print_field fields) in
    let first = feeds_field f in
    let rest = feeds_fields fields in
    omega arith

pub feeds_section : (fields : List Field) (last : LineEnd) → length fields + 1 ≤ feeds (print_section fields last)
feeds_section fields last =
    let whole : feeds (print_section fields last) ≡ feeds (flat_map print_field fields) + feeds (print_end last) = feeds-append (flat_map print_field fields) (print_end last) in
    let end : feeds (print_end last) ≡ 1 = feeds_end last in
    let lines = feeds_fields fields in
    omega arith

-- a head of lines so few has fields so few
pub fields_fit : (head : List ℕ) (h : RequestHead) → ReadsRequest head h [] → length h.fields + 2 ≤ feeds head
unfolding print_request
fields_fit head h reads =
    let front : List ℕ = print_blank h.blank ++ h.method ++ 32 ∷ h.target ++ 32 ∷ print_version h.minor in
    let whole : feeds head ≡ feeds (front ++ print_end h.line_end ++ print_section h.fields h.last) + 0 = ap feeds reads.1 ∙ feeds-append (front ++ print_end h.line_end ++ print_section h.fields h.last) [] in
    let parts : feeds (front ++ print_end h.line_end ++ print_section h.fields h.last) ≡ feeds (front ++ print_end h.line_end) + feeds (print_section h.fields h.last) = feeds-append (front ++ print_end h.line_end) (print_section h.fields h.last) in
    let lines : feeds (front ++ print_end h.line_end) ≡ feeds front + feeds (print_end h.line_end) = feeds-append front (print_end h.line_end) in
    let end : feeds (print_end h.line_end) ≡ 1 = feeds_end h.line_end in
    let section = feeds_section h.fields h.last in
    omega arith

-- ---- the front of a head

feed_front : (xs : List ℕ) → blank_length (10 ∷ xs) ≡ 0 → ⊥
unfolding blank_length
feed_front [] none = omega arith
feed_front (c ∷ bs) none = omega arith

empty_front : (ends : List LineEnd) (rest : List ℕ) → blank_length (print_blank ends ++ rest) ≡ 0 → ends ≡ []
unfolding blank_length
empty_front [] rest none = refl
empty_front (crlf ∷ ends) rest none = absurd (omega arith)
empty_front (lf ∷ ends) rest none = absurd (feed_front (print_blank ends ++ rest) none)

pub request_found : (h : RequestHead) (text rest : List ℕ) → blank_length text ≡ 0 → ReadsRequest text h rest → read_request text ≡ Some (h, rest)
request_found h text rest none reads =
    let p = request_pieces text h rest reads in
    let front : text ≡ print_blank h.blank ++ p.1.0 = p.1.1.0 in
    let empty : h.blank ≡ [] = empty_front h.blank p.1.0 (ap blank_length (sym front) ∙ none) in
    let same : text ≡ p.1.0 = front ∙ ap (λ (e : List LineEnd). print_blank e ++ p.1.0) empty in
    request_complete h text rest (subst (Stops is_newline) (sym same) p.1.1.1) reads

pub reads_whole : (h : RequestHead) (text : List ℕ) → blank_length text ≡ 0 → ReadsRequest text h [] → taken_whole (read_request text) ≡ Some h
reads_whole h text none reads = ap taken_whole (request_found h text [] none reads)

none_at : (text : List ℕ) (o : Option (RequestHead × List ℕ)) → read_request text ≡ o → ((h : RequestHead) → ¬ (ReadsRequest text h [])) → taken_whole o ≡ None
none_at text None e never = refl
none_at text (Some (h, [])) e never = absurd (never h (request_sound h text [] e))
none_at text (Some (h, b ∷ bs)) e never = refl

pub reads_none : (text : List ℕ) → ((h : RequestHead) → ¬ (ReadsRequest text h [])) → taken_whole (read_request text) ≡ None
reads_none text never = none_at text (read_request text) refl never

pub at_end : (h : RequestHead) (text : List ℕ) (n : ℕ) → n ≡ length text → ReadsRequest text h (drop n text) → ReadsRequest text h []
at_end h text n end reads = subst (λ (rest : List ℕ). ReadsRequest text h rest) (nothing_left text n end) reads
  where
    nothing_left : (text : List ℕ) (n : ℕ) → n ≡ length text → drop n text ≡ []
    nothing_left text n end = grind (arith, common_steps)

pub len_is : (h : RequestHead) (text : List ℕ) (n : ℕ) → n ≡ length (print_request h) → ReadsRequest text h [] → n ≡ length text
len_is h text n is reads =
    let whole : length text ≡ length (print_request h ++ []) = ap (λ (x : List ℕ). length x) reads.1 in
    is ∙ sym (whole ∙ ap (λ (x : List ℕ). length x) (append-nil (print_request h)))

pub pairs_at : (head : List ℕ) (headers : List HeaderSpan) (count : ℕ) (h : RequestHead) → AreFieldsAt head headers count h.fields → pairs_of h.fields ≡ map (header_bytes head) (take count headers)
pairs_at head headers count h are = sym are
