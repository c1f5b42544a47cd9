-- The text of the head of an answer: its empty line, and what the reader finds in it.
use Rattle.std.proofs.Common.{append-nil, ◌≡◌, ℕ, ◌+◌, ◌<◌, Bool, true, false, not, ◌==◌, List, [], ◌∷◌, ◌++◌, length, map, refl, sym, ap, ap₂, ◌∙◌, arith, append_assoc, length-append, Some}
use Rattle.std.specs.Prelude.{◌&&◌, codes}
use Rattle.std.specs.Char.{is_ascii_digit}
use Rattle.std.specs.List.{flat_map, list_all, AllByRecursion, All}
use Rattle.std.proofs.lemmas.Grind.{common_steps}
use Rattle.std.proofs.lemmas.Bool.{and_parts, and_from}
use Rattle.std.proofs.lemmas.Bool.Decides.{nat_tests}
use Rattle.std.proofs.lemmas.List.Folds.{list_all-append}
use Rattle.std.proofs.lemmas.List.Elements.{All-nil, All-cons}
use Rattle.httparse.specs.Grammar.{crlf, Field, IsField, is_token_byte, is_value_byte, trim_ows, print_end, print_field, print_version, ResponseHead, ReadsResponse}
use Rattle.httparse.proofs.GrammarLemmas.{print_response-append}
use Rattle.tpf_base.specs.HttpHeads.{pairs_of}
use Rattle.tpf_base.specs.HttpText.{field_line, answer_head}
use Rattle.http_wire.proofs.JudgeLemmas.{feeds, feeds-append}
use Rattle.template_fill.proofs.Passing.{list_all-wider}
use Rattle.http_ends.proofs.EmptyLines.{quiet, ends_at, EndsOnce}
use Rattle.http_ends.proofs.Fields.{passes}

-- no CR or LF
abbrev pub is_inner : ℕ → Bool
is_inner b = not (b == 13) && not (b == 10)

-- a field as it can be written and read back
pub record IsWhole (field : List ℕ × List ℕ) : Type 0 where
  pub some : 0 < length field.0
  pub name : list_all is_token_byte field.0 ≡ true
  pub in_line : list_all is_inner field.0 ≡ true
  pub value : list_all is_value_byte field.1 ≡ true
  pub trimmed : trim_ows (32 ∷ field.1) ≡ field.1

-- the parts of a head
pub record AreWhole (digits phrase : List ℕ) (fields : List (List ℕ × List ℕ)) : Type 0 where
  pub three : length digits ≡ 3
  pub are_digits : list_all is_ascii_digit digits ≡ true
  pub is_phrase : list_all is_value_byte phrase ≡ true
  pub are_fields : AllByRecursion IsWhole fields

inner_byte : (b : ℕ) → is_value_byte b ≡ true → is_inner b ≡ true
inner_byte b h = grind (arith, nat_tests)

inner_digit : (b : ℕ) → is_ascii_digit b ≡ true → is_inner b ≡ true
inner_digit b h = grind (arith, nat_tests)

inner : (bs : List ℕ) → list_all is_value_byte bs ≡ true → list_all is_inner bs ≡ true
inner = list_all-wider is_value_byte is_inner inner_byte

-- ---- lines

step : (p q b : ℕ) → is_inner b ≡ true → (ends_at p q b ≡ false) × ((b == 10) ≡ false) × ((b == 13) ≡ false)
step p q b h = (grind (arith, common_steps), grind (arith, common_steps), grind (arith, common_steps))

-- a line that is not empty, its end, and what is quiet behind it
line_quiet : (p q : ℕ) (line rest : List ℕ) → 0 < length line → list_all is_inner line ≡ true → quiet 13 10 rest ≡ true → quiet p q (line ++ 13 ∷ 10 ∷ rest) ≡ true
unfolding quiet
line_quiet p q [] rest some all quiet_rest = absurd (omega arith)
line_quiet p q (b ∷ []) rest some all quiet_rest =
    let parts = and_parts (is_inner b) true all in
    let own = step p q b parts.0 in
    rw (own.0, own.1) quiet_rest
line_quiet p q (b ∷ c ∷ bs) rest some all quiet_rest =
    let parts = and_parts (is_inner b) (list_all is_inner (c ∷ bs)) all in
    rw ((step p q b parts.0).0) (line_quiet q b (c ∷ bs) rest (omega arith) parts.1 quiet_rest)

field_parts : (name value rest : List ℕ) → field_line (name, value) ++ rest ≡ (name ++ (codes ": " ++ value)) ++ 13 ∷ 10 ∷ rest
field_parts name value rest = simp append_assoc refl

in_line : (f : List ℕ × List ℕ) → IsWhole f → list_all is_inner (f.0 ++ (codes ": " ++ f.1)) ≡ true
in_line f is =
    list_all-append is_inner f.0 (codes ": " ++ f.1) ∙ and_from (list_all is_inner f.0) (list_all is_inner (codes ": " ++ f.1)) is.in_line (inner f.1 is.value)

some_line : (f : List ℕ × List ℕ) → IsWhole f → 0 < length (f.0 ++ (codes ": " ++ f.1))
some_line f is = let count : length (f.0 ++ (codes ": " ++ f.1)) ≡ length f.0 + length (codes ": " ++ f.1) = length-append f.0 (codes ": " ++ f.1) in let some = is.some in omega arith

lines_quiet : (fields : List (List ℕ × List ℕ)) → AllByRecursion IsWhole fields → quiet 13 10 (flat_map field_line fields ++ 13 ∷ []) ≡ true
unfolding quiet
lines_quiet [] all = refl
lines_quiet (f ∷ fields) all =
    ap (quiet 13 10) (append_assoc (field_line f) (flat_map field_line fields) (13 ∷ []) ∙ field_parts f.0 f.1 (flat_map field_line fields ++ 13 ∷ []))
    ∙ line_quiet 13 10 (f.0 ++ (codes ": " ++ f.1)) (flat_map field_line fields ++ 13 ∷ []) (some_line f all.0) (in_line f all.0) (lines_quiet fields all.1)

-- ---- the whole head

first_line : List ℕ → List ℕ → List ℕ
first_line digits phrase = codes "TP/1.1 " ++ (digits ++ (codes " " ++ phrase))

first_inner : (digits phrase : List ℕ) → list_all is_ascii_digit digits ≡ true → list_all is_value_byte phrase ≡ true → list_all is_inner (first_line digits phrase) ≡ true
unfolding first_line
first_inner digits phrase d p =
    list_all-append is_inner digits (codes " " ++ phrase)
    ∙ and_from (list_all is_inner digits) (list_all is_inner (codes " " ++ phrase)) (list_all-wider is_ascii_digit is_inner inner_digit digits d) (inner phrase p)

first_some : (digits phrase : List ℕ) → 0 < length (first_line digits phrase)
unfolding first_line
first_some digits phrase = omega arith

head_parts : (digits phrase : List ℕ) (fields : List (List ℕ × List ℕ)) (rest : List ℕ)
    → answer_head digits phrase fields ++ rest ≡ 72 ∷ 84 ∷ (first_line digits phrase ++ 13 ∷ 10 ∷ (flat_map field_line fields ++ 13 ∷ 10 ∷ rest))
unfolding first_line
head_parts digits phrase fields rest = regroup digits phrase (flat_map field_line fields) rest
  where
    regroup : (d p l r : List ℕ) → ((((((codes "HTTP/1.1 " ++ d) ++ codes " ") ++ p) ++ 13 ∷ 10 ∷ []) ++ l) ++ 13 ∷ 10 ∷ []) ++ r
        ≡ 72 ∷ 84 ∷ ((codes "TP/1.1 " ++ (d ++ (codes " " ++ p))) ++ 13 ∷ 10 ∷ (l ++ 13 ∷ 10 ∷ r))
    regroup d p l r = simp append_assoc refl

-- lines end in a LF
last_feed : (front : List ℕ) (fields : List (List ℕ × List ℕ)) → (m : List ℕ) × (front ++ 10 ∷ flat_map field_line fields ≡ m ++ 10 ∷ [])
last_feed front [] = (front, refl)
last_feed front (f ∷ fields) =
    let rest = last_feed (front ++ 10 ∷ ((f.0 ++ (codes ": " ++ f.1)) ++ 13 ∷ [])) fields in
    (rest.0, moved front f.0 f.1 (flat_map field_line fields) ∙ rest.1)
  where
    moved : (a n v l : List ℕ) → a ++ 10 ∷ (field_line (n, v) ++ l) ≡ (a ++ 10 ∷ ((n ++ (codes ": " ++ v)) ++ 13 ∷ [])) ++ 10 ∷ l
    moved a n v l = simp append_assoc refl

pub head_ends : (digits phrase : List ℕ) (fields : List (List ℕ × List ℕ)) → AreWhole digits phrase fields → EndsOnce (answer_head digits phrase fields)
head_ends digits phrase fields are =
    let last = last_feed (72 ∷ 84 ∷ (first_line digits phrase ++ 13 ∷ [])) fields in
    record {
      first = 72;
      second = 84;
      middle = first_line digits phrase ++ 13 ∷ 10 ∷ (flat_map field_line fields ++ 13 ∷ []);
      front = last.0;
      is_text = sym (append-nil (answer_head digits phrase fields)) ∙ head_parts digits phrase fields [] ∙ grouped (first_line digits phrase) (flat_map field_line fields);
      not_feed = refl;
      is_quiet = line_quiet 72 84 (first_line digits phrase) (flat_map field_line fields ++ 13 ∷ []) (first_some digits phrase) (first_inner digits phrase are.are_digits are.is_phrase) (lines_quiet fields are.are_fields);
      is_end = sym (append-nil (answer_head digits phrase fields)) ∙ head_parts digits phrase fields [] ∙ ended (first_line digits phrase) (flat_map field_line fields)
          ∙ ap (λ (t : List ℕ). t ++ 13 ∷ 10 ∷ []) last.1 ∙ append_assoc last.0 (10 ∷ []) (13 ∷ 10 ∷ []);
    }
  where
    grouped : (f l : List ℕ) → 72 ∷ 84 ∷ (f ++ 13 ∷ 10 ∷ (l ++ 13 ∷ 10 ∷ [])) ≡ 72 ∷ 84 ∷ ((f ++ 13 ∷ 10 ∷ (l ++ 13 ∷ [])) ++ 10 ∷ [])
    grouped f l = simp append_assoc refl

    ended : (f l : List ℕ) → 72 ∷ 84 ∷ (f ++ 13 ∷ 10 ∷ (l ++ 13 ∷ 10 ∷ [])) ≡ ((72 ∷ 84 ∷ (f ++ 13 ∷ [])) ++ 10 ∷ l) ++ 13 ∷ 10 ∷ []
    ended f l = simp append_assoc refl

-- ---- what is read

unfoldable pub written : List ℕ × List ℕ → Field
written f = record { name = f.0; raw = 32 ∷ f.1; end = crlf }

unfoldable pub response_for : List ℕ → List ℕ → List (List ℕ × List ℕ) → ResponseHead
response_for digits phrase fields = record {
  blank = [];
  minor = 1;
  digits = digits;
  reason = Some phrase;
  line_end = crlf;
  fields = map written fields;
  last = crlf;
}

written_lines : (fields : List (List ℕ × List ℕ)) → flat_map print_field (map written fields) ≡ flat_map field_line fields
unfolding written
written_lines [] = refl
written_lines (f ∷ fields) = ap₂ (λ (a b : List ℕ). a ++ b) (same f.0 f.1) (written_lines fields)
  where
    same : (n v : List ℕ) → n ++ 58 ∷ (32 ∷ v) ++ 13 ∷ 10 ∷ [] ≡ field_line (n, v)
    same n v = simp append_assoc refl

written_fields : (fields : List (List ℕ × List ℕ)) → AllByRecursion IsWhole fields → All IsField (map written fields)
unfolding written
written_fields [] all = All-nil IsField
written_fields (f ∷ fields) all =
    All-cons IsField (written f) (map written fields)
    (record { name = (all.0.some, passes is_token_byte f.0 all.0.name); raw = passes is_value_byte (32 ∷ f.1) all.0.value }) (written_fields fields all.1)

pub written_pairs : (fields : List (List ℕ × List ℕ)) → AllByRecursion IsWhole fields → fields ≡ pairs_of (map written fields)
unfolding written
written_pairs [] all = refl
written_pairs (f ∷ fields) all = ap₂ (λ (v : List ℕ) (rest : List (List ℕ × List ℕ)). (f.0, v) ∷ rest) (sym all.0.trimmed) (written_pairs fields all.1)

pub head_reads : (digits phrase : List ℕ) (fields : List (List ℕ × List ℕ)) → AreWhole digits phrase fields → ReadsResponse (answer_head digits phrase fields) (response_for digits phrase fields) []
unfolding response_for first_line
head_reads digits phrase fields are = (
  record { minor = omega arith; digits = (are.three, passes is_ascii_digit digits are.are_digits); reason = passes is_value_byte phrase are.is_phrase; fields = written_fields fields are.are_fields },
  sym (append-nil (answer_head digits phrase fields)) ∙ head_parts digits phrase fields [] ∙ regroup digits phrase (flat_map field_line fields)
      ∙ ap (λ (l : List ℕ). print_version 1 ++ 32 ∷ (digits ++ ((32 ∷ phrase) ++ (print_end crlf ++ ((l ++ print_end crlf) ++ []))))) (sym (written_lines fields))
      ∙ sym (print_response-append (response_for digits phrase fields) []),
)
  where
    regroup : (d p l : List ℕ) → 72 ∷ 84 ∷ (first_line d p ++ 13 ∷ 10 ∷ (l ++ 13 ∷ 10 ∷ [])) ≡ print_version 1 ++ 32 ∷ (d ++ ((32 ∷ p) ++ (print_end crlf ++ ((l ++ print_end crlf) ++ []))))
    regroup d p l = simp append_assoc refl

-- ---- its lines

no_feeds : (bs : List ℕ) → list_all is_inner bs ≡ true → feeds bs ≡ 0
no_feeds [] all = refl
no_feeds (b ∷ bs) all =
    let parts = and_parts (is_inner b) (list_all is_inner bs) all in
    feeds-append (b ∷ []) bs ∙ ap₂ (λ (m n : ℕ). m + n) (one b parts.0) (no_feeds bs parts.1)
  where
    one : (b : ℕ) → is_inner b ≡ true → feeds (b ∷ []) ≡ 0
    one b h = grind (arith, common_steps)

line_feeds : (line rest : List ℕ) → list_all is_inner line ≡ true → feeds (line ++ 13 ∷ 10 ∷ rest) ≡ 1 + feeds rest
line_feeds line rest all =
    let first : feeds ((13 ∷ 10 ∷ []) ++ rest) ≡ 1 + feeds rest = feeds-append (13 ∷ 10 ∷ []) rest in
    omega (arith, no_feeds line all, feeds-append line (13 ∷ 10 ∷ rest), first)

lines_feeds : (fields : List (List ℕ × List ℕ)) → AllByRecursion IsWhole fields → feeds (flat_map field_line fields ++ 13 ∷ 10 ∷ []) ≡ length fields + 1
lines_feeds [] all = refl
lines_feeds (f ∷ fields) all =
    ap feeds (append_assoc (field_line f) (flat_map field_line fields) (13 ∷ 10 ∷ []) ∙ field_parts f.0 f.1 (flat_map field_line fields ++ 13 ∷ 10 ∷ []))
    ∙ line_feeds (f.0 ++ (codes ": " ++ f.1)) (flat_map field_line fields ++ 13 ∷ 10 ∷ []) (in_line f all.0)
    ∙ omega (arith, lines_feeds fields all.1)

pub head_feeds : (digits phrase : List ℕ) (fields : List (List ℕ × List ℕ)) → AreWhole digits phrase fields → feeds (answer_head digits phrase fields) ≡ length fields + 2
head_feeds digits phrase fields are =
    ap feeds (sym (append-nil (answer_head digits phrase fields)) ∙ head_parts digits phrase fields [])
    ∙ line_feeds (72 ∷ 84 ∷ first_line digits phrase) (flat_map field_line fields ++ 13 ∷ 10 ∷ []) (first_inner digits phrase are.are_digits are.is_phrase)
    ∙ omega (arith, lines_feeds fields are.are_fields)
