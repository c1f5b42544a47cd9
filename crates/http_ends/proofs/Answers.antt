-- An answer is read as it was written.
use Rattle.std.proofs.Common.{◌≡◌, ℕ, suc, zero, ◌+◌, ◌<◌, ◌≤◌, Bool, true, false, not, ◌==◌, List, [], ◌∷◌, ◌++◌, length, reverse, refl, sym, ap, if◌then◌else◌, ◌∙◌, subst, arith, append_assoc, length-append, Option, Some, None, inl, inr}
use Rattle.std.specs.Prelude.{◌&&◌, ◌||◌, ◌⊎◌, ◌^◌, codes, nat_le, nat_lt}
use Rattle.std.specs.Char.{is_ascii_digit}
use Rattle.std.specs.List.{flat_map, list_all, AllByRecursion}
use Rattle.std.specs.Str.Parse.{digits_value}
use Rattle.std.proofs.lemmas.Bool.{and_parts, and_from, ne_eqb, lt-ltb, le-ltb, cases_lt}
use Rattle.std.proofs.lemmas.Bool.Decides.{nat_tests}
use Rattle.std.proofs.lemmas.List.{reverse-append, reverse-reverse}
use Rattle.std.proofs.lemmas.List.Folds.{list_all-append}
use Rattle.httparse.specs.Grammar.{is_token_byte, is_value_byte, skip_ows, trim_ows}
use Rattle.tpf_base.specs.Decimals.{digits_up_to, decimal_text}
use Rattle.tpf_base.proofs.DecimalTexts.{decimal_text-digits, decimal_text-some, decimal_text-short, decimal_text-value}
use Rattle.tpf_base.specs.HttpText.{field_line, answer_head}
use Rattle.tpf_base.specs.HttpHeads.{Request, is_word, has_word}
use Rattle.tpf_base.specs.HttpReply.{Place, InSized, Finished, Failed, gathering, More, Whole, Bad, TooLong, BadStatus, BadMediaType, Announces, IsRefused, Sized, is_number, is_nquads, framing_of, body_place, reading_from, reply_of}
use Rattle.http_wire.specs.Replies.{longer}
use Rattle.http_wire.specs.Places.{judged_place, final_of}
use Rattle.http_wire.proofs.FramingLemmas.{judged_final}
use Rattle.http_wire.proofs.ReplyLemmas.{response_whole}
use Rattle.http_wire.proofs.RunLemmas.{over_reading}
use Rattle.http_wire.proofs.JudgeLemmas.{feeds}
use Rattle.rdf_terms.specs.declared.term.Triple.{Triple}
use Rattle.template_fill.specs.Metadata.{Config}
use Rattle.template_fill.specs.HttpAnswer.{Answer, MediaType, NQuads, PlainText, refusal, answer_text, head_text, answer_fields, media_text, field_if, phrase}
use Rattle.tpf_base.specs.Marks.{Mark, Served, Failed, Starved, version_at}
use Rattle.template_fill.specs.Answers.{Question, is_reload, reload_answer, version_answer, answer_to, answer_if, is_read, question_of}
use Rattle.template_fill.specs.ReadAddress.{path_of}
use Rattle.std.specs.Prelude.{bytes_eq}
use Rattle.template_fill.proofs.Passing.{list_all-wider}
use Rattle.http_ends.specs.Answers.{IsStatus, AnswerIsRead, AnswersAreRead, AnswersHaveStatus, LongHeadsAreRefused, HeadsAreShort, ServerAnswersAreRead, PagesAreNQuads}
use Rattle.http_ends.proofs.EmptyLines.{EndsOnce}
use Rattle.http_ends.proofs.Fields.{is_seen, seen_digit, value_digit}
use Rattle.http_ends.proofs.HeadTexts.{IsWhole, AreWhole, response_for, written_pairs, head_reads, head_ends, head_feeds}
use Rattle.http_ends.proofs.BodyReadings.{sized_whole, sized_part, head_part, head_whole, head_long, IsWithinHead, IsPast, front_cases}

-- ---- numbers

skip_none : (bs : List ℕ) → list_all is_seen bs ≡ true → skip_ows bs ≡ bs
skip_none [] all = refl
skip_none (b ∷ bs) all = ap (λ (v : Bool). if v then skip_ows bs else b ∷ bs) (seen b (and_parts (is_seen b) (list_all is_seen bs) all).0)
  where
    seen : (b : ℕ) → is_seen b ≡ true → (b == 32 || b == 9) ≡ false
    seen b h = grind (arith, nat_tests)

all_reverse : (test : ℕ → Bool) (bs : List ℕ) → list_all test bs ≡ true → list_all test (reverse bs) ≡ true
all_reverse test [] all = refl
all_reverse test (b ∷ bs) all =
    let parts = and_parts (test b) (list_all test bs) all in
    ap (list_all test) (reverse-append (b ∷ []) bs) ∙ list_all-append test (reverse bs) (b ∷ [])
    ∙ and_from (list_all test (reverse bs)) (test b && true) (all_reverse test bs parts.1) (and_from (test b) true parts.0 refl)

trim_none : (bs : List ℕ) → list_all is_seen bs ≡ true → trim_ows (32 ∷ bs) ≡ bs
unfolding trim_ows
trim_none bs all =
    ap (λ (t : List ℕ). reverse (skip_ows (reverse t))) (skip_none bs all) ∙ ap reverse (skip_none (reverse bs) (all_reverse is_seen bs all)) ∙ reverse-reverse bs

is_number_decimal : (n : ℕ) → is_number (decimal_text n) ≡ true
is_number_decimal n =
    and_from (nat_lt 0 (length (decimal_text n))) (list_all is_ascii_digit (decimal_text n)) (lt-ltb 0 (length (decimal_text n)) (decimal_text-some n)) (decimal_text-digits n)

-- ---- fields

pub length_whole : (n : ℕ) → IsWhole (codes "Content-Length", decimal_text n)
unfolding is_token_byte
length_whole n = record {
  some = omega arith;
  name = refl;
  in_line = refl;
  value = list_all-wider is_ascii_digit is_value_byte value_digit (decimal_text n) (decimal_text-digits n);
  trimmed = trim_none (decimal_text n) (list_all-wider is_ascii_digit is_seen seen_digit (decimal_text n) (decimal_text-digits n));
}

media_whole : (media : MediaType) → IsWhole (codes "Content-Type", media_text media)
unfolding is_token_byte trim_ows
media_whole NQuads = record { some = omega arith; name = refl; in_line = refl; value = refl; trimmed = refl }
media_whole PlainText = record { some = omega arith; name = refl; in_line = refl; value = refl; trimmed = refl }

others_whole : (allow closes : Bool) → AllByRecursion IsWhole (field_if allow (codes "Allow") (codes "GET, HEAD") ++ field_if closes (codes "Connection") (codes "close"))
unfolding is_token_byte trim_ows
others_whole true true = (
  record { some = omega arith; name = refl; in_line = refl; value = refl; trimmed = refl },
  (record { some = omega arith; name = refl; in_line = refl; value = refl; trimmed = refl }, tt),
)
others_whole true false = (record { some = omega arith; name = refl; in_line = refl; value = refl; trimmed = refl }, tt)
others_whole false true = (record { some = omega arith; name = refl; in_line = refl; value = refl; trimmed = refl }, tt)
others_whole false false = tt

fields_whole : (status : ℕ) (media : MediaType) (n : ℕ) (closes : Bool) → AllByRecursion IsWhole (answer_fields status media n closes)
unfolding answer_fields
fields_whole status media n closes = (media_whole media, (length_whole n, others_whole (status == 405) closes))

others_few : (allow closes : Bool) → length (field_if allow (codes "Allow") (codes "GET, HEAD") ++ field_if closes (codes "Connection") (codes "close")) ≤ 2
others_few true true = omega arith
others_few true false = omega arith
others_few false true = omega arith
others_few false false = omega arith

fields_few : (status : ℕ) (media : MediaType) (n : ℕ) (closes : Bool) → length (answer_fields status media n closes) ≤ 4
unfolding answer_fields
fields_few status media n closes = let few = others_few (status == 405) closes in omega (arith, few)

others_short : (allow closes : Bool) → length (flat_map field_line (field_if allow (codes "Allow") (codes "GET, HEAD") ++ field_if closes (codes "Connection") (codes "close"))) ≤ 60
others_short true true = omega arith
others_short true false = omega arith
others_short false true = omega arith
others_short false false = omega arith

media_short : (media : MediaType) → length (media_text media) ≤ 19
media_short NQuads = omega arith
media_short PlainText = omega arith

line_length : (name value : List ℕ) → length (field_line (name, value)) ≡ length name + length value + 4
line_length name value = simp length-append (omega arith)

fields_short : (status : ℕ) (media : MediaType) (n k : ℕ) (closes : Bool) → 0 < k → n < 10 ^ k → length (flat_map field_line (answer_fields status media n closes)) ≤ 120 + k
unfolding answer_fields
fields_short status media n k closes some fits =
    total k (field_line (codes "Content-Type", media_text media)) (field_line (codes "Content-Length", decimal_text n))
    (flat_map field_line (field_if (status == 405) (codes "Allow") (codes "GET, HEAD") ++ field_if closes (codes "Connection") (codes "close")))
    (first (length (media_text media)) (length (field_line (codes "Content-Type", media_text media))) (line_length (codes "Content-Type") (media_text media)) (media_short media))
    (second (length (decimal_text n)) (length (field_line (codes "Content-Length", decimal_text n))) k (line_length (codes "Content-Length") (decimal_text n)) (decimal_text-short n k some fits))
    (others_short (status == 405) closes)
  where
    first : (m l : ℕ) → l ≡ 12 + m + 4 → m ≤ 19 → l ≤ 40
    first m l is few = omega arith

    second : (m l k : ℕ) → l ≡ 14 + m + 4 → m ≤ k → l ≤ 18 + k
    second m l k is few = omega arith

    total : (k : ℕ) (a b c : List ℕ) → length a ≤ 40 → length b ≤ 18 + k → length c ≤ 60 → length (a ++ (b ++ c)) ≤ 120 + k
    total k a b c x y z = omega (arith, length-append a (b ++ c), length-append b c)

-- ---- statuses

record IsKnown (status : ℕ) : Type 0 where
  three : length (decimal_text status) ≡ 3
  digit : list_all is_ascii_digit (decimal_text status) ≡ true
  value : digits_value 10 (decimal_text status) ≡ status
  said : list_all is_value_byte (phrase status) ≡ true
  short : length (phrase status) ≤ 31
  final : (nat_le 100 status && nat_le status 199) ≡ false

known : (status : ℕ) → IsStatus status → IsKnown status
unfolding decimal_text digits_up_to phrase
known status (inl is) = subst IsKnown (sym is) (record { three = refl; digit = refl; value = refl; said = refl; short = omega arith; final = refl })
known status (inr (inl is)) = subst IsKnown (sym is) (record { three = refl; digit = refl; value = refl; said = refl; short = omega arith; final = refl })
known status (inr (inr (inl is))) = subst IsKnown (sym is) (record { three = refl; digit = refl; value = refl; said = refl; short = omega arith; final = refl })
known status (inr (inr (inr (inl is)))) = subst IsKnown (sym is) (record { three = refl; digit = refl; value = refl; said = refl; short = omega arith; final = refl })
known status (inr (inr (inr (inr (inl is))))) = subst IsKnown (sym is) (record { three = refl; digit = refl; value = refl; said = refl; short = omega arith; final = refl })
known status (inr (inr (inr (inr (inr (inl is)))))) = subst IsKnown (sym is) (record { three = refl; digit = refl; value = refl; said = refl; short = omega arith; final = refl })
known status (inr (inr (inr (inr (inr (inr is)))))) = subst IsKnown (sym is) (record { three = refl; digit = refl; value = refl; said = refl; short = omega arith; final = refl })

-- ---- the head

are_whole : (status : ℕ) (media : MediaType) (n : ℕ) (closes : Bool) → IsStatus status → AreWhole (decimal_text status) (phrase status) (answer_fields status media n closes)
are_whole status media n closes is =
    let k = known status is in
    record { three = k.three; are_digits = k.digit; is_phrase = k.said; are_fields = fields_whole status media n closes }

ends : (status : ℕ) (media : MediaType) (n : ℕ) (closes : Bool) → IsStatus status → EndsOnce (head_text status media n closes)
unfolding head_text
ends status media n closes is = head_ends (decimal_text status) (phrase status) (answer_fields status media n closes) (are_whole status media n closes is)

head_length_is : (digits phrase : List ℕ) (fields : List (List ℕ × List ℕ)) → length (answer_head digits phrase fields) ≡ length digits + length phrase + length (flat_map field_line fields) + 14
head_length_is digits phrase fields = simp length-append (omega arith)

pub heads_are_short : HeadsAreShort
unfolding head_text
heads_are_short status media n k closes is some fits =
    below k (length (decimal_text status)) (length (phrase status)) (length (flat_map field_line (answer_fields status media n closes))) (length (answer_head (decimal_text status) (phrase status) (answer_fields status media n closes)))
    (known status is).three (known status is).short (fields_short status media n k closes some fits) (head_length_is (decimal_text status) (phrase status) (answer_fields status media n closes))
  where
    below : (k d p f l : ℕ) → d ≡ 3 → p ≤ 31 → f ≤ 120 + k → l ≡ d + p + f + 14 → l ≤ 200 + k
    below k d p f l three short few total = omega arith

pub long_heads_are_refused : LongHeadsAreRefused
long_heads_are_refused limit status media n closes is long more at_end = head_long limit (head_text status media n closes) more at_end (ends status media n closes is) long

-- the place behind it
head_place : (limit status : ℕ) (media : MediaType) (n : ℕ) (closes : Bool) → IsStatus status
    → judged_place limit (0 + length (head_text status media n closes)) (head_text status media n closes) ≡ body_place limit (final_of status 1 (answer_fields status media n closes))
unfolding head_text response_for
head_place limit status media n closes is =
    let are = are_whole status media n closes is in
    judged_final limit (0 + length (answer_head (decimal_text status) (phrase status) (answer_fields status media n closes))) (answer_head (decimal_text status) (phrase status) (answer_fields status media n closes))
    (response_for (decimal_text status) (phrase status) (answer_fields status media n closes)) status 1 (answer_fields status media n closes)
    (few (length (answer_fields status media n closes)) (feeds (answer_head (decimal_text status) (phrase status) (answer_fields status media n closes))) (fields_few status media n closes) (head_feeds (decimal_text status) (phrase status) (answer_fields status media n closes) are))
    (response_whole (response_for (decimal_text status) (phrase status) (answer_fields status media n closes)) (answer_head (decimal_text status) (phrase status) (answer_fields status media n closes)) (head_reads (decimal_text status) (phrase status) (answer_fields status media n closes) are))
    (sym (known status is).value) refl (written_pairs (answer_fields status media n closes) are.are_fields) (known status is).final
  where
    few : (l f : ℕ) → l ≤ 4 → f ≡ l + 2 → f ≤ 66
    few l f h is = omega arith

final_200 : (n : ℕ) (closes : Bool) → is_number (decimal_text n) ≡ true → digits_value 10 (decimal_text n) ≡ n → final_of 200 1 (answer_fields 200 NQuads n closes) ≡ Announces (Sized n) (not closes)
unfolding final_of answer_fields is_nquads is_word has_word framing_of trim_ows
final_200 n true number is = rw (number, is) refl
final_200 n false number is = rw (number, is) refl

final_text : (n : ℕ) (closes : Bool) → final_of 200 1 (answer_fields 200 PlainText n closes) ≡ IsRefused BadMediaType
unfolding final_of answer_fields is_nquads is_word has_word trim_ows
final_text n true = refl
final_text n false = refl

final_other : (status : ℕ) (fields : List (List ℕ × List ℕ)) → (status == 200) ≡ false → final_of status 1 fields ≡ IsRefused (BadStatus status)
unfolding final_of
final_other status fields other = rw other refl

place_200 : (limit n : ℕ) (closes : Bool)
    → judged_place limit (0 + length (head_text 200 NQuads n closes)) (head_text 200 NQuads n closes) ≡ body_place limit (Announces (Sized n) (not closes))
place_200 limit n closes =
    head_place limit 200 NQuads n closes (inl refl) ∙ ap (body_place limit) (final_200 n closes (is_number_decimal n) (decimal_text-value n))

-- ---- whole answers

longer_whole : (n m k : ℕ) (body : List ℕ) (keeps : Bool) → k ≡ n + m → longer n (Whole body m keeps) ≡ Whole body k keeps
longer_whole n m k body keeps is = ap (λ (j : ℕ). Whole body j keeps) (sym is)

not_over : (limit n : ℕ) → n ≤ limit → nat_lt limit n ≡ false
not_over limit n h = le-ltb limit n h

place_none : (limit : ℕ) (keeps : Bool) → body_place limit (Announces (Sized 0) keeps) ≡ Finished (gathering keeps)
unfolding body_place
place_none limit keeps = ap (λ (v : Bool). if v then Failed TooLong else Finished (gathering keeps)) (not_over limit 0 (omega arith))

place_some : (limit n : ℕ) (keeps : Bool) → suc n ≤ limit → body_place limit (Announces (Sized (suc n)) keeps) ≡ InSized (suc n) (gathering keeps)
unfolding body_place
place_some limit n keeps h =
    ap (λ (v : Bool). if v then Failed TooLong else (if suc n == 0 then Finished (gathering keeps) else InSized (suc n) (gathering keeps))) (not_over limit (suc n) h)
    ∙ ap (λ (v : Bool). if v then Finished (gathering keeps) else InSized (suc n) (gathering keeps)) (some n)
  where
    some : (n : ℕ) → (suc n == 0) ≡ false
    some n = grind (arith, nat_tests)

place_long : (limit n : ℕ) (keeps : Bool) → limit < n → body_place limit (Announces (Sized n) keeps) ≡ Failed TooLong
unfolding body_place
place_long limit n keeps h = ap (λ (v : Bool). if v then Failed TooLong else (if n == 0 then Finished (gathering keeps) else InSized n (gathering keeps))) (lt-ltb limit n h)

read_body : (limit : ℕ) (body more : List ℕ) (keeps at_end : Bool) → length body ≤ limit
    → reading_from limit (body_place limit (Announces (Sized (length body)) keeps)) (body ++ more) at_end ≡ Whole body (length body) keeps
read_body limit [] more keeps at_end h =
    ap (λ (p : Place). reading_from limit p more at_end) (place_none limit keeps) ∙ over_reading limit (Finished (gathering keeps)) more at_end refl
read_body limit (b ∷ body) more keeps at_end h =
    ap (λ (p : Place). reading_from limit p (b ∷ (body ++ more)) at_end) (place_some limit (length body) keeps h)
    ∙ sized_whole limit (length (b ∷ body)) (gathering keeps) b body more at_end refl

whole_at : (limit : ℕ) (body : List ℕ) (closes : Bool) → length (head_text 200 NQuads (length body) closes) ≤ 65536 → length body ≤ limit → (more : List ℕ) (at_end : Bool)
    → reply_of ((head_text 200 NQuads (length body) closes ++ body) ++ more) at_end limit ≡ Whole body (length (head_text 200 NQuads (length body) closes ++ body)) (not closes)
whole_at limit body closes fits within more at_end =
    let head = head_text 200 NQuads (length body) closes in
    ap (λ (t : List ℕ). reply_of t at_end limit) (append_assoc (head_text 200 NQuads (length body) closes) body more)
    ∙ head_whole limit (head_text 200 NQuads (length body) closes) (body ++ more) at_end (ends 200 NQuads (length body) closes (inl refl)) fits
    ∙ ap (λ (p : Place). longer (length (head_text 200 NQuads (length body) closes)) (reading_from limit p (body ++ more) at_end)) (place_200 limit (length body) closes)
    ∙ ap (longer (length (head_text 200 NQuads (length body) closes))) (read_body limit body more (not closes) at_end within)
    ∙ longer_whole (length (head_text 200 NQuads (length body) closes)) (length body) (length (head_text 200 NQuads (length body) closes ++ body)) body (not closes) (length-append (head_text 200 NQuads (length body) closes) body)

-- ---- parts and refusals

read_part : (limit : ℕ) (part rest : List ℕ) (n : ℕ) (keeps at_end : Bool) → length (part ++ rest) ≡ n → 0 < length rest → n ≤ limit
    → reading_from limit (body_place limit (Announces (Sized n) keeps)) part at_end ≡ More
read_part limit part rest zero keeps at_end is some h = let count : length (part ++ rest) ≡ length part + length rest = length-append part rest in absurd (omega arith)
read_part limit part rest (suc n) keeps at_end is some h =
    let count : length (part ++ rest) ≡ length part + length rest = length-append part rest in
    ap (λ (p : Place). reading_from limit p part at_end) (place_some limit n keeps h) ∙ sized_part limit (suc n) (gathering keeps) part at_end (omega arith)

shorter : (front rest text : List ℕ) → text ≡ front ++ rest → 0 < length rest → length text ≤ 65536 → length front < 65536
shorter front rest text is some fits = let count : length text ≡ length front + length rest = ap (λ (t : List ℕ). length t) is ∙ length-append front rest in omega arith

part_case : (limit : ℕ) (body : List ℕ) (closes : Bool) → length (head_text 200 NQuads (length body) closes) ≤ 65536 → length body ≤ limit → (front rest : List ℕ) (at_end : Bool) → 0 < length rest
    → IsWithinHead (head_text 200 NQuads (length body) closes) front ⊎ IsPast (head_text 200 NQuads (length body) closes) body front rest → reply_of front at_end limit ≡ More
part_case limit body closes fits within front rest at_end some (inl w) =
    head_part limit (head_text 200 NQuads (length body) closes) front w.rest at_end (ends 200 NQuads (length body) closes (inl refl)) w.is w.some (shorter front w.rest (head_text 200 NQuads (length body) closes) w.is w.some fits)
part_case limit body closes fits within front rest at_end some (inr p) =
    ap (λ (t : List ℕ). reply_of t at_end limit) p.front_is
    ∙ head_whole limit (head_text 200 NQuads (length body) closes) p.part at_end (ends 200 NQuads (length body) closes (inl refl)) fits
    ∙ ap (λ (q : Place). longer (length (head_text 200 NQuads (length body) closes)) (reading_from limit q p.part at_end)) (place_200 limit (length body) closes)
    ∙ ap (longer (length (head_text 200 NQuads (length body) closes))) (read_part limit p.part rest (length body) (not closes) at_end (ap (λ (t : List ℕ). length t) (sym p.body_is)) some within)

refused_at : (limit status : ℕ) (media : MediaType) (n : ℕ) (closes : Bool) → IsStatus status → length (head_text status media n closes) ≤ 65536 → (status == 200) ≡ false → (more : List ℕ) (at_end : Bool)
    → reply_of (head_text status media n closes ++ more) at_end limit ≡ Bad (BadStatus status)
unfolding body_place
refused_at limit status media n closes is fits other more at_end =
    head_whole limit (head_text status media n closes) more at_end (ends status media n closes is) fits
    ∙ ap (λ (p : Place). longer (length (head_text status media n closes)) (reading_from limit p more at_end)) (head_place limit status media n closes is ∙ ap (body_place limit) (final_other status (answer_fields status media n closes) other))
    ∙ ap (longer (length (head_text status media n closes))) (over_reading limit (Failed (BadStatus status)) more at_end refl)

long_at : (limit n : ℕ) (closes : Bool) → length (head_text 200 NQuads n closes) ≤ 65536 → limit < n → (more : List ℕ) (at_end : Bool) → reply_of (head_text 200 NQuads n closes ++ more) at_end limit ≡ Bad TooLong
long_at limit n closes fits over more at_end =
    head_whole limit (head_text 200 NQuads n closes) more at_end (ends 200 NQuads n closes (inl refl)) fits
    ∙ ap (λ (p : Place). longer (length (head_text 200 NQuads n closes)) (reading_from limit p more at_end)) (place_200 limit n closes ∙ place_long limit n (not closes) over)
    ∙ ap (longer (length (head_text 200 NQuads n closes))) (over_reading limit (Failed TooLong) more at_end refl)

text_at : (limit n : ℕ) (closes : Bool) → length (head_text 200 PlainText n closes) ≤ 65536 → (more : List ℕ) (at_end : Bool) → reply_of (head_text 200 PlainText n closes ++ more) at_end limit ≡ Bad BadMediaType
unfolding body_place
text_at limit n closes fits more at_end =
    head_whole limit (head_text 200 PlainText n closes) more at_end (ends 200 PlainText n closes (inl refl)) fits
    ∙ ap (λ (p : Place). longer (length (head_text 200 PlainText n closes)) (reading_from limit p more at_end)) (head_place limit 200 PlainText n closes (inl refl) ∙ ap (body_place limit) (final_text n closes))
    ∙ ap (longer (length (head_text 200 PlainText n closes))) (over_reading limit (Failed BadMediaType) more at_end refl)

-- a page
page_is_read : (limit : ℕ) (body : List ℕ) (closes : Bool) → length (head_text 200 NQuads (length body) closes) ≤ 65536 → AnswerIsRead limit (record { status = 200; media_type = NQuads; body = body }) closes
unfolding answer_text
page_is_read limit body closes fits = record {
  whole = λ ok is within more at_end. whole_at limit body closes fits within more at_end;
  part = λ ok is within front rest at_end split some. part_case limit body closes fits within front rest at_end some (front_cases (head_text 200 NQuads (length body) closes) body front rest split);
  long = λ ok is over more at_end. long_at limit (length body) closes fits over more at_end;
  other = λ not_ok more at_end. absurd (not_ok refl);
  text = λ ok is short more at_end. absurd (cc);
  begun = λ front rest at_end split some short. head_part limit (head_text 200 NQuads (length body) closes) front rest at_end (ends 200 NQuads (length body) closes (inl refl)) split some short;
}

-- text with status 200
text_is_read : (limit : ℕ) (body : List ℕ) (closes : Bool) → AnswerIsRead limit (record { status = 200; media_type = PlainText; body = body }) closes
text_is_read limit body closes = record {
  whole = λ ok is within more at_end. absurd (cc);
  part = λ ok is within front rest at_end split some. absurd (cc);
  long = λ ok is over more at_end. absurd (cc);
  other = λ not_ok more at_end. absurd (not_ok refl);
  text = λ ok is fits more at_end. text_at limit (length body) closes fits more at_end;
  begun = λ front rest at_end split some short. head_part limit (head_text 200 PlainText (length body) closes) front rest at_end (ends 200 PlainText (length body) closes (inl refl)) split some short;
}

-- what has another status
other_is_read : (limit : ℕ) (answer : Answer) (closes : Bool) → IsStatus answer.status → length (head_text answer.status answer.media_type (length answer.body) closes) ≤ 65536 → (answer.status ≡ 200 → ⊥) → AnswerIsRead limit answer closes
other_is_read limit answer closes is fits not_ok = record {
  whole = λ ok media within more at_end. absurd (not_ok ok);
  part = λ ok media within front rest at_end split some. absurd (not_ok ok);
  long = λ ok media over more at_end. absurd (not_ok ok);
  other = λ different more at_end. refused_at limit answer.status answer.media_type (length answer.body) closes is fits (ne_eqb answer.status 200 not_ok) more at_end;
  text = λ ok media short more at_end. absurd (not_ok ok);
  begun = λ front rest at_end split some short. head_part limit (head_text answer.status answer.media_type (length answer.body) closes) front rest at_end (ends answer.status answer.media_type (length answer.body) closes is) split some short;
}

ok_is_read : (limit : ℕ) (media : MediaType) (body : List ℕ) (closes : Bool) → length (head_text 200 media (length body) closes) ≤ 65536 → AnswerIsRead limit (record { status = 200; media_type = media; body = body }) closes
ok_is_read limit NQuads body closes fits = page_is_read limit body closes fits
ok_is_read limit PlainText body closes fits = text_is_read limit body closes

pub status_case : (status : ℕ) → IsStatus status → (status ≡ 200) ⊎ (status ≡ 200 → ⊥)
status_case status (inl is) = inl is
status_case status (inr (inl is)) = inr (λ ok. absurd (omega (arith, is, ok)))
status_case status (inr (inr (inl is))) = inr (λ ok. absurd (omega (arith, is, ok)))
status_case status (inr (inr (inr (inl is)))) = inr (λ ok. absurd (omega (arith, is, ok)))
status_case status (inr (inr (inr (inr (inl is))))) = inr (λ ok. absurd (omega (arith, is, ok)))
status_case status (inr (inr (inr (inr (inr (inl is)))))) = inr (λ ok. absurd (omega (arith, is, ok)))
status_case status (inr (inr (inr (inr (inr (inr is)))))) = inr (λ ok. absurd (omega (arith, is, ok)))

read_case : (limit : ℕ) (answer : Answer) (closes : Bool) → IsStatus answer.status → length (head_text answer.status answer.media_type (length answer.body) closes) ≤ 65536
    → (answer.status ≡ 200) ⊎ (answer.status ≡ 200 → ⊥) → AnswerIsRead limit answer closes
read_case limit answer closes is fits (inr other) = other_is_read limit answer closes is fits other
read_case limit answer closes is fits (inl ok) =
    subst (λ (s : ℕ). AnswerIsRead limit (record { status = s; media_type = answer.media_type; body = answer.body }) closes) (sym ok)
    (ok_is_read limit answer.media_type answer.body closes (subst (λ (s : ℕ). length (head_text s answer.media_type (length answer.body) closes) ≤ 65536) ok fits))

pub answers_are_read : AnswersAreRead
answers_are_read limit answer closes is fits = read_case limit answer closes is fits (status_case answer.status is)

-- ---- what a server answers

page_status : (v : Bool) (a b : Answer) → IsStatus a.status → IsStatus b.status → IsStatus (if v then a else b).status
page_status true a b x y = x
page_status false a b x y = y

question_status : (history : List (List Triple)) (version : ℕ) (config : Config) (question : Option Question) → IsStatus (answer_if history version config question).status
question_status history version config None = inr (inl refl)
question_status history version config (Some question) = page_status _ _ _ (inl refl) (inr (inr (inl refl)))

reload_status : (mark : Mark) → IsStatus (reload_answer mark).status
unfolding reload_answer
reload_status (Served version) = inl refl
reload_status (Failed version) = inr (inr (inr (inr (inr (inl refl)))))
reload_status (Starved version) = inr (inr (inr (inr (inr (inr refl)))))

version_status : (history : List (List Triple)) (version : ℕ) (config : Config) (request : Request) → IsStatus (version_answer history version config request).status
unfolding version_answer
version_status history version config request =
    page_status (not (is_read request.method)) _ _ (inr (inr (inr (inl refl))))
    (page_status (not (bytes_eq (path_of request.target) config.base.path)) _ _ (inr (inr (inl refl)))
    (question_status history version config (question_of config.rows request.target)))

pub answers_have_status : AnswersHaveStatus
unfolding answer_to
answers_have_status history config mark request =
    page_status (is_reload config request) _ _ (reload_status mark) (version_status history (version_at mark) config request)

-- ---- pages

abbrev IsPage : Answer → Type 0
IsPage answer = answer.status ≡ 200 → answer.media_type ≡ NQuads

page_if : (v : Bool) (a b : Answer) → IsPage a → IsPage b → IsPage (if v then a else b)
page_if true a b x y = x
page_if false a b x y = y

no_page : (status : ℕ) → (status ≡ 200 → ⊥) → IsPage (refusal status)
no_page status other = λ ok. absurd (other ok)

page_question : (history : List (List Triple)) (version : ℕ) (config : Config) (question : Option Question) → IsPage (answer_if history version config question)
page_question history version config None = no_page 400 (λ ok. absurd (omega (arith, ok)))
page_question history version config (Some question) = page_if _ _ _ (λ ok. refl) (no_page 404 (λ ok. absurd (omega (arith, ok))))

version_page : (history : List (List Triple)) (version : ℕ) (config : Config) (request : Request) → IsPage (version_answer history version config request)
unfolding version_answer
version_page history version config request =
    page_if (not (is_read request.method)) _ _ (no_page 405 (λ ok. absurd (omega (arith, ok))))
    (page_if (not (bytes_eq (path_of request.target) config.base.path)) _ _ (no_page 404 (λ ok. absurd (omega (arith, ok))))
    (page_question history version config (question_of config.rows request.target)))

pub pages_are_nquads : PagesAreNQuads
unfolding answer_to
pages_are_nquads history mark config request other ok =
    let plain : answer_to history mark config request ≡ version_answer history (version_at mark) config request =
    ap (λ (v : Bool). if v then reload_answer mark else version_answer history (version_at mark) config request) other in
    ap (λ (a : Answer). a.media_type) plain ∙ version_page history (version_at mark) config request (ap (λ (a : Answer). a.status) (sym plain) ∙ ok)

-- ---- how long its refusals are

abbrev IsSmall : Answer → Type 0
IsSmall answer = (answer.status ≡ 200) ⊎ (length answer.body ≤ 40)

small_if : (v : Bool) (a b : Answer) → IsSmall a → IsSmall b → IsSmall (if v then a else b)
small_if true a b x y = x
small_if false a b x y = y

small_400 : IsSmall (refusal 400)
unfolding phrase decimal_text digits_up_to
small_400 = inr (omega arith)

small_404 : IsSmall (refusal 404)
unfolding phrase decimal_text digits_up_to
small_404 = inr (omega arith)

small_405 : IsSmall (refusal 405)
unfolding phrase decimal_text digits_up_to
small_405 = inr (omega arith)

small_500 : IsSmall (refusal 500)
unfolding phrase decimal_text digits_up_to
small_500 = inr (omega arith)

small_503 : IsSmall (refusal 503)
unfolding phrase decimal_text digits_up_to
small_503 = inr (omega arith)

small_reload : (mark : Mark) → IsSmall (reload_answer mark)
unfolding reload_answer
small_reload (Served version) = inl refl
small_reload (Failed version) = small_500
small_reload (Starved version) = small_503

small_page : (body : List ℕ) → IsSmall (record { status = 200; media_type = NQuads; body = body })
small_page body = inl refl

small_question : (history : List (List Triple)) (version : ℕ) (config : Config) (question : Option Question) → IsSmall (answer_if history version config question)
small_question history version config None = small_400
small_question history version config (Some question) = small_if _ _ _ (small_page _) small_404

small_version : (history : List (List Triple)) (version : ℕ) (config : Config) (request : Request) → IsSmall (version_answer history version config request)
unfolding version_answer
small_version history version config request =
    small_if (not (is_read request.method)) _ _ small_405
    (small_if (not (bytes_eq (path_of request.target) config.base.path)) _ _ small_404
    (small_question history version config (question_of config.rows request.target)))

small_answer : (history : List (List Triple)) (mark : Mark) (config : Config) (request : Request) → IsSmall (answer_to history mark config request)
unfolding answer_to
small_answer history mark config request = small_if (is_reload config request) _ _ (small_reload mark) (small_version history (version_at mark) config request)

-- ---- each answer of a server

word_fits : (status : ℕ) (media : MediaType) (n : ℕ) (closes : Bool) → IsStatus status → n < 2 ^ 64 → length (head_text status media n closes) ≤ 65536
word_fits status media n closes is small = few (length (head_text status media n closes)) (heads_are_short status media n 20 closes is (omega arith) (digits n small))
  where
    digits : (n : ℕ) → n < 2 ^ 64 → n < 10 ^ 20
    digits n h = omega arith

    few : (l : ℕ) → l ≤ 200 + 20 → l ≤ 65536
    few l h = omega arith

-- a head past the limit is that of a page of more bytes than 64 bits count
long_page : (answer : Answer) (closes : Bool) → IsStatus answer.status → 65536 < length (head_text answer.status answer.media_type (length answer.body) closes) → length answer.body < 2 ^ 64 → ⊥
long_page answer closes is long few = let fits = word_fits answer.status answer.media_type (length answer.body) closes is few in omega arith

long_other : (answer : Answer) (closes : Bool) → IsStatus answer.status → 65536 < length (head_text answer.status answer.media_type (length answer.body) closes) → (answer.status ≡ 200 → ⊥) → IsSmall answer → ⊥
long_other answer closes is long other (inl ok) = other ok
long_other answer closes is long other (inr few) = long_page answer closes is long (omega arith)

over_long : (limit : ℕ) (answer : Answer) (closes : Bool) → limit < 2 ^ 64 → IsStatus answer.status → IsSmall answer → 65536 < length (head_text answer.status answer.media_type (length answer.body) closes) → AnswerIsRead limit answer closes
over_long limit answer closes word is small long = record {
  whole = λ ok media within more at_end. absurd (long_page answer closes is long (omega arith));
  part = λ ok media within front rest at_end split some. absurd (long_page answer closes is long (omega arith));
  long = λ ok media over more at_end. long_heads_are_refused limit answer.status answer.media_type (length answer.body) closes is long more at_end;
  other = λ not_ok more at_end. absurd (long_other answer closes is long not_ok small);
  text = λ ok media fits more at_end. absurd (omega (arith, long, fits));
  begun = λ front rest at_end split some short. head_part limit (head_text answer.status answer.media_type (length answer.body) closes) front rest at_end (ends answer.status answer.media_type (length answer.body) closes is) split some short;
}

pub server_answers_are_read : ServerAnswersAreRead
server_answers_are_read limit history mark config request closes word =
    let answer = answer_to history mark config request in
    let is = answers_have_status history config mark request in
    elim (cases_lt 65536 (length (head_text answer.status answer.media_type (length answer.body) closes))) [
      | inl long ↦ over_long limit answer closes word is (small_answer history mark config request) long
      | inr fits ↦ answers_are_read limit answer closes is fits
    ]
