-- No part of the head of a page is a reply, however long the head.
use Rattle.std.proofs.Common.{◌≡◌, ℕ, ◌+◌, ◌<◌, Bool, true, false, List, [], ◌∷◌, ◌++◌, length, refl, sym, ap, if◌then◌else◌, ◌∙◌, arith, append_assoc, length-append, inl, inr}
use Rattle.std.specs.Prelude.{◌⊎◌, codes, nat_le, nat_lt}
use Rattle.httparse.specs.Grammar.{is_token_byte, trim_ows}
use Rattle.tpf_base.specs.declared.limits.TheConstants.{HEADS_LIMIT, MOST_FIELDS}
use Rattle.tpf_base.specs.Decimals.{digits_up_to, decimal_text}
use Rattle.tpf_base.specs.HttpHeads.{ends_empty, field_lines}
use Rattle.tpf_base.specs.HttpReply.{Place, InHeads, Failed, BadHead, TooLong, Reading, More, Whole, Bad, one_more, head_place, response_head, after_head_byte, reading_from, reply_of}
use Rattle.http_wire.proofs.RunLemmas.{over_reading, open_reading}
use Rattle.template_fill.specs.HttpAnswer.{NQuads, head_text, answer_fields, phrase}
use Rattle.http_ends.proofs.Answers.{length_whole}
use Rattle.http_ends.proofs.EmptyLines.{EndsOnce, front_no_end}
use Rattle.http_ends.proofs.HeadTexts.{IsWhole, AreWhole, head_ends}

-- ---- the head of a page ends at its only empty line

type_whole : IsWhole (codes "Content-Type", codes "application/n-quads")
unfolding is_token_byte trim_ows
type_whole = record { some = omega arith; name = refl; in_line = refl; value = refl; trimmed = refl }

page_whole : (n : ℕ) → AreWhole (decimal_text 200) (phrase 200) (answer_fields 200 NQuads n false)
unfolding decimal_text digits_up_to phrase answer_fields
page_whole n = record { three = refl; are_digits = refl; is_phrase = refl; are_fields = (type_whole, (length_whole n, tt)) }

pub page_ends : (n : ℕ) → EndsOnce (head_text 200 NQuads n false)
unfolding head_text
page_ends n = head_ends (decimal_text 200) (phrase 200) (answer_fields 200 NQuads n false) (page_whole n)

-- ---- a part of a head

-- it wants more, or is too long
abbrev IsNone : Reading → Type 0
IsNone r = (r ≡ More) ⊎ (r ≡ Bad TooLong)

one_none : (r : Reading) → IsNone r → IsNone (one_more r)
one_none r (inl is) = inl (ap one_more is)
one_none r (inr is) = inr (ap one_more is)

unended : (limit : ℕ) (head : List ℕ) → ends_empty head (length head) ≡ false → after_head_byte limit 0 head ≡ (if nat_le HEADS_LIMIT (0 + length head) then Failed TooLong else InHeads 0 head)
unfolding after_head_byte
unended limit head early =
    ap (λ (v : Bool). if v then (if nat_lt MOST_FIELDS (field_lines head) then Failed BadHead else head_place limit (0 + length head) (response_head head)) else (if nat_le HEADS_LIMIT (0 + length head) then Failed TooLong else InHeads 0 head)) early

next_none : (limit : ℕ) (head xs : List ℕ) (at_end v : Bool) → IsNone (reading_from limit (InHeads 0 head) xs at_end) → IsNone (reading_from limit (if v then Failed TooLong else InHeads 0 head) xs at_end)
next_none limit head xs at_end true go = inr (over_reading limit (Failed TooLong) xs at_end refl)
next_none limit head xs at_end false go = go

as_none : (r q : Reading) → r ≡ q → IsNone q → IsNone r
as_none r q e (inl is) = inl (e ∙ is)
as_none r q e (inr is) = inr (e ∙ is)

part_none : (limit : ℕ) (text : List ℕ) → EndsOnce text → (seen xs rest : List ℕ) (at_end : Bool) → text ≡ (seen ++ xs) ++ rest → 0 < length rest → IsNone (reading_from limit (InHeads 0 seen) xs at_end)
unfolding reading_from
part_none limit text once seen [] rest at_end is some = inl refl
part_none limit text once seen (b ∷ xs) rest at_end is some =
    let next : seen ++ b ∷ xs ≡ (seen ++ b ∷ []) ++ xs = sym (append_assoc seen (b ∷ []) xs) in
    let split : text ≡ ((seen ++ b ∷ []) ++ xs) ++ rest = is ∙ ap (λ (t : List ℕ). t ++ rest) next in
    let whole : text ≡ (seen ++ b ∷ []) ++ (xs ++ rest) = split ∙ append_assoc (seen ++ b ∷ []) xs rest in
    let more : length (xs ++ rest) ≡ length xs + length rest = length-append xs rest in
    let early : ends_empty (seen ++ b ∷ []) (length (seen ++ b ∷ [])) ≡ false = front_no_end text (seen ++ b ∷ []) (xs ++ rest) (length (seen ++ b ∷ [])) once whole (omega arith) (omega arith) in
    as_none (reading_from limit (InHeads 0 seen) (b ∷ xs) at_end) (one_more (reading_from limit (after_head_byte limit 0 (seen ++ b ∷ [])) xs at_end)) (open_reading limit (InHeads 0 seen) b xs at_end refl)
    (one_none (reading_from limit (after_head_byte limit 0 (seen ++ b ∷ [])) xs at_end)
    (as_none _ _ (ap (λ (p : Place). reading_from limit p xs at_end) (unended limit (seen ++ b ∷ []) early))
    (next_none limit (seen ++ b ∷ []) xs at_end (nat_le HEADS_LIMIT (0 + length (seen ++ b ∷ []))) (part_none limit text once (seen ++ b ∷ []) xs rest at_end split some))))

none_whole : (r : Reading) (body : List ℕ) (n : ℕ) (keeps : Bool) → IsNone r → r ≡ Whole body n keeps → ⊥
none_whole r body n keeps (inl is) w = cc
none_whole r body n keeps (inr is) w = cc

pub part_is_none : (limit : ℕ) (text part rest body : List ℕ) (n : ℕ) (keeps at_end : Bool) → EndsOnce text → text ≡ part ++ rest → 0 < length rest → reply_of part at_end limit ≡ Whole body n keeps → ⊥
part_is_none limit text part rest body n keeps at_end once is some w = none_whole _ body n keeps (part_none limit text once [] part rest at_end is some) w
