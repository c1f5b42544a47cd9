-- A whole reply at the front of what a server answers is the answer.
use Rattle.std.proofs.Common.{append-nil, ◌≡◌, ◌≢◌, ℕ, ◌+◌, ◌<◌, ◌≤◌, Bool, true, false, List, [], ◌∷◌, ◌++◌, length, refl, sym, ap, ◌∙◌, arith, length-append, inl, inr, Option, Some}
use Rattle.std.specs.Prelude.{◌⊎◌, ◌^◌}
use Rattle.std.proofs.lemmas.Bool.{cases_lt, lt-ltb}
use Rattle.tpf_base.specs.declared.limits.TheConstants.{HEADS_LIMIT}
use Rattle.tpf_base.specs.Links.{some_left}
use Rattle.tpf_base.specs.Decimals.{decimal_text, digits_up_to}
use Rattle.tpf_base.specs.HttpReply.{Reading, More, Whole, Bad, ReplyFault, TooLong, BadStatus, reply_of, reading_from}
use Rattle.template_fill.specs.HttpAnswer.{Answer, MediaType, NQuads, PlainText, answer_text, head_text, refusal, phrase}
use Rattle.http_ends.specs.Answers.{IsStatus, AnswerIsRead, AnswersAreRead, LongHeadsAreRefused, HeadsAreShort}
use Rattle.http_ends.proofs.BodyReadings.{IsWithinHead, IsPast, front_cases}
use Rattle.pool_laws.proofs.LongHeads.{page_ends, part_is_none}

more_whole : (r : Reading) (body : List ℕ) (n : ℕ) (keeps : Bool) → r ≡ More → r ≡ Whole body n keeps → ⊥
more_whole r body n keeps m w = cc

bad_whole : (r : Reading) (fault : ReplyFault) (body : List ℕ) (n : ℕ) (keeps : Bool) → r ≡ Bad fault → r ≡ Whole body n keeps → ⊥
bad_whole r fault body n keeps b w = cc

same_body : (r : Reading) (body other : List ℕ) (n m : ℕ) (keeps kept : Bool) → r ≡ Whole body n keeps → r ≡ Whole other m kept → body ≡ other
same_body r body other n m keeps kept w v = cc

other_fault : (r : Reading) (status : ℕ) → r ≡ Bad TooLong → r ≡ Bad (BadStatus status) → ⊥
other_fault r status b c = cc

text_is : (answer : Answer) (closes : Bool) → answer_text answer false closes ≡ head_text answer.status answer.media_type (length answer.body) closes ++ answer.body
unfolding answer_text
text_is answer closes = refl

-- a whole reply
module _ (limit : ℕ) (received body : List ℕ) (n : ℕ) (keeps at_end : Bool) (whole : reply_of received at_end limit ≡ Whole body n keeps) where
  -- ---- a refusal is none

  refused_case : (answer : Answer) (closes : Bool) (rest : List ℕ) → AnswerIsRead limit answer closes → answer.status ≢ 200 → length (head_text answer.status answer.media_type (length answer.body) closes) ≤ HEADS_LIMIT
      → IsWithinHead (head_text answer.status answer.media_type (length answer.body) closes) received ⊎ IsPast (head_text answer.status answer.media_type (length answer.body) closes) answer.body received rest → ⊥
  refused_case answer closes rest read other short (inl w) =
      let count : length (head_text answer.status answer.media_type (length answer.body) closes) ≡ length received + length w.rest = ap (λ (t : List ℕ). length t) w.is ∙ length-append received w.rest in
      more_whole _ body n keeps (read.begun received w.rest at_end w.is w.some (below _ (length received) (length w.rest) count w.some short)) whole
    where
      below : (l r s : ℕ) → l ≡ r + s → 0 < s → l ≤ HEADS_LIMIT → r < HEADS_LIMIT
      below l r s is some few = omega arith
  refused_case answer closes rest read other short (inr p) =
      bad_whole _ (BadStatus answer.status) body n keeps (ap (λ (t : List ℕ). reply_of t at_end limit) p.front_is ∙ read.other other p.part at_end) whole

  pub no_refusal : (answer : Answer) (closes : Bool) (rest : List ℕ) → AnswerIsRead limit answer closes → answer.status ≢ 200 → length (head_text answer.status answer.media_type (length answer.body) closes) ≤ HEADS_LIMIT
      → answer_text answer false closes ≡ received ++ rest → ⊥
  no_refusal answer closes rest read other short is =
      refused_case answer closes rest read other short (front_cases (head_text answer.status answer.media_type (length answer.body) closes) answer.body received rest (sym (text_is answer closes) ∙ is))

  -- ---- nothing is none

  nothing_read : (bs rest : List ℕ) → bs ++ rest ≡ [] → reply_of bs at_end limit ≡ More
  unfolding reading_from
  nothing_read [] rest is = refl
  nothing_read (b ∷ bs) rest is = absurd cc

  pub no_nothing : (rest : List ℕ) → received ++ rest ≡ [] → ⊥
  no_nothing rest is = more_whole (reply_of received at_end limit) body n keeps (nothing_read received rest is) whole

  -- ---- a page

  within_case : (answer : Answer) (rest : List ℕ) → AnswerIsRead limit answer false → answer.status ≡ 200 → answer.media_type ≡ NQuads → length answer.body ≤ limit
      → answer_text answer false false ≡ received ++ rest → body ≡ answer.body
  within_case answer [] read ok page few is =
      same_body (reply_of received at_end limit) body answer.body n (length (answer_text answer false false)) keeps true whole
      (ap (λ (t : List ℕ). reply_of t at_end limit) (sym (append-nil received) ∙ sym is ∙ sym (append-nil (answer_text answer false false))) ∙ read.whole ok page few [] at_end)
  within_case answer (b ∷ rest) read ok page few is = absurd (more_whole _ body n keeps (read.part ok page few received (b ∷ rest) at_end is (omega arith)) whole)

  over_case : (answer : Answer) (rest : List ℕ) → AnswerIsRead limit answer false → answer.status ≡ 200 → answer.media_type ≡ NQuads → limit < length answer.body
      → IsWithinHead (head_text answer.status answer.media_type (length answer.body) false) received ⊎ IsPast (head_text answer.status answer.media_type (length answer.body) false) answer.body received rest → ⊥
  over_case answer rest read ok page many (inl w) =
      let is : head_text 200 NQuads (length answer.body) false ≡ received ++ w.rest =
      ap (λ (s : ℕ). head_text s NQuads (length answer.body) false) (sym ok) ∙ ap (λ (m : MediaType). head_text answer.status m (length answer.body) false) (sym page) ∙ w.is in
      part_is_none limit (head_text 200 NQuads (length answer.body) false) received w.rest body n keeps at_end (page_ends (length answer.body)) is w.some whole
  over_case answer rest read ok page many (inr p) =
      bad_whole _ TooLong body n keeps (ap (λ (t : List ℕ). reply_of t at_end limit) p.front_is ∙ read.long ok page many p.part at_end) whole

  page_case : (answer : Answer) (rest : List ℕ) → AnswerIsRead limit answer false → answer.status ≡ 200 → answer.media_type ≡ NQuads → answer_text answer false false ≡ received ++ rest
      → (limit < length answer.body) ⊎ (length answer.body ≤ limit) → body ≡ answer.body
  page_case answer rest read ok page is (inr few) = within_case answer rest read ok page few is
  page_case answer rest read ok page is (inl many) =
      absurd (over_case answer rest read ok page many (front_cases (head_text answer.status answer.media_type (length answer.body) false) answer.body received rest (sym (text_is answer false) ∙ is)))

  pub page_body_is : (answer : Answer) (rest : List ℕ) → AnswerIsRead limit answer false → answer.status ≡ 200 → answer.media_type ≡ NQuads → answer_text answer false false ≡ received ++ rest → body ≡ answer.body
  page_body_is answer rest read ok page is = page_case answer rest read ok page is (cases_lt limit (length answer.body))

  -- ---- any answer of a server

  -- the head of another status is short: a long one is refused for its length
  short_case : LongHeadsAreRefused → (answer : Answer) (closes : Bool) → IsStatus answer.status → AnswerIsRead limit answer closes → answer.status ≢ 200
      → (HEADS_LIMIT < length (head_text answer.status answer.media_type (length answer.body) closes)) ⊎ (length (head_text answer.status answer.media_type (length answer.body) closes) ≤ HEADS_LIMIT)
      → length (head_text answer.status answer.media_type (length answer.body) closes) ≤ HEADS_LIMIT
  short_case refused answer closes is read other (inr few) = few
  short_case refused answer closes is read other (inl many) =
      absurd (other_fault _ answer.status (refused limit answer.status answer.media_type (length answer.body) closes is many [] false) (read.other other [] false))

  pub status_is : LongHeadsAreRefused → (answer : Answer) (rest : List ℕ) → IsStatus answer.status → AnswerIsRead limit answer false → answer_text answer false false ≡ received ++ rest
      → (answer.status ≡ 200) ⊎ (answer.status ≡ 200 → ⊥) → answer.status ≡ 200
  status_is refused answer rest is read same (inl ok) = ok
  status_is refused answer rest is read same (inr other) =
      absurd (no_refusal answer false rest read other (short_case refused answer false is read other (cases_lt HEADS_LIMIT (length (head_text answer.status answer.media_type (length answer.body) false)))) same)

-- ---- a whole answer

same_fault : (r : Reading) (why other : ReplyFault) → r ≡ Bad why → r ≡ Bad other → why ≡ other
same_fault r why other b c = cc

-- a page is refused as too long alone
pub page_refusal : (limit : ℕ) (answer : Answer) (text : List ℕ) (why : ReplyFault) → AnswerIsRead limit answer false → answer.status ≡ 200 → answer.media_type ≡ NQuads
    → text ≡ answer_text answer false false → reply_of text false limit ≡ Bad why → why ≡ TooLong
page_refusal limit answer text why read ok page is bad = elim (cases_lt limit (length answer.body)) [
  | inr few ↦ absurd (bad_whole _ why answer.body _ true bad (ap (λ (t : List ℕ). reply_of t false limit) (is ∙ sym (append-nil (answer_text answer false false))) ∙ read.whole ok page few [] false))
  | inl many ↦ same_fault _ why TooLong bad (ap (λ (t : List ℕ). reply_of t false limit) (is ∙ text_is answer false) ∙ read.long ok page many answer.body false)
]

-- and only where its body is longer than the limit
pub page_is_long : (limit : ℕ) (answer : Answer) (text : List ℕ) (why : ReplyFault) → AnswerIsRead limit answer false → answer.status ≡ 200 → answer.media_type ≡ NQuads
    → text ≡ answer_text answer false false → reply_of text false limit ≡ Bad why → limit < length answer.body
page_is_long limit answer text why read ok page is bad = elim (cases_lt limit (length answer.body)) [
  | inr few ↦ absurd (bad_whole _ why answer.body _ true bad (ap (λ (t : List ℕ). reply_of t false limit) (is ∙ sym (append-nil (answer_text answer false false))) ∙ read.whole ok page few [] false))
  | inl many ↦ many
]

-- an answer of another status is refused for its status alone
pub other_refusal : (limit : ℕ) (answer : Answer) (text : List ℕ) (why : ReplyFault) → AnswerIsRead limit answer false → answer.status ≢ 200
    → text ≡ answer_text answer false false → reply_of text false limit ≡ Bad why → why ≡ BadStatus answer.status
other_refusal limit answer text why read other is bad =
    same_fault _ why (BadStatus answer.status) bad (ap (λ (t : List ℕ). reply_of t false limit) (is ∙ text_is answer false) ∙ read.other other answer.body false)

more_bad : (r : Reading) (fault : ReplyFault) → r ≡ More → r ≡ Bad fault → ⊥
more_bad r fault m b = cc

-- a whole answer is no part of a reply
module _ (limit : ℕ) (at_end : Bool) (answer : Answer) (received : List ℕ) (read : AnswerIsRead limit answer false) (is : received ≡ answer_text answer false false) (more : reply_of received at_end limit ≡ More) where
  no_page : answer.status ≡ 200 → answer.media_type ≡ NQuads → (limit < length answer.body) ⊎ (length answer.body ≤ limit) → ⊥
  no_page ok page (inr few) = more_whole _ answer.body _ true more (ap (λ (t : List ℕ). reply_of t at_end limit) (is ∙ sym (append-nil (answer_text answer false false))) ∙ read.whole ok page few [] at_end)
  no_page ok page (inl many) = more_bad _ TooLong more (ap (λ (t : List ℕ). reply_of t at_end limit) (is ∙ text_is answer false) ∙ read.long ok page many answer.body at_end)

  no_answer : (answer.status ≡ 200 → answer.media_type ≡ NQuads) → (answer.status ≡ 200) ⊎ (answer.status ≡ 200 → ⊥) → ⊥
  no_answer page (inl ok) = no_page ok (page ok) (cases_lt limit (length answer.body))
  no_answer page (inr other) = more_bad _ (BadStatus answer.status) more (ap (λ (t : List ℕ). reply_of t at_end limit) (is ∙ text_is answer false) ∙ read.other other answer.body at_end)

pub rest_some : (limit : ℕ) (at_end : Bool) (received rest : List ℕ) (answer : Answer) → AnswerIsRead limit answer false → (answer.status ≡ 200 → answer.media_type ≡ NQuads) → received ++ rest ≡ answer_text answer false false
    → reply_of received at_end limit ≡ More → (answer.status ≡ 200) ⊎ (answer.status ≡ 200 → ⊥) → 0 < length rest
rest_some limit at_end received [] answer read page is more which = absurd (no_answer limit at_end answer received read (sym (append-nil received) ∙ is) more page which)
rest_some limit at_end received (b ∷ rest) answer read page is more which = omega arith

pub left_some : (owed had : Option (List ℕ)) (all rest : List ℕ) → had ≡ Some all → owed ≡ Some (all ++ rest) → 0 < length rest → some_left had owed ≡ true
left_some owed had all rest is_had is_owed some =
    ap (λ (o : Option (List ℕ)). some_left o owed) is_had ∙ ap (λ (o : Option (List ℕ)). some_left (Some all) o) is_owed
    ∙ lt-ltb (length all) (length (all ++ rest)) (omega (arith, length-append all rest, some))

-- ---- the refusal of a request that is too long

abbrev pub too_long : Answer
too_long = refusal 431

long_body : length too_long.body < 10 ^ 2
unfolding phrase decimal_text digits_up_to
long_body = omega arith

long_short : HeadsAreShort → length (head_text too_long.status too_long.media_type (length too_long.body) true) ≤ HEADS_LIMIT
long_short short = few _ (short 431 PlainText (length too_long.body) 2 true (inr (inr (inr (inr (inl refl))))) (omega arith) long_body)
  where
    few : (l : ℕ) → l ≤ 200 + 2 → l ≤ HEADS_LIMIT
    few l h = omega arith

pub no_too_long : AnswersAreRead → HeadsAreShort → (limit : ℕ) (received rest body : List ℕ) (n : ℕ) (keeps at_end : Bool) → reply_of received at_end limit ≡ Whole body n keeps
    → answer_text too_long false true ≡ received ++ rest → ⊥
no_too_long reads short limit received rest body n keeps at_end whole is =
    no_refusal limit received body n keeps at_end whole too_long true rest (reads limit too_long true (inr (inr (inr (inr (inl refl))))) (long_short short)) (λ e. absurd (omega (arith, e))) (long_short short) is

-- nor is the whole refusal a part of a reply
pub refusal_some : AnswersAreRead → HeadsAreShort → (limit : ℕ) (at_end : Bool) (received rest : List ℕ) → received ++ rest ≡ answer_text too_long false true → reply_of received at_end limit ≡ More → 0 < length rest
refusal_some reads short limit at_end received [] is more =
    let read = reads limit too_long true (inr (inr (inr (inr (inl refl))))) (long_short short) in
    absurd (more_bad _ (BadStatus 431) more (ap (λ (t : List ℕ). reply_of t at_end limit) (sym (append-nil received) ∙ is ∙ text_is too_long true) ∙ read.other (λ e. absurd (omega (arith, e))) too_long.body at_end))
refusal_some reads short limit at_end received (b ∷ rest) is more = omega arith
