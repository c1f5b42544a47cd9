-- A reply is read byte after byte: its head, and a body whose length is known.
use Rattle.std.proofs.Common.{append-nil, ◌≡◌, ℕ, zero, suc, ◌+◌, ◌-◌, ◌<◌, ◌≤◌, Bool, true, false, List, [], ◌∷◌, ◌++◌, length, refl, sym, ap, ap₂, subst, if◌then◌else◌, ◌∙◌, arith, append_assoc, length-append, inl, inr}
use Rattle.std.specs.Prelude.{◌⊎◌, nat_le, nat_lt}
use Rattle.std.proofs.lemmas.Bool.Decides.{nat_tests}
use Rattle.tpf_base.specs.declared.limits.TheConstants.{HEADS_LIMIT, MOST_FIELDS}
use Rattle.tpf_base.specs.HttpHeads.{ends_empty, field_lines}
use Rattle.tpf_base.specs.HttpReply.{Place, InHeads, InSized, Finished, Failed, Gathered, with_byte, Reading, More, Whole, Bad, TooLong, BadHead, one_more, at_the_end, is_open, after_byte, after_bytes, after_head_byte, reading_from, reply_of, begun, head_place, response_head}
use Rattle.http_wire.specs.Replies.{longer}
use Rattle.http_wire.specs.Places.{judged_place}
use Rattle.http_wire.proofs.RunLemmas.{over_reading, open_reading, reading_append}
use Rattle.http_ends.proofs.EmptyLines.{EndsOnce, front_no_end, end_at_last}

-- ---- a body

last_one : (limit wanted : ℕ) (g : Gathered) (b : ℕ) → wanted ≡ 1 → after_byte limit (InSized wanted g) b ≡ Finished (with_byte g b)
last_one limit wanted g b is = ap (λ (n : ℕ). if nat_le n 1 then Finished (with_byte g b) else InSized (n - 1) (with_byte g b)) is

not_last : (limit wanted : ℕ) (g : Gathered) (b : ℕ) → 1 < wanted → after_byte limit (InSized wanted g) b ≡ InSized (wanted - 1) (with_byte g b)
not_last limit wanted g b some = ap (λ (v : Bool). if v then Finished (with_byte g b) else InSized (wanted - 1) (with_byte g b)) (above wanted some)
  where
    above : (n : ℕ) → 1 < n → nat_le n 1 ≡ false
    above n h = grind (arith, nat_tests)

-- a body of the wanted length is read whole, whatever follows
pub sized_whole : (limit wanted : ℕ) (g : Gathered) (b : ℕ) (body more : List ℕ) (at_end : Bool) → length (b ∷ body) ≡ wanted
    → reading_from limit (InSized wanted g) (b ∷ (body ++ more)) at_end ≡ Whole (g.body ++ b ∷ body) wanted g.keeps
sized_whole limit wanted g b [] more at_end is =
    open_reading limit (InSized wanted g) b more at_end refl
    ∙ ap (λ (p : Place). one_more (reading_from limit p more at_end)) (last_one limit wanted g b (sym is))
    ∙ ap one_more (over_reading limit (Finished (with_byte g b)) more at_end refl)
    ∙ ap (λ (n : ℕ). Whole (g.body ++ b ∷ []) n g.keeps) is
sized_whole limit wanted g b (c ∷ body) more at_end is =
    open_reading limit (InSized wanted g) b (c ∷ (body ++ more)) at_end refl
    ∙ ap (λ (p : Place). one_more (reading_from limit p (c ∷ (body ++ more)) at_end)) (not_last limit wanted g b (omega arith))
    ∙ ap one_more (sized_whole limit (wanted - 1) (with_byte g b) c body more at_end (omega arith))
    ∙ ap₂ (λ (t : List ℕ) (n : ℕ). Whole t n g.keeps) (append_assoc g.body (b ∷ []) (c ∷ body)) (omega arith)

-- a part of it wants more
pub sized_part : (limit wanted : ℕ) (g : Gathered) (part : List ℕ) (at_end : Bool) → length part < wanted → reading_from limit (InSized wanted g) part at_end ≡ More
unfolding reading_from
sized_part limit wanted g [] at_end some = refl
sized_part limit wanted g (b ∷ part) at_end some =
    ap (λ (p : Place). one_more (reading_from limit p part at_end)) (not_last limit wanted g b (omega arith))
    ∙ ap one_more (sized_part limit (wanted - 1) (with_byte g b) part at_end (omega arith))

-- ---- a head

unended : (limit : ℕ) (head : List ℕ) → ends_empty head (length head) ≡ false → length head < 65536 → after_head_byte limit 0 head ≡ InHeads 0 head
unfolding after_head_byte
unended limit head early short =
    ap (λ (v : Bool). if v then (if nat_lt MOST_FIELDS (field_lines head) then Failed BadHead else head_place limit (0 + length head) (response_head head)) else (if nat_le HEADS_LIMIT (0 + length head) then Failed TooLong else InHeads 0 head)) early
    ∙ ap (λ (v : Bool). if v then Failed TooLong else InHeads 0 head) (below (length head) short)
  where
    below : (n : ℕ) → n < 65536 → nat_le 65536 (0 + n) ≡ false
    below n h = grind (arith, nat_tests)

ended : (limit : ℕ) (head : List ℕ) → ends_empty head (length head) ≡ true → after_head_byte limit 0 head ≡ judged_place limit (0 + length head) head
unfolding after_head_byte judged_place
ended limit head whole =
    ap (λ (v : Bool). if v then (if nat_lt MOST_FIELDS (field_lines head) then Failed BadHead else head_place limit (0 + length head) (response_head head)) else (if nat_le HEADS_LIMIT (0 + length head) then Failed TooLong else InHeads 0 head)) whole

-- a proper front of a head is held, as far as the limit of heads goes
heads_go : (limit : ℕ) (text : List ℕ) → EndsOnce text → (seen xs rest : List ℕ) → text ≡ (seen ++ xs) ++ rest → 0 < length rest → length (seen ++ xs) < 65536
    → after_bytes limit (InHeads 0 seen) xs ≡ InHeads 0 (seen ++ xs)
unfolding after_bytes
heads_go limit text once seen [] rest is some short = ap (InHeads 0) (sym (append-nil seen))
heads_go limit text once seen (b ∷ xs) rest is some short =
    let next : seen ++ b ∷ xs ≡ (seen ++ b ∷ []) ++ xs = sym (append_assoc seen (b ∷ []) xs) in
    let split : text ≡ ((seen ++ b ∷ []) ++ xs) ++ rest = is ∙ ap (λ (t : List ℕ). t ++ rest) next in
    let whole : text ≡ (seen ++ b ∷ []) ++ (xs ++ rest) = split ∙ append_assoc (seen ++ b ∷ []) xs rest in
    let more : length (xs ++ rest) ≡ length xs + length rest = length-append xs rest in
    let count : length (seen ++ b ∷ xs) ≡ length (seen ++ b ∷ []) + length xs = ap (λ (t : List ℕ). length t) next ∙ length-append (seen ++ b ∷ []) xs in
    let early : ends_empty (seen ++ b ∷ []) (length (seen ++ b ∷ [])) ≡ false = front_no_end text (seen ++ b ∷ []) (xs ++ rest) (length (seen ++ b ∷ [])) once whole (omega arith) (omega arith) in
    ap (λ (p : Place). after_bytes limit p xs) (unended limit (seen ++ b ∷ []) early (omega arith))
    ∙ heads_go limit text once (seen ++ b ∷ []) xs rest split some (subst (λ (t : List ℕ). length t < 65536) next short)
    ∙ ap (InHeads 0) (sym next)

head_open : (limit : ℕ) (text front rest : List ℕ) → EndsOnce text → text ≡ front ++ rest → 0 < length rest → length front < 65536 → after_bytes limit begun front ≡ InHeads 0 front
head_open limit text front rest once is some short = heads_go limit text once [] front rest is some short

-- a part of a head wants more
pub head_part : (limit : ℕ) (text front rest : List ℕ) (at_end : Bool) → EndsOnce text → text ≡ front ++ rest → 0 < length rest → length front < 65536 → reply_of front at_end limit ≡ More
unfolding reading_from
head_part limit text front rest at_end once is some short =
    let place = head_open limit text front rest once is some short in
    ap (λ (t : List ℕ). reading_from limit begun t at_end) (sym (append-nil front))
    ∙ reading_append limit begun front [] at_end (ap is_open place)
    ∙ ap (λ (p : Place). longer (length front) (at_the_end at_end p)) place

longer_one : (k n : ℕ) (r : Reading) → n ≡ k + 1 → longer k (one_more r) ≡ longer n r
longer_one k n More is = refl
longer_one k n (Whole body m keeps) is = ap (λ (j : ℕ). Whole body j keeps) (omega arith)
longer_one k n (Bad fault) is = refl

-- what follows a whole head is read from the place behind it
pub head_whole : (limit : ℕ) (text rest : List ℕ) (at_end : Bool) → EndsOnce text → length text ≤ 65536
    → reply_of (text ++ rest) at_end limit ≡ longer (length text) (reading_from limit (judged_place limit (0 + length text) text) rest at_end)
head_whole limit text rest at_end once short =
    let front : List ℕ = once.first ∷ once.second ∷ once.middle in
    let is : text ≡ (once.first ∷ once.second ∷ once.middle) ++ 10 ∷ [] = once.is_text in
    let count : length text ≡ length (once.first ∷ once.second ∷ once.middle) + 1 = ap (λ (t : List ℕ). length t) is ∙ length-append (once.first ∷ once.second ∷ once.middle) (10 ∷ []) in
    let place = head_open limit text (once.first ∷ once.second ∷ once.middle) (10 ∷ []) once is (omega arith) (omega arith) in
    let behind : after_byte limit (InHeads 0 (once.first ∷ once.second ∷ once.middle)) 10 ≡ judged_place limit (0 + length text) text =
    ap (after_head_byte limit 0) (sym is) ∙ ended limit text (end_at_last text once) in
    ap (λ (t : List ℕ). reading_from limit begun t at_end) (ap (λ (t : List ℕ). t ++ rest) is ∙ append_assoc (once.first ∷ once.second ∷ once.middle) (10 ∷ []) rest)
    ∙ reading_append limit begun (once.first ∷ once.second ∷ once.middle) (10 ∷ rest) at_end (ap is_open place)
    ∙ ap (λ (p : Place). longer (length (once.first ∷ once.second ∷ once.middle)) (reading_from limit p (10 ∷ rest) at_end)) place
    ∙ ap (longer (length (once.first ∷ once.second ∷ once.middle))) (open_reading limit (InHeads 0 (once.first ∷ once.second ∷ once.middle)) 10 rest at_end refl)
    ∙ longer_one (length (once.first ∷ once.second ∷ once.middle)) (length text) (reading_from limit (after_byte limit (InHeads 0 (once.first ∷ once.second ∷ once.middle)) 10) rest at_end) count
    ∙ ap (λ (p : Place). longer (length text) (reading_from limit p rest at_end)) behind

-- ---- a head past the limit

-- a text behind so many bytes
record SplitAt (k : ℕ) (text : List ℕ) : Type 0 where
  front : List ℕ
  byte : ℕ
  rest : List ℕ
  is : text ≡ front ++ byte ∷ rest
  count : length front ≡ k
  some : 0 < length rest

split_at : (k : ℕ) (text : List ℕ) → k + 1 < length text → SplitAt k text
split_at k [] h = absurd (omega arith)
split_at zero (b ∷ text) h = record { front = []; byte = b; rest = text; is = refl; count = refl; some = omega arith }
split_at (suc k) (b ∷ text) h =
    let s = split_at k text (omega arith) in
    record { front = b ∷ s.front; byte = s.byte; rest = s.rest; is = ap (λ (t : List ℕ). b ∷ t) s.is; count = omega (arith, s.count); some = s.some }

past : (limit : ℕ) (head : List ℕ) → ends_empty head (length head) ≡ false → length head ≡ 65536 → after_head_byte limit 0 head ≡ Failed TooLong
unfolding after_head_byte
past limit head early long =
    ap (λ (v : Bool). if v then (if nat_lt MOST_FIELDS (field_lines head) then Failed BadHead else head_place limit (0 + length head) (response_head head)) else (if nat_le HEADS_LIMIT (0 + length head) then Failed TooLong else InHeads 0 head)) early
    ∙ ap (λ (v : Bool). if v then Failed TooLong else InHeads 0 head) (full (length head) long)
  where
    full : (n : ℕ) → n ≡ 65536 → nat_le 65536 (0 + n) ≡ true
    full n h = grind (arith, nat_tests)

-- it is refused, whatever follows
pub head_long : (limit : ℕ) (text more : List ℕ) (at_end : Bool) → EndsOnce text → 65536 < length text → reply_of (text ++ more) at_end limit ≡ Bad TooLong
head_long limit text more at_end once long = from (split_at 65535 text (omega arith))
  where
    total : (n m : ℕ) → n ≡ m + 1 → m ≡ 65535 → n ≡ 65536
    total n m is k = omega arith

    under : (n : ℕ) → n ≡ 65535 → n < 65536
    under n is = omega arith

    from : SplitAt 65535 text → reply_of (text ++ more) at_end limit ≡ Bad TooLong
    from s =
        let next : text ≡ (s.front ++ s.byte ∷ []) ++ s.rest = s.is ∙ sym (append_assoc s.front (s.byte ∷ []) s.rest) in
        let count : length (s.front ++ s.byte ∷ []) ≡ length s.front + 1 = length-append s.front (s.byte ∷ []) in
        let full : length (s.front ++ s.byte ∷ []) ≡ 65536 = total (length (s.front ++ s.byte ∷ [])) (length s.front) count s.count in
        let place = head_open limit text s.front (s.byte ∷ s.rest) once s.is (omega arith) (under (length s.front) s.count) in
        let early = front_no_end text (s.front ++ s.byte ∷ []) s.rest (length (s.front ++ s.byte ∷ [])) once next s.some (omega arith) in
        ap (λ (t : List ℕ). reading_from limit begun t at_end) (ap (λ (t : List ℕ). t ++ more) s.is ∙ append_assoc s.front (s.byte ∷ s.rest) more)
        ∙ reading_append limit begun s.front (s.byte ∷ (s.rest ++ more)) at_end (ap is_open place)
        ∙ ap (λ (p : Place). longer (length s.front) (reading_from limit p (s.byte ∷ (s.rest ++ more)) at_end)) place
        ∙ ap (longer (length s.front)) (open_reading limit (InHeads 0 s.front) s.byte (s.rest ++ more) at_end refl
        ∙ ap (λ (p : Place). one_more (reading_from limit p (s.rest ++ more) at_end)) (past limit (s.front ++ s.byte ∷ []) early full)
        ∙ ap one_more (over_reading limit (Failed TooLong) (s.rest ++ more) at_end refl))

-- ---- a front of a head and a body

pub record IsWithinHead (head front : List ℕ) : Type 0 where
  pub rest : List ℕ
  pub some : 0 < length rest
  pub is : head ≡ front ++ rest

pub record IsPast (head body front rest : List ℕ) : Type 0 where
  pub part : List ℕ
  pub front_is : front ≡ head ++ part
  pub body_is : body ≡ part ++ rest

pub front_cases : (head body front rest : List ℕ) → head ++ body ≡ front ++ rest → IsWithinHead head front ⊎ IsPast head body front rest
front_cases [] body front rest is = inr (record { part = front; front_is = refl; body_is = is })
front_cases (h ∷ head) body [] rest is = inl (record { rest = h ∷ head; some = omega arith; is = refl })
front_cases (h ∷ head) body (b ∷ front) rest is =
    let first : h ≡ b = ap (λ (t : List ℕ). first_of t) is in
    onto (front_cases head body front rest (ap rest_of is)) first
  where
    first_of : List ℕ → ℕ
    first_of [] = 0
    first_of (x ∷ xs) = x

    rest_of : List ℕ → List ℕ
    rest_of [] = []
    rest_of (x ∷ xs) = xs

    onto : IsWithinHead head front ⊎ IsPast head body front rest → h ≡ b → IsWithinHead (h ∷ head) (b ∷ front) ⊎ IsPast (h ∷ head) body (b ∷ front) rest
    onto (inl w) first = inl (record { rest = w.rest; some = w.some; is = ap₂ (λ (x : ℕ) (xs : List ℕ). x ∷ xs) first w.is })
    onto (inr p) first = inr (record { part = p.part; front_is = ap₂ (λ (x : ℕ) (xs : List ℕ). x ∷ xs) (sym first) p.front_is; body_is = p.body_is })
