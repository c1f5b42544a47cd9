-- What is read of the bytes of a reply is what a feed gives.
use Rattle.std.proofs.Common.{◌≡◌, ℕ, suc, ◌+◌, ◌≤◌, Bool, true, false, List, [], ◌∷◌, length, take, Some, refl, sym, ap, ◌∙◌, subst, arith}
use Rattle.tpf_base.specs.HttpReply.{Place, InHeads, InSized, InUnsized, InLine, InChunk, AtReturn, AtNewline, InTrailer, Finished, Failed, Reading, More, Whole, Bad, one_more, is_open, after_byte, after_bytes, reading_from, at_the_end}
use Rattle.http_wire.specs.Replies.{reply_at}
use Rattle.http_wire.specs.Laws.{place_behind, WhatIsReadIsGiven}
use Rattle.http_wire.proofs.RunLemmas.{over_bytes, over_reading, open_reading, reading_none}

-- the place behind at most so many bytes gives what was read
abbrev Gives : Bool → ℕ → Place → Reading → Type 0
Gives at_end most place More = is_open (place_behind at_end place) ≡ true
Gives at_end most place (Whole body n keeps) = (n ≤ most) × (reply_at (place_behind at_end place) ≡ Some (record { body = body; keeps = keeps }))
Gives at_end most place (Bad fault) = place_behind at_end place ≡ Failed fault

gives_end : (at_end : Bool) (most : ℕ) (place : Place) → Gives at_end most place (at_the_end at_end place)
gives_end true most (InHeads passed head) = refl
gives_end true most (InSized wanted g) = refl
gives_end true most (InUnsized g) = (omega arith, refl)
gives_end true most (InLine line g) = refl
gives_end true most (InChunk wanted g) = refl
gives_end true most (AtReturn g) = refl
gives_end true most (AtNewline g) = refl
gives_end true most (InTrailer lines g) = refl
gives_end true most (Finished g) = (omega arith, refl)
gives_end true most (Failed fault) = refl
gives_end false most (InHeads passed head) = refl
gives_end false most (InSized wanted g) = refl
gives_end false most (InUnsized g) = refl
gives_end false most (InLine line g) = refl
gives_end false most (InChunk wanted g) = refl
gives_end false most (AtReturn g) = refl
gives_end false most (AtNewline g) = refl
gives_end false most (InTrailer lines g) = refl
gives_end false most (Finished g) = (omega arith, refl)
gives_end false most (Failed fault) = refl

gives_one : (at_end : Bool) (most : ℕ) (place : Place) (r : Reading) → Gives at_end most place r → Gives at_end (suc most) place (one_more r)
gives_one at_end most place More h = h
gives_one at_end most place (Whole body n keeps) h = (omega (arith, h.0), h.1)
gives_one at_end most place (Bad fault) h = h

gives_case : (limit : ℕ) (place : Place) (b : ℕ) (bs : List ℕ) (at_end : Bool)
    → Gives at_end (length bs) (after_bytes limit (after_byte limit place b) bs) (reading_from limit (after_byte limit place b) bs at_end)
    → (v : Bool) → is_open place ≡ v → Gives at_end (suc (length bs)) (after_bytes limit place (b ∷ bs)) (reading_from limit place (b ∷ bs) at_end)
unfolding after_bytes
gives_case limit place b bs at_end rest true e =
    subst (λ (r : Reading). Gives at_end (suc (length bs)) (after_bytes limit (after_byte limit place b) bs) r) (sym (open_reading limit place b bs at_end e))
    (gives_one at_end (length bs) (after_bytes limit (after_byte limit place b) bs) (reading_from limit (after_byte limit place b) bs at_end) rest)
gives_case limit place b bs at_end rest false e =
    subst (λ (p : Place). Gives at_end (suc (length bs)) p (reading_from limit place (b ∷ bs) at_end)) (sym (over_bytes limit place (b ∷ bs) e))
    (subst (λ (r : Reading). Gives at_end (suc (length bs)) place r) (sym (over_reading limit place (b ∷ bs) at_end e)) (gives_end at_end (suc (length bs)) place))

gives : (limit : ℕ) (place : Place) (bytes : List ℕ) (at_end : Bool) → Gives at_end (length bytes) (after_bytes limit place bytes) (reading_from limit place bytes at_end)
unfolding after_bytes reading_from
gives limit place [] at_end = gives_end at_end 0 place
gives limit place (b ∷ bs) at_end = gives_case limit place b bs at_end (gives limit (after_byte limit place b) bs at_end) (is_open place) refl

-- ---- the bytes that belong to the reply

whole_end : (at_end : Bool) (place : Place) (body : List ℕ) (n : ℕ) (keeps : Bool) → at_the_end at_end place ≡ Whole body n keeps → n ≡ 0
whole_end true (InUnsized g) body n keeps e = cc
whole_end false (InUnsized g) body n keeps e = absurd cc
whole_end at_end (Finished g) body n keeps e = cc
whole_end at_end (InHeads passed head) body n keeps e = absurd cc
whole_end at_end (InSized wanted g) body n keeps e = absurd cc
whole_end at_end (InLine line g) body n keeps e = absurd cc
whole_end at_end (InChunk wanted g) body n keeps e = absurd cc
whole_end at_end (AtReturn g) body n keeps e = absurd cc
whole_end at_end (AtNewline g) body n keeps e = absurd cc
whole_end at_end (InTrailer lines g) body n keeps e = absurd cc
whole_end at_end (Failed fault) body n keeps e = absurd cc

-- at a place that is over, or at the end of the bytes
alone_end : (limit : ℕ) (place : Place) (bytes : List ℕ) (at_end : Bool) (body : List ℕ) (n : ℕ) (keeps : Bool) → at_the_end at_end place ≡ Whole body n keeps
    → reading_from limit place (take n bytes) at_end ≡ Whole body n keeps
alone_end limit place bytes at_end body n keeps e =
    ap (λ (k : ℕ). reading_from limit place (take k bytes) at_end) (whole_end at_end place body n keeps e) ∙ reading_none limit place at_end ∙ e

alone_one : (limit : ℕ) (place : Place) (b : ℕ) (bs : List ℕ) (at_end : Bool) (body : List ℕ) (n : ℕ) (keeps : Bool) (r : Reading) → is_open place ≡ true
    → reading_from limit (after_byte limit place b) bs at_end ≡ r
    → ((m : ℕ) → reading_from limit (after_byte limit place b) bs at_end ≡ Whole body m keeps → reading_from limit (after_byte limit place b) (take m bs) at_end ≡ Whole body m keeps)
    → one_more r ≡ Whole body n keeps → reading_from limit place (take n (b ∷ bs)) at_end ≡ Whole body n keeps
alone_one limit place b bs at_end body n keeps More goes is again e = absurd cc
alone_one limit place b bs at_end body n keeps (Bad fault) goes is again e = absurd cc
alone_one limit place b bs at_end body n keeps (Whole text m stays) goes is again e =
    let count : m + 1 ≡ n = cc in
    let same : Whole text m stays ≡ Whole body m keeps = cc in
    let front : take n (b ∷ bs) ≡ b ∷ take m bs = ap (λ (k : ℕ). take k (b ∷ bs)) (sym count) ∙ take_one m b bs in
    ap (λ (x : List ℕ). reading_from limit place x at_end) front ∙ open_reading limit place b (take m bs) at_end goes ∙ ap one_more (again m (is ∙ same)) ∙ ap (λ (k : ℕ). Whole body k keeps) count
  where
    take_one : (m b : ℕ) (bs : List ℕ) → take (m + 1) (b ∷ bs) ≡ b ∷ take m bs
    take_one m b bs = grind arith

alone_case : (limit : ℕ) (place : Place) (b : ℕ) (bs : List ℕ) (at_end : Bool) (body : List ℕ) (n : ℕ) (keeps : Bool)
    → ((m : ℕ) → reading_from limit (after_byte limit place b) bs at_end ≡ Whole body m keeps → reading_from limit (after_byte limit place b) (take m bs) at_end ≡ Whole body m keeps)
    → reading_from limit place (b ∷ bs) at_end ≡ Whole body n keeps → (v : Bool) → is_open place ≡ v → reading_from limit place (take n (b ∷ bs)) at_end ≡ Whole body n keeps
alone_case limit place b bs at_end body n keeps again whole true e =
    alone_one limit place b bs at_end body n keeps (reading_from limit (after_byte limit place b) bs at_end) e refl again (sym (open_reading limit place b bs at_end e) ∙ whole)
alone_case limit place b bs at_end body n keeps again whole false e =
    alone_end limit place (b ∷ bs) at_end body n keeps (sym (over_reading limit place (b ∷ bs) at_end e) ∙ whole)

reads_alone : (limit : ℕ) (place : Place) (bytes : List ℕ) (at_end : Bool) (body : List ℕ) (n : ℕ) (keeps : Bool) → reading_from limit place bytes at_end ≡ Whole body n keeps
    → reading_from limit place (take n bytes) at_end ≡ Whole body n keeps
reads_alone limit place [] at_end body n keeps whole = alone_end limit place [] at_end body n keeps (sym (reading_none limit place at_end) ∙ whole)
reads_alone limit place (b ∷ bs) at_end body n keeps whole =
    alone_case limit place b bs at_end body n keeps (λ m h. reads_alone limit (after_byte limit place b) bs at_end body m keeps h) whole (is_open place) refl

pub what_is_read : WhatIsReadIsGiven
what_is_read limit place bytes at_end =
    let all : Gives at_end (length bytes) (after_bytes limit place bytes) (reading_from limit place bytes at_end) = gives limit place bytes at_end in
    record {
      whole = λ body n keeps e. subst (λ (r : Reading). Gives at_end (length bytes) (after_bytes limit place bytes) r) e all;
      alone = reads_alone limit place bytes at_end;
      bad = λ fault e. subst (λ (r : Reading). Gives at_end (length bytes) (after_bytes limit place bytes) r) e all;
      more = λ e. subst (λ (r : Reading). Gives at_end (length bytes) (after_bytes limit place bytes) r) e all;
    }
