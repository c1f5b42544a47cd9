-- A whole reading, or a refusal, stays with more bytes and at the end of them.
use Rattle.std.proofs.Common.{◌≡◌, ℕ, Bool, true, false, List, [], ◌∷◌, ◌++◌, refl, sym, ap, ◌∙◌}
use Rattle.tpf_base.specs.HttpReply.{Place, InHeads, InSized, InUnsized, InLine, InChunk, AtReturn, AtNewline, InTrailer, Finished, Failed, begun, is_open, one_more, at_the_end, after_byte, after_bytes, reading_from, reply_of}
use Rattle.http_wire.proofs.RunLemmas.{given_is_closed, over_reading, open_reading, reading_stays}
use Rattle.http_wire.proofs.GivenLemmas.{what_is_read}
use Rattle.http_ends.specs.Answers.{ReadingsStay}

pub end_same : (place : Place) (at_end : Bool) → is_open place ≡ false → at_the_end at_end place ≡ at_the_end false place
end_same (InHeads passed head) at_end over = refl
end_same (InSized wanted g) at_end over = refl
end_same (InUnsized g) at_end over = absurd cc
end_same (InLine line g) at_end over = refl
end_same (InChunk wanted g) at_end over = refl
end_same (AtReturn g) at_end over = refl
end_same (AtNewline g) at_end over = refl
end_same (InTrailer lines g) at_end over = refl
end_same (Finished g) at_end over = refl
end_same (Failed fault) at_end over = refl

closed_case : (limit : ℕ) (place : Place) (b : ℕ) (bs : List ℕ) (at_end : Bool) → reading_from limit (after_byte limit place b) bs at_end ≡ reading_from limit (after_byte limit place b) bs false
    → (v : Bool) → is_open place ≡ v → reading_from limit place (b ∷ bs) at_end ≡ reading_from limit place (b ∷ bs) false
closed_case limit place b bs at_end rest true e = open_reading limit place b bs at_end e ∙ ap one_more rest ∙ sym (open_reading limit place b bs false e)
closed_case limit place b bs at_end rest false e = over_reading limit place (b ∷ bs) at_end e ∙ end_same place at_end e ∙ sym (over_reading limit place (b ∷ bs) false e)

-- at the end or not makes no difference to a closed place
reading_closed : (limit : ℕ) (place : Place) (bytes : List ℕ) (at_end : Bool) → is_open (after_bytes limit place bytes) ≡ false
    → reading_from limit place bytes at_end ≡ reading_from limit place bytes false
unfolding after_bytes
reading_closed limit place [] at_end over = over_reading limit place [] at_end over ∙ end_same place at_end over ∙ sym (over_reading limit place [] false over)
reading_closed limit place (b ∷ bs) at_end over = closed_case limit place b bs at_end (reading_closed limit (after_byte limit place b) bs at_end over) (is_open place) refl

stays : (limit : ℕ) (bytes more : List ℕ) (at_end : Bool) → is_open (after_bytes limit begun bytes) ≡ false → reply_of (bytes ++ more) at_end limit ≡ reply_of bytes false limit
stays limit bytes more at_end over = reading_stays limit begun bytes more at_end over ∙ reading_closed limit begun bytes at_end over

pub readings_stay : ReadingsStay
readings_stay limit bytes = record {
  whole = λ body n keeps is more at_end.
      stays limit bytes more at_end (given_is_closed (after_bytes limit begun bytes) (record { body = body; keeps = keeps }) ((what_is_read limit begun bytes false).whole body n keeps is).1) ∙ is;
  bad = λ fault is more at_end. stays limit bytes more at_end (ap is_open ((what_is_read limit begun bytes false).bad fault is)) ∙ is;
}
