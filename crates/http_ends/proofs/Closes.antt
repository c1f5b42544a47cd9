-- A reply that runs to the close keeps nothing: a whole reply that keeps the link is whole before the end.
use Rattle.std.proofs.Common.{◌≡◌, ℕ, ◌+◌, Bool, true, false, List, [], ◌∷◌, refl, sym, ap, ◌∙◌, inl, inr}
use Rattle.std.specs.Prelude.{◌⊎◌}
use Rattle.tpf_base.specs.HttpReply.{Place, InHeads, InSized, InUnsized, InLine, InChunk, AtReturn, AtNewline, InTrailer, Finished, Failed, Reading, Whole, begun, is_open, one_more, at_the_end, after_byte, reading_from, reply_of}
use Rattle.http_wire.proofs.RunLemmas.{over_reading, open_reading}
use Rattle.http_wire.proofs.KeepingLemmas.{KeepsNothing, byte_keeps_nothing}
use Rattle.http_ends.specs.Answers.{KeptBeforeTheEnd}
use Rattle.http_ends.proofs.Stays.{end_same}

module _ (limit : ℕ) where
  -- the reading at the end is that before it, or keeps nothing
  record KeepsNone (r : Reading) : Type 0 where
    body : List ℕ
    n : ℕ
    is : r ≡ Whole body n false

  at_close : (place : Place) → KeepsNothing place → (at_the_end true place ≡ at_the_end false place) ⊎ KeepsNone (at_the_end true place)
  unfolding KeepsNothing
  at_close (InUnsized g) is = inr (record { body = g.body; n = 0; is = ap (λ (v : Bool). Whole g.body 0 v) is })
  at_close (InHeads passed head) is = inl refl
  at_close (InSized wanted g) is = inl refl
  at_close (InLine line g) is = inl refl
  at_close (InChunk wanted g) is = inl refl
  at_close (AtReturn g) is = inl refl
  at_close (AtNewline g) is = inl refl
  at_close (InTrailer lines g) is = inl refl
  at_close (Finished g) is = inl refl
  at_close (Failed fault) is = inl refl

  one_further : (r q : Reading) → (r ≡ q) ⊎ KeepsNone r → (one_more r ≡ one_more q) ⊎ KeepsNone (one_more r)
  one_further r q (inl same) = inl (ap one_more same)
  one_further r q (inr none) = inr (record { body = none.body; n = none.n + 1; is = ap one_more none.is })

  step : (place : Place) (b : ℕ) (bs : List ℕ)
      → (reading_from limit (after_byte limit place b) bs true ≡ reading_from limit (after_byte limit place b) bs false) ⊎ KeepsNone (reading_from limit (after_byte limit place b) bs true)
      → (v : Bool) → is_open place ≡ v → (reading_from limit place (b ∷ bs) true ≡ reading_from limit place (b ∷ bs) false) ⊎ KeepsNone (reading_from limit place (b ∷ bs) true)
  step place b bs rest false e = inl (over_reading limit place (b ∷ bs) true e ∙ end_same place true e ∙ sym (over_reading limit place (b ∷ bs) false e))
  step place b bs rest true e = moved (one_further (reading_from limit (after_byte limit place b) bs true) (reading_from limit (after_byte limit place b) bs false) rest)
    where
      moved : (one_more (reading_from limit (after_byte limit place b) bs true) ≡ one_more (reading_from limit (after_byte limit place b) bs false)) ⊎ KeepsNone (one_more (reading_from limit (after_byte limit place b) bs true))
          → (reading_from limit place (b ∷ bs) true ≡ reading_from limit place (b ∷ bs) false) ⊎ KeepsNone (reading_from limit place (b ∷ bs) true)
      moved (inl same) = inl (open_reading limit place b bs true e ∙ same ∙ sym (open_reading limit place b bs false e))
      moved (inr none) = inr (record { body = none.body; n = none.n; is = open_reading limit place b bs true e ∙ none.is })

  all_bytes : (place : Place) (bytes : List ℕ) → KeepsNothing place → (reading_from limit place bytes true ≡ reading_from limit place bytes false) ⊎ KeepsNone (reading_from limit place bytes true)
  unfolding reading_from
  all_bytes place [] is = at_close place is
  all_bytes place (b ∷ bs) is = step place b bs (all_bytes (after_byte limit place b) bs (byte_keeps_nothing limit place b is)) (is_open place) refl

  kept_case : (r q : Reading) (body : List ℕ) (n : ℕ) → (r ≡ q) ⊎ KeepsNone r → r ≡ Whole body n true → q ≡ Whole body n true
  kept_case r q body n (inl same) is = sym same ∙ is
  kept_case r q body n (inr none) is = absurd (apart none.body body none.n n (sym none.is ∙ is))
    where
      apart : (a b : List ℕ) (m n : ℕ) → Whole a m false ≡ Whole b n true → ⊥
      apart a b m n e = cc

pub kept_before_the_end : KeptBeforeTheEnd
unfolding KeepsNothing
kept_before_the_end limit bytes body n is = kept_case limit (reply_of bytes true limit) (reply_of bytes false limit) body n (all_bytes limit begun bytes tt) is
