-- A reply that runs to the close does not keep its link.
use Rattle.std.proofs.Common.{◌≡◌, ℕ, ◌+◌, ◌-◌, ◌==◌, Bool, true, false, not, List, [], ◌∷◌, ◌++◌, length, refl, if◌then◌else◌, Option, Some, None}
use Rattle.std.specs.Prelude.{◌&&◌, nat_le, nat_lt, codes}
use Rattle.std.specs.List.{list_any}
use Rattle.httparse.specs.Grammar.{ResponseHead, status_code}
use Rattle.tpf_base.specs.declared.limits.TheConstants.{HEADS_LIMIT, LINE_LIMIT, MOST_FIELDS}
use Rattle.tpf_base.specs.HttpHeads.{ends_empty, field_lines, says_close, pairs_of, values_of}
use Rattle.tpf_base.specs.HttpReply.{ReplyFault, BadHead, BadStatus, BadMediaType, BadCoding, BadFraming, TooLong, gathering, is_nquads, is_coding, is_interim, Place, InHeads, InSized, InUnsized, InLine, InChunk, AtReturn, AtNewline, InTrailer, Finished, Failed, Gathered, with_byte, with_extra, HeadRead, IsRefused, Framing, Sized, Chunked, ToClose, framing_read, framing_of, keeps_open, final_head, body_place, head_place, response_head, after_head_byte, after_line_byte, after_trailer_byte, line_place, chunk_size, is_over, is_padded, unless, begun, after_byte, after_bytes}

-- a body that runs to the close is gathered for a reply that does not keep its link
unfoldable pub KeepsNothing : Place → Type 0
KeepsNothing (InUnsized g) = g.keeps ≡ false
KeepsNothing (InHeads passed head) = Unit {0}
KeepsNothing (InSized wanted g) = Unit {0}
KeepsNothing (InLine line g) = Unit {0}
KeepsNothing (InChunk wanted g) = Unit {0}
KeepsNothing (AtReturn g) = Unit {0}
KeepsNothing (AtNewline g) = Unit {0}
KeepsNothing (InTrailer lines g) = Unit {0}
KeepsNothing (Finished g) = Unit {0}
KeepsNothing (Failed fault) = Unit {0}

nothing_if : (v : Bool) (a b : Place) → KeepsNothing a → KeepsNothing b → KeepsNothing (if v then a else b)
nothing_if true a b x y = x
nothing_if false a b x y = y

module _ (limit : ℕ) where
  read_if : (v : Bool) (a b : HeadRead) → KeepsNothing (body_place limit a) → KeepsNothing (body_place limit b) → KeepsNothing (body_place limit (if v then a else b))
  read_if true a b x y = x
  read_if false a b x y = y

  failed : (fault : ReplyFault) → KeepsNothing (Failed fault)
  unfolding KeepsNothing
  failed fault = tt

  refused : (fault : ReplyFault) → KeepsNothing (body_place limit (IsRefused fault))
  unfolding body_place
  refused fault = failed fault

  framed : (h : ResponseHead) (o : Option Framing) → KeepsNothing (body_place limit (framing_read h o))
  unfolding KeepsNothing body_place
  framed h None = tt
  framed h (Some (Sized n)) =
      nothing_if (nat_lt limit n) (Failed TooLong) (if n == 0 then Finished (gathering (keeps_open h (Sized n))) else InSized n (gathering (keeps_open h (Sized n)))) (failed TooLong)
      (nothing_if (n == 0) (Finished (gathering (keeps_open h (Sized n)))) (InSized n (gathering (keeps_open h (Sized n)))) tt tt)
  framed h (Some Chunked) = tt
  framed h (Some ToClose) = none (h.minor == 1) (not (says_close (pairs_of h.fields)))
    where
      none : (a b : Bool) → (a && (b && false)) ≡ false
      none true true = refl
      none true false = refl
      none false b = refl

  final : (h : ResponseHead) → KeepsNothing (body_place limit (final_head h))
  unfolding final_head
  final h =
      let rest = framed h (framing_of (pairs_of h.fields)) in
      let coding = read_if (list_any (λ v. not (is_coding (codes "identity") v)) (values_of (codes "content-encoding") (pairs_of h.fields))) (IsRefused BadCoding) (framing_read h (framing_of (pairs_of h.fields))) (refused BadCoding) rest in
      let media = read_if (not (is_nquads (values_of (codes "content-type") (pairs_of h.fields)))) (IsRefused BadMediaType)
      (if list_any (λ v. not (is_coding (codes "identity") v)) (values_of (codes "content-encoding") (pairs_of h.fields)) then IsRefused BadCoding else framing_read h (framing_of (pairs_of h.fields)))
      (refused BadMediaType) coding in
      read_if (not (status_code h == 200)) (IsRefused (BadStatus (status_code h)))
      (if not (is_nquads (values_of (codes "content-type") (pairs_of h.fields))) then IsRefused BadMediaType
      else (if list_any (λ v. not (is_coding (codes "identity") v)) (values_of (codes "content-encoding") (pairs_of h.fields)) then IsRefused BadCoding else framing_read h (framing_of (pairs_of h.fields))))
      (refused (BadStatus (status_code h))) media

  in_heads : (passed : ℕ) (head : List ℕ) → KeepsNothing (InHeads passed head)
  unfolding KeepsNothing
  in_heads passed head = tt

  in_line : (line : List ℕ) (g : Gathered) → KeepsNothing (InLine line g)
  unfolding KeepsNothing
  in_line line g = tt

  in_chunk : (n : ℕ) (g : Gathered) → KeepsNothing (InChunk n g)
  unfolding KeepsNothing
  in_chunk n g = tt

  in_trailer : (lines : List ℕ) (g : Gathered) → KeepsNothing (InTrailer lines g)
  unfolding KeepsNothing
  in_trailer lines g = tt

  finished : (g : Gathered) → KeepsNothing (Finished g)
  unfolding KeepsNothing
  finished g = tt

  in_sized : (n : ℕ) (g : Gathered) → KeepsNothing (InSized n g)
  unfolding KeepsNothing
  in_sized n g = tt

  at_return : (g : Gathered) → KeepsNothing (AtReturn g)
  unfolding KeepsNothing
  at_return g = tt

  at_newline : (g : Gathered) → KeepsNothing (AtNewline g)
  unfolding KeepsNothing
  at_newline g = tt

  in_unsized : (g : Gathered) (b : ℕ) → KeepsNothing (InUnsized g) → KeepsNothing (InUnsized (with_byte g b))
  unfolding KeepsNothing
  in_unsized g b is = is

  unless_nothing : (v : Bool) (place : Place) → KeepsNothing place → KeepsNothing (unless v place)
  unless_nothing v place is = nothing_if v (Failed TooLong) place (failed TooLong) is

  behind_head : (passed : ℕ) (o : Option ResponseHead) → KeepsNothing (head_place limit passed o)
  unfolding head_place
  behind_head passed None = failed BadHead
  behind_head passed (Some h) =
      nothing_if (is_interim h) (if nat_le HEADS_LIMIT passed then Failed TooLong else InHeads passed []) (body_place limit (final_head h))
      (nothing_if (nat_le HEADS_LIMIT passed) (Failed TooLong) (InHeads passed []) (failed TooLong) (in_heads passed [])) (final h)

  head_byte : (passed : ℕ) (head : List ℕ) → KeepsNothing (after_head_byte limit passed head)
  unfolding after_head_byte
  head_byte passed head =
      nothing_if (ends_empty head (length head)) (if nat_lt MOST_FIELDS (field_lines head) then Failed BadHead else head_place limit (passed + length head) (response_head head))
      (if nat_le HEADS_LIMIT (passed + length head) then Failed TooLong else InHeads passed head)
      (nothing_if (nat_lt MOST_FIELDS (field_lines head)) (Failed BadHead) (head_place limit (passed + length head) (response_head head)) (failed BadHead) (behind_head (passed + length head) (response_head head)))
      (nothing_if (nat_le HEADS_LIMIT (passed + length head)) (Failed TooLong) (InHeads passed head) (failed TooLong) (in_heads passed head))

  sized : (g : Gathered) (o : Option ℕ) → KeepsNothing (line_place g o)
  unfolding line_place
  sized g None = failed BadFraming
  sized g (Some size) = unless_nothing (is_padded g) (if size == 0 then InTrailer [] g else InChunk size g) (nothing_if (size == 0) (InTrailer [] g) (InChunk size g) (in_trailer [] g) (in_chunk size g))

  line_byte : (line : List ℕ) (b : ℕ) (g : Gathered) → KeepsNothing (after_line_byte line b g)
  unfolding after_line_byte
  line_byte line b g =
      nothing_if (nat_lt LINE_LIMIT (length line)) (Failed BadFraming) (if b == 10 then line_place g (chunk_size line) else unless (is_padded g) (InLine line g)) (failed BadFraming)
      (nothing_if (b == 10) (line_place g (chunk_size line)) (unless (is_padded g) (InLine line g)) (sized g (chunk_size line)) (unless_nothing (is_padded g) (InLine line g) (in_line line g)))

  trailer_byte : (lines : List ℕ) (g : Gathered) → KeepsNothing (after_trailer_byte lines g)
  unfolding after_trailer_byte
  trailer_byte lines g =
      nothing_if (nat_lt HEADS_LIMIT (length lines)) (Failed TooLong) (if ends_empty (10 ∷ lines) (length lines + 1) then Finished g else InTrailer lines g) (failed TooLong)
      (nothing_if (ends_empty (10 ∷ lines) (length lines + 1)) (Finished g) (InTrailer lines g) (finished g) (in_trailer lines g))

  pub byte_keeps_nothing : (place : Place) (b : ℕ) → KeepsNothing place → KeepsNothing (after_byte limit place b)
  byte_keeps_nothing (InHeads passed head) b is = head_byte passed (head ++ b ∷ [])
  byte_keeps_nothing (InSized wanted g) b is = nothing_if (nat_le wanted 1) (Finished (with_byte g b)) (InSized (wanted - 1) (with_byte g b)) (finished (with_byte g b)) (in_sized (wanted - 1) (with_byte g b))
  byte_keeps_nothing (InUnsized g) b is = unless_nothing (is_over limit (with_byte g b)) (InUnsized (with_byte g b)) (in_unsized g b is)
  byte_keeps_nothing (InLine line g) b is = line_byte (line ++ b ∷ []) b (with_extra g)
  byte_keeps_nothing (InChunk wanted g) b is =
      unless_nothing (is_over limit (with_byte g b)) (if nat_le wanted 1 then AtReturn (with_byte g b) else InChunk (wanted - 1) (with_byte g b))
      (nothing_if (nat_le wanted 1) (AtReturn (with_byte g b)) (InChunk (wanted - 1) (with_byte g b)) (at_return (with_byte g b)) (in_chunk (wanted - 1) (with_byte g b)))
  byte_keeps_nothing (AtReturn g) b is =
      nothing_if (b == 13) (unless (is_padded (with_extra g)) (AtNewline (with_extra g))) (Failed BadFraming) (unless_nothing (is_padded (with_extra g)) (AtNewline (with_extra g)) (at_newline (with_extra g))) (failed BadFraming)
  byte_keeps_nothing (AtNewline g) b is =
      nothing_if (b == 10) (unless (is_padded (with_extra g)) (InLine [] (with_extra g))) (Failed BadFraming) (unless_nothing (is_padded (with_extra g)) (InLine [] (with_extra g)) (in_line [] (with_extra g))) (failed BadFraming)
  byte_keeps_nothing (InTrailer lines g) b is = trailer_byte (lines ++ b ∷ []) g
  byte_keeps_nothing (Finished g) b is = finished g
  byte_keeps_nothing (Failed fault) b is = failed fault

  all_bytes : (place : Place) (bytes : List ℕ) → KeepsNothing place → KeepsNothing (after_bytes limit place bytes)
  unfolding after_bytes
  all_bytes place [] is = is
  all_bytes place (b ∷ bs) is = all_bytes (after_byte limit place b) bs (byte_keeps_nothing place b is)

pub bytes_keep_nothing : (limit : ℕ) (bytes : List ℕ) → KeepsNothing (after_bytes limit begun bytes)
unfolding KeepsNothing
bytes_keep_nothing limit bytes = all_bytes limit begun bytes tt
