-- Laws of replies: what is read of their bytes is what a feed gives, and they want only so many bytes.
use Rattle.std.specs.Prelude.{ℕ, ◌≡◌, ◌+◌, ◌*◌, ◌<◌, ◌≤◌, Bool, true, false, List, ◌++◌, length, take, Some, if◌then◌else◌}
use Rattle.tpf_base.specs.HttpReply.{Place, Failed, More, Whole, Bad, is_open, after_bytes, reading_from, reply_of}
use Rattle.tpf_base.specs.HttpReply as reply
use Rattle.tpf_base.specs.declared.limits.TheConstants.{HEADS_LIMIT, LINE_LIMIT, PADDING_LIMIT}
use Rattle.http_wire.specs.Replies.{closed_at, longer, reply_at}

-- ---- cuts

-- the place behind bytes that come in two parts is the one behind the second part, from the place behind the first
abbrev pub PlaceIsCut : Type 0
PlaceIsCut = (limit : ℕ) (place : Place) (xs ys : List ℕ) → after_bytes limit place (xs ++ ys) ≡ after_bytes limit (after_bytes limit place xs) ys

-- of bytes in two parts, where the reply goes on behind the first: what is read of the second from there, with the length of the first
abbrev pub ReadingIsCut : Type 0
ReadingIsCut =
    (limit : ℕ) (place : Place) (xs ys : List ℕ) (at_end : Bool) → is_open (after_bytes limit place xs) ≡ true
    → reading_from limit place (xs ++ ys) at_end ≡ longer (length xs) (reading_from limit (after_bytes limit place xs) ys at_end)

-- of bytes in two parts, where the reply is over behind the first: what is read of the first
abbrev pub ReadingIsOver : Type 0
ReadingIsOver =
    (limit : ℕ) (place : Place) (xs ys : List ℕ) (at_end : Bool) → is_open (after_bytes limit place xs) ≡ false
    → reading_from limit place (xs ++ ys) at_end ≡ reading_from limit place xs at_end

-- ---- what is given

-- the place behind bytes, where no further byte comes or where more may come
abbrev pub place_behind : Bool → Place → Place
place_behind at_end place = if at_end then closed_at place else place

-- what is read of these bytes from a place is what a feed gives that stood there and took them
pub record IsGiven (limit : ℕ) (place : Place) (bytes : List ℕ) (at_end : Bool) : Type 0 where
  -- a whole reply takes so many of the bytes, and the feed gives exactly its body and whether the connection may be kept
  pub whole : (body : List ℕ) (n : ℕ) (keeps : Bool) → reading_from limit place bytes at_end ≡ Whole body n keeps
      → (n ≤ length bytes) × (reply_at (place_behind at_end (after_bytes limit place bytes)) ≡ Some (record { body = body; keeps = keeps }))
  -- the bytes that belong to it are read as the same reply
  pub alone : (body : List ℕ) (n : ℕ) (keeps : Bool) → reading_from limit place bytes at_end ≡ Whole body n keeps → reading_from limit place (take n bytes) at_end ≡ Whole body n keeps
  -- a fault stays
  pub bad : (fault : reply.ReplyFault) → reading_from limit place bytes at_end ≡ Bad fault → place_behind at_end (after_bytes limit place bytes) ≡ Failed fault
  -- else the reply goes on
  pub more : reading_from limit place bytes at_end ≡ More → is_open (place_behind at_end (after_bytes limit place bytes)) ≡ true

-- from every place, of all bytes
abbrev pub WhatIsReadIsGiven : Type 0
WhatIsReadIsGiven = (limit : ℕ) (place : Place) (bytes : List ℕ) (at_end : Bool) → IsGiven limit place bytes at_end

-- ---- how many bytes a reply wants

-- a reply that wants more has fewer bytes than that
abbrev pub WantsFewBytes : Type 0
WantsFewBytes =
    (limit : ℕ) (bytes : List ℕ) (at_end : Bool) → reply_of bytes at_end limit ≡ More → length bytes < 2 * LINE_LIMIT * limit + 4 * HEADS_LIMIT

-- the most bytes of the heads, of the lines behind the last chunk, and of chunk lines beside eight for each byte of the body
abbrev pub most_beside : ℕ
most_beside = HEADS_LIMIT + HEADS_LIMIT + PADDING_LIMIT

-- a reply that wants more has at most nine bytes for each one that its body may have, and those beside
abbrev pub WantsBoundedBytes : Type 0
WantsBoundedBytes = (limit : ℕ) (bytes : List ℕ) (at_end : Bool) → reply_of bytes at_end limit ≡ More → length bytes ≤ 9 * limit + most_beside
