-- The request heads of a connection: those at the front of its bytes, up to the first that closes (RFC 9112, sections 9.3 and 9.6).
use Rattle.std.specs.Prelude.{ℕ, ◌≡◌, zero, suc, Bool, true, false, List, [], ◌∷◌, ◌++◌, length, drop, if◌then◌else◌}
use Rattle.tpf_base.specs.HttpHeads.{Verdict, Accepted, Rejected, NextRequest, Incomplete, Taken, Refused, next_request}

-- the heads at the front of bytes up to the first that closes, what stands after them, and whether one closes
pub record Heads : Type 0 where
  pub heads : List Verdict
  pub unread : List ℕ
  pub closed : Bool

abbrev pub with_head : Verdict → Heads → Heads
with_head head more = record { heads = head ∷ more.heads; unread = more.unread; closed = more.closed }

-- the last head of a connection; what follows it is not read
abbrev pub last_head : Verdict → Heads
last_head head = record { heads = head ∷ []; unread = []; closed = true }

abbrev pub heads_from : List ℕ → NextRequest → Heads → Heads
heads_from bytes Incomplete more = record { heads = []; unread = bytes; closed = false }
heads_from bytes (Refused status) more = last_head (Rejected status)
heads_from bytes (Taken request n) more = if request.closes then last_head (Accepted request) else with_head (Accepted request) more

abbrev pub after_taken : List ℕ → NextRequest → List ℕ
after_taken bytes Incomplete = bytes
after_taken bytes (Refused status) = []
after_taken bytes (Taken request n) = drop n bytes

-- the first heads, at most so many
unfoldable pub heads_up_to : ℕ → List ℕ → Heads
heads_up_to zero bytes = record { heads = []; unread = bytes; closed = false }
heads_up_to (suc most) bytes = heads_from bytes (next_request bytes) (heads_up_to most (after_taken bytes (next_request bytes)))

-- all of them: a head has at least one byte
abbrev pub heads_of : List ℕ → Heads
heads_of bytes = heads_up_to (length bytes) bytes

-- an answer that closes is among them
unfoldable pub closes : List ℕ → Bool
closes bytes = (heads_of bytes).closed

-- the bytes after the heads that are answered, of which no head is made yet
unfoldable pub unread_of : List ℕ → List ℕ
unread_of bytes = (heads_of bytes).unread

-- these heads where they close, and else these and then the heads of what they leave and more
abbrev pub with_more : Heads → List ℕ → Heads
with_more h more =
    if h.closed then h
    else record { heads = h.heads ++ (heads_of (h.unread ++ more)).heads; unread = (heads_of (h.unread ++ more)).unread; closed = (heads_of (h.unread ++ more)).closed }

-- ---- the laws

-- the heads of bytes are the next, and then those of what follows it
abbrev pub HeadsAreRead : Type 0
HeadsAreRead = (bytes : List ℕ) → heads_of bytes ≡ heads_from bytes (next_request bytes) (heads_of (after_taken bytes (next_request bytes)))

-- what is not read holds no whole head, unless the heads close
abbrev pub AllHeadsAreRead : Type 0
AllHeadsAreRead = (bytes : List ℕ) → closes bytes ≡ false → next_request (unread_of bytes) ≡ Incomplete

-- the heads of a longer list are those of the shorter, and then, unless these close, those of what was not read and the rest
abbrev pub HeadsGoOn : Type 0
HeadsGoOn = (bytes more : List ℕ) → heads_of (bytes ++ more) ≡ with_more (heads_of bytes) more
