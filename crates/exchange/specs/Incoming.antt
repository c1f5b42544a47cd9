-- What was received in reply to a request, and what is read of it.
use Rattle.std.specs.Prelude.{ℕ, ◌≡◌, ◌+◌, ◌*◌, ◌≤◌, Bool, true, false, List, [], length}
use Rattle.tpf_base.specs.HttpReply as reply
use Rattle.tpf_base.specs.HttpReply.{Place, Reading, begun, is_open, after_bytes, reply_of}
use Rattle.http_wire.specs.Replies.{shown_fault}
use Rattle.http_wire.specs.Laws.{most_beside}
use Rattle.exchange.specs.declared.buffer.TheConstants.{ROOM}
use Rattle.exchange.specs.declared.incoming.Conclusion.{Conclusion}
use Rattle.exchange.specs.declared.incoming.Conclusion.TheVariants.{Whole, Cut, Refused}

-- The bytes so far, the place in the reply that they lead to, and how many of them stand behind a reply that is whole.
pub record Coming : Type 0 where
  pub limit : ℕ
  pub received : List ℕ
  pub place : Place
  pub spare : ℕ

-- no byte yet
abbrev pub none_yet : ℕ → Coming
none_yet limit = record { limit = limit; received = []; place = begun; spare = 0 }

-- so many of the bytes stand behind a whole reply
abbrev pub IsBehind : ℕ → List ℕ → ℕ → Type 0
IsBehind limit received spare = (body : List ℕ) (n : ℕ) (keeps : Bool) → reply_of received false limit ≡ reply.Whole body n keeps → n + spare ≡ length received

-- the most bytes that are held where the body may have so many: nine for each of these, what a reply may have beside, and one receive
abbrev pub most_kept : ℕ → ℕ
most_kept limit = 9 * limit + (most_beside + ROOM)

-- The place is that of the bytes, and they are not too many.
pub record IsComing (c : Coming) : Type 0 where
  pub leads : c.place ≡ after_bytes c.limit begun c.received
  pub bound : length c.received ≤ most_kept c.limit
  pub spare : IsBehind c.limit c.received c.spare

-- the reading where no more is received: an open reply is at its end
abbrev pub concluded : Coming → Reading
concluded c = reply_of c.received (is_open c.place) c.limit

-- what the reading comes to; a reply that runs to the close keeps nothing
abbrev pub IsConclusion : Coming → Conclusion → Type 0
IsConclusion c (Whole answer) = (n : ℕ) × (concluded c ≡ reply.Whole answer.body n answer.keeps) × (is_open c.place ≡ true → answer.keeps ≡ false)
IsConclusion c (Refused fault received) = (why : reply.ReplyFault) × (fault ≡ shown_fault why) × (concluded c ≡ reply.Bad why) × (received ≡ c.received) × (is_open c.place ≡ false)
IsConclusion c (Cut received) = (concluded c ≡ reply.More) × (received ≡ c.received) × (is_open c.place ≡ true)
