-- Where the reply of a step was read, and why a step ends with a fault.
use Rattle.std.specs.Prelude.{ℕ, ◌≡◌, ◌≤◌, ◌<◌, ◌++◌, Bool, true, false, List, ◌∷◌, Ok, Err}
use Rattle.std.specs.List.{AllByRecursion}
use Rattle.std.specs.List.Sorted.{IsPermutation}
use Rattle.tpf_base.specs.Addresses.{Address}
use Rattle.tpf_base.specs.Causes.{Rose}
use Rattle.tpf_base.specs.HttpReply as reply
use Rattle.tpf_base.specs.HttpReply.{reply_of}
use Rattle.tpf_base.specs.Links.{WireState, OpensGiven, told_by, is_short}
use Rattle.tpf_base.specs.declared.wire.TheConstants.{MOST_IDLE}
use Rattle.http_wire.specs.Replies.{shown_fault}
use Rattle.http_wire.specs.declared.message.Reply.{Reply}
use Rattle.http_wire.specs.declared.message.ReplyFault.{ReplyFault}
use Rattle.tpf_base.specs.Sending.{Holds}
use Rattle.http_ends.specs.Requests.{request_for}
use Rattle.http_ends.specs.Cuts.{Answered, bytes_of, sent_of, received_of}
use Rattle.request_pool.specs.declared.fault.PoolFault.{PoolFault}
use Rattle.request_pool.specs.declared.fault.PoolFault.TheVariants as faults
use Rattle.request_pool.specs.declared.fault.Stepped.TheVariants.{Came}
use Rattle.request_pool.specs.Pools.{Pooled, Ask, IsOverBudget, held}
use Rattle.request_pool.specs.Owned.{SuitsWire, held_on}
use Rattle.request_pool.specs.Steps.{StepsTo, HandsOut}
use Rattle.pool_laws.specs.Following.{IsWebAddress, IsReplied, AnswersSoFar}

-- On a link that was dialled for the address the whole request for it was sent, and this was received in reply; where the wire tells, whole requests and a whole reply to each stand before both.
pub record RepliedOn (limit : ℕ) (address : Address) (received : List ℕ) (wire : WireState) : Type 0 where
  pub k : ℕ
  pub is_address : IsWebAddress address
  pub peer : (wire.links k).peer ≡ told_by wire.nature.tells (address.host, address.port)
  pub before : List Answered
  pub replied : AllByRecursion (IsReplied limit) before
  pub sent_is : Holds (wire.links k).sent (bytes_of (sent_of before) ++ request_for address)
  pub received_is : Holds (wire.links k).received (received_of before ++ received)

-- so many links were given, and none of them is held
pub record HoldsNoneBelow (n : ℕ) (pool : Pooled) (wire : WireState) : Type 0 where
  pub given : n ≤ wire.given
  pub none : (k : ℕ) → k < n → held_on pool k ≡ 0

-- ---- a reply

-- An ask with the ticket was held, and what was received in reply to its request is read as the reply, whole. The link is none of those given before a moment at which none was held.
pub record IsRead (ticket : ℕ) (address : Address) (answer : Reply) (old new : Pooled) (before after : WireState) : Type 0 where
  pub hands : HandsOut ticket address old new
  pub received : List ℕ
  pub on : RepliedOn old.limit hands.ask.address received after
  pub given : on.k < after.given
  pub fresh : (n : ℕ) → HoldsNoneBelow n old before → n ≤ on.k
  pub n : ℕ
  pub at_end : Bool
  pub whole : reply_of received at_end old.limit ≡ reply.Whole answer.body n answer.keeps
  pub ended : at_end ≡ true → Holds (after.links on.k).ended true × (answer.keeps ≡ false)

abbrev pub RepliesAreRead : Type 0
RepliesAreRead =
    (ticket : ℕ) (address : Address) (answer : Reply) (old new : Pooled) (before after : WireState) → OpensGiven before → SuitsWire old before → AnswersSoFar old before
    → StepsTo (Ok (Came ticket address answer)) old new before after → IsRead ticket address answer old new before after

-- ---- faults

-- An ask was held that is held no longer, and this was received in reply to its request, on a link that is none of those given before a moment at which none was held.
pub record LosesAsk (received : List ℕ) (old new : Pooled) (before after : WireState) : Type 0 where
  pub ask : Ask
  pub others : IsPermutation (held old) (ask ∷ held new)
  pub on : RepliedOn old.limit ask.address received after
  pub given : on.k < after.given
  pub fresh : (n : ℕ) → HoldsNoneBelow n old before → n ≤ on.k

-- what was received has this fault
pub record IsRefused (fault : ReplyFault) (received : List ℕ) (old new : Pooled) (before after : WireState) : Type 0 where
  pub loses : LosesAsk received old new before after
  pub why : reply.ReplyFault
  pub is_fault : fault ≡ shown_fault why
  pub bad : reply_of received false old.limit ≡ reply.Bad why

-- The link ended, and what was received is no whole reply at its end. Where a part of what is owed was not received, the wire's faults rose.
pub record IsCut (received : List ℕ) (old new : Pooled) (before after : WireState) : Type 0 where
  pub loses : LosesAsk received old new before after
  pub ended : Holds (after.links loses.on.k).ended true
  pub short : is_short (after.links loses.on.k) ≡ true → Rose before.faults after.faults
  pub more : reply_of received true old.limit ≡ reply.More

-- Each fault: the wire's faults rose; MOST_IDLE waits followed one another; an ask waits, a place is free, and as many exchanges were started as the budget allows; a reply is refused; a link was cut. Want of memory needs no cause.
abbrev pub IsCauseOf : PoolFault → Pooled → Pooled → WireState → WireState → Type 0
IsCauseOf faults.Exchange old new before after = Rose before.faults after.faults
IsCauseOf faults.Stalled old new before after = MOST_IDLE ≤ after.idle
IsCauseOf faults.Budget old new before after = IsOverBudget new
IsCauseOf (faults.Reply fault received) old new before after = IsRefused fault received old new before after
IsCauseOf (faults.Cut received) old new before after = IsCut received old new before after
IsCauseOf faults.OutOfMemory old new before after = Unit {0}

abbrev pub FaultsHaveCauses : Type 0
FaultsHaveCauses =
    (fault : PoolFault) (old new : Pooled) (before after : WireState) → OpensGiven before → SuitsWire old before → AnswersSoFar old before
    → StepsTo (Err fault) old new before after → IsCauseOf fault old new before after
