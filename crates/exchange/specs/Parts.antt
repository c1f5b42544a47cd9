-- The parts of a poll, which serve its proof alone.
use Rattle.std.specs.Prelude.{ℕ, ◌≡◌, ◌<◌, ◌≤◌, ◌^◌, ◌==◌, ◌&&◌, ◌⊎◌, Bool, true, false, List, length, Some, None, Result, Ok, Err, if◌then◌else◌, Option}
use Rattle.tpf_base.specs.Causes.{Rose}
use Rattle.tpf_base.specs.Failures.{is_nth}
use Rattle.tpf_base.specs.HttpReply as reply
use Rattle.tpf_base.specs.HttpReply.{reply_of}
use Rattle.http_wire.specs.Replies.{shown_fault}
use Rattle.http_wire.specs.declared.message.Reply.{Reply}
use Rattle.tpf_base.specs.Links.{WireState}
use Rattle.tpf_base.specs.Calls.{Closes}
use Rattle.tpf_base.specs.Sending.{CallsOnOpen}
use Rattle.exchange.specs.Exchanges.{Exchanging, Stands}
use Rattle.exchange.specs.Polls.{Touches, Awaits, RoseOn}
use Rattle.exchange.specs.declared.exchange.Standing.TheVariants.{Left, Over}
use Rattle.exchange.specs.declared.fault.ExchangeFault.{ExchangeFault}
use Rattle.exchange.specs.declared.fault.ExchangeFault.TheVariants as faults

-- what a part of a poll does that has a link
pub record TouchesLink (k : ℕ) (old new : Exchanging) (wire wire' : WireState) : Type 0 where
  pub address : new.address ≡ old.address
  pub limit : new.limit ≡ old.limit
  pub link : new.link ≡ Some k
  pub calls : CallsOnOpen k wire wire'

-- Nothing was sent or received for the exchange between these moments that it does not know, and it has this link now.
pub record Leads (k : ℕ) (old mid : Exchanging) (wire wire' : WireState) : Type 0 where
  pub touches : Touches old mid wire wire'
  pub link : mid.link ≡ Some k
  pub is_open : (wire'.links k).is_open ≡ true
  pub stands : (s r : List ℕ) → Stands s r old wire → Stands s r mid wire'
  pub stalls : (after : WireState) → Rose (wire'.links k).stalls (after.links k).stalls → RoseOn old.link k wire after
  pub woken : wire.nature.steady ≡ true → (wire.links k).woken ≡ true → Awaits old (wire.links k) → old.link ≡ Some k
      → (wire'.idle ≡ 0) ⊎ (((wire'.links k).woken ≡ true) × Awaits mid (wire'.links k))

-- the same of calls on a link alone
pub record Leading (k : ℕ) (old mid : Exchanging) (wire wire' : WireState) : Type 0 where
  pub address : mid.address ≡ old.address
  pub limit : mid.limit ≡ old.limit
  pub link : mid.link ≡ Some k
  pub stands : (s r : List ℕ) → Stands s r old wire → Stands s r mid wire'
  pub stalls : (after : WireState) → Rose (wire'.links k).stalls (after.links k).stalls → RoseOn old.link k wire after
  pub later : wire.faults ≤ wire'.faults
  pub nature : wire'.nature ≡ wire.nature
  pub woken : wire.nature.steady ≡ true → (wire.links k).woken ≡ true → Awaits old (wire.links k) → old.link ≡ Some k
      → (wire'.idle ≡ 0) ⊎ (((wire'.links k).woken ≡ true) × Awaits mid (wire'.links k))

-- why a dial failed
abbrev pub DialFault : ExchangeFault → WireState → WireState → Type 0
DialFault faults.Failed wire wire' =
    Rose wire.faults wire'.faults × (wire.nature.steady ≡ true → (e : ℕ) → wire.nature.every ≡ Some e → wire.given < 2 ^ 63 → is_nth e wire'.dials ≡ true)
DialFault faults.OutOfMemory wire wire' = Unit {0}
DialFault (faults.Cut received) wire wire' = ⊥
DialFault (faults.Bad fault received) wire wire' = ⊥

-- A dial failed, and the exchange has no link.
pub record IsUndialled (fault : ExchangeFault) (old : Exchanging) (wire wire' : WireState) : Type 0 where
  pub touches : Touches old old wire wire'
  pub none : old.link ≡ None
  pub cause : DialFault fault wire wire'

-- What was received comes to this. The link stays open exactly where the reply keeps it and no byte stands behind it.
abbrev pub Concludes : ℕ → Bool → Exchanging → Exchanging → WireState → WireState → Option (Result Reply ExchangeFault) → Type 0
Concludes k ended old new wire wire' None = ⊥
Concludes k ended old new wire wire' (Some (Ok answer)) = (n : ℕ) × (reply_of old.received ended old.limit ≡ reply.Whole answer.body n answer.keeps)
    × (ended ≡ true → answer.keeps ≡ false) × (new.standing ≡ (if answer.keeps && (n == length old.received) then Left else Over))
    × (new.standing ≡ Left → wire' ≡ wire) × (new.standing ≡ Over → Closes k wire wire')
Concludes k ended old new wire wire' (Some (Err faults.Failed)) = ⊥
Concludes k ended old new wire wire' (Some (Err (faults.Cut received))) = (ended ≡ true) × (received ≡ old.received) × (reply_of received true old.limit ≡ reply.More) × Closes k wire wire' × (new.standing ≡ Over)
Concludes k ended old new wire wire' (Some (Err (faults.Bad fault received))) = (received ≡ old.received)
    × ((why : reply.ReplyFault) × (fault ≡ shown_fault why) × (reply_of received false old.limit ≡ reply.Bad why)) × Closes k wire wire' × (new.standing ≡ Over)
Concludes k ended old new wire wire' (Some (Err faults.OutOfMemory)) = ⊥
