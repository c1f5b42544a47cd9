-- What receiving a reply does to its link.
use Rattle.std.specs.Prelude.{ℕ, ◌≡◌, ◌++◌, List, Some, None, true, false, ◌≢◌, []}
use Rattle.tpf_base.specs.Causes.{Rose}
use Rattle.tpf_base.specs.HttpReply.{is_open}
use Rattle.tpf_base.specs.Links.{Receiving, WireState, is_short}
use Rattle.tpf_base.specs.Sending.{Holds, CallsOn}
use Rattle.exchange.specs.Incoming.{Coming}
use Rattle.exchange.specs.declared.receiving.Received.{Received}
use Rattle.exchange.specs.declared.receiving.Received.TheVariants.{Read, End, NotYet, Failed, OutOfMemory}

-- Bytes were received behind those that came before. Out of memory, some of them may be lost.
pub record ReceivesFrom (k : ℕ) (from to : Coming) (lost : List ℕ) (old new : WireState) : Type 0 where
  pub calls : CallsOn k old new
  pub sent : (new.links k).sent ≡ (old.links k).sent
  pub limit : to.limit ≡ from.limit
  pub received_is : (r : List ℕ) → Holds (old.links k).received (r ++ from.received) → Holds (new.links k).received (r ++ (to.received ++ lost))

-- where it ends so, bytes are lost out of memory alone
abbrev pub ReceivesUpTo : Received → ℕ → Coming → Coming → WireState → WireState → Type 0
ReceivesUpTo result k from to old new = (lost : List ℕ) × ReceivesFrom k from to lost old new × (result ≢ OutOfMemory → lost ≡ [])

-- how receiving ends
abbrev pub ReceivingEnds : Received → ℕ → Coming → WireState → WireState → Type 0
ReceivingEnds Read k to old new = (is_open to.place ≡ false) × (new.idle ≡ 0) × ((new.links k).stalled ≡ None)
ReceivingEnds End k to old new =
    (is_open to.place ≡ true) × (new.idle ≡ 0) × Holds (new.links k).ended true × (is_short (new.links k) ≡ true → Rose old.faults new.faults)
    × (old.nature.steady ≡ true → (e : ℕ) → old.nature.every ≡ Some e → is_short (new.links k) ≡ false)
ReceivingEnds NotYet k to old new =
    (is_open to.place ≡ true) × ((new.links k).stalled ≡ Some Receiving) × ((new.links k).woken ≡ false) × Rose (old.links k).stalls (new.links k).stalls
    × (old.nature.steady ≡ true → (old.links k).woken ≡ true → (old.links k).stalled ≡ Some Receiving → new.idle ≡ 0)
ReceivingEnds Failed k to old new = (is_open to.place ≡ true) × Rose old.faults new.faults × (old.nature.steady ≡ true → (e : ℕ) → old.nature.every ≡ Some e → ⊥)
ReceivingEnds OutOfMemory k to old new = is_open to.place ≡ true
