-- What calls on one open link do to a wire, and how the sends of a text end.
use Rattle.std.specs.Prelude.{ℕ, ◌≡◌, ◌<◌, ◌≤◌, List, ◌++◌, length, take, Option, Some, true, false}
use Rattle.tpf_base.specs.Causes.{Rose}
use Rattle.tpf_base.specs.Links.{Sending, WireState}
use Rattle.tpf_base.specs.Calls.{OnlyOn}
use Rattle.tpf_base.specs.declared.send.Halt.{Halt}
use Rattle.tpf_base.specs.declared.send.Halt.TheVariants.{Done, NotYet, Failed, OutOfMemory}

-- where it is told, it is this
abbrev pub Holds : {T : Type 0} → Option T → T → Type 0
Holds told expected = (fact : _) → told ≡ Some fact → fact ≡ expected

-- Calls on one link that stays open: all else is as it was but the faults and the idle waits. Over a steady wire on which dials alone are due, the faults are as they were.
pub record CallsOn (k : ℕ) (old new : WireState) : Type 0 where
  pub only : OnlyOn k old new
  pub peer : (new.links k).peer ≡ (old.links k).peer
  pub is_open : (new.links k).is_open ≡ (old.links k).is_open
  pub stalls : (old.links k).stalls ≤ (new.links k).stalls
  pub idle : new.idle ≤ old.idle
  pub not_due : old.nature.steady ≡ true → (e : ℕ) → old.nature.every ≡ Some e → new.faults ≡ old.faults

-- The same, where the link may have been closed at the end.
pub record CallsOnOpen (k : ℕ) (old new : WireState) : Type 0 where
  pub only : OnlyOn k old new
  pub peer : (new.links k).peer ≡ (old.links k).peer
  pub stalls : (old.links k).stalls ≤ (new.links k).stalls
  pub idle : new.idle ≤ old.idle
  pub not_due : old.nature.steady ≡ true → (e : ℕ) → old.nature.every ≡ Some e → new.faults ≡ old.faults

-- The bytes from one place to another were sent, behind those before, whatever was sent on the link before them.
pub record SendsFrom (k : ℕ) (bytes : List ℕ) (from to : ℕ) (old new : WireState) : Type 0 where
  pub calls : CallsOn k old new
  pub received : (new.links k).received ≡ (old.links k).received
  pub ended : (new.links k).ended ≡ (old.links k).ended
  pub up : from ≤ to
  pub within : to ≤ length bytes
  pub sent_is : (s : List ℕ) → Holds (old.links k).sent (s ++ take from bytes) → Holds (new.links k).sent (s ++ take to bytes)
  pub moved : from < to → new.idle ≡ 0
  pub unfailed : new.faults ≡ old.faults

-- Whatever happened, the bytes up to some place were sent.
pub record FrontSent (k : ℕ) (bytes : List ℕ) (from : ℕ) (old new : WireState) : Type 0 where
  pub n : ℕ
  pub within : n ≤ length bytes
  pub sent_is : (s : List ℕ) → Holds (old.links k).sent (s ++ take from bytes) → Holds (new.links k).sent (s ++ take n bytes)
  pub calls : CallsOn k old new
  pub received : (new.links k).received ≡ (old.links k).received

-- How the sends end: all bytes were sent; the last send stalled, and over a steady wire a byte moved before where a wait had answered the link; the wire failed, which a steady wire on which dials alone are due does not; or memory ran out.
abbrev pub SendsEnd : Halt → ℕ → List ℕ → ℕ → WireState → WireState → Type 0
SendsEnd Done k bytes to old new = to ≡ length bytes
SendsEnd NotYet k bytes to old new =
    (to < length bytes) × ((new.links k).stalled ≡ Some Sending) × ((new.links k).woken ≡ false) × Rose (old.links k).stalls (new.links k).stalls
    × (old.nature.steady ≡ true → (old.links k).woken ≡ true → (old.links k).stalled ≡ Some Sending → new.idle ≡ 0)
SendsEnd Failed k bytes to old new = Rose old.faults new.faults × (old.nature.steady ≡ true → (e : ℕ) → old.nature.every ≡ Some e → ⊥)
SendsEnd OutOfMemory k bytes to old new = Unit {0}
