-- Links are closed.
use Rattle.std.specs.Prelude.{ℕ, ◌≡◌, ◌+◌, ◌<◌, false, length, Option, []}
use Rattle.tpf_base.specs.Links.{Link, WireState}
use Rattle.request_pool.specs.Pools.{Pooled}
use Rattle.request_pool.specs.Owned.{on_link, held_on}

-- A link was closed, and all that is told of it is as before.
pub record IsClosed (old new : Link) : Type 0 where
  pub is_open : new.is_open ≡ false
  pub peer : new.peer ≡ old.peer
  pub sent : new.sent ≡ old.sent
  pub received : new.received ≡ old.received
  pub owed : new.owed ≡ old.owed
  pub ended : new.ended ≡ old.ended

-- All links were closed that are held no longer, by how often each was and is held, and nothing else changed.
pub record ClosesSome (was is : ℕ → ℕ) (wire wire' : WireState) : Type 0 where
  pub closed : (k : ℕ) → is k < was k → IsClosed (wire.links k) (wire'.links k)
  pub others : (k : ℕ) → is k ≡ was k → wire'.links k ≡ wire.links k
  pub given : wire'.given ≡ wire.given
  pub faults : wire'.faults ≡ wire.faults
  pub provoked : wire'.provoked ≡ wire.provoked
  pub dials : wire'.dials ≡ wire.dials
  pub waits : wire'.waits ≡ wire.waits
  pub idle : wire'.idle ≡ wire.idle
  pub door : wire'.door ≡ wire.door
  pub nature : wire'.nature ≡ wire.nature

-- how many exchanges in flight and links that were left a pool holds
abbrev pub count_held : Pooled → ℕ
count_held pool = length pool.polled + length pool.due + length pool.spare

-- no exchange is in flight, and no link was left
abbrev pub HoldsNoLink : Pooled → Type 0
HoldsNoLink pool = (pool.polled ≡ []) × (pool.due ≡ []) × (pool.spare ≡ [])

-- An exchange, or a link that was left, with this link was taken out of a pool.
pub record PopsLink (link : Option ℕ) (old new : Pooled) : Type 0 where
  pub held : (k : ℕ) → held_on old k ≡ on_link link k + held_on new k
  pub kept : new ≡ record old { polled = new.polled; due = new.due; spare = new.spare }
  pub fewer : count_held new < count_held old
