-- What the loop does at the door behind a turn: each link that waits there gets a connection.
use Rattle.std.specs.Prelude.{ℕ, zero, suc, ◌≡◌, Bool, true, false}
use Rattle.tpf_base.specs.Causes.{counted}
use Rattle.tpf_base.specs.Links.{WireState}
use Rattle.connections.specs.Kinds.{Kind}
use Rattle.serve_loop.specs.declared.live.ServeFault.{ServeFault}
use Rattle.serve_loop.specs.Traffic.{Lives}
use Rattle.serve_loop.specs.Calls.{RestsWire}
use Rattle.serve_loop.specs.Steps.{Welcomes}
use Rattle.serve_loop.specs.Service.{FailsTurn, FailsWait}

module _ {C Data Settings : Type 0} where
  -- So many links were given, one after another, each to a new connection, and nothing else was done.
  abbrev pub Greeted : Kind C Data Settings → ℕ → Lives C → Lives C → WireState → WireState → Type 0
  Greeted kind zero at new a b = (new ≡ at) × (b ≡ a)
  Greeted kind (suc n) at new a b = (mid : Lives C) × (between : WireState) × Greeted kind n at mid a between × Welcomes kind mid.found new.found true mid.count new.count between b

  -- Links were given to new connections until none waited at the door, or enough connections were live.
  pub record GreetsAll (kind : Kind C Data Settings) (at new : Lives C) (a b : WireState) : Type 0 where
    pub number : ℕ
    pub mid : Lives C
    pub between : WireState
    pub greeted : Greeted kind number at mid a between
    pub last : Welcomes kind mid.found new.found false mid.count new.count between b

  -- Links were given to new connections, and then the door failed.
  pub record FailsGreets (kind : Kind C Data Settings) (fault : ServeFault) (at new : Lives C) (a b : WireState) : Type 0 where
    pub number : ℕ
    pub mid : Lives C
    pub between : WireState
    pub greeted : Greeted kind number at mid a between
    pub stay : (key : ℕ) → new.found key ≡ mid.found key
    pub len : new.count ≡ mid.count
    pub fails : FailsTurn fault between b

  -- What follows a turn: one wait, where the service rests; else links that wait at the door.
  pub data FollowsTurn (kind : Kind C Data Settings) (rests : Bool) (at new : Lives C) (a b : WireState) : Type 0 where
    IsGreeted : rests ≡ false → GreetsAll kind at new a b → FollowsTurn kind rests at new a b
    IsRested : rests ≡ true → new ≡ at → RestsWire a b → b.waits ≡ counted a.waits → FollowsTurn kind rests at new a b

  -- The same that failed.
  pub data FailsAfter (kind : Kind C Data Settings) (fault : ServeFault) (rests : Bool) (at new : Lives C) (a b : WireState) : Type 0 where
    Greeting : rests ≡ false → FailsGreets kind fault at new a b → FailsAfter kind fault rests at new a b
    Resting : rests ≡ true → new ≡ at → RestsWire a b → FailsWait fault a b → FailsAfter kind fault rests at new a b
