-- What a wire in one process tells.
use Rattle.std.specs.Prelude.{ℕ, ◌≡◌, ◌+◌, ◌-◌, ◌*◌, ◌^◌, ◌<◌, ◌≤◌, Bool, true, false, List, [], map, length, get_or, Option, Some, None, if◌then◌else◌}
use Rattle.std.specs.List.{AllByRecursion}
use Rattle.tpf_base.specs.Causes.{counted, counted_by}
use Rattle.tpf_base.specs.Failures.{CallCounts, no_calls}
use Rattle.tpf_base.specs.Links.{All, Nature, WireState}
use Rattle.tpf_base.specs.declared.failing.Failing.{Failing}
use Rattle.tpf_base.specs.declared.failing.Failing.TheVariants.{Never, Every, At, AfterBytes, Dials}
use Rattle.tpf_base.specs.declared.wire.Moved.{Moved}
use Rattle.tpf_base.specs.declared.wire.Moved.TheVariants as answers
use Rattle.rand_pcg.specs.Lcg.{Lcg}
use Rattle.connections.specs.Kinds.{Kind}
use Rattle.connections.specs.Versions.{Serving}
use Rattle.loop_wire.specs.declared.link.LoopLink.{LoopLink}
use Rattle.loop_wire.specs.Held.{Held, Owing, no_link, told_there, IsKept}
use Rattle.loop_wire.specs.Waits.{WaitCounts, no_waits}

-- a wire that fails no call, or dials alone, is steady
abbrev pub is_steady : Failing → Bool
is_steady Never = true
is_steady (Every n) = false
is_steady (At calls) = false
is_steady (AfterBytes most) = false
is_steady (Dials n) = true

-- which dials are due, where nothing else is
abbrev pub every_of : Failing → Option ℕ
every_of Never = Some 0
every_of (Every n) = None
every_of (At calls) = None
every_of (AfterBytes most) = None
every_of (Dials n) = Some n

-- where a server stands at every host and port; else other dials fail too, so it is not steady
abbrev pub steady_in : Bool → Failing → Bool
steady_in true failing = is_steady failing
steady_in false failing = false

abbrev pub every_in : Bool → Failing → Option ℕ
every_in true failing = every_of failing
every_in false failing = None

abbrev pub nature_in : Bool → Failing → Nature
nature_in everywhere failing = record { tells = All; lively = true; steady = steady_in everywhere failing; every = every_in everywhere failing }

-- of so many dials each n-th is due, and some faults were provoked: so many dials failed since they were due, and no other call failed
pub record FewFaults (n dials faults provoked : ℕ) : Type 0 where
  pub due : ℕ
  pub failed : faults ≤ due + provoked
  pub within : due * n ≤ dials
  pub none : n ≡ 0 → due ≡ 0

-- so it is where nothing but dials is due, as long as the count of the dials does not stand still
abbrev pub CountsDue : Failing → ℕ → ℕ → ℕ → Type 0
CountsDue failing dials faults provoked = (n : ℕ) → every_of failing ≡ Some n → dials < 2 ^ 64 - 1 → FewFaults n dials faults provoked

-- how many waits succeeded, one after another, since a byte moved: at most one
abbrev pub idle_of : Bool → ℕ
idle_of woke = if woke then 1 else 0

-- These links and counts as a wire, where this is owed to what was sent on each link, and a server stands at every host and port or not. Its door is never opened, and each wait that failed is a fault of it.
abbrev pub wire_of : Bool → Owing → List Held → CallCounts → ℕ → WaitCounts → Bool → WireState
wire_of everywhere owes links counts provoked waits woke = record {
  links = λ k. told_there owes (get_or links k no_link);
  given = length links;
  faults = counts.faults;
  provoked = provoked;
  dials = counts.dials;
  waits = waits.calls;
  idle = idle_of woke;
  door = record { place = None; stalls = 0; faults = waits.faults; calls = 0 };
  nature = nature_in everywhere counts.failing;
}

-- a call that is no dial was counted, and as a fault where it failed
abbrev pub called : Bool → CallCounts → CallCounts
called fails counts = record counts { calls = counted counts.calls; faults = if fails then counted counts.faults else counts.faults }

-- a dial was counted, and as a fault where it failed
abbrev pub dialled : Bool → CallCounts → CallCounts
dialled fails counts = record counts { calls = counted counts.calls; dials = counted counts.dials; faults = if fails then counted counts.faults else counts.faults }

-- A wire in one process: the server or the servers behind it, its links, its counts, the state of its generator, how many bytes moved, how many faults were provoked, how many waits there were and how many of them failed, and whether the last one succeeded with no byte moved since.
pub record Looped (Behind : Type 0) : Type 0 where
  pub server : Behind
  pub links : List Held
  pub counts : CallCounts
  pub generator : Lcg
  pub moved : ℕ
  pub provoked : ℕ
  pub waits : WaitCounts
  pub woke : Bool

-- a wire that has given no link yet
abbrev pub new_wire : {Behind : Type 0} → Behind → Lcg → Failing → Looped Behind
new_wire behind generator failing = record { server = behind; links = []; counts = no_calls failing; generator = generator; moved = 0; provoked = 0; waits = no_waits; woke = false }

-- where this is owed to what was sent on each link, and a server stands at every host and port or not
abbrev pub state_in : {Behind : Type 0} → Bool → Owing → Looped Behind → WireState
state_in everywhere owes wire = wire_of everywhere owes wire.links wire.counts wire.provoked wire.waits wire.woke

-- of one server at every host and port, where this is owed to what was sent
abbrev pub state_of : {Server : Type 0} → (List ℕ → List ℕ) → Looped Server → WireState
state_of owes wire = state_in true (λ peer. owes) wire

-- whether the last wait succeeded and no byte moved since, after a call with this answer
abbrev pub woke_after : Moved → Bool → Bool
woke_after (answers.Moved n) woke = false
woke_after answers.End woke = false
woke_after answers.NotYet woke = woke
woke_after answers.Failed woke = woke
woke_after answers.OutOfMemory woke = woke

-- the bytes that moved, after a call with this answer
abbrev pub moved_by : Moved → ℕ → ℕ
moved_by (answers.Moved n) moved = counted_by n moved
moved_by answers.End moved = moved
moved_by answers.NotYet moved = moved
moved_by answers.Failed moved = moved
moved_by answers.OutOfMemory moved = moved

module _ {C : Type 0} where
  -- what is held of each link
  abbrev pub held_of : List (LoopLink C) → List Held
  held_of links = map (λ (l : LoopLink C). l.held) links

  module _ {Server Data Settings : Type 0} (kind : Kind C Data Settings) (Suits : Server → C → Type 0) (serving : Server → Serving Data Settings) (response_at : Serving Data Settings → List ℕ → List ℕ) (there : Option (List ℕ × ℕ) → Option Server) where
    -- a link and its connection are as they should be, for the server that answers it
    pub record IsServed (link : LoopLink C) : Type 0 where
      pub server : Server
      pub stands : there link.held.peer ≡ Some server
      pub kept : IsKept kind (Suits server) (serving server) (response_at (serving server)) link.held link.connection

    -- so are all links of a wire
    abbrev pub AreServed : List (LoopLink C) → Type 0
    AreServed links = AllByRecursion IsServed links
