-- A wire without links.
use Rattle.std.specs.Prelude.{ℕ, [], Some, None, true, false}
use Rattle.std.proofs.Common.{refl, lit<}
use Rattle.tpf_base.specs.Causes.{counted}
use Rattle.tpf_base.specs.Links.{Link, All, WireState, IsToldBy, ReceivesOwed, OwesAllowed, OpensGiven, IsLively}

-- a link that was never given
abbrev pub closed_link : Link
closed_link = record { peer = None; sent = Some []; received = Some []; owed = Some []; stalls = 0; stalled = None; woken = false; ended = Some false; is_open = false }

-- how often it failed, and how often of these at the door; and how often a dial, a wait and a listen was called
pub record Attempts : Type 0 where
  pub faults : ℕ
  pub door_faults : ℕ
  pub dials : ℕ
  pub waits : ℕ
  pub listens : ℕ

abbrev pub no_attempts : Attempts
no_attempts = record { faults = 0; door_faults = 0; dials = 0; waits = 0; listens = 0 }

-- one more fault at the door
abbrev pub door_failed : Attempts → Attempts
door_failed made = record made { faults = counted made.faults; door_faults = counted made.door_faults }

-- it fails at each call, and waits for nothing
abbrev pub unlinked : Attempts → WireState
unlinked made = record {
  links = λ k. closed_link;
  given = 0;
  faults = made.faults;
  provoked = 0;
  dials = made.dials;
  waits = made.waits;
  idle = 0;
  door = record { place = None; stalls = 0; faults = made.door_faults; calls = made.listens };
  nature = record { tells = All; lively = true; steady = false; every = None };
}

-- nothing was received, and nothing is owed
pub nothing_owed : ReceivesOwed closed_link
nothing_owed = λ received owed told_received told_owed. ([], cc)

-- it allows nothing, since no link is dialled
pub nothing_allowed : OwesAllowed (λ host port sent owed. ⊥) closed_link
nothing_allowed = λ host port sent owed is_peer is_sent is_owed. cc

-- all of a link that was never given is told
pub all_told : IsToldBy All closed_link
all_told = (record { sent = []; received = []; ended = false; is_sent = refl; is_received = refl; is_ended = refl }, ([], refl))

pub none_open : (made : Attempts) → OpensGiven (unlinked made)
none_open made = λ k given. refl

pub no_wait : (made : Attempts) → IsLively (unlinked made)
no_wait made = λ lively. lit< tt
