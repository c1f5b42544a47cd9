-- What files, streams and sockets of the system tell: counts alone, and of a closed link nothing.
use Rattle.std.specs.Prelude.{ℕ, List, ◌≡◌, ◌≢◌, ◌+◌, ◌-◌, ◌^◌, ◌<◌, ◌≤◌, Option, Some, None, option_map, Bool, true, false, nat_lt, if◌then◌else◌}
use Rattle.tpf_base.specs.Causes.{counted, Rose}
use Rattle.tpf_base.specs.Links.{Link, Way, Sending, Receiving, CountsAlone, WireState}
use Rattle.tpf_base.specs.Outside.{ShelfState}
use Rattle.tpf_base.specs.Wrote.{SinkState}
use Rattle.tpf_base.specs.declared.fault.Fault.{Fault}
use Rattle.tpf_base.specs.declared.fault.Fault.TheVariants as faults
use Rattle.tpf_base.specs.declared.wire.Moved.{Moved}
use Rattle.tpf_base.specs.declared.wire.Moved.TheVariants as answers
use Rattle.tpf_base.specs.declared.wire.Ready.{Ready}
use Rattle.tpf_base.specs.declared.wire.Ready.TheVariants as ready
use Rattle.wire_real.specs.declared.account.Account.{Account}
use Rattle.wire_real.specs.declared.account.Counts.{Counts}
use Rattle.wire_real.specs.declared.account.Direction.{Direction}
use Rattle.wire_real.specs.declared.account.Direction.TheVariants as directions

-- a shelf of files that was asked for these names
abbrev pub shelf_of : List (List ℕ) → ℕ → ℕ → ShelfState
shelf_of names given faults = record { told = None; found = names; given = given; rest = λ _. None; faults = faults; faultless = false }

-- a stream that failed so often
abbrev pub sink_of : ℕ → SinkState
sink_of faults = record { taken = None; faults = faults; faultless = false }

-- the way of a call that goes in a direction
abbrev pub way_of : Direction → Way
way_of directions.Sending = Sending
way_of directions.Receiving = Receiving

-- a link that is open
abbrev pub open_link : Account → Link
open_link account = record {
  peer = None;
  sent = None;
  received = None;
  owed = None;
  stalls = account.stalls;
  stalled = option_map way_of account.stalled;
  woken = account.woken;
  ended = None;
  is_open = true;
}

-- a link that is closed, or was not given: nothing is kept of it
abbrev pub closed_link : Link
closed_link = record {
  peer = None;
  sent = None;
  received = None;
  owed = None;
  stalls = 2 ^ 64 - 1;
  stalled = None;
  woken = false;
  ended = None;
  is_open = false;
}

abbrev pub link_of : Option Account → Link
link_of None = closed_link
link_of (Some account) = open_link account

-- the link with a number, where those below `given` were given
abbrev pub link_at : ℕ → (ℕ → Option Account) → ℕ → Link
link_at given accounts k = if nat_lt k given then link_of (accounts k) else closed_link

-- a wire with these counts, its door at a host and a port, and these accounts of its open links
abbrev pub wire_of : Counts → Option (List ℕ × ℕ) → (ℕ → Option Account) → WireState
wire_of counts place accounts = record {
  links = link_at counts.given accounts;
  given = counts.given;
  faults = counts.faults;
  provoked = 0;
  dials = counts.dials;
  waits = counts.waits;
  idle = counts.idle;
  door = record { place = place; stalls = counts.door_stalls; faults = counts.door_faults; calls = counts.listens };
  nature = record { tells = CountsAlone; lively = false; steady = false; every = None };
}

abbrev pub no_counts : Counts
no_counts = record { given = 0; faults = 0; dials = 0; waits = 0; idle = 0; door_stalls = 0; door_faults = 0; listens = 0 }

abbrev pub no_account : Account
no_account = record { stalls = 0; stalled = None; woken = false }

-- the account of a link after a call in a direction
abbrev pub account_after : Direction → Moved → Account → Account
account_after direction (answers.Moved n) account = record account { stalled = None; woken = false }
account_after direction answers.End account = record account { stalled = None; woken = false }
account_after direction answers.NotYet account = record { stalls = counted account.stalls; stalled = Some direction; woken = false }
account_after direction answers.Failed account = record account { stalled = None; woken = false }
account_after direction answers.OutOfMemory account = account

-- the counts of the wire after a call on a link
abbrev pub counts_after : Moved → Counts → Counts
counts_after (answers.Moved n) counts = record counts { idle = 0 }
counts_after answers.End counts = record counts { idle = 0 }
counts_after answers.NotYet counts = counts
counts_after answers.Failed counts = record counts { faults = counted counts.faults }
counts_after answers.OutOfMemory counts = counts

-- Nothing but the faults changed, by this one.
pub record Fails (fault : Fault) (old new : Counts) : Type 0 where
  pub given : new.given ≡ old.given
  pub dials : new.dials ≡ old.dials
  pub waits : new.waits ≡ old.waits
  pub idle : new.idle ≡ old.idle
  pub door_stalls : new.door_stalls ≡ old.door_stalls
  pub listens : new.listens ≡ old.listens
  pub later : old.faults ≤ new.faults
  pub failed : fault ≡ faults.Failed → Rose old.faults new.faults
  pub memory : fault ≡ faults.OutOfMemory → new.faults ≡ old.faults

-- A fault of a dial: those of the door stay.
pub record FailsToDial (fault : Fault) (old new : Counts) : Type 0 where
  pub fails : Fails fault old new
  pub door_faults : new.door_faults ≡ old.door_faults

-- A fault of the door, which counts as one of the wire too.
pub record FailsAtDoor (fault : Fault) (old new : Counts) : Type 0 where
  pub fails : Fails fault old new
  pub later : old.door_faults ≤ new.door_faults
  pub failed : fault ≡ faults.Failed → Rose old.door_faults new.door_faults
  pub memory : fault ≡ faults.OutOfMemory → new.door_faults ≡ old.door_faults

-- what a call that moves at most so many bytes may answer
abbrev pub MovesWithin : ℕ → Moved → Type 0
MovesWithin most (answers.Moved n) = (0 < n) × (n ≤ most)
MovesWithin most answers.End = Unit {0}
MovesWithin most answers.NotYet = Unit {0}
MovesWithin most answers.Failed = Unit {0}
MovesWithin most answers.OutOfMemory = Unit {0}

-- all accounts are as they were
abbrev pub SameAccounts : (ℕ → Option Account) → (ℕ → Option Account) → Type 0
SameAccounts old new = (k : ℕ) → new k ≡ old k

-- the accounts of all other links are as they were
abbrev pub OthersSame : ℕ → (ℕ → Option Account) → (ℕ → Option Account) → Type 0
OthersSame k old new = (j : ℕ) → j ≢ k → new j ≡ old j

-- the next link was given, with nothing on it
pub record GivesNext (old_counts new_counts : Counts) (old new : ℕ → Option Account) (number : ℕ) : Type 0 where
  pub is_next : number ≡ old_counts.given
  pub counts : new_counts ≡ record old_counts { given = old_counts.given + 1; idle = 0 }
  pub account : new number ≡ Some no_account
  pub others : OthersSame number old new

-- a call on a link answered so
pub record Moves (direction : Direction) (k : ℕ) (answer : Moved) (old new : ℕ → Option Account) : Type 0 where
  pub moved : (account : Account) → old k ≡ Some account
      → (new k ≡ Some (account_after direction answer account)) × (account.stalls ≤ (account_after direction answer account).stalls)
  pub others : OthersSame k old new

-- a wait answered this link, which is held, or the door, which is open
abbrev pub Woken : Ready → ℕ → Bool → (ℕ → Option Account) → (ℕ → Option Account) → Type 0
Woken (ready.Link k) given listens old new = (k < given) × ((account : Account) × (old k ≡ Some account) × (new k ≡ Some (record account { woken = true }))) × OthersSame k old new
Woken ready.Door given listens old new = (listens ≡ true) × SameAccounts old new
