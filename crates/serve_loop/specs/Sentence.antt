-- The server's sentence: on each link its own response.
use Rattle.std.specs.Prelude.{ℕ, ◌≡◌, ◌⊎◌, ◌+◌, ◌<◌, ◌≤◌, true, false, List, [], ◌++◌, length, Some}
use Rattle.std.specs.List.{AllByRecursion}
use Rattle.tpf_base.specs.Causes.{RoseBy, counted_by}
use Rattle.tpf_base.specs.Links.{WireState}
use Rattle.tpf_base.specs.Sending.{Holds}
use Rattle.tpf_base.specs.Marks.{Mark, version_at}
use Rattle.connections.specs.Kinds.{Kind}
use Rattle.connections.specs.Versions.{IsHistory}
use Rattle.serve_loop.specs.declared.live.Served.{Served}
use Rattle.serve_loop.specs.declared.live.Turned.{Turned}
use Rattle.serve_loop.specs.Calls.{IsUntouched}
use Rattle.serve_loop.specs.Traffic.{Given, Lives, Moment, Traffic}
use Rattle.serve_loop.specs.Steps.{Carries, ServesTo, TurnsTo}
use Rattle.serve_loop.specs.Relates.{Relates, Versions, AreDistinct, IsExcused, IsNumber, IsRising}

-- the links from before are as they were, but that a wait may have answered one
abbrev pub LeavesOlder : WireState → WireState → Type 0
LeavesOlder since now = (k : ℕ) → k < since.given → IsUntouched (since.links k) (now.links k)

-- every link given since is closed
pub record AllClosed (since now : WireState) : Type 0 where
  pub closed : (k : ℕ) → since.given ≤ k → k < now.given → (now.links k).is_open ≡ false

module _ {C Data Settings : Type 0} where
  -- What was sent is a prefix of the response to what was received, for marks of the link.
  pub record SendsResponse (kind : Kind C Data Settings) (since now : Moment Data Settings) (history : List Data) (owner : ℕ → ℕ) (k : ℕ) (sent received : List ℕ) : Type 0 where
    pub marks : List Mark
    pub marked : kind.IsMarked history now.served.config received marks
    pub rest : List ℕ
    pub response : kind.response history now.served.config received marks ≡ sent ++ rest
    -- a failed reload has a cause, and the numbers that reloads were given belong to this link alone, rising
    pub excused : AllByRecursion (IsExcused since.supply.faults now.supply.faults) marks
    -- each head was answered over the version that was served at the start, or a later one
    pub level : AllByRecursion (λ mark. since.served.version ≤ version_at mark) marks
    pub numbers : AllByRecursion (IsNumber owner k since.served.version now.served.version) (kind.reloads now.served.config received marks)
    pub rising : IsRising (kind.reloads now.served.config received marks)

  -- All of it was sent, and it closes, or the link has ended.
  pub record SendsWhole (kind : Kind C Data Settings) (since now : Moment Data Settings) (history : List Data) (owner : ℕ → ℕ) (k : ℕ) : Type 0 where
    pub later : since.wire.given ≤ k
    pub given : k < now.wire.given
    pub whole : (sent received : List ℕ) → (now.wire.links k).sent ≡ Some sent → (now.wire.links k).received ≡ Some received
        → (s : SendsResponse kind since now history owner k sent received) × (s.rest ≡ [])
    pub end_ : (received : List ℕ) → (now.wire.links k).received ≡ Some received
        → (kind.closes now.served.config received ≡ true) ⊎ Holds (now.wire.links k).ended true

  -- The first part: of every link given since, over one history.
  pub record Sentence (kind : Kind C Data Settings) (may : Data → Type 0) (first : List Data) (since now : Moment Data Settings) : Type 0 where
    pub history : List Data
    pub given : List (Given Data)
    pub owner : ℕ → ℕ
    pub versions : Versions may first since history given now
    pub links : (k : ℕ) → since.wire.given ≤ k → k < now.wire.given → (sent received : List ℕ)
        → (now.wire.links k).sent ≡ Some sent → (now.wire.links k).received ≡ Some received
        → SendsResponse kind since now history owner k sent received

  -- The last part: of the connections that ended, all but those that wanted memory and those that ended with their link, of which there are at most as many as the wire's faults rose. Counts stand still at their last value.
  pub record WholeSentence (kind : Kind C Data Settings) (since now : Moment Data Settings) (history : List Data) (owner : ℕ → ℕ) (faults connections starved : ℕ) : Type 0 where
    pub whole : List ℕ
    pub once : AreDistinct whole
    pub each : AllByRecursion (SendsWhole kind since now history owner) whole
    pub broken : ℕ
    pub wanted : ℕ
    pub connections_is : connections ≡ counted_by (length whole + broken + wanted) 0
    pub starved_is : starved ≡ counted_by wanted 0
    pub rose : RoseBy broken faults now.wire.faults

  -- Both parts, where so many connections ended since the wire had so many faults.
  pub record SpeaksWhole (kind : Kind C Data Settings) (may : Data → Type 0) (first : List Data) (since now : Moment Data Settings) (faults connections starved : ℕ) : Type 0 where
    pub prefixes : Sentence kind may first since now
    pub whole : WholeSentence kind since now prefixes.history prefixes.owner faults connections starved

-- ---- whatever the traffic was

module _ {C Data Settings : Type 0} where
  -- It stands to the connections as it did.
  abbrev pub RelatesOn : Kind C Data Settings → (Data → Type 0) → Lives C → Lives C → Moment Data Settings → Moment Data Settings → Type 0
  RelatesOn kind may at at' old now =
      (first : List Data) (since : Moment Data Settings) (t : Traffic C Data)
      → Relates kind may first since t at.found at.count old → Relates kind may first since t at'.found at'.count now

  -- A turn went on with it.
  abbrev pub TurnsOn : Kind C Data Settings → (Data → Type 0) → Lives C → Lives C → Moment Data Settings → Moment Data Settings → Turned → Type 0
  TurnsOn kind may at at' old now turned =
      (first : List Data) (since : Moment Data Settings) (t : Traffic C Data)
      → Relates kind may first since t at.found at.count old → TurnsTo kind may first since t turned at'.found at'.count old now

  -- The first part of the sentence holds of it.
  abbrev pub SpeaksOn : Kind C Data Settings → (Data → Type 0) → Lives C → Moment Data Settings → Moment Data Settings → Type 0
  SpeaksOn kind may at old now =
      (first : List Data) (since : Moment Data Settings) (t : Traffic C Data)
      → Relates kind may first since t at.found at.count old → Sentence kind may first since now

  -- Both parts hold of it and of the connections that ended in the turn.
  abbrev pub SpeaksWholeOn : Kind C Data Settings → (Data → Type 0) → Lives C → Moment Data Settings → Moment Data Settings → Turned → Type 0
  SpeaksWholeOn kind may at old now turned =
      (first : List Data) (since : Moment Data Settings) (t : Traffic C Data)
      → Relates kind may first since t at.found at.count old
      → SpeaksWhole kind may first since now old.wire.faults turned.ended turned.starved

  -- A service went on with it, whatever that answered.
  abbrev pub CarriesOn : Kind C Data Settings → (Data → Type 0) → Lives C → Lives C → Moment Data Settings → Moment Data Settings → Type 0
  CarriesOn kind may at at' old now =
      (first : List Data) (since : Moment Data Settings) (t : Traffic C Data)
      → Relates kind may first since t at.found at.count old → Carries kind may first since at'.found at'.count now

  -- A service went on with it, and ended so many connections.
  abbrev pub ServesOn : Kind C Data Settings → (Data → Type 0) → Lives C → Lives C → Moment Data Settings → Moment Data Settings → Served → Type 0
  ServesOn kind may at at' old now served =
      (first : List Data) (since : Moment Data Settings) (t : Traffic C Data)
      → Relates kind may first since t at.found at.count old → ServesTo kind may first since t served at'.found at'.count old now

  -- From any history of the server at the start: the first part of the sentence.
  abbrev pub SpeaksSince : Kind C Data Settings → (Data → Type 0) → Moment Data Settings → Moment Data Settings → Type 0
  SpeaksSince kind may since now = (first : List Data) → IsHistory first since.served → Sentence kind may first since now

  -- And both parts.
  abbrev pub SpeaksWholeSince : Kind C Data Settings → (Data → Type 0) → Moment Data Settings → Moment Data Settings → Served → Type 0
  SpeaksWholeSince kind may since now served =
      (first : List Data) → IsHistory first since.served
      → SpeaksWhole kind may first since now since.wire.faults served.connections served.starved
