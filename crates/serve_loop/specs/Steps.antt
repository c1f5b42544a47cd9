-- What a step and a turn do to the traffic.
use Rattle.std.specs.Prelude.{ℕ, ◌≡◌, ◌≢◌, ◌⊎◌, ◌+◌, ◌<◌, ◌≤◌, Bool, true, false, List, [], ◌∷◌, ◌++◌, length, Option, Some, None}
use Rattle.std.specs.List.{AllByRecursion}
use Rattle.std.specs.Io.KnownBytes.{append_known}
use Rattle.tpf_base.specs.Causes.{Rose, RoseBy, counted, counted_by}
use Rattle.tpf_base.specs.Links.{WireState, Receiving}
use Rattle.tpf_base.specs.Calls.{GivesAccepted, GivesNone}
use Rattle.tpf_base.specs.Sending.{Holds}
use Rattle.tpf_base.specs.Marks.{Mark, version_at}
use Rattle.connections.specs.Kinds.{Kind, Feeds, Fills, Opens}
use Rattle.tpf_base.specs.declared.limits.TheConstants.{HIGHEST_NUMBER}
use Rattle.connections.specs.Versions.{Serving, IsHistory}
use Rattle.connections.specs.declared.reloaded.Reloaded.{Reloaded}
use Rattle.connections.specs.declared.reloaded.Reloaded.TheVariants as outcomes
use Rattle.serve_loop.specs.declared.live.Live.{Live}
use Rattle.serve_loop.specs.declared.live.TheConstants.{MOST_LIVE, MOST_RECEIVED, MOST_SENT}
use Rattle.serve_loop.specs.declared.live.Served.{Served}
use Rattle.serve_loop.specs.declared.live.Stepped.{Stepped}
use Rattle.serve_loop.specs.declared.live.Stepped.TheVariants as stepped
use Rattle.serve_loop.specs.declared.live.Turned.{Turned}
use Rattle.serve_loop.specs.declared.step.Received.{Received}
use Rattle.serve_loop.specs.declared.step.Received.TheVariants as received
use Rattle.serve_loop.specs.Traffic.{Talk, Given, Traffic, Moment, updated, took, with_given}
use Rattle.serve_loop.specs.Calls.{CallsOnly, ServesAlone, ended_by, starved_by, left_by}
use Rattle.serve_loop.specs.Relates.{Relates, IsTalk}

-- A reload asked the supply once, unless the version that is served is the last possible one: what that gave, and how the server stands then.
pub record Supplies {Data Settings : Type 0} (may : Data → Type 0) (outcome : Reloaded) (old now : Moment Data Settings) : Type 0 where
  pub added : List (Given Data)
  pub few : length added ≤ 1
  pub left : old.supply.left ≡ with_given added now.supply.left
  pub may_be : AllByRecursion may (took added)
  pub version : (v : ℕ) → outcome ≡ outcomes.Version v → (data_set : Data) × ((took added ≡ data_set ∷ []) × (v ≡ old.served.version + 1)
      × (now.served ≡ record old.served { data_set = data_set; version = v }))
  pub none : ((v : ℕ) → outcome ≢ outcomes.Version v) → (took added ≡ []) × (now.served ≡ old.served)
  pub failed : outcome ≡ outcomes.Failed → (added ≡ []) × (Rose old.supply.faults now.supply.faults ⊎ (old.served.version ≡ HIGHEST_NUMBER))
  pub faults : old.supply.faults ≤ now.supply.faults
  pub asked : old.served.version ≢ HIGHEST_NUMBER → now.supply.calls ≡ counted old.supply.calls
  pub unasked : old.served.version ≡ HIGHEST_NUMBER → now.supply ≡ old.supply
  pub wire : now.wire ≡ old.wire

module _ {C : Type 0} where
  -- More came and went on a link: each mark that was added is of at least this version.
  pub record GoesOn (version : ℕ) (old new : Talk C) : Type 0 where
    pub later : List Mark
    pub marks : new.marks ≡ old.marks ++ later
    pub not_below : AllByRecursion (λ mark. version ≤ version_at mark) later
    pub piece : List ℕ
    pub fed : new.fed ++ new.unfed ≡ (old.fed ++ old.unfed) ++ piece
    pub part : List ℕ
    pub taken : new.taken ≡ old.taken ++ part

  abbrev pub GoesOnAt : ℕ → Option (Talk C) → Option (Talk C) → Type 0
  GoesOnAt version None None = Unit {0}
  GoesOnAt version None (Some new) = AllByRecursion (λ mark. version ≤ version_at mark) new.marks
  GoesOnAt version (Some old) None = ⊥
  GoesOnAt version (Some old) (Some new) = GoesOn version old new

-- More connections ended: so many, of them so many for want of memory, and the faults of the wire rose at least once for each of the others that did not end in order.
pub record EndsBy {C Data : Type 0} (t u : Traffic C Data) (count wanted faults now : ℕ) : Type 0 where
  pub ordered : List ℕ
  pub broken : List ℕ
  pub starved : List ℕ
  pub ordered_is : u.ordered ≡ ordered ++ t.ordered
  pub broken_is : u.broken ≡ broken ++ t.broken
  pub starved_is : u.starved ≡ starved ++ t.starved
  pub count_is : length ordered + length broken + length starved ≡ count
  pub wanted_is : length starved ≡ wanted
  pub rose : RoseBy (length broken) faults now

module _ {C Data Settings : Type 0} where
  -- The traffic goes on, and the connection at a key is this one: no link was closed.
  pub record Keeps (kind : Kind C Data Settings) (may : Data → Type 0) (first : List Data) (since : Moment Data Settings) (t : Traffic C Data) (at : ℕ → Option (Live C)) (len key : ℕ) (live : Live C) (old now : Moment Data Settings) : Type 0 where
    pub traffic : Traffic C Data
    pub relates : Relates kind may first since traffic (updated at key (Some live)) len now
    pub ends : EndsBy t traffic 0 0 old.wire.faults now.wire.faults
    pub goes_on : (k : ℕ) → GoesOnAt old.served.version (t.talks k) (traffic.talks k)

  -- A step up to its call on the wire: a reload was answered and bytes were made. Where memory was wanting, the connection as it was before that.
  pub record Prepares (kind : Kind C Data Settings) (may : Data → Type 0) (old new : Live C) (ok : Bool) (before after : Moment Data Settings) : Type 0 where
    pub link : new.link ≡ old.link
    pub live : Live C
    pub link_is : live.link ≡ old.link
    pub live_is : ok ≡ true → live ≡ new
    pub up : before.served.version ≤ after.served.version
    pub keeps : (first : List Data) (since : Moment Data Settings) (t : Traffic C Data) (at : ℕ → Option (Live C)) (len key : ℕ)
        → at key ≡ Some old → Relates kind may first since t at len before → Keeps kind may first since t at len key live before after

  -- Further bytes of the response were made; or none, because as many were pending as one call sends.
  pub data Makes (kind : Kind C Data Settings) (server : Serving Data Settings) (old new : C) : Type 0 where
    IsFull : MOST_SENT ≤ length (kind.pending old) → new ≡ old → Makes kind server old new
    IsFilled : Fills kind server old new → Makes kind server old new

  -- where nothing is pending, all is made, and no reload waits
  pub record IsReady (kind : Kind C Data Settings) (c : C) : Type 0 where
    pub wants : kind.pending c ≡ [] → kind.wants c ≡ false
    pub owes : kind.pending c ≡ [] → kind.owes c ≡ false

  -- Bytes were fed to a connection, and bytes of the response were made.
  pub record AnswersPiece (kind : Kind C Data Settings) (server : Serving Data Settings) (piece : List ℕ) (old new : C) : Type 0 where
    pub read : C
    pub feeds : Feeds kind server piece old read
    pub makes : Makes kind server read new

  -- The same of bytes that were received on its link.
  pub record HearsPiece (kind : Kind C Data Settings) (server : Serving Data Settings) (k : ℕ) (old new : C) (a b : WireState) : Type 0 where
    pub piece : List ℕ
    pub some : 0 < length piece
    pub most : length piece ≤ MOST_RECEIVED
    pub received : (b.links k).received ≡ append_known (a.links k).received piece
    pub idle : b.idle ≡ 0
    pub answers : AnswersPiece kind server piece old new

  -- What a receive on a link did.
  pub record Hears (kind : Kind C Data Settings) (server : Serving Data Settings) (k : ℕ) (old new : C) (a b : WireState) (answer : Received) : Type 0 where
    pub only : CallsOnly k a b
    pub sent : (b.links k).sent ≡ (a.links k).sent
    pub is_open : (b.links k).is_open ≡ (a.links k).is_open
    pub fed : answer ≡ received.Fed → HearsPiece kind server k old new a b
    pub end_ : answer ≡ received.End → ((b.links k).received ≡ (a.links k).received) × Holds (b.links k).ended true × (new ≡ old)
    pub not_yet : answer ≡ received.NotYet → ((b.links k).received ≡ (a.links k).received) × Rose (a.links k).stalls (b.links k).stalls × (new ≡ old) × ((b.links k).stalled ≡ Some Receiving)
    pub failed : answer ≡ received.Failed → ((b.links k).received ≡ (a.links k).received) × Rose a.faults b.faults × (new ≡ old)
    pub starved : answer ≡ received.Starved → (piece : List ℕ) × ((b.links k).received ≡ append_known (a.links k).received piece) × (length piece ≤ MOST_RECEIVED)

  -- all was sent, and the connection closes, or the link has ended
  pub record EndsInOrder (kind : Kind C Data Settings) (k : ℕ) (talk : Talk C) (wire : WireState) : Type 0 where
    pub over : talk.over ≡ 0
    pub unfed : talk.unfed ≡ []
    pub pending : kind.pending talk.connection ≡ []
    pub owes : kind.owes talk.connection ≡ false
    pub wants : kind.wants talk.connection ≡ false
    pub end_ : (kind.closing talk.connection ≡ true) ⊎ Holds (wire.links k).ended true

  -- how the talk of a link stands after a step of this answer
  abbrev pub EndsAs : Kind C Data Settings → Stepped → ℕ → C → Talk C → Talk C → WireState → WireState → Type 0
  EndsAs kind stepped.Moved k new talk talk' a b = (talk'.connection ≡ new) × (talk'.over ≡ 0) × (talk'.unfed ≡ [])
  EndsAs kind stepped.Still k new talk talk' a b = (talk'.connection ≡ new) × (talk'.over ≡ 0) × (talk'.unfed ≡ [])
  EndsAs kind stepped.Ended k new talk talk' a b = EndsInOrder kind k talk' b ⊎ Rose a.faults b.faults
  EndsAs kind stepped.Starved k new talk talk' a b = Unit {0}

  pub record TalksTo (kind : Kind C Data Settings) (since : Moment Data Settings) (history : List Data) (owner : ℕ → ℕ) (k : ℕ) (answer : Stepped) (new : C) (talk : Talk C) (before after : Moment Data Settings) : Type 0 where
    pub talk' : Talk C
    pub is : IsTalk kind since history owner after k talk'
    pub goes_on : GoesOn before.served.version talk talk'
    pub end_ : EndsAs kind answer k new talk talk' before.wire after.wire

  -- What a call on a link does to its talk, whichever it is.
  pub record StepsLink (kind : Kind C Data Settings) (k : ℕ) (old new : C) (answer : Stepped) (before after : Moment Data Settings) : Type 0 where
    pub talks : (since : Moment Data Settings) (history : List Data) (owner : ℕ → ℕ) (talk : Talk C)
        → IsHistory history before.served → since.served.version ≤ before.served.version → talk.connection ≡ old → talk.over ≡ 0 → talk.unfed ≡ []
        → IsTalk kind since history owner before k talk
        → TalksTo kind since history owner k answer new talk before after

  -- What one step leaves: the traffic after it, and what happened on its link and on no other.
  pub record StepsTo (kind : Kind C Data Settings) (may : Data → Type 0) (first : List Data) (since : Moment Data Settings) (t : Traffic C Data) (at : ℕ → Option (Live C)) (len key : ℕ) (answer : Stepped) (live : Live C) (old now : Moment Data Settings) : Type 0 where
    pub traffic : Traffic C Data
    pub left : ℕ
    pub len_is : left + ended_by answer ≡ len
    pub relates : Relates kind may first since traffic (updated at key (left_by answer live)) left now
    pub ends : EndsBy t traffic (ended_by answer) (starved_by answer) old.wire.faults now.wire.faults
    pub goes_on : (k : ℕ) → GoesOnAt old.served.version (t.talks k) (traffic.talks k)
    pub up : old.served.version ≤ now.served.version

  -- A step of one connection, under whichever key it stands.
  abbrev pub StepsOn : Kind C Data Settings → (Data → Type 0) → Live C → Live C → Stepped → Moment Data Settings → Moment Data Settings → Type 0
  StepsOn kind may old new answer before after =
      (first : List Data) (since : Moment Data Settings) (t : Traffic C Data) (at : ℕ → Option (Live C)) (len key : ℕ)
      → 0 < len → at key ≡ Some old → Relates kind may first since t at len before
      → StepsTo kind may first since t at len key answer new before after

  -- What a turn leaves.
  pub record TurnsTo (kind : Kind C Data Settings) (may : Data → Type 0) (first : List Data) (since : Moment Data Settings) (t : Traffic C Data) (turned : Turned) (at : ℕ → Option (Live C)) (len : ℕ) (old now : Moment Data Settings) : Type 0 where
    pub traffic : Traffic C Data
    pub relates : Relates kind may first since traffic at len now
    pub ends : EndsBy t traffic turned.ended turned.starved old.wire.faults now.wire.faults
    pub goes_on : (k : ℕ) → GoesOnAt old.served.version (t.talks k) (traffic.talks k)
    pub up : old.served.version ≤ now.served.version

  -- What a service leaves, whatever it answered: its traffic.
  pub record Carries (kind : Kind C Data Settings) (may : Data → Type 0) (first : List Data) (since : Moment Data Settings) (at : ℕ → Option (Live C)) (len : ℕ) (now : Moment Data Settings) : Type 0 where
    pub traffic : Traffic C Data
    pub relates : Relates kind may first since traffic at len now

  -- What turns leave that ended so many connections: their counts stand still at their last value.
  pub record ServesTo (kind : Kind C Data Settings) (may : Data → Type 0) (first : List Data) (since : Moment Data Settings) (t : Traffic C Data) (served : Served) (at : ℕ → Option (Live C)) (len : ℕ) (old now : Moment Data Settings) : Type 0 where
    pub traffic : Traffic C Data
    pub relates : Relates kind may first since traffic at len now
    pub count : ℕ
    pub wanted : ℕ
    pub ends : EndsBy t traffic count wanted old.wire.faults now.wire.faults
    pub connections : served.connections ≡ counted_by count 0
    pub starved : served.starved ≡ counted_by wanted 0

  -- A new connection has a link of its own, and all others are as they were; or the door stalled, or enough are live.
  pub record Welcomes (kind : Kind C Data Settings) (at new : ℕ → Option (Live C)) (accepted : Bool) (len after : ℕ) (a b : WireState) : Type 0 where
    pub key : ℕ
    pub vacant : accepted ≡ true → at key ≡ None
    pub found : accepted ≡ true → (connection : C) × (Opens kind connection × (new key ≡ Some (record { link = a.given; connection = connection })))
    pub others : (k : ℕ) → (k ≢ key) ⊎ (accepted ≡ false) → new k ≡ at k
    pub more : accepted ≡ true → after ≡ len + 1
    pub same : accepted ≡ false → after ≡ len
    pub given : accepted ≡ true → GivesAccepted a.given a b
    pub none : accepted ≡ false → GivesNone a b
    pub waits : b.waits ≡ a.waits
    pub alone : ServesAlone a b
    pub calm : b.door.faults ≡ a.door.faults
    pub door : accepted ≡ false → (MOST_LIVE ≤ len) ⊎ Rose a.door.stalls b.door.stalls
