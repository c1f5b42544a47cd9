-- How a loop's connections, its server, its supply and its wire stand to the traffic since some moment.
use Rattle.std.specs.Prelude.{ℕ, ◌≡◌, ◌≢◌, ◌⊎◌, ◌+◌, ◌<◌, ◌≤◌, true, false, List, [], ◌∷◌, ◌++◌, length, take, Option, Some, None}
use Rattle.std.specs.List.{AllByRecursion}
use Rattle.tpf_base.specs.Marks.{Mark, Served, Failed, Starved, version_at}
use Rattle.tpf_base.specs.Causes.{Rose, RoseBy}
use Rattle.tpf_base.specs.Links.{WireState}
use Rattle.tpf_base.specs.Sending.{Holds}
use Rattle.tpf_base.specs.declared.limits.TheConstants.{HIGHEST_NUMBER}
use Rattle.connections.specs.Versions.{IsHistory}
use Rattle.connections.specs.Kinds.{Kind}
use Rattle.serve_loop.specs.declared.live.Live.{Live}
use Rattle.serve_loop.specs.Calls.{IsOwned, IsUntouched}
use Rattle.serve_loop.specs.Traffic.{Talk, Given, Traffic, Moment, ended, took, with_given}

-- ---- without history: what a turn needs to be allowed to call

-- each connection has an open link of its own that was given, and the server can make what it owes
pub record SuitsWire {Server C : Type 0} (Suits : Server → C → Type 0) (server : Server) (at : ℕ → Option (Live C)) (wire : WireState) : Type 0 where
  pub is_open : (key : ℕ) (l : Live C) → at key ≡ Some l → (wire.links l.link).is_open ≡ true
  pub given : (key : ℕ) (l : Live C) → at key ≡ Some l → l.link < wire.given
  pub suits : (key : ℕ) (l : Live C) → at key ≡ Some l → Suits server l.connection
  pub distinct : (i j : ℕ) (a b : Live C) → at i ≡ Some a → at j ≡ Some b → a.link ≡ b.link → i ≡ j

-- ---- with history

-- a mark of a failure has a cause
abbrev pub IsExcused : ℕ → ℕ → Mark → Type 0
IsExcused before now (Served version) = Unit {0}
IsExcused before now (Failed version) = Rose before now ⊎ (version ≡ HIGHEST_NUMBER)
IsExcused before now (Starved version) = Unit {0}

-- the number of a version that a reload on this link made since
pub record IsNumber (owner : ℕ → ℕ) (k before now number : ℕ) : Type 0 where
  pub mine : owner number ≡ k
  pub above : before < number
  pub within : number ≤ now

-- each number is below those behind it
abbrev pub IsRising : List ℕ → Type 0
IsRising [] = Unit {0}
IsRising (n ∷ ns) = AllByRecursion (λ m. n < m) ns × IsRising ns

-- no two are the same
abbrev pub AreDistinct : List ℕ → Type 0
AreDistinct [] = Unit {0}
AreDistinct (n ∷ ns) = AllByRecursion (λ m. m ≢ n) ns × AreDistinct ns

-- a link that was given since and is closed
pub record IsGone (since wire : WireState) (k : ℕ) : Type 0 where
  pub later : since.given ≤ k
  pub given : k < wire.given
  pub closed : (wire.links k).is_open ≡ false

module _ {Data Settings : Type 0} where
  -- the data sets since: those before, and then those that the supply gave and the server took
  pub record Versions (may : Data → Type 0) (first : List Data) (since : Moment Data Settings) (history : List Data) (given : List (Given Data)) (now : Moment Data Settings) : Type 0 where
    pub history_is : history ≡ first ++ took given
    pub serves : IsHistory history now.served
    pub config : now.served.config ≡ since.served.config
    pub count : now.served.version ≡ since.served.version + length (took given)
    pub left : since.supply.left ≡ with_given given now.supply.left
    pub may_be : AllByRecursion may (took given)
    pub faults : since.supply.faults ≤ now.supply.faults

module _ {C Data Settings : Type 0} where
  -- The connection answers what came and went, and the link holds that.
  pub record IsTalk (kind : Kind C Data Settings) (since : Moment Data Settings) (history : List Data) (owner : ℕ → ℕ) (now : Moment Data Settings) (k : ℕ) (talk : Talk C) : Type 0 where
    pub answers : kind.Answers history now.served.config talk.fed talk.taken talk.marks talk.connection
    pub within : talk.over ≤ length (kind.pending talk.connection)
    pub sent_is : Holds (now.wire.links k).sent (talk.taken ++ take talk.over (kind.pending talk.connection))
    pub received_is : Holds (now.wire.links k).received (talk.fed ++ talk.unfed)
    pub excused : AllByRecursion (IsExcused since.supply.faults now.supply.faults) talk.marks
    pub level : AllByRecursion (λ mark. since.served.version ≤ version_at mark) talk.marks
    pub numbers : AllByRecursion (IsNumber owner k since.served.version now.served.version) (kind.reloads now.served.config talk.fed talk.marks)
    pub rising : IsRising (kind.reloads now.served.config talk.fed talk.marks)

  -- a live connection is that of its link's talk
  pub record IsLive (since : Moment Data Settings) (talks : ℕ → Option (Talk C)) (wire : WireState) (l : Live C) : Type 0 where
    pub later : since.wire.given ≤ l.link
    pub given : l.link < wire.given
    pub is_open : (wire.links l.link).is_open ≡ true
    pub talk : Talk C
    pub talk_is : talks l.link ≡ Some talk
    pub connection : talk.connection ≡ l.connection
    pub over : talk.over ≡ 0
    pub unfed : talk.unfed ≡ []

  -- The link was closed because all was sent, and the connection closes or the link has ended.
  pub record IsOrdered (kind : Kind C Data Settings) (since : Moment Data Settings) (talks : ℕ → Option (Talk C)) (wire : WireState) (k : ℕ) : Type 0 where
    pub later : since.wire.given ≤ k
    pub given : k < wire.given
    pub closed : (wire.links k).is_open ≡ false
    pub talk : Talk C
    pub talk_is : talks k ≡ Some talk
    pub over : talk.over ≡ 0
    pub unfed : talk.unfed ≡ []
    pub pending : kind.pending talk.connection ≡ []
    pub owes : kind.owes talk.connection ≡ false
    pub wants : kind.wants talk.connection ≡ false
    pub end_ : (kind.closing talk.connection ≡ true) ⊎ Holds (wire.links k).ended true

  -- how the connections that ended stand: each link once, and the faults of the wire rose at least once for each that ended with its link
  pub record Ends (kind : Kind C Data Settings) (since : Moment Data Settings) (t : Traffic C Data) (wire : WireState) : Type 0 where
    pub ordered : AllByRecursion (IsOrdered kind since t.talks wire) t.ordered
    pub broken : AllByRecursion (IsGone since.wire wire) t.broken
    pub starved : AllByRecursion (IsGone since.wire wire) t.starved
    pub ordered_once : AreDistinct t.ordered
    pub broken_once : AreDistinct t.broken
    pub starved_once : AreDistinct t.starved
    pub faults : RoseBy (length t.broken) since.wire.faults wire.faults

  -- of the link there is a talk
  pub record Talks (kind : Kind C Data Settings) (since : Moment Data Settings) (t : Traffic C Data) (now : Moment Data Settings) (k : ℕ) : Type 0 where
    pub talk : Talk C
    pub talk_is : t.talks k ≡ Some talk
    pub is : IsTalk kind since t.history t.owner now k talk

  -- How the traffic, the connections and the wire stand to one another.
  pub record Relates (kind : Kind C Data Settings) (may : Data → Type 0) (first : List Data) (since : Moment Data Settings) (t : Traffic C Data) (at : ℕ → Option (Live C)) (len : ℕ) (now : Moment Data Settings) : Type 0 where
    pub versions : Versions may first since t.history t.given now
    pub lives : (key : ℕ) (l : Live C) → at key ≡ Some l → IsLive since t.talks now.wire l
    pub alone : (i j : ℕ) (a b : Live C) → at i ≡ Some a → at j ≡ Some b → a.link ≡ b.link → i ≡ j
    -- of each link given since, also of those that are closed
    pub talks : (k : ℕ) → since.wire.given ≤ k → k < now.wire.given → Talks kind since t now k
    -- of a link not given yet there is none
    pub unseen : (k : ℕ) → now.wire.given ≤ k → t.talks k ≡ None
    -- a link given since that is open has one live connection
    pub owned : (k : ℕ) → since.wire.given ≤ k → k < now.wire.given → (now.wire.links k).is_open ≡ true → IsOwned at k
    -- the links of others are as they were, but that a wait may have answered one
    pub older : (k : ℕ) → k < since.wire.given → IsUntouched (since.wire.links k) (now.wire.links k)
    -- each link given since ended, was closed with the loop, or is live
    pub count : now.wire.given ≡ since.wire.given + (ended t + t.left + len)
    pub ends : Ends kind since t now.wire
