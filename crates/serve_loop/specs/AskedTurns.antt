-- How often a service asks its supply: once for each reload request that waits, over all its turns.
use Rattle.std.specs.Prelude.{ℕ, ◌≡◌, ◌+◌, ◌<◌, ◌≤◌, ◌^◌, true, List, [], ◌∷◌, length, Option, Some}
use Rattle.tpf_base.specs.Causes.{counted_by}
use Rattle.tpf_base.specs.Links.{WireState}
use Rattle.tpf_base.specs.Marks.{Mark}
use Rattle.tpf_base.specs.Sending.{Holds}
use Rattle.connections.specs.Kinds.{Kind}
use Rattle.tpf_base.specs.declared.limits.TheConstants.{HIGHEST_NUMBER}
use Rattle.serve_loop.specs.declared.live.Live.{Live}
use Rattle.serve_loop.specs.declared.live.Part.{Part}
use Rattle.serve_loop.specs.Parts.{parted}
use Rattle.serve_loop.specs.Rounds.{Turn}
use Rattle.serve_loop.specs.Traffic.{Moment, moment}
use Rattle.serve_loop.specs.Calls.{IsOwned, TellsSame}
use Rattle.serve_loop.specs.Asks.{AnswersAll, waiting}
use Rattle.serve_loop.specs.Service.{PassesBetween, TakesTurn}

module _ {C Data Settings : Type 0} where
  -- The link of a live connection is open and was given since, and the connection answers all that came and went on it.
  pub record AnswersLink (kind : Kind C Data Settings) (config : Settings) (since : ℕ) (l : Live C) (wire : WireState) : Type 0 where
    pub later : since ≤ l.link
    pub given : l.link < wire.given
    pub is_open : (wire.links l.link).is_open ≡ true
    pub history : List Data
    pub some : 1 ≤ length history
    pub fed : List ℕ
    pub taken : List ℕ
    pub marks : List Mark
    pub answers : kind.Answers history config fed taken marks l.connection
    pub sent_is : Holds (wire.links l.link).sent taken
    pub received_is : Holds (wire.links l.link).received fed

  -- The live connections of a service: of each open link that was given since there is one.
  pub record AreLive (kind : Kind C Data Settings) (config : Settings) (since : ℕ) (at : ℕ → Option (Live C)) (wire : WireState) : Type 0 where
    pub answers : (key : ℕ) (l : Live C) → at key ≡ Some l → AnswersLink kind config since l wire
    pub owned : (k : ℕ) → since ≤ k → k < wire.given → (wire.links k).is_open ≡ true → IsOwned at k
    pub alone : (i j : ℕ) (a b : Live C) → at i ≡ Some a → at j ≡ Some b → a.link ≡ b.link → i ≡ j

  -- A turn asked the supply once for each live connection of its part that waited for a reload, and for nothing else: so many waited. Of the server and the supply alone; the wire is one that stays.
  pub record AsksTurn (kind : Kind C Data Settings) (may : Data → Type 0) (config : Settings) (since : ℕ) (part : Part) (waited : ℕ) (same : WireState) (old now : Moment Data Settings) : Type 0 where
    pub at : ℕ → Option (Live C)
    pub lives : AreLive kind config since at old.wire
    pub answers : AnswersAll kind may (parted part at) (moment old.served old.supply same) (moment now.served now.supply same)
    pub waited_is : waited ≡ waiting kind (parted part at) answers.keys

  -- These turns, the last one first, each with links that were given, a wait or nothing behind it; in all of them so many connections waited for a reload.
  abbrev pub AskedTurns : Kind C Data Settings → (Data → Type 0) → Settings → ℕ → List Turn → ℕ → Moment Data Settings → Moment Data Settings → Type 0
  AskedTurns kind may config since [] waited old now = (waited ≡ 0) × (now ≡ old)
  AskedTurns kind may config since (turn ∷ turns) waited old now =
      (before : Moment Data Settings) × (after : WireState) × (earlier : ℕ) × (more : ℕ) × AskedTurns kind may config since turns earlier old before
      × TakesTurn kind config since turns turn before.wire after × AsksTurn kind may config since turn.part more old.wire before now × PassesBetween after now.wire × (waited ≡ earlier + more)

  -- A service asked its supply once for each reload request that waited in one of its turns, and for nothing else; behind the last of these turns no byte moved and no link was given.
  pub record AsksOnce (kind : Kind C Data Settings) (may : Data → Type 0) (old now : Moment Data Settings) : Type 0 where
    pub turns : List Turn
    pub waited : ℕ
    pub last : Moment Data Settings
    pub took : AskedTurns kind may old.served.config old.wire.given turns waited old last
    pub told : (k : ℕ) → TellsSame (last.wire.links k) (now.wire.links k)
    pub given : now.wire.given ≡ last.wire.given
    pub served : now.served ≡ last.served
    pub supply : now.supply ≡ last.supply
    -- and by its count: as often as connections waited, where there are numbers for as many versions
    pub asked : old.served.version + waited ≤ HIGHEST_NUMBER → old.supply.calls < 2 ^ 64 → now.supply.calls ≡ counted_by waited old.supply.calls
