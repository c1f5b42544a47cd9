-- How a turn answers the connections that wait for a reload.
use Rattle.std.specs.Prelude.{ℕ, zero, suc, ◌≡◌, ◌+◌, ◌^◌, ◌<◌, ◌≤◌, List, [], ◌∷◌, length, Option, Some, None, if◌then◌else◌}
use Rattle.tpf_base.specs.Causes.{counted_by}
use Rattle.tpf_base.specs.declared.limits.TheConstants.{HIGHEST_NUMBER}
use Rattle.connections.specs.Kinds.{Kind}
use Rattle.connections.specs.declared.reloaded.Reloaded.{Reloaded}
use Rattle.serve_loop.specs.declared.live.Live.{Live}
use Rattle.serve_loop.specs.Traffic.{Moment}
use Rattle.serve_loop.specs.Steps.{Supplies}

module _ {Data Settings : Type 0} where
  -- The supply was asked once for each of these outcomes, the last one first, and for nothing else. No ask: all is as it was.
  abbrev pub AreAnswered : (Data → Type 0) → List Reloaded → Moment Data Settings → Moment Data Settings → Type 0
  AreAnswered may [] old now = now ≡ old
  AreAnswered may (outcome ∷ outcomes) old now = (mid : Moment Data Settings) × AreAnswered may outcomes old mid × Supplies may outcome mid now

module _ {C Data Settings : Type 0} where
  -- one for a connection that waits for a reload
  abbrev pub waits_for : Kind C Data Settings → Option (Live C) → ℕ
  waits_for kind None = 0
  waits_for kind (Some l) = if kind.wants l.connection then 1 else 0

  -- how many connections wait for a reload, of those whose keys are below this
  abbrev pub waiting : Kind C Data Settings → (ℕ → Option (Live C)) → ℕ → ℕ
  waiting kind at zero = 0
  waiting kind at (suc n) = waiting kind at n + waits_for kind (at n)

  -- of one connection, or none: it was answered if it waited
  pub record AnswersAt (kind : Kind C Data Settings) (may : Data → Type 0) (slot : Option (Live C)) (old now : Moment Data Settings) : Type 0 where
    pub outcomes : List Reloaded
    pub count : length outcomes ≡ waits_for kind slot
    pub answered : AreAnswered may outcomes old now

  -- of the connections whose keys are below this
  pub record AnswersBelow (kind : Kind C Data Settings) (may : Data → Type 0) (at : ℕ → Option (Live C)) (keys : ℕ) (old now : Moment Data Settings) : Type 0 where
    pub outcomes : List Reloaded
    pub count : length outcomes ≡ waiting kind at keys
    pub answered : AreAnswered may outcomes old now

  -- of all: the supply was asked once for each connection that waited for a reload, and for no other
  pub record AnswersAll (kind : Kind C Data Settings) (may : Data → Type 0) (at : ℕ → Option (Live C)) (old now : Moment Data Settings) : Type 0 where
    pub keys : ℕ
    pub above : (key : ℕ) → keys ≤ key → at key ≡ None
    pub outcomes : List Reloaded
    pub count : length outcomes ≡ waiting kind at keys
    pub answered : AreAnswered may outcomes old now
    -- and by its count: as often as connections waited, where there are numbers for as many versions
    pub asked : old.served.version + waiting kind at keys ≤ HIGHEST_NUMBER → old.supply.calls < 2 ^ 64
        → now.supply.calls ≡ counted_by (waiting kind at keys) old.supply.calls
