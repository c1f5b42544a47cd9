-- How a service goes round its links: in each turn it steps the next part of them, and those that were given since the turn before the last one began.
use Rattle.std.specs.Prelude.{ℕ, ◌≡◌, ◌+◌, ◌<◌, ◌≤◌, ◌==◌, ◌&&◌, not, Bool, true, false, List, [], ◌∷◌, if◌then◌else◌}
use Rattle.tpf_base.specs.Links.{WireState}
use Rattle.serve_loop.specs.declared.live.Part.{Part}
use Rattle.serve_loop.specs.declared.live.TheConstants.{SPREAD}
use Rattle.serve_loop.specs.declared.live.Turned.{Turned}
use Rattle.serve_loop.specs.declared.round.Round.{Round}

-- A turn of a service: the part that it stepped, how many links had been given when it began, and what it did.
pub record Turn : Type 0 where
  pub part : Part
  pub given : ℕ
  pub turned : Turned

-- it moved and ended nothing
abbrev pub is_still : Turned → Bool
is_still turned = not turned.moved && (turned.ended == 0)

-- a part with which a round ends: no link has a later number
abbrev pub is_last : Part → Bool
is_last part = part.last == 18446744073709551615

-- ---- turns, the last one first

-- where the next part begins: behind the last one, or a new round
abbrev pub next_behind : List Turn → ℕ
next_behind [] = 0
next_behind (turn ∷ turns) = if is_last turn.part then 0 else turn.part.last + 1

-- no turn of the round that goes on moved or ended anything
abbrev pub quiet_behind : List Turn → Bool
quiet_behind [] = true
quiet_behind (turn ∷ turns) = if is_last turn.part then true else (quiet_behind turns && is_still turn.turned)

-- a round ended with the last turn, and no turn of it moved or ended anything
abbrev pub rests_behind : List Turn → Bool
rests_behind [] = false
rests_behind (turn ∷ turns) = is_last turn.part && (quiet_behind turns && is_still turn.turned)

-- how many links had been given when the last turn began, where it is told how many at the start
abbrev pub begun_with : ℕ → List Turn → ℕ
begun_with since [] = since
begun_with since (turn ∷ turns) = turn.given

-- and when the one before it began
abbrev pub begun_before : ℕ → List Turn → ℕ
begun_before since [] = since
begun_before since (turn ∷ turns) = begun_with since turns

-- how far apart the numbers of the links of the next row lie at most: twice as far behind a turn that moved and ended nothing
abbrev pub spread_behind : List Turn → ℕ
spread_behind [] = SPREAD
spread_behind (turn ∷ turns) = if is_still turn.turned then spread_behind turns + spread_behind turns else SPREAD

-- The part of the next turn: its row begins where that of the last turn ended; those of its links that are open lie close to one another, and the row is long enough that the round ends; beside it stand the links that were given since the turn before the last one began, and no other ones that are open.
pub record IsNext (since : ℕ) (turns : List Turn) (part : Part) (wire : WireState) : Type 0 where
  pub first : part.first ≡ next_behind turns
  pub low : ℕ
  pub narrow : (k : ℕ) → since ≤ k → k < wire.given → (wire.links k).is_open ≡ true → part.first ≤ k → k ≤ part.last → (low ≤ k) × (k ≤ low + spread_behind turns)
  pub wide : part.last < 18446744073709551615 → part.first + SPREAD ≤ part.last
  pub newest : part.newest ≤ begun_before since turns
  pub alone : (k : ℕ) → since ≤ k → k < wire.given → k < 18446744073709551615 → (wire.links k).is_open ≡ true → part.newest ≤ k → begun_before since turns ≤ k

-- ---- what the service keeps of that

-- How a round stands behind a turn of this part, before which the newest links had numbers below this one.
pub record IsAfter (round : Round) (part : Part) (turned : Turned) (beyond : ℕ) (new : Round) : Type 0 where
  pub next : new.next ≡ (if is_last part then 0 else part.last + 1)
  pub quiet : new.quiet ≡ (if is_last part then true else (round.quiet && is_still turned))
  pub begun : new.begun ≡ beyond
  pub newest : new.newest ≡ round.begun
  pub most : new.spread ≤ (if is_still turned then round.spread + round.spread else SPREAD)
  pub least : SPREAD ≤ round.spread → SPREAD ≤ new.spread
