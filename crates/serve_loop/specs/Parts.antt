-- The parts of the live connections that turns step.
use Rattle.std.specs.Prelude.{ℕ, ◌≡◌, ◌+◌, ◌<◌, ◌≤◌, ◌&&◌, ◌||◌, nat_le, Bool, Option, Some, None, if◌then◌else◌}
use Rattle.serve_loop.specs.declared.live.Live.{Live}
use Rattle.serve_loop.specs.declared.live.Part.{Part}

-- the link is one of the part: of its row, or one of the newest
abbrev pub is_in : Part → ℕ → Bool
is_in part link = (nat_le part.first link && nat_le link part.last) || nat_le part.newest link

module _ {C : Type 0} where
  -- a connection where its link is one of the part
  abbrev pub among : Part → Option (Live C) → Option (Live C)
  among part None = None
  among part (Some live) = if is_in part live.link then Some live else None

  -- the connections of the part
  abbrev pub parted : Part → (ℕ → Option (Live C)) → ℕ → Option (Live C)
  parted part at = λ key. among part (at key)

  -- The links of the row that are live have numbers that lie at most so far apart.
  pub record IsNarrow (part : Part) (spread : ℕ) (at : ℕ → Option (Live C)) : Type 0 where
    pub low : ℕ
    pub within : (key : ℕ) (l : Live C) → at key ≡ Some l → part.first ≤ l.link → l.link ≤ part.last → (low ≤ l.link) × (l.link ≤ low + spread)

  -- No connection has a link with this number or a later one (but for the last number of all), and no lower number is such a one.
  pub record IsBeyond (at : ℕ → Option (Live C)) (number : ℕ) : Type 0 where
    pub all : (key : ℕ) (l : Live C) → at key ≡ Some l → l.link ≤ number
    pub less : (key : ℕ) (l : Live C) → at key ≡ Some l → l.link < 18446744073709551615 → l.link < number
    pub within : (n : ℕ) → ((key : ℕ) (l : Live C) → at key ≡ Some l → l.link < n) → number ≤ n
