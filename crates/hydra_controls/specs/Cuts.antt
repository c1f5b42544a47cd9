-- A part of a text that is given in parts: so many bytes behind the first ones.
use Rattle.std.specs.Prelude.{ℕ, ◌≡◌, ◌-◌, ◌||◌, nat_lt, List, ◌++◌, take, drop, length}
use Rattle.hydra_controls.specs.declared.cut.Cut.{Cut}

-- of a list what stands behind those that are passed over, as far as there is room
abbrev pub cut_of : {A : Type 0} → Cut → List A → List A
cut_of cut xs = take cut.room (drop cut.skip xs)

-- the cut of what stands behind so many bytes
abbrev pub cut_behind : Cut → ℕ → Cut
cut_behind cut n = record { skip = cut.skip - n; room = cut.room - (n - cut.skip); more = cut.more || nat_lt cut.room (n - cut.skip) }

-- the cut of a text was appended
pub record Cuts (old new : Cut) (text before after : List ℕ) : Type 0 where
  pub behind : new ≡ cut_behind old (length text)
  pub appended : after ≡ before ++ cut_of old text
