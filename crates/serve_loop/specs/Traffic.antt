-- What happened on the links of a loop since some moment. Values of contracts alone: no program keeps them.
use Rattle.std.specs.Prelude.{ℕ, ◌==◌, ◌+◌, Bool, List, [], ◌∷◌, length, Option, None, if◌then◌else◌}
use Rattle.tpf_base.specs.Links.{WireState}
use Rattle.tpf_base.specs.Marks.{Mark}
use Rattle.slab.specs.Slab.{Slab, get, slab_len}
use Rattle.serve_loop.specs.declared.live.Live.{Live}
use Rattle.connections.specs.Versions.{Serving, SupplyState, with_first}

-- What came and went on one link.
pub record Talk (C : Type 0) : Type 0 where
  -- the bytes that the connection was fed, and those that were received and not fed, for want of memory
  pub fed : List ℕ
  pub unfed : List ℕ
  -- the bytes that were taken from it, and how many of those pending a send sent that failed
  pub taken : List ℕ
  pub over : ℕ
  -- one mark for each head that was read
  pub marks : List Mark
  -- the connection, or how it was last, where the link is closed
  pub connection : C

-- the live connections by their keys, and how many they are
pub record Lives (C : Type 0) : Type 0 where
  pub found : ℕ → Option (Live C)
  pub count : ℕ

abbrev pub kept : {C : Type 0} → Slab (Live C) → Lives C
kept slab = record { found = get slab; count = slab_len slab }

-- a data set that the supply gave, and whether the server took it
pub record Given (Data : Type 0) : Type 0 where
  pub data_set : Data
  pub took : Bool

pub record Traffic (C Data : Type 0) : Type 0 where
  -- the data sets so far: the v-th is version v
  pub history : List Data
  pub given : List (Given Data)
  -- of each link given since
  pub talks : ℕ → Option (Talk C)
  -- the link on which the reload of a version was asked for
  pub owner : ℕ → ℕ
  -- the links that were closed in order, because the link failed, and for want of memory
  pub ordered : List ℕ
  pub broken : List ℕ
  pub starved : List ℕ
  -- how many were closed because the loop ended
  pub left : ℕ

module _ {Data : Type 0} where
  -- the data sets that the server took, in order
  abbrev pub took : List (Given Data) → List Data
  took [] = []
  took (g ∷ gs) = if g.took then g.data_set ∷ took gs else took gs

  -- these were given, and so many are left, where they are told
  abbrev pub with_given : List (Given Data) → Option (List Data) → Option (List Data)
  with_given [] left = left
  with_given (g ∷ gs) left = with_first g.data_set (with_given gs left)

-- how all stands at a moment: the server, the supply, the wire
pub record Moment (Data Settings : Type 0) : Type 0 where
  pub served : Serving Data Settings
  pub supply : SupplyState Data
  pub wire : WireState

abbrev pub moment : {Data Settings : Type 0} → Serving Data Settings → SupplyState Data → WireState → Moment Data Settings
moment served supply wire = record { served = served; supply = supply; wire = wire }

-- a function with another value at one place
abbrev pub updated : {T : Type 0} → (ℕ → T) → ℕ → T → ℕ → T
updated f place value k = if k == place then value else f k

-- how many connections ended
abbrev pub ended : {C Data : Type 0} → Traffic C Data → ℕ
ended t = length t.ordered + length t.broken + length t.starved

-- before a link was given, there is no traffic
abbrev pub no_traffic : {C Data : Type 0} → List Data → Traffic C Data
no_traffic first = record { history = first; given = []; talks = λ k. None; owner = λ n. 0; ordered = []; broken = []; starved = []; left = 0 }
