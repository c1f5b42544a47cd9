-- What the wires and the shelves of the cases tell.
use Rattle.std.specs.Prelude.{ℕ, List, None, false}
use Rattle.tpf_base.specs.Links.{WireState}
use Rattle.tpf_base.specs.Outside.{ShelfState}

-- the wire, whose door was to be opened so often
abbrev pub with_calls : ℕ → WireState → WireState
with_calls calls wire = record wire { door = record wire.door { calls = calls } }

-- a shelf that does not tell what it holds, which was asked for these names
abbrev pub untold_shelf : List (List ℕ) → ℕ → ℕ → ShelfState
untold_shelf names given faults = record { told = None; found = names; given = given; rest = λ k. None; faults = faults; faultless = false }
