-- What a command keeps of a shelf and of an output, however it ends.
use Rattle.std.specs.Prelude.{ℕ, ◌≡◌, ◌<◌, ◌≤◌, ◌^◌, ◌++◌, List, replicate, true}
use Rattle.tpf_base.specs.Outside.{ShelfState, HoldsName, AsksOnce}
use Rattle.tpf_base.specs.Wrote.{SinkState}

-- the shelf tells what it told, and is as faultless as before; its count of faults did not fall
pub record KeepsShelf (old new : ShelfState) : Type 0 where
  pub told : new.told ≡ old.told
  pub later : old.faults ≤ new.faults
  pub faultless : new.faultless ≡ old.faultless

-- The file with this name was asked for, once, and no other was. The shelf's count of faults stands unless the file could not be read, which never comes over a faultless shelf that holds the name and has a number left.
pub record ReadsNamed (name : List ℕ) (old new : ShelfState) (Fails : Type 0) : Type 0 where
  pub asks : AsksOnce name old new
  pub later : old.faults ≤ new.faults
  pub calm : ¬ Fails → new.faults ≡ old.faults
  pub spared : old.faultless ≡ true → HoldsName old.told name → old.given < 2 ^ 32 → ¬ Fails

-- no other file than this one was asked for
abbrev pub AsksOnly : List ℕ → ShelfState → ShelfState → Type 0
AsksOnly name old new = (n : ℕ) × (new.found ≡ old.found ++ replicate n name)

-- the output is as faultless as before, and does not fail then; its count of faults did not fall
pub record KeepsSink (old new : SinkState) : Type 0 where
  pub later : old.faults ≤ new.faults
  pub faultless : new.faultless ≡ old.faultless
  pub spared : old.faultless ≡ true → new.faults ≡ old.faults
