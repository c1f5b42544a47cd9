-- What a shelf tells of its files, and what a call does to them.
use Rattle.std.specs.Prelude.{ℕ, ◌≡◌, ◌≢◌, ◌+◌, ◌^◌, ◌<◌, ◌≤◌, Bool, true, List, [], ◌∷◌, ◌++◌, length, take, Option, Some, None, if◌then◌else◌, Result, IfOk, OnErr}
use Rattle.std.specs.Str.{bytes_eq}
use Rattle.tpf_base.specs.Causes.{HasCause, DoesNotFail}
use Rattle.tpf_base.specs.declared.fault.Fault.{Fault}

-- the bytes under a name, the first where a name stands twice
abbrev pub content_of : List (List ℕ × List ℕ) → List ℕ → Option (List ℕ)
content_of [] name = None
content_of (file ∷ files) name = if bytes_eq file.0 name then Some file.1 else content_of files name

-- A shelf of files, whose numbers are given one after another, from 0.
pub record ShelfState : Type 0 where
  -- the contents by name, where it tells
  pub told : Option (List (List ℕ × List ℕ))
  -- the names that were asked for, one for each find, the first one first
  pub found : List (List ℕ)
  -- how many numbers were given: those below it
  pub given : ℕ
  -- the bytes that are left under a number, where it tells
  pub rest : ℕ → Option (List ℕ)
  -- how often it failed
  pub faults : ℕ
  -- it finds each name that it holds and each of its reads succeeds, but for the number of files and for memory
  pub faultless : Bool

-- What a find did: it gave the next number. Of a shelf that tells: the name is held, and the number stands at the front of its contents.
pub record Finds (name : List ℕ) (old new : ShelfState) (file : ℕ) : Type 0 where
  pub number : file ≡ old.given
  pub more : new.given ≡ old.given + 1
  pub front : (files : List (List ℕ × List ℕ)) → old.told ≡ Some files
      → (bytes : List ℕ) × (content_of files name ≡ Some bytes) × (new.rest file ≡ Some bytes)
  pub others : (k : ℕ) → k < old.given → new.rest k ≡ old.rest k

-- What a call left that gave nothing.
pub record Leaves (old new : ShelfState) : Type 0 where
  pub count : new.given ≡ old.given
  pub rest : (k : ℕ) → k < old.given → new.rest k ≡ old.rest k

-- What a read did: the next bytes, and none only at the end.
pub record Reads (file n : ℕ) (to : List ℕ) (old new : ShelfState) : Type 0 where
  pub within : n ≤ length to
  pub bytes : (rest : List ℕ) → old.rest file ≡ Some rest
      → (after : List ℕ) × (new.rest file ≡ Some after) × (rest ≡ take n to ++ after) × (n ≡ 0 → rest ≡ [])
  pub others : (k : ℕ) → k ≢ file → new.rest k ≡ old.rest k

-- At most one more number was given, and what is left under those given before is as it was.
pub record LeavesOpened (old new : ShelfState) : Type 0 where
  pub later : old.given ≤ new.given
  pub few : new.given ≤ old.given + 1
  pub rest : (k : ℕ) → k < old.given → new.rest k ≡ old.rest k

-- The shelf tells that it holds the name.
abbrev pub HoldsName : Option (List (List ℕ × List ℕ)) → List ℕ → Type 0
HoldsName told name =
    (files : List (List ℕ × List ℕ)) × (bytes : List ℕ) × (told ≡ Some files) × (content_of files name ≡ Some bytes)

-- What a call of find did and left. After an error no number was given.
pub record FindsFile (name : List ℕ) (old new : ShelfState) (result : Result ℕ Fault) : Type 0 where
  pub found : new.found ≡ old.found ++ name ∷ []
  pub ok : IfOk result (Finds name old new)
  pub err : OnErr result (Leaves old new)
  pub told : new.told ≡ old.told
  pub cause : HasCause old.faults new.faults result
  pub faultless : new.faultless ≡ old.faultless
  -- where it is faultless, holds the name and has a number left, it does not fail
  pub holds : old.faultless ≡ true → HoldsName old.told name → old.given < 2 ^ 32 → DoesNotFail old.faults new.faults result

-- What a call of read did and left. After an error the same bytes are still to be read.
pub record ReadsFile (file : ℕ) (to : List ℕ) (old new : ShelfState) (result : Result ℕ Fault) : Type 0 where
  pub found : new.found ≡ old.found
  pub ok : IfOk result (λ n. Reads file n to old new)
  pub err : OnErr result (Leaves old new)
  pub given : new.given ≡ old.given
  pub told : new.told ≡ old.told
  pub cause : HasCause old.faults new.faults result
  pub faultless : new.faultless ≡ old.faultless
  pub spared : old.faultless ≡ true → DoesNotFail old.faults new.faults result

-- What reads of one file left: nothing was asked for or given, and what is left of each other file is as it was.
pub record LeavesOther (file : ℕ) (old new : ShelfState) : Type 0 where
  pub found : new.found ≡ old.found
  pub told : new.told ≡ old.told
  pub given : new.given ≡ old.given
  pub others : (k : ℕ) → k < old.given → k ≢ file → new.rest k ≡ old.rest k
  pub faultless : new.faultless ≡ old.faultless

-- What reading one file whole left: its name was asked for, once, and nothing else was.
pub record AsksOnce (name : List ℕ) (old new : ShelfState) : Type 0 where
  pub found : new.found ≡ old.found ++ name ∷ []
  pub told : new.told ≡ old.told
  pub opened : LeavesOpened old new
  pub faultless : new.faultless ≡ old.faultless
