-- What a shelf in memory holds.
use Rattle.std.specs.Prelude.{ℕ, Bool, List, Option, Some, length, slice_get, option_and_then}
use Rattle.memory_outside.specs.Files.{file_rest}
use Rattle.tpf_base.specs.Failures.{CallCounts, spares_calls}
use Rattle.tpf_base.specs.Outside.{ShelfState}
use Rattle.memory_outside.specs.declared.mem_shelf.MemShelf.{MemShelf}
use Rattle.memory_outside.specs.declared.mem_shelf.Opened.{Opened}

-- the files of a shelf in memory
abbrev pub shelf_files : MemShelf → List (List ℕ × List ℕ)
shelf_files shelf = shelf.files.items

-- how many numbers it gave
abbrev pub shelf_given : MemShelf → ℕ
shelf_given shelf = length shelf.opened.items

-- what is left under a number
abbrev pub shelf_rest : MemShelf → ℕ → Option (List ℕ)
shelf_rest shelf file = option_and_then (λ opened. file_rest shelf.files.items opened.which opened.at) (slice_get shelf.opened.items file)

-- how many bytes were read
abbrev pub shelf_moved : MemShelf → ℕ
shelf_moved shelf = shelf.moved

-- which of its calls are failed, and how many were made and failed
abbrev pub shelf_counts : MemShelf → CallCounts
shelf_counts shelf = shelf.failures

-- these files, and the numbers given so far, each with the place of its file and of its next byte
abbrev pub shelf_of : List (List ℕ × List ℕ) → List Opened → List (List ℕ) → ℕ → Bool → ShelfState
shelf_of files opened asked faults faultless = record {
  told = Some files;
  found = asked;
  given = length opened;
  rest = λ file. option_and_then (λ place. file_rest files place.which place.at) (slice_get opened file);
  faults = faults;
  faultless = faultless;
}

-- what it tells
abbrev pub shelf_state : MemShelf → ShelfState
shelf_state shelf =
    shelf_of shelf.files.items shelf.opened.items shelf.asked.names shelf.failures.faults (spares_calls shelf.failures.failing)
