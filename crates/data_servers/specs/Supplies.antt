-- What a file that is read again gives.
use Rattle.std.specs.Prelude.{ℕ, ◌≡◌, ◌<◌, ◌≤◌, ◌⊎◌, List, Option, None}
use Rattle.tpf_base.specs.Addresses.{Address, authority_of}
use Rattle.tpf_base.specs.Causes.{Rose}
use Rattle.tpf_base.specs.Outside.{ShelfState}
use Rattle.rdf_terms.specs.declared.term.Triple.{Triple}
use Rattle.triple_table.specs.declared.choice.Choice.{Choice}
use Rattle.tpf_base.specs.declared.fault.Fault.{Fault}
use Rattle.tpf_base.specs.declared.fault.Fault.TheVariants as supply
use Rattle.data_files.specs.declared.fault.DataFault.{DataFault}
use Rattle.data_files.specs.declared.fault.DataFault.TheVariants as faults
use Rattle.data_files.specs.Data.{Files, IfTold, Outcome, IsOutcome, served, too_long, bad, clash, too_many}
use Rattle.data_files.specs.Kept.{KeepsShelf, AsksOnly}

abbrev pub IsFault : Outcome → Type 0
IsFault (served triples) = ⊥
IsFault too_long = Unit {0}
IsFault (bad line why) = Unit {0}
IsFault (clash label) = Unit {0}
IsFault too_many = Unit {0}

-- the file holds bytes of which nothing is served
abbrev pub IsRefused : Files → List ℕ → Choice → List ℕ → Type 0
IsRefused files name choice authority = (outcome : Outcome) × IsOutcome files name choice authority outcome × IsFault outcome

-- a fault of the data as that of a supply
abbrev pub supply_fault : DataFault → Fault
supply_fault faults.TooLong = supply.Failed
supply_fault (faults.Bad line why) = supply.Failed
supply_fault (faults.GenidClash label) = supply.Failed
supply_fault faults.TooMany = supply.Failed
supply_fault faults.File = supply.Failed
supply_fault faults.OutOfMemory = supply.OutOfMemory

-- a supply of a file does not tell which data sets it has left
abbrev pub untold : Option (List (List Triple))
untold = None

-- why a read of the file failed, by the shelf before and after: that failed, or, where it tells the file, the file holds no data that are served
abbrev pub FailedReading : ShelfState → ShelfState → List ℕ → Choice → List ℕ → Type 0
FailedReading old new name choice authority = Rose old.faults new.faults ⊎ IfTold old.told (λ files. IsRefused files name choice authority)

-- what is seen of a supply of a file: its shelf, which graphs of which file it gives, under which base, and how often it failed
pub record FileView : Type 0 where
  pub shelf : ShelfState
  pub name : List ℕ
  pub choice : Choice
  pub base : Address
  pub faults : ℕ

abbrev pub file_view : ShelfState → List ℕ → Choice → Address → ℕ → FileView
file_view shelf name choice base faults = record { shelf = shelf; name = name; choice = choice; base = base; faults = faults }

-- A supply gives the same graphs of the same file, from a shelf that tells the same and was asked for no other, and no count fell. Where its own rose, a read of the file had failed.
pub record KeepsFile (old new : FileView) : Type 0 where
  pub shelf : KeepsShelf old.shelf new.shelf
  pub asks : AsksOnly old.name old.shelf new.shelf
  pub name : new.name ≡ old.name
  pub choice : new.choice ≡ old.choice
  pub base : new.base ≡ old.base
  pub later : old.faults ≤ new.faults
  pub failed : old.faults < new.faults → FailedReading old.shelf new.shelf old.name old.choice (authority_of old.base)
