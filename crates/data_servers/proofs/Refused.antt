-- Why a supply of a file fails.
use Rattle.std.proofs.Common.{ℕ, ◌≡◌, ◌<◌, inl, inr, List, Option, Result, Err, ◌↔◌, refl, sym, subst, arith}
use Rattle.rdf_terms.specs.declared.term.Triple.{Triple}
use Rattle.tpf_base.specs.Addresses.{Address, authority_of}
use Rattle.tpf_base.specs.Outside.{ShelfState}
use Rattle.tpf_base.specs.declared.fault.Fault.{Fault}
use Rattle.tpf_base.specs.declared.fault.Fault.TheVariants as supply
use Rattle.triple_table.specs.declared.choice.Choice.{Choice}
use Rattle.data_files.specs.declared.fault.DataFault.{DataFault}
use Rattle.data_files.specs.declared.fault.DataFault.TheVariants as faults
use Rattle.data_files.specs.Data.{Files, IsOfFile, too_long, bad, clash, too_many}
use Rattle.data_files.specs.Causes.{DataCause}
use Rattle.data_servers.specs.Supplies.{FailedReading, supply_fault}

pub refused : (old new : ShelfState) (name : List ℕ) (choice : Choice) (authority : List ℕ) (fault : DataFault) → DataCause old new name choice authority fault → supply_fault fault ≡ supply.Failed
    → FailedReading old new name choice authority
refused old new name choice authority faults.TooLong c e = inr (λ files is. (too_long, c files is, tt))
refused old new name choice authority (faults.Bad line why) c e = inr (λ files is. (bad line why, c files is, tt))
refused old new name choice authority (faults.GenidClash label) c e = inr (λ files is. (clash label, c files is, tt))
refused old new name choice authority faults.TooMany c e = inr (λ files is. (too_many, c files is, tt))
refused old new name choice authority faults.File c e = inl c
refused old new name choice authority faults.OutOfMemory c e = cc

pub err_same : {T : Type 0} (a b : Fault) → ◌≡◌ {A = Result T Fault} (Err a) (Err b) → a ≡ b
err_same a b e = cc

-- the same file, as it was before
pub same_file : (told told' : Option Files) (name name' : List ℕ) (choice choice' : Choice) (base base' : Address) → told' ≡ told → name' ≡ name → choice' ≡ choice → base' ≡ base
    → (triples : List Triple) → IsOfFile told' name' choice' (authority_of base') triples ↔ IsOfFile told name choice (authority_of base) triples
same_file told told' name name' choice choice' base base' t n c b = λ triples.
    let one : ◌≡◌ {A = Option Files × List ℕ × Choice × Address} (told', name', choice', base') (told, name, choice, base) = cc in (
      λ h. subst (λ (p : Option Files × List ℕ × Choice × Address). IsOfFile p.0 p.1 p.2 (authority_of p.3) triples) one h,
      λ h. subst (λ (p : Option Files × List ℕ × Choice × Address). IsOfFile p.0 p.1 p.2 (authority_of p.3) triples) (sym one) h,
    )

-- a fault of a read is counted, unless it is want of memory
pub failed_by : (old new : ShelfState) (name : List ℕ) (choice : Choice) (authority : List ℕ) (own own' : ℕ) (fault : DataFault) (is : Fault) → is ≡ supply_fault fault → (is ≡ supply.OutOfMemory → own' ≡ own)
    → DataCause old new name choice authority fault → own < own' → FailedReading old new name choice authority
failed_by old new name choice authority own own' fault supply.Failed e memory cause more = refused old new name choice authority fault cause (sym e)
failed_by old new name choice authority own own' fault supply.OutOfMemory e memory cause more = absurd (omega (arith, memory refl, more))
