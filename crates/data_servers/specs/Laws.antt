-- The laws of a supply of a file: it stays one of the same file, over calls after calls. For proofs alone.
use Rattle.std.proofs.Common.{ℕ, ◌≡◌, ◌<◌, ◌≤◌, ◌⊎◌, inl, inr, List, Option, refl, subst, ◌∙◌, arith}
use Rattle.std.proofs.lemmas.Bool.{cases_lt}
use Rattle.tpf_base.specs.Addresses.{Address, authority_of}
use Rattle.tpf_base.specs.Outside.{ShelfState}
use Rattle.tpf_base.specs.Rises.{RoseBy-within}
use Rattle.triple_table.specs.declared.choice.Choice.{Choice}
use Rattle.data_files.specs.Data.{Files, IfTold}
use Rattle.data_files.specs.Kept.{AsksOnly}
use Rattle.data_files.specs.KeptLaws.{shelf_none, shelf_both, only_none, only_both}
use Rattle.data_servers.specs.Supplies.{FileView, KeepsFile, FailedReading, IsRefused}

pub keeps_none : (a : FileView) → KeepsFile a a
keeps_none a = record {
  shelf = shelf_none a.shelf;
  asks = only_none a.name a.shelf;
  name = refl;
  choice = refl;
  base = refl;
  later = omega arith;
  failed = λ more. absurd (omega (arith, more));
}

-- a failure within a longer time, of a shelf that tells the same
pub failed_within : (a b c d : ShelfState) (name : List ℕ) (choice : Choice) (authority : List ℕ) → b.told ≡ a.told → a.faults ≤ b.faults → c.faults ≤ d.faults
    → FailedReading b c name choice authority → FailedReading a d name choice authority
failed_within a b c d name choice authority told earlier later (inl rose) = inl (RoseBy-within 1 1 b.faults c.faults a.faults d.faults (omega arith) earlier later rose)
failed_within a b c d name choice authority told earlier later (inr refused) = inr (subst (λ (t : Option Files). IfTold t (λ files. IsRefused files name choice authority)) told refused)

-- a failure of the same file
failed_same : (a b : ShelfState) (name name' : List ℕ) (choice choice' : Choice) (base base' : Address) → name' ≡ name → choice' ≡ choice → base' ≡ base
    → FailedReading a b name' choice' (authority_of base') → FailedReading a b name choice (authority_of base)
failed_same a b name name' choice choice' base base' n c e h =
    let one : ◌≡◌ {A = List ℕ × Choice × Address} (name', choice', base') (name, choice, base) = cc in
    subst (λ (p : List ℕ × Choice × Address). FailedReading a b p.0 p.1 (authority_of p.2)) one h

-- a count rose in the first part, or in the second
rises : (a b c : ℕ) → a < c → (a < b) ⊎ (b < c)
rises a b c more = at (cases_lt a b)
  where
    at : (a < b) ⊎ (b ≤ a) → (a < b) ⊎ (b < c)
    at (inl first) = inl first
    at (inr not_first) = inr (omega (arith, more, not_first))

not_more : (n : ℕ) → n ≤ n
not_more n = omega arith

pub keeps_both : (a b c : FileView) → KeepsFile a b → KeepsFile b c → KeepsFile a c
keeps_both a b c p q = record {
  shelf = shelf_both a.shelf b.shelf c.shelf p.shelf q.shelf;
  asks = only_both a.name a.shelf b.shelf c.shelf p.asks (subst (λ (name : List ℕ). AsksOnly name b.shelf c.shelf) p.name q.asks);
  name = q.name ∙ p.name;
  choice = q.choice ∙ p.choice;
  base = q.base ∙ p.base;
  later = omega (arith, p.later, q.later);
  failed = λ more. failed_either (rises a.faults b.faults c.faults more);
}
  where
    failed_either : (a.faults < b.faults) ⊎ (b.faults < c.faults) → FailedReading a.shelf c.shelf a.name a.choice (authority_of a.base)
    failed_either (inl first) = failed_within a.shelf a.shelf b.shelf c.shelf a.name a.choice (authority_of a.base) refl (not_more a.shelf.faults) q.shelf.later (p.failed first)
    failed_either (inr second) =
        failed_within a.shelf b.shelf c.shelf c.shelf a.name a.choice (authority_of a.base) p.shelf.told p.shelf.later (not_more c.shelf.faults)
        (failed_same b.shelf c.shelf a.name b.name a.choice b.choice a.base b.base p.name p.choice p.base (q.failed second))
