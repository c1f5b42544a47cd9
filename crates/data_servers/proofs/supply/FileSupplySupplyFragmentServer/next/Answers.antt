use Rattle.std.proofs.Common.{◌∙◌, sym, ap, subst, arith}
use Rattle.tpf_base.specs.Addresses.{authority_of}
use Rattle.tpf_base.specs.Outside.{AsksOnce}
use Rattle.data_files.specs.Kept.{KeepsShelf, AsksOnly}
use Rattle.data_files.specs.KeptLaws.{reads_keep, only_once}
use Rattle.data_servers.specs.Supplies.{FailedReading}
use Rattle.data_servers.proofs.Refused.{refused, failed_by, err_same, same_file}
use Rattle.data_servers.proofs.supply.FileSupplySupplyFragmentServer.next.Goals as goal

pub returns-in-Err-clause-failed : goal.returns-in-Err-clause-failed
returns-in-Err-clause-failed g c = λ e.
    let old = c.args.self.now in
    subst (λ shelf. FailedReading (g.F.Shelf.state old.shelf.now) (g.F.Shelf.state shelf) old.name.now old.choice.now (authority_of old.base.now))
    (sym c.refuse.ensures.shelf)
    (refused (g.F.Shelf.state old.shelf.now) (g.F.Shelf.state c.read.new.self.shelf.now) old.name.now old.choice.now (authority_of old.base.now) c.in-Err.fault c.in-Err.ensures.err (sym c.supply_fault-fault.ensures ∙ sym c.refuse.ensures.fault ∙ err_same _ _ e))

pub returns-in-Err-clause-asks : goal.returns-in-Err-clause-asks
returns-in-Err-clause-asks g c =
    let old = c.args.self.now in
    subst (λ shelf. AsksOnce old.name.now (g.F.Shelf.state old.shelf.now) (g.F.Shelf.state shelf)) (sym c.refuse.ensures.shelf) c.read.ensures.reads.asks

pub returns-in-Ok-clause-asks : goal.returns-in-Ok-clause-asks
returns-in-Ok-clause-asks g c = c.read.ensures.reads.asks

pub returns-in-Ok-clause-same : goal.returns-in-Ok-clause-same
returns-in-Ok-clause-same g c = same_file _ _ _ _ _ _ _ _ c.read.ensures.reads.asks.told c.read.ensures.name c.read.ensures.choice c.read.ensures.base

pub returns-in-Err-clause-same : goal.returns-in-Err-clause-same
returns-in-Err-clause-same g c = same_file _ _ _ _ _ _ _ _
    (ap (λ shelf. (g.F.Shelf.state shelf).told) c.refuse.ensures.shelf ∙ c.read.ensures.reads.asks.told)
    (c.refuse.ensures.name ∙ c.read.ensures.name)
    (c.refuse.ensures.choice ∙ c.read.ensures.choice)
    (c.refuse.ensures.base ∙ c.read.ensures.base)

pub returns-in-Ok-clause-keeps : goal.returns-in-Ok-clause-keeps
returns-in-Ok-clause-keeps g c =
    let read = c.read.ensures in (
      record {
        shelf = reads_keep _ _ _ _ read.reads;
        asks = only_once _ _ _ read.reads.asks;
        name = read.name;
        choice = read.choice;
        base = read.base;
        later = omega (arith, read.faults);
        failed = λ more. absurd (omega (arith, read.faults, more));
      },
      read.same_shelf,
    )

pub returns-in-Err-clause-keeps : goal.returns-in-Err-clause-keeps
returns-in-Err-clause-keeps g c =
    let old = c.args.self.now in
    let read = c.read.ensures in
    let refuse = c.refuse.ensures in (
      record {
        shelf = subst (λ shelf. KeepsShelf (g.F.Shelf.state old.shelf.now) (g.F.Shelf.state shelf)) (sym refuse.shelf) (reads_keep _ _ _ _ read.reads);
        asks = subst (λ shelf. AsksOnly old.name.now (g.F.Shelf.state old.shelf.now) (g.F.Shelf.state shelf)) (sym refuse.shelf) (only_once _ _ _ read.reads.asks);
        name = refuse.name ∙ read.name;
        choice = refuse.choice ∙ read.choice;
        base = refuse.base ∙ read.base;
        later = omega (arith, read.faults, refuse.later);
        failed = λ more.
            subst (λ shelf. FailedReading (g.F.Shelf.state old.shelf.now) (g.F.Shelf.state shelf) old.name.now old.choice.now (authority_of old.base.now))
            (sym refuse.shelf)
            (failed_by (g.F.Shelf.state old.shelf.now) (g.F.Shelf.state c.read.new.self.shelf.now) old.name.now old.choice.now (authority_of old.base.now) old.faults _ c.in-Err.fault c.supply_fault-fault.result c.supply_fault-fault.ensures (λ e. refuse.memory e ∙ read.faults) c.in-Err.ensures.err more);
      },
      refuse.same_shelf ∙ read.same_shelf,
    )
