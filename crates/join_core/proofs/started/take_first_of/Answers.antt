-- The node of the number takes the page.
use Rattle.std.proofs.Common.{◌≡◌, true, sym, subst, ◌∙◌, Some}
use Rattle.join_core.specs.declared.first.First.TheVariants.{Got}
use Rattle.join_core.specs.Nodes.{NodeData}
use Rattle.join_core.specs.Events.{with_first_at, is_full, waits_for}
use Rattle.join_core.proofs.Kept.{same-value, one-value}
use Rattle.list_laws.proofs.Options.{none_not_some}
use Rattle.join_core.specs.declared.node.Waits.TheVariants.{First as ForFirst}
use Rattle.join_core.proofs.started.take_first_of.Goals as goal

pub take_first-requires : goal.take_first-requires
take_first-requires c = subst (λ (x : NodeData). waits_for c.args.ticket x ≡ Some (ForFirst c.args.index)) (sym (one-value _ _ _ c.in-Some.ensures.value c.requires.1)) c.requires.2

pub unreachable-requires : goal.unreachable-requires
unreachable-requires c = none_not_some (c.in-None.ensures.value ∙ c.requires.1)

pub returns-in-Ok-Some-clause-full : goal.returns-in-Ok-Some-clause-full
returns-in-Ok-Some-clause-full c = λ n e.
    let at : c.in-Some.node.now ≡ n = one-value _ _ _ c.in-Some.ensures.value e in
    let full = rw c.in-Ok-Some.field-0-is at c.in-Ok-Some.ensures.full in (
      subst (λ (x : NodeData). is_full (with_first_at c.args.index (Got c.args.page) x) ≡ true) at full.0,
      (c.get_mut.follows.holds c.take_first.new.self).0 ∙ same-value c.args.key c.args.started.now.entries c.in-Some.node.now c.take_first.new.self (sym c.in-Some.ensures.value) full.1,
    )

pub returns-in-Ok-Some-clause-idle : goal.returns-in-Ok-Some-clause-idle
returns-in-Ok-Some-clause-idle c = rw c.in-Ok-Some.field-0-is at c.in-Ok-Some.ensures.idle

pub returns-in-Err-clause-failed : goal.returns-in-Err-clause-failed
returns-in-Err-clause-failed c = (c.get_mut.follows.holds c.take_first.new.self).0 ∙ same-value c.args.key c.args.started.now.entries c.in-Some.node.now c.take_first.new.self (sym c.in-Some.ensures.value) c.in-Err.ensures.failed
