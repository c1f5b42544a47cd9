use Rattle.std.proofs.Common.{◌≡◌, ap, sym, subst, ◌∙◌}
use Rattle.join_core.specs.declared.first.First.TheVariants.{Out, Got}
use Rattle.join_core.specs.Nodes.{NodeData}
use Rattle.join_core.specs.Events.{with_first_at, is_full, IsFirstOf}
use Rattle.join_core.proofs.Marks.{first-place, first-place-again, first-back}
use Rattle.join_core.proofs.node.Node.take_first.Goals as goal

pub set_first-requires : goal.set_first-requires
set_first-requires c = first-place c.args.self.now c.args.ticket c.args.index c.requires

pub take_last-requires-clause-place : goal.take_last-requires-clause-place
take_last-requires-clause-place c = subst (λ (n : NodeData). IsFirstOf c.args.index n) (sym c.set_first.ensures) (first-place-again c.args.self.now c.args.ticket c.args.index (Got c.args.page) c.requires)

pub returns-in-Ok-clause-full : goal.returns-in-Ok-clause-full
returns-in-Ok-clause-full c =
    let back : with_first_at c.args.index (Out c.args.ticket) (with_first_at c.args.index (Got c.args.page) c.args.self.now) ≡ c.args.self.now = first-back c.args.self.now c.args.ticket c.args.index c.args.page c.requires in
    let told : c.is_full.result ≡ is_full (with_first_at c.args.index (Got c.args.page) c.args.self.now) = c.is_full.ensures ∙ ap is_full c.set_first.ensures in
    (sym told ∙ c.if-not-is_full.false, c.take_last.ensures.back ∙ ap (λ (n : NodeData). with_first_at c.args.index (Out c.args.ticket) n) c.set_first.ensures ∙ back)

pub returns-in-Err-clause-failed : goal.returns-in-Err-clause-failed
returns-in-Err-clause-failed c =
    let back : with_first_at c.args.index (Out c.args.ticket) (with_first_at c.args.index (Got c.args.page) c.args.self.now) ≡ c.args.self.now = first-back c.args.self.now c.args.ticket c.args.index c.args.page c.requires in
    c.take_last.ensures.back ∙ ap (λ (n : NodeData). with_first_at c.args.index (Out c.args.ticket) n) c.set_first.ensures ∙ back
