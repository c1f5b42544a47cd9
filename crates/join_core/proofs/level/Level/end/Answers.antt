use Rattle.std.proofs.Common.{ap, sym, subst, ◌∙◌}
use Rattle.std.specs.List.{remove}
use Rattle.join_core.specs.Levels.{LevelData, nodes_of, spot, MaySettle}
use Rattle.join_core.proofs.Kept.{kept-out, nodes-removed}
use Rattle.join_core.proofs.level.Level.end.Goals as goal

pub invariant_of-self : goal.invariant_of-self
invariant_of-self c =
    let settle : MaySettle c.self.inside.started.entries c.args.key c.args.ticket = subst (λ (l : LevelData). MaySettle l.started c.args.key c.args.ticket) (sym c.self.view_is) c.requires in
    kept-out _ c.args.key c.args.ticket c.self.inside.started c.take_out.new.started c.self.inside.paused _ c.self.inside.tickets c.forget.new.tickets c.self.invariant settle c.take_out.ensures.entries c.take_out.ensures.noted c.take_out.ensures.ordered c.forget.ensures

pub returns : goal.returns
returns c =
    let settle : MaySettle c.self.inside.started.entries c.args.key c.args.ticket = subst (λ (l : LevelData). MaySettle l.started c.args.key c.args.ticket) (sym c.self.view_is) c.requires in
    nodes-removed c.self.inside.started.entries c.take_out.new.started.entries c.self.inside.unstarted.items c.args.key settle.settler settle.found c.take_out.ensures.entries
    ∙ ap (λ (l : LevelData). remove (nodes_of l) (spot c.args.key l.started)) c.self.view_is
