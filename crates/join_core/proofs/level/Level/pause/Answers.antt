use Rattle.std.proofs.Common.{set, ap, sym, subst, ◌∙◌}
use Rattle.join_core.specs.Levels.{LevelData, nodes_of, spot, MaySettle}
use Rattle.join_core.proofs.Kept.{kept-on, nodes-set}
use Rattle.join_core.proofs.level.Level.pause.Goals as goal

pub invariant_of-self : goal.invariant_of-self
invariant_of-self c =
    let settle : MaySettle c.self.inside.started.entries c.args.key c.args.ticket = subst (λ (l : LevelData). MaySettle l.started c.args.key c.args.ticket) (sym c.self.view_is) c.requires.waits in
    kept-on _ c.args.key c.args.ticket c.args.node c.self.inside.started c.replace.new.started c.self.inside.paused c.insert.new.self _ c.self.inside.tickets c.forget.new.tickets c.self.invariant settle c.requires.idle c.replace.ensures c.in-Ok.ensures.keys c.forget.ensures

pub returns-in-Ok-clause-done : goal.returns-in-Ok-clause-done
returns-in-Ok-clause-done c =
    let settle : MaySettle c.self.inside.started.entries c.args.key c.args.ticket = subst (λ (l : LevelData). MaySettle l.started c.args.key c.args.ticket) (sym c.self.view_is) c.requires.waits in
    nodes-set c.self.inside.started.entries c.replace.new.started.entries c.self.inside.unstarted.items c.args.key settle.settler c.args.node settle.found c.replace.ensures.entries
    ∙ ap (λ (l : LevelData). set (nodes_of l) (spot c.args.key l.started) c.args.node) c.self.view_is
