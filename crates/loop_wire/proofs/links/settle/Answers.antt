use Rattle.std.proofs.Common.{refl, ap, ◌∙◌}
use Rattle.loop_wire.specs.Held.{settled}
use Rattle.loop_wire.proofs.Lists.{held_set, seen_at, served_at, served_set, served_settled}
use Rattle.loop_wire.proofs.links.settle.Goals as goal

pub returns-clause-held : goal.returns-clause-held
returns-clause-held g c = held_set c.args.links.now c.args.k _ _ (c.settle.ensures ∙ ap settled (seen_at c.args.links.now c.args.k c.index-links-k.result c.requires))

pub returns-clause-kept : goal.returns-clause-kept
returns-clause-kept g c = λ there kept. served_set _ _ _ _ _ c.args.links.now c.args.k _ kept
    (served_settled _ _ _ _ _ _ _ c.settle.ensures refl (served_at _ _ _ _ _ c.args.links.now c.args.k c.index-links-k.result kept c.requires))
