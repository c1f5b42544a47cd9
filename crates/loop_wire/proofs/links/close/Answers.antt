use Rattle.std.proofs.Common.{ap, ◌∙◌}
use Rattle.loop_wire.specs.Held.{closed}
use Rattle.loop_wire.proofs.Lists.{held_set, seen_at, served_at, served_set, served_closed}
use Rattle.loop_wire.proofs.links.close.Goals as goal

pub returns-clause-held : goal.returns-clause-held
returns-clause-held g c = held_set c.args.links.now c.args.k _ _ (c.close.ensures.held ∙ ap closed (seen_at c.args.links.now c.args.k c.index-links-k.result c.requires))

pub returns-clause-kept : goal.returns-clause-kept
returns-clause-kept g c = λ there kept. served_set _ _ _ _ _ c.args.links.now c.args.k _ kept
    (served_closed _ _ _ _ _ _ _ c.close.ensures.held c.close.ensures.connection (served_at _ _ _ _ _ c.args.links.now c.args.k c.index-links-k.result kept c.requires))
