use Rattle.std.proofs.Common.{refl, ap, ◌∙◌}
use Rattle.loop_wire.specs.Held.{Held, woken_now}
use Rattle.loop_wire.proofs.Lists.{held_set, seen_at, served_at, served_set, served_woken}
use Rattle.loop_wire.proofs.links.wake.Goals as goal

pub returns-clause-held : goal.returns-clause-held
returns-clause-held g c = held_set c.args.links.now c.args.k _ _ (c.wake.ensures ∙ ap woken_now (seen_at c.args.links.now c.args.k c.index-links-k.result c.requires.below))

pub returns-clause-kept : goal.returns-clause-kept
returns-clause-kept g c = λ there kept. served_set _ _ _ _ _ c.args.links.now c.args.k _ kept
    (served_woken _ _ _ _ _ _ _ c.wake.ensures refl (ap (λ (h : Held). h.ripe) (seen_at c.args.links.now c.args.k c.index-links-k.result c.requires.below) ∙ c.requires.ripe) (served_at _ _ _ _ _ c.args.links.now c.args.k c.index-links-k.result kept c.requires.below))
