use Rattle.std.proofs.Common.{ap, ◌∙◌}
use Rattle.loop_wire.specs.Held.{Held}
use Rattle.loop_wire.proofs.Lists.{held_set_new, seen_at, hears_at, served_at, served_set}
use Rattle.loop_wire.proofs.links.send.Goals as goal

pub send_on-requires-clause-is_open : goal.send_on-requires-clause-is_open
send_on-requires-clause-is_open g c = ap (λ (h : Held). h.is_open) (seen_at c.args.links.now c.args.k c.index-links-k.result c.requires.below) ∙ c.requires.is_open

pub send_on-requires-clause-served : goal.send_on-requires-clause-served
send_on-requires-clause-served g c = served_at _ _ _ _ _ c.args.links.now c.args.k c.index-links-k.result c.requires.kept c.requires.below

pub returns-clause-hears : goal.returns-clause-hears
returns-clause-hears g c = hears_at _ _ c.index-links-k.result _ _ _ _ c.requires.below c.send_on.ensures.hears

pub returns-clause-held : goal.returns-clause-held
returns-clause-held g c = held_set_new c.args.links.now c.args.k _ c.requires.below

pub returns-clause-kept : goal.returns-clause-kept
returns-clause-kept g c = served_set _ _ _ _ _ c.args.links.now c.args.k _ c.requires.kept c.send_on.ensures.served
