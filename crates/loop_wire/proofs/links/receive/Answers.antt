use Rattle.std.proofs.Common.{ap, ◌∙◌}
use Rattle.loop_wire.specs.Held.{Held, Owing}
use Rattle.loop_wire.specs.Standing.{owed_to}
use Rattle.loop_wire.proofs.Lists.{held_set_new, seen_at, gives_at, served_at, served_set}
use Rattle.loop_wire.proofs.links.receive.Goals as goal

pub receive_on-requires-clause-is_open : goal.receive_on-requires-clause-is_open
receive_on-requires-clause-is_open g c = ap (λ (h : Held). h.is_open) (seen_at c.args.links.now c.args.k c.index-links-k.result c.requires.below) ∙ c.requires.is_open

pub receive_on-requires-clause-served : goal.receive_on-requires-clause-served
receive_on-requires-clause-served g c = served_at _ _ _ _ _ c.args.links.now c.args.k c.index-links-k.result c.requires.kept c.requires.below

pub returns-clause-gives : goal.returns-clause-gives
returns-clause-gives g c =
    let owes : Owing = owed_to g.C.RespondsAt.response_at g.C.Server.Serves.serving g.B.Behind.server_of c.args.servers.now in
    gives_at c.args.links.now c.args.k c.index-links-k.result c.receive_on.new.link owes _ _ _ _ c.requires.below c.receive_on.ensures.gives

pub returns-clause-held : goal.returns-clause-held
returns-clause-held g c = held_set_new c.args.links.now c.args.k _ c.requires.below

pub returns-clause-kept : goal.returns-clause-kept
returns-clause-kept g c = served_set _ _ _ _ _ c.args.links.now c.args.k _ c.requires.kept c.receive_on.ensures.served
