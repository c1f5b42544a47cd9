use Rattle.std.proofs.Common.{ap, ◌∙◌}
use Rattle.loop_wire.specs.Held.{Held}
use Rattle.loop_wire.proofs.Lists.{gives_by, receive_peer, served_for, served_put}
use Rattle.loop_wire.proofs.links.receive_on.Goals as goal

pub receive-requires-clause-kept : goal.receive-requires-clause-kept
receive-requires-clause-kept g c = served_for g.C.Converses.kind g.C.Converses.Suits g.C.Server.Serves.serving g.C.RespondsAt.response_at (g.B.Behind.server_of c.args.servers.now) c.args.link.now c.server_of-server.result.now c.server_of-server.ensures c.requires.served

pub receive-requires-clause-version : goal.receive-requires-clause-version
receive-requires-clause-version g c = g.met.C.Server.Serves.numbered c.server_of-server.result.now

pub returns-clause-gives : goal.returns-clause-gives
returns-clause-gives g c = gives_by g.C.Converses.kind g.C.Converses.Suits g.C.Server.Serves.serving g.C.RespondsAt.response_at (g.B.Behind.server_of c.args.servers.now) c.args.link.now c.receive.new.self c.server_of-server.result.now _ _ _ _ c.server_of-server.ensures c.receive.ensures.gives

pub returns-clause-served : goal.returns-clause-served
returns-clause-served g c = served_put g.C.Converses.kind g.C.Converses.Suits g.C.Server.Serves.serving g.C.RespondsAt.response_at (g.B.Behind.server_of c.args.servers.now) c.args.link.now c.receive.new.self c.server_of-server.result.now c.server_of-server.ensures
    (ap (λ (h : Held). h.peer) c.receive.ensures.gives.left ∙ receive_peer c.receive.result _ c.args.link.now.held) c.receive.ensures.kept
