use Rattle.std.proofs.Common.{ap, ◌∙◌}
use Rattle.loop_wire.specs.Held.{Held}
use Rattle.loop_wire.proofs.Lists.{send_peer, served_for, served_put}
use Rattle.loop_wire.proofs.links.send_on.Goals as goal

pub send-requires-clause-kept : goal.send-requires-clause-kept
send-requires-clause-kept g c = served_for g.C.Converses.kind g.C.Converses.Suits g.C.Server.Serves.serving g.C.RespondsAt.response_at (g.B.Behind.server_of c.args.servers.now) c.args.link.now c.server_of-server.result.now c.server_of-server.ensures c.requires.served

pub returns-clause-served : goal.returns-clause-served
returns-clause-served g c = served_put g.C.Converses.kind g.C.Converses.Suits g.C.Server.Serves.serving g.C.RespondsAt.response_at (g.B.Behind.server_of c.args.servers.now) c.args.link.now c.send.new.self c.server_of-server.result.now c.server_of-server.ensures
    (ap (λ (h : Held). h.peer) c.send.ensures.hears.left ∙ send_peer c.send.result c.args.front.now c.args.link.now.held) c.send.ensures.kept
