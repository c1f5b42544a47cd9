use Rattle.std.proofs.Common.{List, subst}
use Rattle.tpf_base.specs.Addresses.{Address}
use Rattle.tpf_client.specs.declared.options.Options.{Options}
use Rattle.query_command.specs.Servers.{ServersAsked}
use Rattle.tpf_cli.proofs.Asked.{options_in}
use Rattle.tpf_cli.proofs.commands.ask_servers.Goals as goal

pub query_servers-requires-clause-bounds : goal.query_servers-requires-clause-bounds
query_servers-requires-clause-bounds g c = options_in _ _ c.options_of-options.ensures c.requires.client

pub returns : goal.returns
returns g c =
    subst (λ (o : Options). ServersAsked (g.F.Shelf.state c.args.shelf.now) (g.F.Shelf.state c.query_servers.new.shelf) (g.W.Wire.allows c.args.wire.now) (g.W.Wire.state c.args.wire.now) (g.W.Wire.state c.query_servers.new.wire) (g.K.Sink.state c.args.out.now) (g.K.Sink.state c.query_servers.new.out) c.args.asked.now.query.now c.args.asked.now.urls.items o c.query_servers.result)
    c.options_of-options.ensures
    (subst (λ (urls : List Address). ServersAsked (g.F.Shelf.state c.args.shelf.now) (g.F.Shelf.state c.query_servers.new.shelf) (g.W.Wire.allows c.args.wire.now) (g.W.Wire.state c.args.wire.now) (g.W.Wire.state c.query_servers.new.wire) (g.K.Sink.state c.args.out.now) (g.K.Sink.state c.query_servers.new.out) c.args.asked.now.query.now urls c.options_of-options.result c.query_servers.result)
    c.as_slice-urls.ensures.value c.query_servers.ensures.asks)
