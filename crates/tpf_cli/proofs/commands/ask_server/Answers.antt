use Rattle.std.proofs.Common.{subst}
use Rattle.tpf_client.specs.declared.options.Options.{Options}
use Rattle.query_command.specs.Groups.{ServerAsked}
use Rattle.tpf_cli.proofs.Asked.{options_in}
use Rattle.tpf_cli.proofs.commands.ask_server.Goals as goal

pub query-requires : goal.query-requires
query-requires g c = record { bounds = options_in _ _ c.options_of-options.ensures c.requires.client }

pub returns : goal.returns
returns g c =
    subst (λ (o : Options). ServerAsked (g.F.Shelf.state c.args.shelf.now) (g.F.Shelf.state c.query.new.shelf) (g.W.Wire.allows c.args.wire.now) (g.W.Wire.state c.args.wire.now) (g.W.Wire.state c.query.new.wire) (g.K.Sink.state c.args.out.now) (g.K.Sink.state c.query.new.out) c.args.asked.now.query.now c.args.asked.now.url o c.query.result)
    c.options_of-options.ensures c.query.ensures.asks
