-- What came of a query is what its command did.
use Rattle.std.proofs.Common.{refl, ap}
use Rattle.command_words.specs.CommandViews.{command_view, federated_view}
use Rattle.tpf_cli.specs.Runs.{around}
use Rattle.tpf_cli.proofs.Commanded.{does_local, does_query, does_federate}
use Rattle.tpf_cli.proofs.top.obey.Goals as goal

pub returns-in-Local-clause-does : goal.returns-in-Local-clause-does
returns-in-Local-clause-does g c =
    does_local (around (g.F.Shelf.state c.args.shelf.now) (g.F.Shelf.state c.ask_file-answer.new.shelf) (g.W.Wire.allows c.args.wire.now) (g.W.Wire.state c.args.wire.now) (g.W.Wire.state c.args.wire.now) (g.K.Sink.state c.args.out.now) (g.K.Sink.state c.ask_file-answer.new.out) c.ask_file-answer.new.inside)
    (command_view c.args.command) c.in-Local.words c.ask_file-answer.result (ap command_view c.in-Local.is) refl c.ask_file-answer.ensures

pub returns-in-Query-clause-does : goal.returns-in-Query-clause-does
returns-in-Query-clause-does g c =
    does_query (around (g.F.Shelf.state c.args.shelf.now) (g.F.Shelf.state c.ask_server-answer.new.shelf) (g.W.Wire.allows c.args.wire.now) (g.W.Wire.state c.args.wire.now) (g.W.Wire.state c.ask_server-answer.new.wire) (g.K.Sink.state c.args.out.now) (g.K.Sink.state c.ask_server-answer.new.out) c.args.inside.now)
    (command_view c.args.command) c.in-Query.words.url c.in-Query.words.query.now c.in-Query.words.client c.ask_server-answer.result (ap command_view c.in-Query.is) c.requires.unused c.ask_server-answer.ensures

pub returns-in-Federate-clause-does : goal.returns-in-Federate-clause-does
returns-in-Federate-clause-does g c =
    does_federate (around (g.F.Shelf.state c.args.shelf.now) (g.F.Shelf.state c.ask_servers-answer.new.shelf) (g.W.Wire.allows c.args.wire.now) (g.W.Wire.state c.args.wire.now) (g.W.Wire.state c.ask_servers-answer.new.wire) (g.K.Sink.state c.args.out.now) (g.K.Sink.state c.ask_servers-answer.new.out) c.args.inside.now)
    (command_view c.args.command) (federated_view c.in-Federate.words) c.ask_servers-answer.result (ap command_view c.in-Federate.is) c.requires.unused c.ask_servers-answer.ensures
