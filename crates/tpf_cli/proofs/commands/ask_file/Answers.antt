use Rattle.tpf_cli.proofs.Asked.{options_in}
use Rattle.tpf_cli.proofs.Commanded.{asked_file}
use Rattle.tpf_cli.proofs.commands.ask_file.Goals as goal

pub local-answer-requires-clause-bounds : goal.local-answer-requires-clause-bounds
local-answer-requires-clause-bounds g c = options_in _ _ c.options_of.ensures c.requires.client

pub returns : goal.returns
returns g c =
    rw c.replace.ensures.after (asked_file (g.F.Shelf.state c.args.shelf.now) (g.F.Shelf.state c.local-answer.new.shelf) (g.K.Sink.state c.args.out.now) (g.K.Sink.state c.local-answer.new.out) _ _ c.args.words.now c.options_of.result c.local-answer.result c.inside_of.ensures c.options_of.ensures c.local-answer.ensures)
