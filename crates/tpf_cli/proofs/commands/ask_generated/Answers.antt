-- What came of the query and of its line is what the command did.
use Rattle.tpf_cli.proofs.Asked.{counts_file}
use Rattle.tpf_cli.proofs.commands.ask_generated.Goals as goal

pub returns : goal.returns
returns g c =
    rw c.replace.ensures.after (counts_file _ _ c.args.name.now _ _ _ _ c.inside_of.ensures c.args.persons c.query_generated-came.result c.write_numbers.result c.query_generated-came.ensures c.write_numbers.ensures.line c.write_numbers.ensures.output)
