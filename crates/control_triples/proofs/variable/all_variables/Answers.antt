use Rattle.control_triples.specs.Parts.{borrowed_triples}
use Rattle.control_triples.proofs.Variabled.{are_variables}
use Rattle.control_triples.proofs.variable.all_variables.Goals as goal

pub returns : goal.returns
returns c =
    are_variables c.args.controls.now.quads c.args.controls.now.topic (borrowed_triples c.triples.result.now) c.in_ok-variables.variables.items c.sort_unstable.new.self.items c.dedup.new.self.items c.triples.ensures
    c.in_ok-variables.ensures c.sort_unstable.ensures.permutation c.dedup.ensures.filtered c.sort_unstable.ensures.sorted
