use Rattle.control_triples.specs.Parts.{borrowed_triples}
use Rattle.control_triples.proofs.Formed.{are_searched, searched_ascend}
use Rattle.control_triples.proofs.form.sorted_searched.Goals as goal

pub returns-clause-ascending : goal.returns-clause-ascending
returns-clause-ascending c =
    searched_ascend _ c.in_ok-nodes.nodes.items c.sort_unstable.new.self.items c.dedup.new.self.items c.in_ok-nodes.ensures c.sort_unstable.ensures.permutation c.dedup.ensures.filtered c.sort_unstable.ensures.sorted

pub returns-clause-members : goal.returns-clause-members
returns-clause-members c =
    are_searched c.args.controls.now.quads c.args.controls.now.topic (borrowed_triples c.triples.result.now) c.in_ok-nodes.nodes.items c.sort_unstable.new.self.items c.dedup.new.self.items c.triples.ensures c.in_ok-nodes.ensures
    c.sort_unstable.ensures.permutation c.dedup.ensures.filtered
