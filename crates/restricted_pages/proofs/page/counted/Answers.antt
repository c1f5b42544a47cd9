use Rattle.restricted_pages.proofs.Counts.{disjoint_count}
use Rattle.restricted_pages.proofs.page.counted.Goals as goal

pub returns-then-are_disjoint-clause-count : goal.returns-then-are_disjoint-clause-count
returns-then-are_disjoint-clause-count g c =
    let s = c.args.table.now in let ps = c.args.patterns.now in
    disjoint_count s c.requires.ranking.ascending c.requires.data_set.ascending c.args.slots.now ps c.requires.patterns (c.are_disjoint.ensures c.if-are_disjoint.true) c.args.total c.requires.total c.requires.small
