use Rattle.std.proofs.Common.{rules}
use Rattle.std.specs.Ordering.{is_lt}
use Rattle.std.proofs.lemmas.List.Sorted.{answers_always, ranks_by}
use Rattle.rdf_terms.specs.Order.{term_order}
use Rattle.rdf_terms.specs.OrderLaws.{term_total}
use Rattle.triple_table.specs.declared.ranking.Entry.{Entry}
use Rattle.triple_table.specs.Ranking.{borrowed_terms}
use Rattle.triple_table.proofs.Ranked.{entries_moved}
use Rattle.triple_table.proofs.ranking.sorted_entries.Goals as goal

pub returns-clause-entries : goal.returns-clause-entries
returns-clause-entries c =
    entries_moved (borrowed_terms c.args.terms.now) c.sort_unstable_by.new.self.items c.sort_by.new.self.items c.sort_by.ensures.permutation
    (entries_moved (borrowed_terms c.args.terms.now) c.in_ok-entries.entries.items c.sort_unstable_by.new.self.items c.sort_unstable_by.ensures.permutation c.in_ok-entries.ensures)

pub returns-clause-sorted : goal.returns-clause-sorted
returns-clause-sorted c =
    c.in_ok-sort_by.ensures.sorted (λ (a b : Entry). is_lt (term_order a.term.now b.term.now)) (ranks_by term_total (λ (e : Entry). e.term.now)) (answers_always _ _ _ (λ f a r g h. search rules))
