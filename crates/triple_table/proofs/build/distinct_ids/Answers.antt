use Rattle.std.proofs.Common.{rules}
use Rattle.std.proofs.lemmas.List.Sorted.{answers_always}
use Rattle.triple_table.specs.declared.ids.IdTriple.{IdTriple}
use Rattle.triple_table.specs.declared.ids.Order.TheVariants.{Spo}
use Rattle.triple_table.specs.Rows.{key, row_of}
use Rattle.triple_table.proofs.Distinct.{id_ties, left_ids, left_ascend, left_members}
use Rattle.triple_table.proofs.build.distinct_ids.Goals as goal

pub returns-clause-ids : goal.returns-clause-ids
returns-clause-ids c = λ terms each. left_ids id_ties terms c.args.triples.items c.sort_unstable_by_key.new.self.items c.dedup.new.self.items c.sort_unstable_by_key.ensures.permutation c.dedup.ensures.filtered each

pub returns-clause-ascending : goal.returns-clause-ascending
returns-clause-ascending c = λ terms small ascend each.
    left_ascend id_ties terms c.args.triples.items c.sort_unstable_by_key.new.self.items c.dedup.new.self.items c.sort_unstable_by_key.ensures.permutation c.dedup.ensures.filtered small ascend each
    (c.sort_unstable_by_key.ensures.sorted (λ (t : IdTriple). key (row_of Spo t)) (answers_always _ _ _ (λ f a r g h. search rules)))

pub returns-clause-members : goal.returns-clause-members
returns-clause-members c = λ terms. left_members id_ties terms c.args.triples.items c.sort_unstable_by_key.new.self.items c.dedup.new.self.items c.sort_unstable_by_key.ensures.permutation c.dedup.ensures.filtered
