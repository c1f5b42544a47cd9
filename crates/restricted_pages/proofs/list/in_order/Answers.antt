use Rattle.std.proofs.Common.{rules}
use Rattle.std.proofs.lemmas.Fn.{always_returns_same}
use Rattle.restricted_pages.specs.Patterns.{ids_in}
use Rattle.restricted_pages.proofs.Ordered.{ties, left_ascend, left_members}
use Rattle.restricted_pages.proofs.list.in_order.Goals as goal

pub returns-clause-ascending : goal.returns-clause-ascending
returns-clause-ascending c =
    left_ascend c.args.order (ties c.args.order) c.args.triples.items c.sort_unstable_by_key.new.self.items c.dedup.new.self.items c.sort_unstable_by_key.ensures.permutation c.dedup.ensures.filtered
    (c.sort_unstable_by_key.ensures.sorted (ids_in c.args.order) (always_returns_same _ _ _ (λ a r g h. (search rules, search rules))))

pub returns-clause-members : goal.returns-clause-members
returns-clause-members c = left_members c.args.order (ties c.args.order) c.args.triples.items c.sort_unstable_by_key.new.self.items c.dedup.new.self.items c.sort_unstable_by_key.ensures.permutation c.dedup.ensures.filtered
