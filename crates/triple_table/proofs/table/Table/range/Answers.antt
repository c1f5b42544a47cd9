use Rattle.std.proofs.Common.{subst}
use Rattle.triple_table.specs.Stored.{IsStored}
use Rattle.triple_table.proofs.Ranges.{range_is_range, range_is_fragment}
use Rattle.triple_table.proofs.table.Table.range.Goals as goal

pub returns-clause-range : goal.returns-clause-range
returns-clause-range g c =
    range_is_range c.args.self.now (subst IsStored c.self.view_is c.self.invariant) c.args.p.now c.requires c.order-order.result c.rows-rows.result.now c.bound.result c.bound-2.result c.place-from.result c.place-to.result
    c.order-order.ensures c.bound.ensures c.bound-2.ensures c.rows-rows.ensures.rows c.rows-rows.ensures.ordered
    record { within = c.place-from.ensures.within; before = c.place-from.ensures.before; behind = c.place-from.ensures.behind }
    record { within = c.place-to.ensures.within; before = c.place-to.ensures.before; behind = c.place-to.ensures.behind }

pub returns-clause-fragment : goal.returns-clause-fragment
returns-clause-fragment g c =
    range_is_fragment c.args.self.now (subst IsStored c.self.view_is c.self.invariant) c.args.p.now c.requires c.order-order.result c.rows-rows.result.now c.bound.result c.bound-2.result c.place-from.result c.place-to.result
    c.order-order.ensures c.bound.ensures c.bound-2.ensures c.rows-rows.ensures.rows c.rows-rows.ensures.ordered
    record { within = c.place-from.ensures.within; before = c.place-from.ensures.before; behind = c.place-from.ensures.behind }
    record { within = c.place-to.ensures.within; before = c.place-to.ensures.before; behind = c.place-to.ensures.behind }
