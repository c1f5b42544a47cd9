-- Rows of numbers and their order.
use Rattle.std.specs.Prelude.{ℕ, ◌+◌, ◌*◌, Bool, true, false, Option, Some, None, unwrap_or}
use Rattle.std.specs.declared.cmp.Ordering.{Ordering}
use Rattle.std.specs.declared.cmp.Ordering.TheVariants.{Less, Equal, Greater}
use Rattle.std.specs.Ordering.{nat_cmp, ordering_then}
use Rattle.triple_table.specs.declared.ids.Row.{Row}
use Rattle.triple_table.specs.declared.ids.IdTriple.{IdTriple}
use Rattle.triple_table.specs.declared.ids.IdPattern.{IdPattern}
use Rattle.triple_table.specs.declared.ids.Order.{Order}
use Rattle.triple_table.specs.declared.ids.Order.TheVariants.{Spo, Pos, Osp}

-- first, second, third
abbrev pub row_order : Row → Row → Ordering
row_order a b = ordering_then (nat_cmp a.first b.first) (ordering_then (nat_cmp a.second b.second) (nat_cmp a.third b.third))

-- a row of numbers below 2 ^ 32 as one number, which is ordered as the row is
unfoldable pub key : Row → ℕ
key r = r.first * 18446744073709551616 + r.second * 4294967296 + r.third

-- the row of a triple in an order
abbrev pub row_of : Order → IdTriple → Row
row_of Spo t = record { first = t.subject; second = t.predicate; third = t.object }
row_of Pos t = record { first = t.predicate; second = t.object; third = t.subject }
row_of Osp t = record { first = t.object; second = t.subject; third = t.predicate }

-- the triple of a row in an order
abbrev pub id_triple_of : Order → Row → IdTriple
id_triple_of Spo r = record { subject = r.first; predicate = r.second; object = r.third }
id_triple_of Pos r = record { subject = r.third; predicate = r.first; object = r.second }
id_triple_of Osp r = record { subject = r.second; predicate = r.third; object = r.first }

-- the order for fixed places: subject, predicate, object
abbrev pub order_by : Option ℕ → Option ℕ → Option ℕ → Order
order_by None None None = Spo
order_by (Some s) None None = Spo
order_by (Some s) (Some p) None = Spo
order_by (Some s) (Some p) (Some o) = Spo
order_by None (Some p) None = Pos
order_by None (Some p) (Some o) = Pos
order_by None None (Some o) = Osp
order_by (Some s) None (Some o) = Osp

abbrev pub order_for : IdPattern → Order
order_for p = order_by p.subject p.predicate p.object

-- the ids of a pattern, where an open place has this number
abbrev pub pattern_ids : IdPattern → ℕ → IdTriple
pattern_ids p fill = record { subject = unwrap_or p.subject fill; predicate = unwrap_or p.predicate fill; object = unwrap_or p.object fill }

-- the row of a pattern in its order, where an open place has this number
abbrev pub bound_of : IdPattern → ℕ → Row
bound_of p fill = row_of (order_for p) (pattern_ids p fill)

-- whether an answer puts a row before a bound
abbrev pub goes_before : Bool → Ordering → Bool
goes_before with_equal Less = true
goes_before with_equal Equal = with_equal
goes_before with_equal Greater = false
