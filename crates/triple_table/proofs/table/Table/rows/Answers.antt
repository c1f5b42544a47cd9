use Rattle.std.proofs.Common.{◌≡◌, List, subst, sym}
use Rattle.triple_table.specs.declared.ids.Row.{Row}
use Rattle.triple_table.specs.declared.ids.Order.{Order}
use Rattle.triple_table.specs.declared.ids.Order.TheVariants.{Spo, Pos, Osp}
use Rattle.triple_table.specs.Stored.{Stored, IsOrdered}
use Rattle.triple_table.proofs.table.Table.rows.Goals as goal

ordered : (s t : Stored) (o p : Order) (rows : List Row) → s ≡ t → o ≡ p → IsOrdered s p rows → IsOrdered t o rows
ordered s t o p rows e f h = subst (λ x. IsOrdered x o rows) e (subst (λ x. IsOrdered s x rows) (sym f) h)

pub returns-in-Spo-clause-ordered : goal.returns-in-Spo-clause-ordered
returns-in-Spo-clause-ordered c = ordered _ _ _ _ _ c.self.view_is c.in-Spo.is (c.self.invariant.rows Spo)

pub returns-in-Pos-clause-ordered : goal.returns-in-Pos-clause-ordered
returns-in-Pos-clause-ordered c = ordered _ _ _ _ _ c.self.view_is c.in-Pos.is (c.self.invariant.rows Pos)

pub returns-in-Osp-clause-ordered : goal.returns-in-Osp-clause-ordered
returns-in-Osp-clause-ordered c = ordered _ _ _ _ _ c.self.view_is c.in-Osp.is (c.self.invariant.rows Osp)
