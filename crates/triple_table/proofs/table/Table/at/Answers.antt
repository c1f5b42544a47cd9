use Rattle.std.proofs.Common.{ℕ, ◌≡◌, ◌+◌, ◌-◌, ◌<◌, List, get_or, arith, subst, sym, ap, ◌∙◌}
use Rattle.triple_table.specs.declared.ids.Row.{Row}
use Rattle.triple_table.specs.declared.ids.Range.{Range}
use Rattle.triple_table.specs.Rows.{id_triple_of}
use Rattle.triple_table.specs.Stored.{Stored, IsRange, IsOrdered, IsIdTriple, triple_at}
use Rattle.triple_table.proofs.Ranges.{listed_at, row_is_of, stored_len}
use Rattle.triple_table.proofs.table.Table.at.Goals as goal

ids_at : (s : Stored) (r : Range) (i : ℕ) (row : Row) (rows : List Row) → IsOrdered s r.order rows → IsRange s r → i < r.to - r.from → ((d : Row) → get_or rows (r.from + i) d ≡ row) → IsIdTriple s.terms (id_triple_of r.order row)
ids_at s r i row rows h w l at =
    let last = w.within in let size = stored_len s r.order rows h in
    row_is_of s r.order rows (r.from + i) row h (omega (arith, last, l, size)) at

pub returns-clause-ids : goal.returns-clause-ids
returns-clause-ids c = rw c.triple.ensures (ids_at c.args.self.now c.args.r.now c.args.i c.row.result c.rows.result.now c.rows.ensures.ordered c.requires.range c.requires.within c.row.ensures)

pub returns-clause-triple : goal.returns-clause-triple
returns-clause-triple c = λ d.
    listed_at c.args.self.now c.args.r.now c.args.i c.row.result d
    (subst (IsOrdered c.args.self.now c.args.r.now.order) c.rows.ensures.rows c.rows.ensures.ordered) c.requires.range c.requires.within
    (λ e. subst (λ rows. get_or rows (c.args.r.now.from + c.args.i) e ≡ c.row.result) c.rows.ensures.rows (c.row.ensures e))
    ∙ ap (triple_at c.args.self.now.terms) (sym c.triple.ensures)
