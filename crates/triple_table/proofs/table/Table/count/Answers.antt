use Rattle.std.proofs.Common.{subst, sym, ◌≡◌, ◌-◌, length}
use Rattle.triple_table.specs.Stored.{Stored, IsRange, listed}
use Rattle.triple_table.proofs.Ranges.{listed_len}
use Rattle.triple_table.proofs.table.Table.count.Goals as goal

pub returns-clause-count : goal.returns-clause-count
returns-clause-count c =
    subst (λ (s : Stored). IsRange s c.args.r.now → c.args.r.now.to - c.args.r.now.from ≡ length (listed s c.args.r.now)) c.self.view_is
    (λ w. sym (listed_len _ c.args.r.now (c.self.invariant.rows c.args.r.now.order) w)) c.requires
