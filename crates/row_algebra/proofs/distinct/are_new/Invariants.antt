use Rattle.std.proofs.Common.{◌≡◌, ◌++◌, [], take, drop}
use Rattle.row_algebra.specs.Finding.{news, same_key, HasKeys}
use Rattle.row_algebra.proofs.distinct.are_new.Given as goal

abbrev pub invariant-loop-row : goal.invariant-loop-row
invariant-loop-row l = (news (same_key l.names) [] l.rows ≡ l.flags.items ++ news (same_key l.names) (take l.row-index l.rows) (drop l.row-index l.rows))
    × HasKeys l.names (take l.row-index l.rows) l.seen
