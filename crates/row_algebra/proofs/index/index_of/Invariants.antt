use Rattle.std.proofs.Common.{◌≡◌, ◌++◌, drop}
use Rattle.std.specs.BTreeMap.{get}
use Rattle.row_algebra.specs.Finding.{places_where, has_key, terms_of, key_order, listed}
use Rattle.row_algebra.proofs.index.index_of.Given as goal

abbrev pub invariant-loop-place : goal.invariant-loop-place
invariant-loop-place l = (q : _) → places_where (has_key l.names (terms_of q)) 0 l.rows ≡ listed (get key_order l.index q) ++ places_where (has_key l.names (terms_of q)) l.place (drop l.place l.rows)
