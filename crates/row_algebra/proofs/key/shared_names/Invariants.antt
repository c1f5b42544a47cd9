use Rattle.std.proofs.Common.{◌≡◌, true}
use Rattle.std.specs.List.{AllByRecursion}
use Rattle.row_algebra.specs.Finding.{all_bind}
use Rattle.row_algebra.proofs.key.shared_names.Given as goal

abbrev pub invariant-loop-name : goal.invariant-loop-name
invariant-loop-name l = AllByRecursion (λ n. all_bind n l.left ≡ true) l.names.items × AllByRecursion (λ n. all_bind n l.right ≡ true) l.names.items
