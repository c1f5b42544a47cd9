use Rattle.std.proofs.Common.{◌≡◌, ◌≤◌, None, drop}
use Rattle.std.specs.BTreeMap.{get_by_text}
use Rattle.group_faults.specs.Faults.{shared_from}
use Rattle.group_faults.proofs.shared.first_shared.Given as goal

abbrev pub invariant-loop-word : goal.invariant-loop-word
invariant-loop-word l = (l.walk.block ≤ l.word-index) × (shared_from (λ q. get_by_text l.walk.first q) l.walk.block (drop l.word-index l.words) ≡ shared_from (λ t. None) 0 l.words)
