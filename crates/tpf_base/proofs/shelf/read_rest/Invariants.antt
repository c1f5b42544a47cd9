use Rattle.std.proofs.Common.{ℕ, ◌≡◌, ◌<◌, ◌++◌, List, length, Some, ◌+◌, ◌-◌, vec_len}
use Rattle.tpf_base.specs.Outside.{LeavesOther}
use Rattle.tpf_base.proofs.shelf.read_rest.Given as goal

abbrev pub invariant-loop-shelf : goal.invariant-loop-shelf
invariant-loop-shelf g l = record {
  left : (rest : List ℕ) → (g.F.Shelf.state l.fn.shelf).rest l.file ≡ Some rest →
      (after : List ℕ) × ((g.F.Shelf.state l.shelf).rest l.file ≡ Some after) × (rest ≡ l.bytes.items ++ after);
  leaves : LeavesOther l.file (g.F.Shelf.state l.fn.shelf) (g.F.Shelf.state l.shelf);
  unfailed : (g.F.Shelf.state l.shelf).faults ≡ (g.F.Shelf.state l.fn.shelf).faults;
  room : 0 < length l.piece;
}

abbrev pub decreases-loop-shelf : goal.decreases-loop-shelf
decreases-loop-shelf g l = l.most + 1 - vec_len l.bytes
