use Rattle.std.proofs.Common.{◌≡◌, length, rules}
use Rattle.http_wire.proofs.KeptLemmas.{moved_body, moved_other, reads_as}
use Rattle.http_wire.proofs.compact.move_on.Goals as goal

pub returns-in-Body-clause-moves : goal.returns-in-Body-clause-moves
returns-in-Body-clause-moves c = λ whole m.
    let same : length c.copy_within.new.self.items ≡ length c.args.bytes.now.items = search rules in
    moved_body _ _ whole _ _ _ _ m (reads_as _ _ _ _ _ _ _ _ c.as_slice.ensures.value c.in-Body.is c.read-next.ensures) c.copy_within.ensures.items same

pub returns-in-Line-clause-moves : goal.returns-in-Line-clause-moves
returns-in-Line-clause-moves c = λ whole m. moved_other _ _ whole _ _ _ _ (λ e. cc) m (reads_as _ _ _ _ _ _ _ _ c.as_slice.ensures.value c.in-Line.is c.read-next.ensures)

pub returns-in-Frame-clause-moves : goal.returns-in-Frame-clause-moves
returns-in-Frame-clause-moves c = λ whole m. moved_other _ _ whole _ _ _ _ (λ e. cc) m (reads_as _ _ _ _ _ _ _ _ c.as_slice.ensures.value c.in-Frame.is c.read-next.ensures)
