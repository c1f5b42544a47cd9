use Rattle.own_controls.proofs.Pieces.{two_behind}
use Rattle.own_controls.proofs.piece.behind_two.Goals as goal

pub returns : goal.returns
returns c =
    two_behind c.args.bytes.now c.args.one.now c.args.other.now c.in_ok-from_other.from_other.now c.behind-2.result c.in_ok-from_other.ensures c.behind-2.ensures
