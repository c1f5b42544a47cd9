use Rattle.list_laws.proofs.Lists.{none_there}
use Rattle.own_controls.proofs.Pieces.{behind_same, behind_none}
use Rattle.own_controls.proofs.piece.behind.Goals as goal

pub returns-then-is_empty : goal.returns-then-is_empty
returns-then-is_empty c = behind_none c.args.bytes.now c.args.piece.now (none_there c.args.piece.now c.is_empty.result c.is_empty.ensures c.if-is_empty.true)

pub returns : goal.returns
returns c = behind_same c.args.bytes.now c.as_bytes.result.now c.args.piece.now c.behind_bytes.result c.as_bytes.ensures.value c.behind_bytes.ensures
