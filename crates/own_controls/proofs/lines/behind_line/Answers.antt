use Rattle.own_controls.proofs.Joined.{behind_pieces}
use Rattle.own_controls.proofs.lines.behind_line.Goals as goal

pub returns : goal.returns
returns c =
    let line = c.args.line.now in
    behind_pieces c.args.bytes.now line.opening.now line.one.now line.middle.now line.other.now line.closing.now c.args.ending.now c.in_ok-from_middle.from_middle.now c.in_ok-from_closing.from_closing.now c.in_ok-from_ending.from_ending.now
    c.behind_bytes.result c.in_ok-from_middle.ensures c.in_ok-from_closing.ensures c.in_ok-from_ending.ensures c.behind_bytes.ensures
