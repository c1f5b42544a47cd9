use Rattle.std.proofs.Common.{arith}
use Rattle.http_wire.proofs.JudgeLemmas.{fields_fit}
use Rattle.http_wire.proofs.judge.judge.Goals as goal

pub whole_request-requires-clause-room : goal.whole_request-requires-clause-room
whole_request-requires-clause-room c h reads =
    let few = fields_fit c.args.head.now h reads in
    let counted = c.line_feeds.ensures in
    omega arith
