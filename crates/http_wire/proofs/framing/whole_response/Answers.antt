use Rattle.http_wire.proofs.ReplyLemmas.{response_whole, response_none, response_end, response_len}
use Rattle.http_wire.proofs.framing.whole_response.Goals as goal

pub returns-then-read-head-clause-some : goal.returns-then-read-head-clause-some
returns-then-read-head-clause-some c =
    let found = rw c.in-Ok-Complete.field-0-is at c.in-Ok-Complete.ensures.complete in
    (found.0, response_whole found.0 c.args.head.now (response_end found.0 c.args.head.now c.in-Ok-Complete.read.len c.if-read-head.true found.1.reads), found.1)

pub returns-else-read-head-clause-none : goal.returns-else-read-head-clause-none
returns-else-read-head-clause-none c _ =
    let found = rw c.in-Ok-Complete.field-0-is at c.in-Ok-Complete.ensures.found in
    response_none c.args.head.now (λ h reads. c.if-read-head.false (response_len h c.args.head.now c.in-Ok-Complete.read.len (found h _ reads (c.requires.room h reads)).len reads))
