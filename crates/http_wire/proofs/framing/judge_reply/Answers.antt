use Rattle.std.proofs.Common.{arith, refl}
use Rattle.http_wire.proofs.FramingLemmas.{judged_lines, judged_none, judged_next}
use Rattle.http_wire.proofs.ReplyLemmas.{reply_fields_fit}
use Rattle.http_wire.proofs.framing.judge_reply.Goals as goal

pub whole_response-requires : goal.whole_response-requires
whole_response-requires c = record {
  room = λ h reads. let few = reply_fields_fit c.args.head.now h reads in let counted = c.line_feeds.ensures in omega arith;
}

pub returns-then-line_feeds : goal.returns-then-line_feeds
returns-then-line_feeds c passed = judged_lines c.args.limit passed c.args.head.now (let counted = c.line_feeds.ensures in omega arith)

pub returns-in-None : goal.returns-in-None
returns-in-None c passed = judged_none c.args.limit passed c.args.head.now (let counted = c.line_feeds.ensures in omega arith) (c.in-None.ensures.none refl)

pub returns-in-Some : goal.returns-in-Some
returns-in-Some c =
    let found = c.in-Some.ensures.some in
    judged_next c.args.limit c.args.head.now found.0 c.in-Some.read.code c.in-Some.read.version _ c.next_of.result (let counted = c.line_feeds.ensures in omega arith) found.1 found.2.code found.2.version found.2.fields
    c.next_of.ensures.final_head c.next_of.ensures.interim c.next_of.ensures.not_interim
