use Rattle.std.proofs.Common.{sym, ap, ◌∙◌, arith}
use Rattle.tpf_base.specs.HttpReply.{InLine, with_extra}
use Rattle.http_wire.specs.Places.{gathered_of}
use Rattle.http_wire.proofs.ReadLemmas.{line_ends, line_goes, line_on}
use Rattle.http_wire.proofs.state.State.line_byte.Goals as goal

pub returns-then-b-eq10-clause-place : goal.returns-then-b-eq10-clause-place
returns-then-b-eq10-clause-place c =
    let few = c.if-line-gt-LINE_LIMIT.false in
    λ body is. c.line_end.ensures.place body (with_extra (gathered_of c.args.self.now body)) (sym (c.count_extra-padded.ensures.padded body is)) (c.count_extra-padded.ensures.counted body)
    ∙ sym (line_ends c.args.line.now c.args.b (with_extra (gathered_of c.args.self.now body)) (omega arith) c.if-b-eq10.true)

pub returns-else-padded-clause-place : goal.returns-else-padded-clause-place
returns-else-padded-clause-place c =
    let few = c.if-line-gt-LINE_LIMIT.false in
    λ body is. line_on c.count_extra-padded.new.self c.args.line.now body (c.count_extra-padded.ensures.kept.0 ∙ c.requires)
    ∙ ap (InLine c.args.line.now) (c.count_extra-padded.ensures.counted body c.if-padded.false)
    ∙ sym (line_goes c.args.line.now c.args.b (with_extra (gathered_of c.args.self.now body)) (omega arith) c.if-b-eq10.false (sym (c.count_extra-padded.ensures.padded body is) ∙ c.if-padded.false))
