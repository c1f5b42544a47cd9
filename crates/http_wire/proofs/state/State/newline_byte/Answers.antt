use Rattle.std.proofs.Common.{sym, ap, ◌∙◌, []}
use Rattle.tpf_base.specs.HttpReply.{InLine}
use Rattle.http_wire.specs.Places.{gathered_of}
use Rattle.http_wire.proofs.ReadLemmas.{newline_is}
use Rattle.http_wire.proofs.state.State.newline_byte.Goals as goal

pub returns-else-count_extra-clause-place : goal.returns-else-count_extra-clause-place
returns-else-count_extra-clause-place c = λ body is. ap (InLine []) (c.count_extra.ensures.counted body c.if-count_extra.false)
    ∙ sym (newline_is c.args.self.now.limit c.args.b (gathered_of c.args.self.now body) c.if-b-ne10.false (sym (c.count_extra.ensures.padded body is) ∙ c.if-count_extra.false))
