use Rattle.std.proofs.Common.{sym, ap, ◌∙◌}
use Rattle.tpf_base.specs.HttpReply.{AtNewline}
use Rattle.http_wire.specs.Places.{gathered_of}
use Rattle.http_wire.proofs.ReadLemmas.{return_is}
use Rattle.http_wire.proofs.state.State.return_byte.Goals as goal

pub returns-else-count_extra-clause-place : goal.returns-else-count_extra-clause-place
returns-else-count_extra-clause-place c = λ body is. ap (AtNewline) (c.count_extra.ensures.counted body c.if-count_extra.false)
    ∙ sym (return_is c.args.self.now.limit c.args.b (gathered_of c.args.self.now body) c.if-b-ne13.false (sym (c.count_extra.ensures.padded body is) ∙ c.if-count_extra.false))
