use Rattle.http_wire.proofs.ReadLemmas.{head_step}
use Rattle.http_wire.proofs.state.State.byte.Goals as goal

pub returns-in-Heads-clause-place : goal.returns-in-Heads-clause-place
returns-in-Heads-clause-place c = λ held body is count.
    head_step c.args.self.now c.head_byte.new.self c.head_byte.result c.args.line.now held body c.args.b c.in-Heads.is (c.args.self.now.fresh c.in-Heads.is) c.head_byte.ensures.part is count c.head_byte.ensures.place
