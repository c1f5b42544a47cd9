use Rattle.std.proofs.Common.{refl, ◌∙◌}
use Rattle.tpf_server.proofs.Readings.{at_read, begins, ends, goes_on, stops, waits}
use Rattle.tpf_server.specs.declared.reading.HeadRead.TheVariants.{Nothing, Answered, Reload}
use Rattle.tpf_server.proofs.owed.Debt.read_heads.Goals as goal

pub loop-closes-init : goal.loop-closes-init
loop-closes-init c = (begins c.args.server.now c.args.self.now.waiting.items c.args.requests.now c.requires, refl)

pub returns-in-Nothing-clause-ok : goal.returns-in-Nothing-clause-ok
returns-in-Nothing-clause-ok c =
    let read = at_read c.args.server.now c.loop-closes.requests c.read_head.new.requests c.loop-closes.self.waiting.items c.read_head.new.self.waiting.items c.in_ok-read_head.field-0 Nothing c.in-Nothing.is c.in_ok-read_head.ensures.ok in
    stops c.args.server.now c.args.requests.now.bytes c.args.self.now.waiting.items c.loop-closes.self.waiting.items c.read_head.new.self.waiting.items c.loop-closes.requests c.read_head.new.requests c.loop-closes.invariant.0 read.0 read.1.0 read.1.1

pub returns-in-Reload-clause-ok : goal.returns-in-Reload-clause-ok
returns-in-Reload-clause-ok c =
    let read = at_read c.args.server.now c.loop-closes.requests c.read_head.new.requests c.loop-closes.self.waiting.items c.read_head.new.self.waiting.items c.in_ok-read_head.field-0 (Reload c.in-Reload.closes) c.in-Reload.is c.in_ok-read_head.ensures.ok in
    waits c.args.server.now c.args.requests.now.bytes c.args.self.now.waiting.items c.loop-closes.self.waiting.items c.read_head.new.self.waiting.items c.loop-closes.requests c.read_head.new.requests c.in-Reload.closes c.loop-closes.invariant.0 read.0 read.1.0 read.1.1

pub returns-in-Answered-true-clause-ok : goal.returns-in-Answered-true-clause-ok
returns-in-Answered-true-clause-ok c =
    let read = at_read c.args.server.now c.loop-closes.requests c.read_head.new.requests c.loop-closes.self.waiting.items c.read_head.new.self.waiting.items c.in_ok-read_head.field-0 (Answered c.in-Answered-true.field-0) c.in-Answered-true.is c.in_ok-read_head.ensures.ok in
    ends c.args.server.now c.args.requests.now.bytes c.args.self.now.waiting.items c.loop-closes.self.waiting.items c.read_head.new.self.waiting.items c.loop-closes.requests c.read_head.new.requests c.in-Answered-true.field-0 c.in-Answered-true.field-0-test c.loop-closes.invariant.0 read

pub loop-closes-preserved : goal.loop-closes-preserved
loop-closes-preserved c =
    let read = at_read c.args.server.now c.loop-closes.requests c.read_head.new.requests c.loop-closes.self.waiting.items c.read_head.new.self.waiting.items c.in_ok-read_head.field-0 (Answered c.in-Answered-false.field-0) c.in-Answered-false.is c.in_ok-read_head.ensures.ok in
    (goes_on c.args.server.now c.args.requests.now.bytes c.args.self.now.waiting.items c.loop-closes.self.waiting.items c.read_head.new.self.waiting.items c.loop-closes.requests c.read_head.new.requests c.in-Answered-false.field-0 c.in-Answered-false.field-0-test c.loop-closes.invariant.0 read, c.in_ok-read_head.ensures.rest ∙ c.loop-closes.invariant.1)
