-- The step has a block, or none.
use Rattle.std.proofs.lemmas.Result.{on_ok_weaker}
use Rattle.tpf_client.proofs.Shutting.{if-err-from}
use Rattle.group_patterns.proofs.Progressing.{step-none, step-some}
use Rattle.group_patterns.proofs.asking.Asking.ask_step.Goals as goal

pub returns-in-None-clause-ok : goal.returns-in-None-clause-ok
returns-in-None-clause-ok g c = step-none (g.W.Wire.allows c.args.wire.now) c.args.calls.now.options.now c.args.calls.now.start.now c.args.calls.now.names.now _ c.args.self.now (g.W.Wire.state c.args.wire.now) c.in-None.ensures

pub returns-in-Some-clause-ok : goal.returns-in-Some-clause-ok
returns-in-Some-clause-ok g c =
    on_ok_weaker c.ask_block.result (λ a. step-some (g.W.Wire.allows c.args.wire.now) c.args.calls.now.options.now c.args.calls.now.start.now c.args.calls.now.names.now _ c.in-Some.patterns.now c.args.self.now c.ask_block.new.self (g.W.Wire.state c.args.wire.now) (g.W.Wire.state c.ask_block.new.wire) c.in-Some.ensures a) c.ask_block.ensures.ok

pub returns-in-Some-clause-err : goal.returns-in-Some-clause-err
returns-in-Some-clause-err g c = if-err-from c.ask_block.result _ _ c.ask_block.ensures.err (λ fault e. record { ps = c.in-Some.patterns.now; is_block = c.in-Some.ensures; ends = e })
