-- A block is asked with what is left.
use Rattle.std.proofs.Common.{ℕ, ◌≤◌, ap, subst}
use Rattle.group_query.specs.Trees.{block_query}
use Rattle.std.proofs.lemmas.Result.{on_ok_weaker}
use Rattle.tpf_client.proofs.Shutting.{if-err-from}
use Rattle.group_patterns.specs.Blocks.{BlockRows, with_budget, GivesRows}
use Rattle.group_patterns.specs.Asking.{Progress, CallEnds, InCall, NotKept}
use Rattle.group_patterns.proofs.Progressing.{kept-no-sink, block-no-sink}
use Rattle.group_patterns.proofs.asking.Asking.ask_block.Goals as goal

pub collect_block-requires-clause-bounds : goal.collect_block-requires-clause-bounds
collect_block-requires-clause-bounds g c = c.requires.bounds

pub keep-requires : goal.keep-requires
keep-requires g c = record { within = subst (λ (n : ℕ). c.in-Ok.report.requests ≤ n) (ap (λ (p : Progress). p.left) c.self.view_is) c.in-Ok.ensures.ok.acts.within }

pub returns-in-Ok-clause-ok : goal.returns-in-Ok-clause-ok
returns-in-Ok-clause-ok g c =
    let b : BlockRows = record { report = c.in-Ok.report; rows = c.in-Ok.rows.items } in
    on_ok_weaker c.keep.result (λ k. record {
      block = b;
      gives = subst (λ (n : ℕ). GivesRows (g.W.Wire.allows c.args.wire.now) (with_budget c.args.calls.now.options.now n) c.args.calls.now.start.now (block_query c.args.calls.now.names.now c.args.patterns.now) b (g.W.Wire.state c.args.wire.now) (g.W.Wire.state c.collect_block.new.wire)) (ap (λ (p : Progress). p.left) c.self.view_is)
          (subst (λ (m : ℕ). GivesRows (g.W.Wire.allows c.args.wire.now) (record c.args.calls.now.options.now { budget = c.self.inside.left; block = m }) c.args.calls.now.start.now (block_query c.args.calls.now.names.now c.args.patterns.now) b (g.W.Wire.state c.args.wire.now) (g.W.Wire.state c.collect_block.new.wire)) c.one.ensures c.in-Ok.ensures.ok);
      keeps = k;
    }) c.keep.ensures.ok

pub returns-in-Ok-clause-err : goal.returns-in-Ok-clause-err
returns-in-Ok-clause-err g c =
    let b : BlockRows = record { report = c.in-Ok.report; rows = c.in-Ok.rows.items } in
    if-err-from c.keep.result _ _ c.keep.ensures.err (λ fault k. NotKept b
    (subst (λ (n : ℕ). GivesRows (g.W.Wire.allows c.args.wire.now) (with_budget c.args.calls.now.options.now n) c.args.calls.now.start.now (block_query c.args.calls.now.names.now c.args.patterns.now) b (g.W.Wire.state c.args.wire.now) (g.W.Wire.state c.collect_block.new.wire)) (ap (λ (p : Progress). p.left) c.self.view_is)
    (subst (λ (m : ℕ). GivesRows (g.W.Wire.allows c.args.wire.now) (record c.args.calls.now.options.now { budget = c.self.inside.left; block = m }) c.args.calls.now.start.now (block_query c.args.calls.now.names.now c.args.patterns.now) b (g.W.Wire.state c.args.wire.now) (g.W.Wire.state c.collect_block.new.wire)) c.one.ensures c.in-Ok.ensures.ok)) k)

pub returns-in-Ok-clause-sink : goal.returns-in-Ok-clause-sink
returns-in-Ok-clause-sink g c = kept-no-sink (record { report = c.in-Ok.report; rows = c.in-Ok.rows.items }) c.args.self.now c.keep.result c.keep.ensures.err

pub returns-in-Err-clause-err : goal.returns-in-Err-clause-err
returns-in-Err-clause-err g c =
    InCall c.in-Err.fault c.of_block.ensures
    (subst (λ (n : ℕ). CallEnds (g.W.Wire.allows c.args.wire.now) (with_budget c.args.calls.now.options.now n) c.args.calls.now.start.now c.args.calls.now.names.now c.args.patterns.now c.in-Err.fault (g.W.Wire.state c.args.wire.now) (g.W.Wire.state c.collect_block.new.wire)) (ap (λ (p : Progress). p.left) c.self.view_is)
    (subst (λ (m : ℕ). CallEnds (g.W.Wire.allows c.args.wire.now) (record c.args.calls.now.options.now { budget = c.self.inside.left; block = m }) c.args.calls.now.start.now c.args.calls.now.names.now c.args.patterns.now c.in-Err.fault (g.W.Wire.state c.args.wire.now) (g.W.Wire.state c.collect_block.new.wire)) c.one.ensures c.in-Err.ensures.err))

pub returns-in-Err-clause-sink : goal.returns-in-Err-clause-sink
returns-in-Err-clause-sink g c = block-no-sink c.args.calls.now.options.now.budget c.in-Err.fault c.of_block.result c.of_block.ensures c.in-Err.ensures.sink
