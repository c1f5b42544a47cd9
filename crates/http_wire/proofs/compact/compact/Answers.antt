use Rattle.std.proofs.Common.{◌∙◌, arith}
use Rattle.http_wire.proofs.KeptLemmas.{moved_first, moved_over, moved_out}
use Rattle.http_wire.proofs.compact.compact.Goals as goal
use Rattle.http_wire.proofs.compact.compact.Goals.{then-loop-at-test+else-is_open, else-loop-at-test}

pub loop-at-init : goal.loop-at-init
loop-at-init c = record {
  limit = c.new-state.ensures.limit;
  moved = moved_first c.new-state.result c.args.bytes.now.items c.new-state.ensures.stage c.new-state.ensures.passed c.new-state.ensures.begins c.new-state.ensures.count;
}

pub loop-at-preserved : goal.loop-at-preserved
loop-at-preserved c = record {
  limit = c.move_on-at.ensures.limit ∙ c.loop-at.invariant.limit;
  moved = c.move_on-at.ensures.moves _ c.loop-at.invariant.moved;
}

pub returns : goal.returns
returns c = λ g is.
    let v = c.loop-at.invariant.moved in
    let within = v.within in
    elim c.loop-at-test.branch [
      | then-loop-at-test+else-is_open w ↦
          (let e = moved_over _ _ _ _ _ g c.loop-at.invariant.limit v (λ passed held h. w.is_open.ensures passed held h ∙ w.if-is_open.false) is in
          (c.truncate.ensures.items ∙ e.0, e.1))
      | else-loop-at-test w ↦
          (let end = w.loop-at-test.false in
          let count = c.len.ensures in
          let e = moved_out _ _ _ _ _ g c.loop-at.invariant.limit v (omega arith) is in
          (c.truncate.ensures.items ∙ e.0, e.1))
    ]
