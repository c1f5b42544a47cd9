use Rattle.std.proofs.Common.{refl, ◌∙◌, arith}
use Rattle.http_wire.proofs.ReadLemmas.{along_first, along_more, along_over, along_out, few_behind}
use Rattle.http_wire.proofs.reply.run.Goals as goal
use Rattle.http_wire.proofs.reply.run.Goals.{then-loop-at-test+else-is_open, else-loop-at-test}

pub loop-at-init : goal.loop-at-init
loop-at-init c = record {
  later = omega arith;
  within = c.requires.within;
  limit = refl;
  begins = c.requires.begins;
  few = c.requires.few;
  runs = λ body is. along_first c.args.state.now c.args.bytes.now c.args.start body is;
}

pub loop-at-preserved : goal.loop-at-preserved
loop-at-preserved c =
    let v = c.loop-at.invariant in
    let r = c.read-at.ensures in
    let later = v.later in
    let more = r.more in
    record {
      later = omega arith;
      within = r.within;
      limit = r.limit ∙ v.limit;
      begins = r.begins;
      few = few_behind _ _ _ _ _ _ r v.begins v.few;
      runs = λ body is. along_more _ _ _ _ _ _ _ _ body v.limit v.later (v.runs body is) r;
    }

pub returns : goal.returns
returns c =
    let v = c.loop-at.invariant in
    let begins = v.begins in
    let within = v.within in
    λ body is. elim c.loop-at-test.branch [
      | then-loop-at-test+else-is_open w ↦ along_over _ _ _ _ _ body v.limit (omega arith) v.few (v.runs body is) (λ passed held g. w.is_open.ensures passed held g ∙ w.if-is_open.false)
      | else-loop-at-test w ↦ (let end = w.loop-at-test.false in along_out _ _ _ _ _ body v.limit (omega arith) v.few (v.runs body is) (omega arith))
    ]
