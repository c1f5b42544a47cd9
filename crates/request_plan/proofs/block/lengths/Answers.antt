use Rattle.std.proofs.Common.{◌≡◌, true, drop, arith}
use Rattle.std.proofs.lemmas.List.Elements.{All-drop, All-same}
use Rattle.request_plan.specs.Blocks.{form_cut}
use Rattle.request_plan.specs.Plans.{all_askable}
use Rattle.request_plan.proofs.Lengths.{lengths-moved}
use Rattle.request_plan.proofs.block.lengths.Goals as goal

pub loop-left-preserved : goal.loop-left-preserved
loop-left-preserved c =
    let left = c.loop-left.left.now in
    let n = c.in_ok-length.length in
    let found = c.in_ok-length.ensures in
    record {
      all = lengths-moved (form_cut c.args.form.now c.args.most) c.args.rest.now left c.split_at.result.1.now n _ _ _ (omega (arith, found.some, found.within)) found.length c.split_at.ensures.back c.in_ok-push.ensures.items c.loop-left.invariant.all;
      askable = All-same (λ row. all_askable row c.args.rest.now ≡ true) c.split_at.result.1.now (drop n left) c.split_at.ensures.back (All-drop (λ row. all_askable row c.args.rest.now ≡ true) n left c.loop-left.invariant.askable);
    }
