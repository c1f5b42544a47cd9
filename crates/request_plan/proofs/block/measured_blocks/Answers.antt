use Rattle.std.proofs.Common.{ℕ, suc, ◌≡◌, ◌+◌, take, drop, drop-cons, get_or, refl, ap, sym, ◌∙◌, arith}
use Rattle.std.proofs.lemmas.List.{drop_all}
use Rattle.request_plan.specs.Blocks.{forms_cut}
use Rattle.request_plan.specs.Targets.{block_lengths}
use Rattle.request_plan.proofs.Cuts.{length-some, length-within}
use Rattle.request_plan.proofs.Lengths.{moved, block-moved, all-moved}
use Rattle.request_plan.proofs.block.measured_blocks.Goals as goal

pub push_block-requires-clause-some : goal.push_block-requires-clause-some
push_block-requires-clause-some c =
    let cut = forms_cut c.args.cut.now.forms c.args.cut.now.block in
    let lengths = c.deref-length-items.result.now in
    let i = c.loop-length.length-index in
    let m = moved cut c.args.rest.now c.loop-length.left.items (get_or lengths i 0) (drop (suc i) lengths) (sym (drop-cons lengths i 0 c.loop-length-test.true) ∙ c.loop-length.invariant.lengths) in
    let some = length-some cut c.args.rest.now c.loop-length.left.items in
    omega (arith, some, m.1)

pub push_block-requires-clause-within : goal.push_block-requires-clause-within
push_block-requires-clause-within c =
    let cut = forms_cut c.args.cut.now.forms c.args.cut.now.block in
    let lengths = c.deref-length-items.result.now in
    let i = c.loop-length.length-index in
    let m = moved cut c.args.rest.now c.loop-length.left.items (get_or lengths i 0) (drop (suc i) lengths) (sym (drop-cons lengths i 0 c.loop-length-test.true) ∙ c.loop-length.invariant.lengths) in
    let within = length-within cut c.args.rest.now c.loop-length.left.items m.0 in
    omega (arith, within, m.1)

pub loop-length-preserved : goal.loop-length-preserved
loop-length-preserved c =
    let cut = forms_cut c.args.cut.now.forms c.args.cut.now.block in
    let lengths = c.deref-length-items.result.now in
    let left = c.loop-length.left.items in
    let i = c.loop-length.length-index in
    let m = moved cut c.args.rest.now left (get_or lengths i 0) (drop (suc i) lengths) (sym (drop-cons lengths i 0 c.loop-length-test.true) ∙ c.loop-length.invariant.lengths) in
    let one : i + 1 ≡ suc i = omega arith in
    let rest = c.in_ok-push_block.ensures.left in
    record {
      lengths = ap (λ (k : ℕ). drop k lengths) one ∙ m.2 ∙ ap (λ l. block_lengths cut c.args.rest.now l) (sym rest);
      blocks = block-moved cut c.args.rest.now left c.push_block.new.rows.items (get_or lengths i 0) _ c.push_block.new.into.items _ (take (get_or lengths i 0) left) m.0 m.1 refl rest c.in_ok-push_block.ensures.block c.loop-length.invariant.blocks;
    }

pub returns : goal.returns
returns c =
    let cut = forms_cut c.args.cut.now.forms c.args.cut.now.block in
    let lengths = c.deref-length-items.result.now in
    let end = c.loop-length-test.false in
    all-moved cut c.args.rest.now c.loop-length.left.items _ _ (sym (drop_all c.loop-length.length-index lengths (omega (arith, end))) ∙ c.loop-length.invariant.lengths) c.loop-length.invariant.blocks
