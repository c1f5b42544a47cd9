use Rattle.std.proofs.Common.{◌≡◌, nat_le, true, false, [], ◌∷◌, take, refl, sym, ◌∙◌, arith}
use Rattle.std.proofs.lemmas.Bool.Decides.{nat_tests}
use Rattle.request_plan.specs.declared.block.TheConstants.{LONGEST_TARGET}
use Rattle.request_plan.specs.Blocks.{form_cut}
use Rattle.request_plan.proofs.Grown.{grows-on, grows-no-more, grown-whole, grows-to-longest, target-more}
use Rattle.request_plan.proofs.block.fitting.Goals as goal

pub loop-count-init : goal.loop-count-init
loop-count-init c =
    let some = c.requires.some in
    let within = c.requires.within in
    record {
      low = omega arith;
      high = some;
      target = target-more c.args.form.now c.args.pattern.now c.args.rows.now 0 _ c.add.new.self (omega (arith, some, within)) c.index-rows-0.is (c.in_ok-add.ensures c.args.form.now (take 0 c.args.rows.now) c.in_ok-target.ensures);
      front = λ n. refl;
    }

pub returns-then-target-gt-LONGEST_TARGET-clause-front :
    goal.returns-then-target-gt-LONGEST_TARGET-clause-front
returns-then-target-gt-LONGEST_TARGET-clause-front c = λ n.
    let had = c.loop-count.invariant in
    let long : nat_le c.add-in-loop-count.new.self.length LONGEST_TARGET ≡ false = grind (arith, nat_tests, c.if-target-gt-LONGEST_TARGET.true) in
    let more = c.in_ok-add-2.ensures c.args.form.now (take c.loop-count.count c.args.rows.now) had.target in
    let ends = grows-no-more c.args.form.now n c.args.pattern.now c.args.rows.now c.loop-count.count c.args.most _ c.add-in-loop-count.new.self had.low c.loop-count-test.true c.requires.within c.index-rows-count.is more long in
    sym ends ∙ had.front n ∙ grows-to-longest c.args.form.now n (c.args.pattern.now ∷ []) c.args.rows.now c.args.most (had.target.alone, tt)

pub loop-count-preserved : goal.loop-count-preserved
loop-count-preserved c =
    let had = c.loop-count.invariant in
    let below = c.loop-count-test.true in
    let within = c.requires.within in
    let short : nat_le c.add-in-loop-count.new.self.length LONGEST_TARGET ≡ true = grind (arith, nat_tests, c.if-target-gt-LONGEST_TARGET.false) in
    let more = c.in_ok-add-2.ensures c.args.form.now (take c.loop-count.count c.args.rows.now) had.target in
    record {
      low = omega arith;
      high = omega (arith, below);
      target = target-more c.args.form.now c.args.pattern.now c.args.rows.now c.loop-count.count _ c.add-in-loop-count.new.self (omega (arith, below, within)) c.index-rows-count.is more;
      front = λ n.
          sym (grows-on c.args.form.now n c.args.pattern.now c.args.rows.now c.loop-count.count c.args.most _ c.add-in-loop-count.new.self had.low below within c.index-rows-count.is more short) ∙ had.front n;
    }

pub returns-clause-front : goal.returns-clause-front
returns-clause-front c = λ n.
    let had = c.loop-count.invariant in
    let top : c.loop-count.count ≡ c.args.most = let high = had.high in let end = c.loop-count-test.false in omega (arith, high, end) in
    sym (grown-whole (form_cut c.args.form.now n) (c.args.pattern.now ∷ []) c.args.rows.now c.loop-count.count c.args.most top) ∙ had.front n
    ∙ grows-to-longest c.args.form.now n (c.args.pattern.now ∷ []) c.args.rows.now c.args.most (had.target.alone, tt)
