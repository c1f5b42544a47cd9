use Rattle.std.proofs.Common.{◌≡◌, false, true, sym, ◌∙◌}
use Rattle.std.specs.Option.{option_copied}
use Rattle.template_fill.specs.Templates.{is_word, is_name}
use Rattle.template_fill.proofs.Sections.{all-step, all-stop, left_over-after}
use Rattle.template_fill.proofs.part.is_name.Goals as goal

pub returns-then-not-is_word : goal.returns-then-not-is_word
unfolding is_name
returns-then-not-is_word c =
    let stop : is_word c.cut.result.0.now ≡ false = cc in
    let inv = rw c.in-Some.is at c.loop-rest.invariant in
    sym (inv ∙ all-stop is_word 46 c.in-Some.words.now c.cut.result.0.now c.cut.ensures.before stop)

pub loop-rest-smaller : goal.loop-rest-smaller
loop-rest-smaller c =
    let less = left_over-after 46 c.in-Some.words.now in
    rw (c.in-Some.is, c.cut.ensures.after) less

pub loop-rest-preserved : goal.loop-rest-preserved
loop-rest-preserved c =
    let passes : is_word c.cut.result.0.now ≡ true = cc in
    let inv = rw c.in-Some.is at c.loop-rest.invariant in
    inv ∙ all-step is_word 46 c.in-Some.words.now c.cut.result.0.now (option_copied c.cut.result.1) c.cut.ensures.before c.cut.ensures.after passes
