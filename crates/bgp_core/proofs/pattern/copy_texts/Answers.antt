-- Each turn adds the copy of one text.
use Rattle.std.proofs.Common.{◌∙◌}
use Rattle.std.proofs.lemmas.List.{take_all}
use Rattle.std.proofs.lemmas.Result.{IfOk-from_err}
use Rattle.bgp_core.proofs.Steps.{copied_more}
use Rattle.bgp_core.proofs.pattern.copy_texts.Goals as goal

pub returns-in_err-copy : goal.returns-in_err-copy
returns-in_err-copy c = IfOk-from_err _ _ c.from_residual.ensures.0

pub loop-text-init : goal.loop-text-init
loop-text-init c = c.in_ok-copy.ensures.items

pub bounds-texts-text-index : goal.bounds-texts-text-index
bounds-texts-text-index c = c.loop-text-test.true

pub returns-in_err-copy-2 : goal.returns-in_err-copy-2
returns-in_err-copy-2 c = IfOk-from_err _ _ c.from_residual-in_err-copy-2.ensures.0

pub returns-in_err-push : goal.returns-in_err-push
returns-in_err-push c = IfOk-from_err _ _ c.from_residual-in_err-push.ensures.0

pub loop-text-preserved : goal.loop-text-preserved
loop-text-preserved c =
    copied_more c.args.texts.now c.loop-text.text-index c.text-item.result c.loop-text-test.true c.text-item.is c.loop-text.copy.items c.push.new.self.items c.in_ok-copy-2.field-0 (c.in_ok-copy-2.ensures ∙ c.as_str.ensures.value) c.loop-text.invariant c.in_ok-push.ensures.items

pub returns : goal.returns
returns c = c.loop-text.invariant ∙ take_all _ _ c.loop-text-test.false
