-- The texts are those that the last call gives.
use Rattle.own_controls.proofs.Nothing.{none_given}
use Rattle.own_controls.proofs.own.texts_in.Goals as goal

pub returns-in_err-second-clause-base : goal.returns-in_err-second-clause-base
returns-in_err-second-clause-base c = none_given _ _ c.from_residual.ensures

pub returns-in_err-second-clause-first : goal.returns-in_err-second-clause-first
returns-in_err-second-clause-first c = none_given _ _ c.from_residual.ensures

pub returns-in_err-second-clause-template : goal.returns-in_err-second-clause-template
returns-in_err-second-clause-template c = none_given _ _ c.from_residual.ensures

pub returns-in_err-template-clause-base : goal.returns-in_err-template-clause-base
returns-in_err-template-clause-base c = none_given _ _ c.from_residual-in_err-template.ensures

pub returns-in_err-template-clause-first : goal.returns-in_err-template-clause-first
returns-in_err-template-clause-first c = none_given _ _ c.from_residual-in_err-template.ensures

pub returns-in_err-template-clause-template : goal.returns-in_err-template-clause-template
returns-in_err-template-clause-template c = none_given _ _ c.from_residual-in_err-template.ensures

pub returns-in_err-base-clause-base : goal.returns-in_err-base-clause-base
returns-in_err-base-clause-base c = none_given _ _ c.from_residual-in_err-base.ensures

pub returns-in_err-base-clause-first : goal.returns-in_err-base-clause-first
returns-in_err-base-clause-first c = none_given _ _ c.from_residual-in_err-base.ensures

pub returns-in_err-base-clause-template : goal.returns-in_err-base-clause-template
returns-in_err-base-clause-template c = none_given _ _ c.from_residual-in_err-base.ensures

pub returns-in_err-first-clause-base : goal.returns-in_err-first-clause-base
returns-in_err-first-clause-base c = none_given _ _ c.from_residual-in_err-first.ensures

pub returns-in_err-first-clause-first : goal.returns-in_err-first-clause-first
returns-in_err-first-clause-first c = none_given _ _ c.from_residual-in_err-first.ensures

pub returns-in_err-first-clause-template : goal.returns-in_err-first-clause-template
returns-in_err-first-clause-template c = none_given _ _ c.from_residual-in_err-first.ensures

pub returns-in_err-text_to-clause-base : goal.returns-in_err-text_to-clause-base
returns-in_err-text_to-clause-base c = none_given _ _ c.from_residual-in_err-text_to.ensures

pub returns-in_err-text_to-clause-first : goal.returns-in_err-text_to-clause-first
returns-in_err-text_to-clause-first c = none_given _ _ c.from_residual-in_err-text_to.ensures

pub returns-in_err-text_to-clause-template : goal.returns-in_err-text_to-clause-template
returns-in_err-text_to-clause-template c = none_given _ _ c.from_residual-in_err-text_to.ensures

pub returns-clause-base : goal.returns-clause-base
returns-clause-base c = c.texts_of.ensures.base

pub returns-clause-first : goal.returns-clause-first
returns-clause-first c = c.texts_of.ensures.first

pub returns-clause-template : goal.returns-clause-template
returns-clause-template c = c.texts_of.ensures.template
