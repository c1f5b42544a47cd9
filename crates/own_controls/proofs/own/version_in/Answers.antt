-- The line is that of the version that its digits spell.
use Rattle.std.proofs.Common.{sym}
use Rattle.list_laws.proofs.Lists.{none_there}
use Rattle.own_controls.proofs.Pieces.{none_behind}
use Rattle.own_controls.proofs.Nothing.{none_given}
use Rattle.own_controls.proofs.own.version_in.Goals as goal

pub returns-in_err-text-clause-line : goal.returns-in_err-text-clause-line
returns-in_err-text-clause-line c = λ page ended. none_given _ _ c.from_residual.ensures

pub returns-in_err-text-clause-early : goal.returns-in_err-text-clause-early
returns-in_err-text-clause-early c = none_given _ _ c.from_residual.ensures

pub returns-in_err-version-clause-line : goal.returns-in_err-version-clause-line
returns-in_err-version-clause-line c = λ page ended. none_given _ _ c.from_residual-in_err-version.ensures

pub returns-in_err-version-clause-early : goal.returns-in_err-version-clause-early
returns-in_err-version-clause-early c = none_given _ _ c.from_residual-in_err-version.ensures

pub returns-in_err-rest-clause-line : goal.returns-in_err-rest-clause-line
returns-in_err-rest-clause-line c = λ page ended. none_given _ _ c.from_residual-in_err-rest.ensures

pub returns-in_err-rest-clause-early : goal.returns-in_err-rest-clause-early
returns-in_err-rest-clause-early c = none_given _ _ c.from_residual-in_err-rest.ensures

pub returns-then-is_empty-clause-line : goal.returns-then-is_empty-clause-line
returns-then-is_empty-clause-line c = λ page ended.
    none_behind c.args.bytes.now _ c.in_ok-rest.rest.now (c.in_ok-rest.ensures page c.in_ok-version.version ended (sym c.in_ok-version.ensures.digits))
    (none_there c.in_ok-rest.rest.now c.is_empty.result c.is_empty.ensures c.if-is_empty.true)
