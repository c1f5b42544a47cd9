-- What was appended, and the lines that are left, are all lines from the place on.
use Rattle.std.proofs.Common.{◌++◌, refl, arith}
use Rattle.std.proofs.lemmas.Result.{IfOk-from_err}
use Rattle.list_laws.proofs.Begins.{itself_begins, begins_on}
use Rattle.hydra_controls.specs.Facts.{quads_of}
use Rattle.hydra_controls.specs.LineTexts.{text_of_line}
use Rattle.hydra_controls.proofs.WholeLaws.{line_appended, lines_appended, lines_from}
use Rattle.hydra_controls.proofs.facts.PageFacts.append_from.Goals as goal

pub loop-i-init : goal.loop-i-init
loop-i-init c = (refl, itself_begins c.args.out.now.items)

pub line-requires-clause-facts : goal.line-requires-clause-facts
line-requires-clause-facts c = c.requires

pub line-requires-clause-within : goal.line-requires-clause-within
line-requires-clause-within c = omega (arith, c.loop-i-test.true, c.quad_count-i-end.ensures.count)

pub returns-in_err-append-clause-ok : goal.returns-in_err-append-clause-ok
returns-in_err-append-clause-ok c = IfOk-from_err _ _ c.from_residual.ensures.0

pub returns-in_err-append-clause-front : goal.returns-in_err-append-clause-front
returns-in_err-append-clause-front c = begins_on c.args.out.now.items c.loop-i.out.items c.append.new.out.items c.loop-i.invariant.1 c.append.ensures.front

pub loop-i-preserved : goal.loop-i-preserved
loop-i-preserved c = (
  line_appended (quads_of c.args.self) c.loop-i.i (c.args.out.now.items ++ lines_from (quads_of c.args.self) c.args.place) c.loop-i.out.items c.append.new.out.items (text_of_line c.line.result)
      (omega (arith, c.loop-i-test.true, c.quad_count-i-end.ensures.count)) c.line.ensures c.in_ok-append.ensures.ok c.loop-i.invariant.0,
  begins_on c.args.out.now.items c.loop-i.out.items c.append.new.out.items c.loop-i.invariant.1 c.in_ok-append.ensures.front,
)

pub returns-clause-ok : goal.returns-clause-ok
returns-clause-ok c =
    lines_appended (quads_of c.args.self) c.loop-i.i (c.args.out.now.items ++ lines_from (quads_of c.args.self) c.args.place) c.loop-i.out.items
    (omega (arith, c.loop-i-test.false, c.quad_count-i-end.ensures.count)) c.loop-i.invariant.0

pub returns-clause-front : goal.returns-clause-front
returns-clause-front c = c.loop-i.invariant.1
