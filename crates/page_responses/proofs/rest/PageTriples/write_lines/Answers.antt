-- Each line that has room comes behind the others.
use Rattle.std.proofs.Common.{arith, sym}
use Rattle.list_laws.proofs.Begins.{begins_on}
use Rattle.page_responses.specs.PageRests.{lines_text}
use Rattle.page_responses.proofs.RestLaws.{more_again}
use Rattle.std.proofs.lemmas.Result.{IfOk-from_err}
use Rattle.page_responses.proofs.rest.PageTriples.write_lines.Goals as goal

pub write_short-requires-clause-part : goal.write_short-requires-clause-part
write_short-requires-clause-part c = c.loop-out.invariant.1

pub write_short-requires-clause-some : goal.write_short-requires-clause-some
write_short-requires-clause-some c = sym c.loop-out-test.ensures

pub returns-in_err-write_short-clause-ok : goal.returns-in_err-write_short-clause-ok
returns-in_err-write_short-clause-ok c = IfOk-from_err _ _ c.from_residual.ensures.0

pub returns-in_err-write_short-clause-part : goal.returns-in_err-write_short-clause-part
returns-in_err-write_short-clause-part c = c.write_short.ensures.part

pub returns-in_err-write_short-clause-front : goal.returns-in_err-write_short-clause-front
returns-in_err-write_short-clause-front c = begins_on c.args.out.now.items c.loop-out.out.items c.write_short.new.out.items c.loop-out.invariant.2 c.write_short.ensures.front

pub returns-then-not-branch-clause-ok : goal.returns-then-not-branch-clause-ok
returns-then-not-branch-clause-ok c =
    more_again c.args.room _ (lines_text c.args.table.now c.args.self.now) (lines_text c.args.table.now c.loop-out.self) (lines_text c.args.table.now c.write_short.new.self) c.args.out.now.items c.loop-out.out.items c.write_short.new.out.items
    (omega arith) c.loop-out.invariant.0 c.in_ok-write_short.ensures.ok

pub returns-then-not-branch-clause-part : goal.returns-then-not-branch-clause-part
returns-then-not-branch-clause-part c = c.write_short.ensures.part

pub returns-then-not-branch-clause-front : goal.returns-then-not-branch-clause-front
returns-then-not-branch-clause-front c = begins_on c.args.out.now.items c.loop-out.out.items c.write_short.new.out.items c.loop-out.invariant.2 c.write_short.ensures.front

pub loop-out-preserved : goal.loop-out-preserved
loop-out-preserved c = (
  more_again c.args.room _ (lines_text c.args.table.now c.args.self.now) (lines_text c.args.table.now c.loop-out.self) (lines_text c.args.table.now c.write_short.new.self) c.args.out.now.items c.loop-out.out.items c.write_short.new.out.items
      (omega arith) c.loop-out.invariant.0 c.in_ok-write_short.ensures.ok,
  c.write_short.ensures.part,
  begins_on c.args.out.now.items c.loop-out.out.items c.write_short.new.out.items c.loop-out.invariant.2 c.write_short.ensures.front,
)

pub returns-clause-ok : goal.returns-clause-ok
returns-clause-ok c = c.loop-out.invariant.0

pub returns-clause-part : goal.returns-clause-part
returns-clause-part c = c.loop-out.invariant.1

pub returns-clause-front : goal.returns-clause-front
returns-clause-front c = c.loop-out.invariant.2
