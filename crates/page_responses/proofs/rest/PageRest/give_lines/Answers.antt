-- A line, or a part of one, and the lines behind it are a part together.
use Rattle.std.proofs.Common.{arith}
use Rattle.page_responses.specs.PageRests.{page_text}
use Rattle.page_responses.proofs.RestLaws.{given_more}
use Rattle.std.proofs.lemmas.Result.{IfOk-from_err}
use Rattle.list_laws.proofs.Begins.{begins_on}
use Rattle.page_responses.proofs.rest.PageRest.give_lines.Goals as goal

pub give_line-requires-clause-part : goal.give_line-requires-clause-part
give_line-requires-clause-part c = c.requires.part

pub give_line-requires-clause-some : goal.give_line-requires-clause-some
give_line-requires-clause-some c = c.requires.some

pub returns-in_err-give_line-clause-ok : goal.returns-in_err-give_line-clause-ok
returns-in_err-give_line-clause-ok c = IfOk-from_err _ _ c.from_residual.ensures.0

pub returns-in_err-give_line-clause-part : goal.returns-in_err-give_line-clause-part
returns-in_err-give_line-clause-part c = c.give_line.ensures.part

pub returns-in_err-give_line-clause-front : goal.returns-in_err-give_line-clause-front
returns-in_err-give_line-clause-front c = c.give_line.ensures.front

pub give_more-requires : goal.give_more-requires
give_more-requires c = c.give_line.ensures.part

pub returns-in_err-give_more-clause-ok : goal.returns-in_err-give_more-clause-ok
returns-in_err-give_more-clause-ok c = IfOk-from_err _ _ c.from_residual-in_err-give_more.ensures.0

pub returns-in_err-give_more-clause-part : goal.returns-in_err-give_more-clause-part
returns-in_err-give_more-clause-part c = c.give_more.ensures.part

pub returns-in_err-give_more-clause-front : goal.returns-in_err-give_more-clause-front
returns-in_err-give_more-clause-front c = begins_on c.args.out.now.items c.give_line.new.out.items c.give_more.new.out.items c.give_line.ensures.front c.give_more.ensures.front

pub returns-clause-ok : goal.returns-clause-ok
returns-clause-ok c =
    given_more _ (page_text c.args.self.now) (page_text c.give_line.new.self) (page_text c.give_more.new.self) c.args.out.now.items c.give_line.new.out.items c.give_more.new.out.items
    (omega arith) c.in_ok-give_line.ensures.ok c.in_ok-give_more.ensures.ok

pub returns-clause-part : goal.returns-clause-part
returns-clause-part c = c.give_more.ensures.part

pub returns-clause-front : goal.returns-clause-front
returns-clause-front c = begins_on c.args.out.now.items c.give_line.new.out.items c.give_more.new.out.items c.give_line.ensures.front c.give_more.ensures.front
