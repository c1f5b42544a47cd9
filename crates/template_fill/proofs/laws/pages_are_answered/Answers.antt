use Rattle.template_fill.proofs.Answered.{pages_are_given, answered_give_pages, one_page_is_asked}
use Rattle.template_fill.proofs.laws.pages_are_answered.Goals as goal

pub returns-clause-given : goal.returns-clause-given
returns-clause-given c = pages_are_given

pub returns-clause-answered : goal.returns-clause-answered
returns-clause-answered c = answered_give_pages

pub returns-clause-one : goal.returns-clause-one
returns-clause-one c = one_page_is_asked
