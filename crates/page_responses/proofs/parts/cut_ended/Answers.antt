use Rattle.std.proofs.lemmas.Result.{on_ok_weaker}
use Rattle.list_laws.proofs.Begins.{begins_on}
use Rattle.page_responses.specs.Parts.{plain_marks, term_marks}
use Rattle.page_responses.proofs.PartLaws.{cuts_then}
use Rattle.page_responses.proofs.parts.cut_ended.Goals as goal

pub returns-clause-ok : goal.returns-clause-ok
returns-clause-ok c =
    on_ok_weaker c.cut_plain.result
    (cuts_then c.args.cut.now c.cut_term.new.cut c.cut_plain.new.cut (term_marks c.args.term.now) (plain_marks c.args.end.now) c.args.out.now.items c.cut_term.new.out.items c.cut_plain.new.out.items c.in_ok-cut_term.ensures.ok)
    c.cut_plain.ensures.ok

pub returns-clause-front : goal.returns-clause-front
returns-clause-front c = begins_on c.args.out.now.items c.cut_term.new.out.items c.cut_plain.new.out.items c.in_ok-cut_term.ensures.front c.cut_plain.ensures.front
