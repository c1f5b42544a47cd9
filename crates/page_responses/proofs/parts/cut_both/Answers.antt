use Rattle.std.proofs.Common.{ℕ, List, subst}
use Rattle.std.proofs.lemmas.Result.{on_ok_weaker}
use Rattle.list_laws.proofs.Begins.{begins_on}
use Rattle.page_responses.specs.Parts.{CutsMarks, plain_marks}
use Rattle.page_responses.proofs.PartLaws.{cuts_then}
use Rattle.page_responses.proofs.parts.cut_both.Goals as goal

pub returns-clause-ok : goal.returns-clause-ok
returns-clause-ok c =
    on_ok_weaker c.cut_plain-2.result
    (λ (last : CutsMarks c.cut_plain.new.cut c.cut_plain-2.new.cut (plain_marks c.as_bytes.result.now) c.cut_plain.new.out.items c.cut_plain-2.new.out.items). cuts_then c.args.cut.now c.cut_plain.new.cut c.cut_plain-2.new.cut (plain_marks c.args.front.now) (plain_marks c.args.text.now) c.args.out.now.items c.cut_plain.new.out.items c.cut_plain-2.new.out.items
    c.in_ok-cut_plain.ensures.ok
    (subst (λ (t : List ℕ). CutsMarks c.cut_plain.new.cut c.cut_plain-2.new.cut (plain_marks t) c.cut_plain.new.out.items c.cut_plain-2.new.out.items) c.as_bytes.ensures.value last))
    c.cut_plain-2.ensures.ok

pub returns-clause-front : goal.returns-clause-front
returns-clause-front c = begins_on c.args.out.now.items c.cut_plain.new.out.items c.cut_plain-2.new.out.items c.in_ok-cut_plain.ensures.front c.cut_plain-2.ensures.front
