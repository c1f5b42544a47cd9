use Rattle.std.proofs.Common.{[], ◌∷◌, ◌++◌}
use Rattle.std.proofs.lemmas.Result.{on_ok_weaker}
use Rattle.list_laws.proofs.Begins.{begins_on}
use Rattle.page_responses.specs.Parts.{CutsMarks, plain_marks}
use Rattle.page_responses.proofs.PartLaws.{cuts_then, datatype_cuts}
use Rattle.page_responses.proofs.parts.cut_datatype.Goals as goal

pub returns-clause-ok : goal.returns-clause-ok
returns-clause-ok c =
    on_ok_weaker c.cut_plain.result
    (λ (last : CutsMarks c.cut_both.new.cut c.cut_plain.new.cut (plain_marks (62 ∷ [])) c.cut_both.new.out.items c.cut_plain.new.out.items). datatype_cuts c.args.cut.now c.cut_plain.new.cut c.args.text.now c.args.out.now.items c.cut_plain.new.out.items
    (cuts_then c.args.cut.now c.cut_both.new.cut c.cut_plain.new.cut (plain_marks (94 ∷ 94 ∷ 60 ∷ []) ++ plain_marks c.args.text.now) (plain_marks (62 ∷ [])) c.args.out.now.items c.cut_both.new.out.items c.cut_plain.new.out.items c.in_ok-cut_both.ensures.ok last))
    c.cut_plain.ensures.ok

pub returns-clause-front : goal.returns-clause-front
returns-clause-front c = begins_on c.args.out.now.items c.cut_both.new.out.items c.cut_plain.new.out.items c.in_ok-cut_both.ensures.front c.cut_plain.ensures.front
