use Rattle.std.proofs.Common.{ℕ, List, [], ◌∷◌, ◌++◌, subst}
use Rattle.std.proofs.lemmas.Result.{on_ok_weaker}
use Rattle.list_laws.proofs.Begins.{begins_on}
use Rattle.page_responses.specs.Parts.{CutsMarks, plain_marks}
use Rattle.page_responses.proofs.PartLaws.{cuts_then}
use Rattle.page_responses.proofs.parts.cut_iri.Goals as goal

pub returns-clause-ok : goal.returns-clause-ok
returns-clause-ok c =
    on_ok_weaker c.cut_plain-3.result
    (λ (last : CutsMarks c.cut_plain-2.new.cut c.cut_plain-3.new.cut (plain_marks (62 ∷ [])) c.cut_plain-2.new.out.items c.cut_plain-3.new.out.items). cuts_then c.args.cut.now c.cut_plain.new.cut c.cut_plain-3.new.cut (plain_marks (60 ∷ [])) (plain_marks c.args.text.now ++ plain_marks (62 ∷ [])) c.args.out.now.items c.cut_plain.new.out.items c.cut_plain-3.new.out.items
    c.in_ok-cut_plain.ensures.ok
    (cuts_then c.cut_plain.new.cut c.cut_plain-2.new.cut c.cut_plain-3.new.cut (plain_marks c.args.text.now) (plain_marks (62 ∷ [])) c.cut_plain.new.out.items c.cut_plain-2.new.out.items c.cut_plain-3.new.out.items
    (subst (λ (t : List ℕ). CutsMarks c.cut_plain.new.cut c.cut_plain-2.new.cut (plain_marks t) c.cut_plain.new.out.items c.cut_plain-2.new.out.items) c.as_bytes.ensures.value c.in_ok-cut_plain-2.ensures.ok)
    last))
    c.cut_plain-3.ensures.ok

pub returns-in_err-cut_plain-2-clause-front : goal.returns-in_err-cut_plain-2-clause-front
returns-in_err-cut_plain-2-clause-front c = begins_on c.args.out.now.items c.cut_plain.new.out.items c.cut_plain-2.new.out.items c.in_ok-cut_plain.ensures.front c.in_err-cut_plain-2.ensures.front

pub returns-clause-front : goal.returns-clause-front
returns-clause-front c =
    let old = c.args.out.now.items in
    let one = c.cut_plain.new.out.items in
    let two = c.cut_plain-2.new.out.items in
    begins_on old two c.cut_plain-3.new.out.items (begins_on old one two c.in_ok-cut_plain.ensures.front c.in_ok-cut_plain-2.ensures.front) c.cut_plain-3.ensures.front
