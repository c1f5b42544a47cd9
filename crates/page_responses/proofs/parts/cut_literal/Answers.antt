use Rattle.std.proofs.Common.{ℕ, List, [], ◌∷◌, ◌++◌, subst}
use Rattle.std.proofs.lemmas.Result.{on_ok_weaker}
use Rattle.list_laws.proofs.Begins.{begins_on}
use Rattle.rdf_terms.specs.Canon.{canonical_kind}
use Rattle.page_responses.specs.Parts.{CutsMarks, form_marks, plain_marks}
use Rattle.page_responses.proofs.PartLaws.{cuts_then}
use Rattle.page_responses.proofs.parts.cut_literal.Goals as goal

pub returns-clause-ok : goal.returns-clause-ok
returns-clause-ok c =
    let quote = plain_marks (34 ∷ []) in
    let kind = plain_marks (canonical_kind c.args.kind.now) in
    on_ok_weaker c.cut_kind.result
    (λ (last : CutsMarks c.cut_plain-2.new.cut c.cut_kind.new.cut kind c.cut_plain-2.new.out.items c.cut_kind.new.out.items). cuts_then c.args.cut.now c.cut_plain.new.cut c.cut_kind.new.cut quote (form_marks c.args.form.now ++ (quote ++ kind)) c.args.out.now.items c.cut_plain.new.out.items c.cut_kind.new.out.items
    c.in_ok-cut_plain.ensures.ok
    (cuts_then c.cut_plain.new.cut c.cut_form.new.cut c.cut_kind.new.cut (form_marks c.args.form.now) (quote ++ kind) c.cut_plain.new.out.items c.cut_form.new.out.items c.cut_kind.new.out.items
    (subst (λ (t : List ℕ). CutsMarks c.cut_plain.new.cut c.cut_form.new.cut (form_marks t) c.cut_plain.new.out.items c.cut_form.new.out.items) c.as_bytes.ensures.value c.in_ok-cut_form.ensures.ok)
    (cuts_then c.cut_form.new.cut c.cut_plain-2.new.cut c.cut_kind.new.cut quote kind c.cut_form.new.out.items c.cut_plain-2.new.out.items c.cut_kind.new.out.items c.in_ok-cut_plain-2.ensures.ok last)))
    c.cut_kind.ensures.ok

pub returns-in_err-cut_form-clause-front : goal.returns-in_err-cut_form-clause-front
returns-in_err-cut_form-clause-front c = begins_on c.args.out.now.items c.cut_plain.new.out.items c.cut_form.new.out.items c.in_ok-cut_plain.ensures.front c.in_err-cut_form.ensures.front

pub returns-in_err-cut_plain-2-clause-front : goal.returns-in_err-cut_plain-2-clause-front
returns-in_err-cut_plain-2-clause-front c =
    let old = c.args.out.now.items in
    let one = c.cut_plain.new.out.items in
    let two = c.cut_form.new.out.items in
    begins_on old two c.cut_plain-2.new.out.items (begins_on old one two c.in_ok-cut_plain.ensures.front c.in_ok-cut_form.ensures.front) c.in_err-cut_plain-2.ensures.front

pub returns-clause-front : goal.returns-clause-front
returns-clause-front c =
    let old = c.args.out.now.items in
    let one = c.cut_plain.new.out.items in
    let two = c.cut_form.new.out.items in
    let three = c.cut_plain-2.new.out.items in
    begins_on old three c.cut_kind.new.out.items (begins_on old two three (begins_on old one two c.in_ok-cut_plain.ensures.front c.in_ok-cut_form.ensures.front) c.in_ok-cut_plain-2.ensures.front) c.cut_kind.ensures.front
