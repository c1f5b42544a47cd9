-- The head is that of a page, or that of the fields, and it is short.
use Rattle.std.proofs.Common.{◌≡◌, List, ℕ, ◌++◌, ◌∙◌, ap, ap₂, subst}
use Rattle.std.specs.Prelude.{OnOk}
use Rattle.tpf_base.specs.HttpText.{answer_head}
use Rattle.http_wire.specs.Fields.{pairs_of}
use Rattle.page_responses.specs.Statuses.{media_of}
use Rattle.page_responses.proofs.HeadLaws.{head_is, page_head_is, short_head}
use Rattle.std.proofs.lemmas.Result.{IfOk-from_err}
use Rattle.list_laws.proofs.Begins.{itself_begins}
use Rattle.page_responses.proofs.head.write_answer_head.Goals as goal

pub returns-then-is_page-clause-ok : goal.returns-then-is_page-clause-ok
returns-then-is_page-clause-ok c =
    let is = c.is_page.ensures c.if-is_page.true in
    subst (λ (x : List ℕ). OnOk c.write_page_head.result (c.write_page_head.new.out.items ≡ c.args.out.now.items ++ x))
    (page_head_is c.args.status c.args.media c.args.body_length c.args.closes is.0 is.1.0 is.1.1) c.write_page_head.ensures.ok

pub returns-then-is_page-clause-few : goal.returns-then-is_page-clause-few
returns-then-is_page-clause-few c = short_head c.args.status (media_of c.args.media) c.args.body_length c.args.closes c.ranges.body_length.fits

pub returns-then-is_page-clause-front : goal.returns-then-is_page-clause-front
returns-then-is_page-clause-front c = c.write_page_head.ensures.front

pub returns-in_err-fields-clause-ok : goal.returns-in_err-fields-clause-ok
returns-in_err-fields-clause-ok c = IfOk-from_err _ _ c.from_residual.ensures.0

pub returns-in_err-fields-clause-few : goal.returns-in_err-fields-clause-few
returns-in_err-fields-clause-few c = short_head c.args.status (media_of c.args.media) c.args.body_length c.args.closes c.ranges.body_length.fits

pub returns-in_err-fields-clause-front : goal.returns-in_err-fields-clause-front
returns-in_err-fields-clause-front c = itself_begins c.args.out.now.items

pub returns-clause-ok : goal.returns-clause-ok
returns-clause-ok c =
    subst (λ (x : List ℕ). OnOk c.write_head.result (c.write_head.new.out.items ≡ c.args.out.now.items ++ x))
    (ap₂ (λ (d p : List ℕ). answer_head d p (pairs_of c.as_slice.result.now)) c.as_str.ensures c.phrase_of.ensures
    ∙ head_is c.args.status (media_of c.args.media) c.code-code.result c.args.body_length c.args.closes (pairs_of c.as_slice.result.now) c.code-code.ensures (ap pairs_of c.as_slice.ensures.value ∙ c.in_ok-fields.ensures))
    c.write_head.ensures.ok

pub returns-clause-few : goal.returns-clause-few
returns-clause-few c = short_head c.args.status (media_of c.args.media) c.args.body_length c.args.closes c.ranges.body_length.fits
