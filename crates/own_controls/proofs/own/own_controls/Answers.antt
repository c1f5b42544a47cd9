-- The lines are those of the metadata of a page of our own.
use Rattle.std.proofs.Common.{ℕ, List, refl, subst, arith}
use Rattle.std.specs.Prelude.{codes}
use Rattle.own_controls.specs.Own.{IsOwn}
use Rattle.own_controls.proofs.Addresses.{text_web}
use Rattle.own_controls.proofs.Owned.{text_is, is_own}
use Rattle.own_controls.proofs.Nothing.{none_given}
use Rattle.own_controls.proofs.own.own_controls.Goals as goal

pub returns-in_err-front : goal.returns-in_err-front
returns-in_err-front c = none_given _ _ c.from_residual.ensures

pub returns-in_err-ending : goal.returns-in_err-ending
returns-in_err-ending c = none_given _ _ c.from_residual-in_err-ending.ensures

pub returns-in_err-texts : goal.returns-in_err-texts
returns-in_err-texts c = none_given _ _ c.from_residual-in_err-texts.ensures

pub behind_texts-requires-clause-ending : goal.behind_texts-requires-clause-ending
behind_texts-requires-clause-ending c = c.in_ok-ending.ensures

pub behind_texts-requires-clause-base : goal.behind_texts-requires-clause-base
behind_texts-requires-clause-base c = c.in_ok-texts.ensures.base

pub behind_texts-requires-clause-template : goal.behind_texts-requires-clause-template
behind_texts-requires-clause-template c = c.in_ok-texts.ensures.template

pub returns-in_err-counts : goal.returns-in_err-counts
returns-in_err-counts c = none_given _ _ c.from_residual-in_err-counts.ensures

pub returns-in_err-told : goal.returns-in_err-told
returns-in_err-told c = none_given _ _ c.from_residual-in_err-told.ensures

pub link_in-requires : goal.link_in-requires
link_in-requires c = c.in_ok-ending.ensures

pub returns-in_err-next : goal.returns-in_err-next
returns-in_err-next c = none_given _ _ c.from_residual-in_err-next.ensures

pub link_in-requires-2 : goal.link_in-requires-2
link_in-requires-2 c = c.in_ok-ending.ensures

pub returns-in_err-previous : goal.returns-in_err-previous
returns-in_err-previous c = none_given _ _ c.from_residual-in_err-previous.ensures

pub returns-in_err-version : goal.returns-in_err-version
returns-in_err-version c = none_given _ _ c.from_residual-in_err-version.ensures

pub returns : goal.returns
returns c =
    let page = c.text-page.result.now in
    let web = text_web page c.args.address.now c.text-page.ensures.text c.text-page.ensures.address in
    let texts = c.in_ok-texts.texts in
    let next = c.in_ok-next.next.target in
    let previous = c.in_ok-previous.previous.target in
    let count = c.in_ok-told.told.count in
    let version = c.in_ok-version.version in
    let lines = text_is page texts.first.now texts.base.now texts.template.now next previous count version c.in_ok-front.field-0.lines.now c.in_ok-counts.counts.now c.in_ok-told.told.rest.now c.in_ok-next.next.rest.now c.in_ok-previous.previous.rest.now
    c.in_ok-counts.ensures c.in_ok-told.ensures.lines (c.in_ok-next.ensures.line (codes "next") refl) (c.in_ok-previous.ensures.line (codes "previous") refl) (c.in_ok-version.ensures.line page c.in_ok-ending.ensures) in
    let short = c.if-lines-gt-LONGEST_READ.false in
    subst (λ (text : List ℕ). IsOwn c.args.body.now text (record { front = c.in_ok-front.field-0.front; count = count; template = texts.template; next = next; version = version })) c.text-page.ensures.text
    (is_own page texts.first.now texts.base.now texts.template.now next previous count version c.args.body.now c.in_ok-front.field-0.lines.now (record { front = c.in_ok-front.field-0.front; count = count; template = texts.template; next = next; version = version }) refl refl refl refl
    c.in_ok-front.ensures.whole c.in_ok-front.ensures.front lines (omega (arith, short)) c.in_ok-told.ensures.few c.in_ok-version.ensures.early web c.in_ok-texts.ensures.first c.in_ok-texts.ensures.base c.in_ok-texts.ensures.template
    c.in_ok-next.ensures.target c.in_ok-previous.ensures.target)

pub texts_in-requires : goal.texts_in-requires
texts_in-requires c = text_web c.text-page.result.now c.args.address.now c.text-page.ensures.text c.text-page.ensures.address
