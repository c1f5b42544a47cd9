use Rattle.std.proofs.lemmas.Result.{err_from_is_err_and}
use Rattle.tpf_base.specs.Addresses.{authority_of}
use Rattle.page_controls.proofs.Fine.{count_amiss, form_amiss, next_amiss, home_amiss}
use Rattle.page_controls.proofs.told.read_told.Goals as goal

pub returns-in_err-count : goal.returns-in_err-count
returns-in_err-count c =
    let p = err_from_is_err_and c.from_residual.result c.from_residual.ensures.1 in
    rw (p.1, p.2) (count_amiss c.args.controls.now.quads c.args.controls.now.topic (authority_of c.args.address.now) _ c.in_err-count.ensures)

pub returns-in_err-form : goal.returns-in_err-form
returns-in_err-form c =
    let p = err_from_is_err_and c.from_residual-in_err-form.result c.from_residual-in_err-form.ensures.1 in
    rw (p.1, p.2) (form_amiss c.args.controls.now.quads c.args.controls.now.topic (authority_of c.args.address.now) c.in_ok-count.count _ c.in_ok-count.ensures c.in_err-form.ensures)

pub returns-in_err-next : goal.returns-in_err-next
returns-in_err-next c =
    let p = err_from_is_err_and c.from_residual-in_err-next.result c.from_residual-in_err-next.ensures.1 in
    rw (p.1, p.2) (next_amiss c.args.controls.now.quads c.args.controls.now.topic (authority_of c.args.address.now) c.in_ok-count.count c.in_ok-form.form _ c.in_ok-count.ensures c.in_ok-form.ensures c.in_err-next.ensures)

pub returns-in_err-check_home : goal.returns-in_err-check_home
returns-in_err-check_home c =
    let p = err_from_is_err_and c.from_residual-in_err-check_home.result c.from_residual-in_err-check_home.ensures.1 in
    rw (p.1, p.2)
    (home_amiss c.args.controls.now.quads c.args.controls.now.topic (authority_of c.args.address.now) c.in_ok-count.count c.in_ok-form.form c.in_ok-next.next _ c.in_ok-count.ensures c.in_ok-form.ensures c.in_ok-next.ensures
    c.in_err-check_home.ensures)

pub check_home-requires : goal.check_home-requires
check_home-requires c = (c.in_ok-form.ensures.texts.template, c.in_ok-form.ensures.is_form.template)
