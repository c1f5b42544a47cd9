use Rattle.std.proofs.Common.{refl, arith, inl, inr}
use Rattle.std.proofs.lemmas.Result.{err_from_is_err_and}
use Rattle.control_triples.specs.Controls.{IsNextObject}
use Rattle.page_controls.proofs.Counted.{none_of, two_of, only_item, next_fault}
use Rattle.tpf_base.specs.Addresses.{authority_of}
use Rattle.page_controls.proofs.link.next_of.Goals as goal

pub returns-in-empty : goal.returns-in-empty
returns-in-empty c = λ quads topic m.
    let l = c.in-empty.len_below in
    none_of (IsNextObject quads topic) c.args.objects.now (omega (arith, l)) m

pub returns-in_ok-next-in-len1 : goal.returns-in_ok-next-in-len1
returns-in_ok-next-in-len1 c = λ quads topic m.
    let l = c.in-len1.len_at_least in let h = c.in-len1.len_below in
    (c.only-item.result.now.object, only_item (IsNextObject quads topic) c.args.objects.now c.only-item.result (omega (arith, l, h)) c.only-item.is m, c.in_ok-next-in-len1.ensures.0, c.in_ok-next-in-len1.ensures.1)

pub returns-in_err-next-in-len1 : goal.returns-in_err-next-in-len1
returns-in_err-next-in-len1 c = λ quads topic m.
    let l = c.in-len1.len_at_least in let h = c.in-len1.len_below in
    let p = err_from_is_err_and c.from_residual.result c.from_residual.ensures.1 in
    rw (p.1, p.2)
    (next_fault quads topic (authority_of c.args.address.now) c.only-item.result.now.object _
    (only_item (IsNextObject quads topic) c.args.objects.now c.only-item.result (omega (arith, l, h)) c.only-item.is m) c.in_err-next-in-len1.ensures)

pub returns-in_default : goal.returns-in_default
returns-in_default c = λ quads topic m.
    let l = c.in_default.len_at_least in
    inr (inl (refl, two_of (IsNextObject quads topic) c.args.objects.now (omega (arith, l)) c.requires m))
