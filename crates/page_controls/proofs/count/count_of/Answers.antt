use Rattle.std.proofs.Common.{refl, arith, inl, inr}
use Rattle.control_triples.specs.Controls.{IsCountObject}
use Rattle.page_controls.proofs.Counted.{none_of, two_of, only_item}
use Rattle.page_controls.proofs.count.count_of.Goals as goal

pub returns-in-empty : goal.returns-in-empty
returns-in-empty c = λ quads topic m.
    let l = c.in-empty.len_below in
    inr (inl (refl, none_of (IsCountObject quads topic) c.args.objects.now (omega (arith, l)) m))

pub returns-in-Some : goal.returns-in-Some
returns-in-Some c = λ quads topic m.
    let l = c.in-len1.len_at_least in let h = c.in-len1.len_below in
    (c.only-item.result.now.object, only_item (IsCountObject quads topic) c.args.objects.now c.only-item.result (omega (arith, l, h)) c.only-item.is m, c.in-Some.ensures)

pub returns-in-None : goal.returns-in-None
returns-in-None c = λ quads topic m.
    let l = c.in-len1.len_at_least in let h = c.in-len1.len_below in
    let only = only_item (IsCountObject quads topic) c.args.objects.now c.only-item.result (omega (arith, l, h)) c.only-item.is m in
    inr (inr (refl, inr (c.only-item.result.now.object, only.0, c.in-None.ensures)))

pub returns-in_default : goal.returns-in_default
returns-in_default c = λ quads topic m.
    let l = c.in_default.len_at_least in
    inr (inr (refl, inl (two_of (IsCountObject quads topic) c.args.objects.now (omega (arith, l)) c.requires m)))
