-- Each place gives what stands there; behind the last one all have given theirs.
use Rattle.std.proofs.Common.{◌≡◌, ◌<◌, ◌≤◌, ◌++◌, ℕ, List, Option, Vec, Global, length, get_or, ap, sym, ◌∙◌, arith, append-nil}
use Rattle.std.proofs.lemmas.List.{take_all}
use Rattle.std.proofs.lemmas.Result.{IfOk-from_err}
use Rattle.bgp_core.specs.Solutions.{Places}
use Rattle.row_algebra.specs.Finding.{merge_with, merges_at}
use Rattle.row_algebra.proofs.Pairs.{got, got_none, at_got, merges_more}
use Rattle.row_algebra.proofs.join.add_merges.Goals.{in-Some+in_ok-add_merge, in_default}
use Rattle.row_algebra.proofs.join.add_merges.Goals as goal

pub loop-place-init : goal.loop-place-init
loop-place-init c = sym (append-nil c.args.rows.now.items)

pub add_merge-requires : goal.add_merge-requires
add_merge-requires c = at_got (λ (p : Places). length c.args.row.now ≡ length p) c.args.others.now _ c.get.result c.in-Some.other c.requires c.get.ensures.lookup c.in-Some.is

pub returns-in_err-add_merge : goal.returns-in_err-add_merge
returns-in_err-add_merge c = IfOk-from_err _ _ c.from_residual.ensures.0

pub loop-place-preserved : goal.loop-place-preserved
loop-place-preserved c =
    let row = c.args.row.now in
    let others = c.args.others.now in
    let places = c.args.places.now in
    let i = c.loop-place.place-index in
    let below : i < length places = c.loop-place-test.true in
    elim c.match-get.branch [
      | in-Some+in_ok-add_merge w ↦
          merges_more row others places i c.args.rows.now.items c.loop-place.rows.items _ below c.loop-place.invariant
          (ap (λ (v : Vec Places Global). v.items) w.rows-is ∙ w.in_ok-add_merge.ensures ∙ ap (λ (o : Option Places). c.loop-place.rows.items ++ merge_with row o) (sym (got others (get_or places i 0) c.get.result w.in-Some.other c.get.ensures.lookup w.in-Some.is)))
      | in_default w ↦
          merges_more row others places i c.args.rows.now.items c.loop-place.rows.items _ below c.loop-place.invariant
          (ap (λ (v : Vec Places Global). v.items) w.rows-is ∙ sym (append-nil c.loop-place.rows.items) ∙ ap (λ (o : Option Places). c.loop-place.rows.items ++ merge_with row o) (sym (got_none others (get_or places i 0) c.get.result c.get.ensures.lookup w.in_default.is)))
    ]

pub returns : goal.returns
returns c =
    let past : length c.args.places.now ≤ c.loop-place.place-index = omega (arith, c.loop-place-test.false) in
    c.loop-place.invariant ∙ ap (λ (l : List ℕ). c.args.rows.now.items ++ merges_at c.args.row.now c.args.others.now l) (take_all c.loop-place.place-index c.args.places.now past)
