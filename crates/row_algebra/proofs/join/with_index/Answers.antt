-- Each row of the left list gives what it does with those that its key finds; behind the last one all have given theirs.
use Rattle.std.proofs.Common.{◌≡◌, ◌<◌, ◌≤◌, ◌++◌, List, Option, length, ap, subst, ◌∙◌, arith}
use Rattle.std.proofs.lemmas.List.{take_all}
use Rattle.std.proofs.lemmas.Result.{IfOk-from_err}
use Rattle.list_laws.proofs.Each.{every_at}
use Rattle.rdf_terms.specs.declared.term.Term.{Term}
use Rattle.bgp_core.specs.Solutions.{Places}
use Rattle.row_algebra.specs.Algebra.{HaveWidth}
use Rattle.row_algebra.specs.Finding.{key_of, BindsAll, places_where, has_key, given, combined}
use Rattle.row_algebra.proofs.Pairs.{found, combined_more}
use Rattle.row_algebra.proofs.join.with_index.Goals as goal

pub loop-row-init : goal.loop-row-init
loop-row-init c = c.new-rows.ensures.items

pub returns-in_err-key : goal.returns-in_err-key
returns-in_err-key c = IfOk-from_err _ _ c.from_residual.ensures.0

pub add_row-requires : goal.add_row-requires
add_row-requires c =
    let width = c.requires.width in
    subst (λ n. HaveWidth n c.args.right.now) (every_at (λ (p : Places). width.0 ≡ length p) c.args.left.now c.loop-row.row-index c.row-item.result width.1 c.loop-row-test.true c.row-item.is) width.2

pub returns-in_err-add_row : goal.returns-in_err-add_row
returns-in_err-add_row c = IfOk-from_err _ _ c.from_residual-in_err-add_row.ensures.0

pub loop-row-preserved : goal.loop-row-preserved
loop-row-preserved c =
    let names = c.args.names.now in
    let right = c.args.right.now in
    let row = c.row-item.result in
    let below : c.loop-row.row-index < length c.args.left.now = c.loop-row-test.true in
    let places : c.places_of.result.now ≡ places_where (has_key names (key_of names row)) 0 right =
    c.places_of.ensures ∙ c.requires.index c.in_ok-key.key ∙ ap (λ (k : List (Option Term)). places_where (has_key names k) 0 right) c.in_ok-key.ensures in
    let bound : BindsAll names row = every_at (BindsAll names) c.args.left.now c.loop-row.row-index row c.requires.left below c.row-item.is in
    combined_more c.args.keeps c.args.left.now right c.loop-row.row-index row _ _ below c.row-item.is c.loop-row.invariant
    (c.in_ok-add_row.ensures ∙ ap (λ (l : List Places). c.loop-row.rows.items ++ given c.args.keeps row l) (found c.merging_is_union.ensures names row right _ bound c.requires.right places))

pub returns : goal.returns
returns c =
    let past : length c.args.left.now ≤ c.loop-row.row-index = omega (arith, c.loop-row-test.false) in
    c.loop-row.invariant ∙ ap (λ (l : List Places). combined c.args.keeps l c.args.right.now) (take_all c.loop-row.row-index c.args.left.now past)
