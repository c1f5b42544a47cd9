-- The deepest node that may be started asks where none that was started has a page to hand out.
use Rattle.std.proofs.Common.{ℕ, ◌≡◌, ◌<◌, List, length, ap, subst, false, arith, refl}
use Rattle.std.specs.List.{All, count_by}
use Rattle.join_core.specs.Events.{has_ask, is_idle, works}
use Rattle.join_core.specs.Joins.{nodes, NoneIn, level_at}
use Rattle.join_core.specs.Levels.{LevelData, plain, nodes_of, level_of}
use Rattle.join_core.proofs.Scans.{if-none}
use Rattle.join_core.proofs.Took.{starts-next}
use Rattle.std.proofs.lemmas.Result.{IfOk-from_err, err_from_is_err_and}
use Rattle.list_laws.proofs.Results.{not_ok_and_err}
use Rattle.join_core.proofs.levels.place_to_ask.Goals as goal

pub returns-in-Some-clause-same : goal.returns-in-Some-clause-same
returns-in-Some-clause-same c = refl

pub returns-then-working_nodes-window-clause-same : goal.returns-then-working_nodes-window-clause-same
returns-then-working_nodes-window-clause-same c = refl

pub returns-in_default-deepest_idle-clause-same : goal.returns-in_default-deepest_idle-clause-same
returns-in_default-deepest_idle-clause-same c = refl

pub idle_at-requires-clause-deep : goal.idle_at-requires-clause-deep
idle_at-requires-clause-deep c = subst (λ (x : List LevelData). c.in-Some-deepest_idle.depth < length x) c.as_slice-3.ensures.value c.in-Some-deepest_idle.ensures.deep

pub idle_at-requires-clause-some : goal.idle_at-requires-clause-some
idle_at-requires-clause-some c = subst (λ (x : List LevelData). All (λ n. is_idle n ≡ false) (nodes_of (level_of x c.in-Some-deepest_idle.depth)) → ⊥) c.as_slice-3.ensures.value c.in-Some-deepest_idle.ensures.some

pub returns-in_err-key-clause-same : goal.returns-in_err-key-clause-same
returns-in_err-key-clause-same c = c.in_err-key.ensures.same

pub returns-in_err-key-clause-next : goal.returns-in_err-key-clause-next
returns-in_err-key-clause-next c = IfOk-from_err _ _ c.from_residual.ensures.0

pub returns-in_err-key-clause-nothing : goal.returns-in_err-key-clause-nothing
returns-in_err-key-clause-nothing c = λ e. absurd (not_ok_and_err c.from_residual.result e (err_from_is_err_and c.from_residual.result c.from_residual.ensures.1).1)

pub returns-clause-same : goal.returns-clause-same
returns-clause-same c = c.in_ok-key.ensures.same

pub returns-clause-next : goal.returns-clause-next
returns-clause-next c =
    let ls = c.args.levels.now.items in
    let d = c.in-Some-deepest_idle.depth in
    let none : NoneIn has_ask (plain ls) = subst (λ (x : List LevelData). NoneIn has_ask (plain x)) c.as_slice.ensures.value (if-none c.place_with_ask.result _ c.in_default.is c.place_with_ask.ensures.none) in
    let count : count_by works (nodes (plain c.as_slice-2.result.now)) ≡ count_by works (nodes (plain ls)) = ap (λ (x : List LevelData). count_by works (nodes (plain x))) c.as_slice-2.ensures.value in
    let room : count_by works (nodes (plain ls)) < c.args.window = omega (arith, c.working_nodes.ensures, count) in
    let deep : d < length ls = subst (λ (x : List LevelData). d < length x) c.as_slice-3.ensures.value c.in-Some-deepest_idle.ensures.deep in
    let deeper : (e : ℕ) → d < e → All (λ n. is_idle n ≡ false) (level_at (plain ls) e) = subst (λ (x : List LevelData). (e : ℕ) → d < e → All (λ n. is_idle n ≡ false) (level_at (plain x) e)) c.as_slice-3.ensures.value c.in-Some-deepest_idle.ensures.deeper in
    starts-next c.args.window ls c.idle_at.new.levels.items d c.in_ok-key.key c.in_ok-key.ensures.same deep none room deeper c.in_ok-key.ensures.asks c.in_ok-key.ensures.first
