-- What is taken is what the page made of the node that waited; where memory runs out, nothing is.
use Rattle.std.proofs.Common.{ℕ, ◌≡◌, Some, List, inl, inr, map, set, refl, ap, sym, subst, ◌∙◌}
use Rattle.std.specs.Map.{lookup}
use Rattle.join_core.specs.declared.first.First.TheVariants.{Got}
use Rattle.join_core.specs.Nodes.{NodeData}
use Rattle.join_core.specs.Events.{with_first_at}
use Rattle.join_core.specs.Levels.{LevelData, seed_node, nodes_of, plain, index_at, spot, is_key, MaySettle, TakesMade}
use Rattle.join_core.proofs.Kept.{first-settles}
use Rattle.join_core.proofs.Plain.{asked-level, found-level, same-set, set-level, level-is}
use Rattle.std.proofs.lemmas.Result.{IfOk-from_err, on_ok_weaker}
use Rattle.list_laws.proofs.Results.{any_err}
use Rattle.join_core.proofs.levels.take_first.Goals as goal

pub take_first-requires : goal.take_first-requires
take_first-requires c = (c.requires.waiter, found-level c.args.levels.now.items c.args.first.place.depth c.args.first.place.key c.index_mut.result.now c.requires.waiter c.requires.deep c.index_mut.ensures.value c.requires.found, c.requires.waits)

pub returns-in_err-take_first-clause-taken : goal.returns-in_err-take_first-clause-taken
returns-in_err-take_first-clause-taken c = λ n e. IfOk-from_err _ _ c.from_residual.ensures.0

pub returns-in_err-take_first-clause-failed : goal.returns-in_err-take_first-clause-failed
returns-in_err-take_first-clause-failed c = any_err c.from_residual.result _ (same-set c.args.levels.now.items c.args.first.place.depth c.index_mut.result.now c.take_first.new.self c.requires.deep c.index_mut.ensures.value (ap (λ (l : LevelData). nodes_of l) c.in_err-take_first.ensures.failed))

pub returns-in_err-take_first-clause-failed_rows : goal.returns-in_err-take_first-clause-failed_rows
returns-in_err-take_first-clause-failed_rows c = any_err c.from_residual.result _ refl

pub take_made-requires-clause-waits : goal.take_made-requires-clause-waits
take_made-requires-clause-waits c =
    let ls = c.args.levels.now.items in
    let d = c.args.first.place.depth in
    let l = c.index_mut.result.now in
    let e : lookup (is_key c.args.first.place.key) l.started ≡ Some c.requires.waiter = found-level ls d c.args.first.place.key l c.requires.waiter c.requires.deep c.index_mut.ensures.value c.requires.found in
    let full = rw c.in-Some.is at (c.in_ok-take_first.ensures.full c.requires.waiter e) in
    let settles : MaySettle l.started c.args.first.place.key c.args.ticket = first-settles l.started c.args.first.place.key c.args.ticket c.args.first.index c.args.page c.requires.waiter e c.requires.waits full.0 in
    subst (λ (x : LevelData). MaySettle x.started c.args.first.place.key c.args.ticket) (sym full.1 ∙ sym (set-level ls d c.take_first.new.self c.requires.deep)) settles

pub take_made-requires-clause-idle : goal.take_made-requires-clause-idle
take_made-requires-clause-idle c = rw c.in-Some.is at c.in_ok-take_first.ensures.idle

pub returns-in-None-clause-taken : goal.returns-in-None-clause-taken
returns-in-None-clause-taken c = λ n g.
    let ls = c.args.levels.now.items in
    let d = c.args.first.place.depth in
    let l = c.index_mut.result.now in
    let e : lookup (is_key c.args.first.place.key) l.started ≡ Some n = found-level ls d c.args.first.place.key l n c.requires.deep c.index_mut.ensures.value g in
    let held = rw c.in-None.is at (c.in_ok-take_first.ensures.held n e) in
    inl (held.0, asked-level ls d c.args.first.place.key l c.take_first.new.self (with_first_at c.args.first.index (Got c.args.page) n) c.requires.deep c.index_mut.ensures.value held.1, refl)

pub returns-in-Some-clause-taken : goal.returns-in-Some-clause-taken
returns-in-Some-clause-taken c = λ n g.
    let ls = c.args.levels.now.items in
    let d = c.args.first.place.depth in
    let k = c.args.first.place.key in
    let l = c.index_mut.result.now in
    let e : lookup (is_key k) l.started ≡ Some n = found-level ls d k l n c.requires.deep c.index_mut.ensures.value g in
    let full = rw c.in-Some.is at (c.in_ok-take_first.ensures.full n e) in
    let chosen = rw c.in-Some.is at (c.in_ok-take_first.ensures.chosen n e) in
    let idle = rw c.in-Some.is at c.in_ok-take_first.ensures.idle in
    let same : plain (set ls d c.take_first.new.self) ≡ plain ls = same-set ls d l c.take_first.new.self c.requires.deep c.index_mut.ensures.value (ap nodes_of full.1) in
    let place : index_at (set ls d c.take_first.new.self) d k ≡ index_at ls d k = ap (λ (x : LevelData). spot k x.started) (set-level ls d c.take_first.new.self c.requires.deep ∙ full.1 ∙ sym (level-is ls d l c.requires.deep c.index_mut.ensures.value)) in
    let made = map seed_node c.in-Some.made.opened.items in
    on_ok_weaker c.take_made.result
    (λ t. inr (
      full.0,
      record {
        made = made;
        put = c.in-Some.made.rows.items;
        after = c.in-Some.made.after;
        chosen = chosen;
        idle = idle;
        takes = subst (λ (x : List (List NodeData)). TakesMade x c.args.waiting.now.items (plain c.take_made.new.levels.items) c.take_made.new.waiting.items d (index_at ls d k) made c.in-Some.made.rows.items c.in-Some.made.after) same
            (subst (λ (i : ℕ). TakesMade (plain (set ls d c.take_first.new.self)) c.args.waiting.now.items (plain c.take_made.new.levels.items) c.take_made.new.waiting.items d i made c.in-Some.made.rows.items c.in-Some.made.after) place t);
      },
    ))
    c.take_made.ensures.done

pub returns-in-Some-clause-failed_rows : goal.returns-in-Some-clause-failed_rows
returns-in-Some-clause-failed_rows c = c.take_made.ensures.failed_rows
