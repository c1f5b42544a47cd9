use Rattle.std.proofs.Common.{ℕ, ◌≡◌, ◌+◌, ◌-◌, List, ◌∷◌, length, drop, get_or, sym, ap, ◌∙◌, Bor, arith}
use Rattle.std.proofs.lemmas.List.{drop_all, drop_more}
use Rattle.std.proofs.lemmas.Result.{IfOk-weaker}
use Rattle.std.specs.FinMap.{entries, values}
use Rattle.result_json.specs.Results.{first_numbers}
use Rattle.result_json.proofs.Names.{none, seen, one_before, numbers}
use Rattle.result_json.proofs.columns.columns_of.Goals as goal

pub loop-i-init : goal.loop-i-init
loop-i-init c =
    let selected = c.selected-selected.result.now in
    let names = c.names-names.result.now in
    ap (seen (λ (k : Bor (List ℕ)). k.now)) c.new-firsts.ensures.empty ∙ sym (none names)
    ∙ ap (λ (ns : List ℕ). entries (first_numbers names ns)) (sym (drop_all (length selected) selected (omega arith)))

pub loop-i-preserved : goal.loop-i-preserved
loop-i-preserved c =
    let selected = c.selected-selected.result.now in
    let names = c.names-names.result.now in
    let i = c.loop-i.i in
    let step : (i - 1) + 1 ≡ i = omega (arith, c.loop-i-test.true) in
    let before : drop (i - 1) selected ≡ get_or selected (i - 1) 0 ∷ drop i selected =
    drop_more selected (i - 1) 0 (omega (arith, c.loop-i-test.true, c.loop-i.auto.i)) ∙ ap (λ (j : ℕ). get_or selected (i - 1) 0 ∷ drop j selected) step in
    one_before (λ (k : Bor (List ℕ)). k.now) names (get_or selected (i - 1) 0) (drop i selected) c.name_at.result c.loop-i.firsts.entries c.insert.new.self.entries (c.name_at.ensures) c.loop-i.invariant (c.in_ok-insert.ensures.entries)
    ∙ ap (λ (ns : List ℕ). entries (first_numbers names ns)) (sym before)

pub returns : goal.returns
returns c =
    let selected = c.selected-selected.result.now in
    let names = c.names-names.result.now in
    let q = c.args.query.now in
    let none_left : c.loop-i.i ≡ 0 = omega (arith, c.loop-i-test.false) in
    let all : seen (λ (k : Bor (List ℕ)). k.now) c.loop-i.firsts.entries ≡ entries (first_numbers names selected) =
    c.loop-i.invariant ∙ ap (λ (j : ℕ). entries (first_numbers names (drop j selected))) none_left in
    IfOk-weaker c.numbers_of.result _ _ (λ v h.
    h ∙ numbers (λ (k : Bor (List ℕ)). k.now) names selected c.loop-i.firsts.entries all
    ∙ ap (λ (ns : List (List ℕ)). values (first_numbers ns selected)) c.names-names.ensures
    ∙ ap (λ (ns : List ℕ). values (first_numbers q.names ns)) c.selected-selected.ensures.value) c.numbers_of.ensures
