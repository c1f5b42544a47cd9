-- Each name that is a variable adds its number; behind the last one all have added theirs.
use Rattle.std.proofs.Common.{◌≡◌, ◌≤◌, ◌++◌, ◌+◌, ℕ, List, Vec, Global, length, drop, sym, ap, ◌∙◌, append-nil, arith}
use Rattle.std.proofs.lemmas.List.{drop_all}
use Rattle.std.proofs.lemmas.Result.{IfOk-from_err}
use Rattle.pattern_parser.specs.Names.{is_blank_name, variable_numbers}
use Rattle.pattern_parser.proofs.Variables.{step_blank, step_variable}
use Rattle.pattern_parser.proofs.select.variable_numbers.Goals.{then-not-is_blank_name+in_ok-push, else-not-is_blank_name}
use Rattle.pattern_parser.proofs.select.variable_numbers.Goals as goal

pub loop-i-init : goal.loop-i-init
loop-i-init c = ap (λ (l : List ℕ). l ++ variable_numbers 0 c.args.names.now) c.new-numbers.ensures.items

pub bounds-names-i : goal.bounds-names-i
bounds-names-i c = c.loop-i-test.true

pub returns-in_err-push : goal.returns-in_err-push
returns-in_err-push c = IfOk-from_err _ _ c.from_residual.ensures.0

pub loop-i-preserved : goal.loop-i-preserved
loop-i-preserved c =
    let names = c.args.names.now in
    let i = c.loop-i.i in
    let name = c.index-names-i.result in
    let known : is_blank_name name ≡ c.is_blank_name.result = ap is_blank_name (sym c.as_str.ensures.value) ∙ sym c.is_blank_name.ensures in
    elim c.if-not-is_blank_name.branch [
      | then-not-is_blank_name+in_ok-push w ↦
          step_variable names i name c.loop-i.numbers.items c.if-not-is_blank_name.numbers.items _ c.loop-i-test.true c.index-names-i.is (known ∙ w.if-not-is_blank_name.true)
          (ap (λ (v : Vec ℕ Global). v.items) w.numbers-is ∙ w.in_ok-push.ensures.items) c.loop-i.invariant
      | else-not-is_blank_name w ↦
          ap (λ (v : Vec ℕ Global). v.items ++ variable_numbers (i + 1) (drop (i + 1) names)) w.numbers-is ∙
          step_blank names i name c.loop-i.numbers.items _ c.loop-i-test.true c.index-names-i.is (known ∙ w.if-not-is_blank_name.false) c.loop-i.invariant
    ]

pub returns : goal.returns
returns c =
    let past : length c.args.names.now ≤ c.loop-i.i = omega (arith, c.loop-i-test.false) in
    sym (append-nil c.loop-i.numbers.items) ∙ ap (λ (l : List (List ℕ)). c.loop-i.numbers.items ++ variable_numbers c.loop-i.i l) (sym (drop_all c.loop-i.i c.args.names.now past)) ∙ c.loop-i.invariant
