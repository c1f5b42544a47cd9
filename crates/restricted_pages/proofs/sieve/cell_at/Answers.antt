-- A pattern that no triple of the cell can match may be left out.
use Rattle.std.proofs.Common.{◌∙◌, Vec, Global, ap, sym}
use Rattle.std.specs.List.{list_any}
use Rattle.std.proofs.lemmas.List.{take_all}
use Rattle.std.proofs.lemmas.Result.{IfOk-from_err}
use Rattle.triple_table.specs.declared.ids.IdPattern.{IdPattern}
use Rattle.restricted_pages.specs.Patterns.{fits}
use Rattle.restricted_pages.proofs.Sieves.{left_out, taken}
use Rattle.restricted_pages.proofs.sieve.cell_at.Goals as goal
use Rattle.restricted_pages.proofs.sieve.cell_at.Goals.{then-may_match+in_ok-push, else-may_match}

pub loop-pattern-init : goal.loop-pattern-init
loop-pattern-init c = λ t at. ap (list_any (λ (p : IdPattern). fits p t)) c.new-some.ensures.items

pub returns-in_err-push : goal.returns-in_err-push
returns-in_err-push c = IfOk-from_err _ _ c.from_residual.ensures.0

pub loop-pattern-preserved : goal.loop-pattern-preserved
loop-pattern-preserved c =
    let ps = c.args.patterns.now in let i = c.loop-pattern.pattern-index in let old = c.loop-pattern.some.items in
    elim c.if-may_match.branch [
      | then-may_match+in_ok-push w ↦ λ t at.
          taken ps old i _ c.loop-pattern-test.true t (c.loop-pattern.invariant t at) c.if-may_match.some.items (ap (λ (v : Vec IdPattern Global). v.items) w.some-is ∙ w.in_ok-push.ensures.items)
      | else-may_match w ↦ λ t at.
          left_out ps old i _ c.loop-pattern-test.true t (c.loop-pattern.invariant t at) c.if-may_match.some.items c.args.cell (ap (λ (v : Vec IdPattern Global). v.items) w.some-is) (sym c.may_match.ensures ∙ w.if-may_match.false) at
    ]

pub returns : goal.returns
returns c = λ t at. c.loop-pattern.invariant t at ∙ ap (list_any (λ (p : IdPattern). fits p t)) (take_all _ _ c.loop-pattern-test.false)
