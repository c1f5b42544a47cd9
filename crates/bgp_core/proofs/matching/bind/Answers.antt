-- A fixed part and a bound name are held against the term, and a free name takes it.
use Rattle.std.proofs.Common.{◌≡◌, Bool, if◌then◌else◌, Option, Some, None, length, slice_set, refl, sym, ap, subst, ◌∙◌}
use Rattle.std.specs.Prelude.{IfSome}
use Rattle.std.proofs.Math.ListN.{length-set}
use Rattle.std.proofs.lemmas.Result.{IfOk-from_err}
use Rattle.rdf_terms.specs.declared.term.Term.{Term}
use Rattle.bgp_core.specs.declared.pattern.Part.{Part}
use Rattle.bgp_core.specs.Queries.{HasPlaceFor}
use Rattle.bgp_core.specs.Solutions.{Places, bind}
use Rattle.bgp_core.proofs.Steps.{put_bound, put_free}
use Rattle.bgp_core.proofs.matching.bind.Goals as goal
use Rattle.bgp_core.proofs.matching.bind.Goals.{then-same, else-same, then-same-2, else-same-2}

pub returns-in_err-copy-in-None-clause-value : goal.returns-in_err-copy-in-None-clause-value
returns-in_err-copy-in-None-clause-value c = IfOk-from_err _ _ c.from_residual.ensures.0

pub returns-in_err-copy-in-None-clause-length : goal.returns-in_err-copy-in-None-clause-length
returns-in_err-copy-in-None-clause-length c = IfOk-from_err _ _ c.from_residual.ensures.0

pub bind-requires-clause-place : goal.bind-requires-clause-place
bind-requires-clause-place c = subst (λ (p : Part). HasPlaceFor (length c.args.row) p) c.in-Name.is c.requires

pub bind-requires-clause-free : goal.bind-requires-clause-free
bind-requires-clause-free c = c.in-None.ensures

pub returns-in_err-bind-in-None-clause-value : goal.returns-in_err-bind-in-None-clause-value
returns-in_err-bind-in-None-clause-value c = IfOk-from_err _ _ c.from_residual-in_err-bind-in-None.ensures.0

pub returns-in_err-bind-in-None-clause-length : goal.returns-in_err-bind-in-None-clause-length
returns-in_err-bind-in-None-clause-length c = IfOk-from_err _ _ c.from_residual-in_err-bind-in-None.ensures.0

pub returns-after-same-clause-value : goal.returns-after-same-clause-value
returns-after-same-clause-value c =
    let row = c.args.row in let is = ap (λ (p : Part). bind p c.args.term.now row) c.in-Fixed.is in
    elim c.if-same.branch [
      | then-same w ↦ w.result-is ∙ sym (is ∙ ap (λ (b : Bool). if b then Some row else None) (sym c.same.ensures.test ∙ w.if-same.true))
      | else-same w ↦ w.result-is ∙ sym (is ∙ ap (λ (b : Bool). if b then Some row else None) (sym c.same.ensures.test ∙ w.if-same.false))
    ]

pub returns-after-same-clause-length : goal.returns-after-same-clause-length
returns-after-same-clause-length c = elim c.if-same.branch [
  | then-same w ↦ subst (λ (o : Option Places). IfSome o (λ r. length r ≡ length c.args.row)) (sym w.result-is) refl
  | else-same w ↦ subst (λ (o : Option Places). IfSome o (λ r. length r ≡ length c.args.row)) (sym w.result-is) tt
]

pub returns-after-same-2-clause-value : goal.returns-after-same-2-clause-value
returns-after-same-2-clause-value c =
    let row = c.args.row in
    let is = ap (λ (p : Part). bind p c.args.term.now row) c.in-Name.is ∙ put_bound row c.in-Name.name c.args.term.now c.in-Some.bound.now c.in-Some.ensures in
    elim c.if-same-2.branch [
      | then-same-2 w ↦ w.result-is ∙ sym (is ∙ ap (λ (b : Bool). if b then Some row else None) (sym c.same-in-Some.ensures.test ∙ w.if-same-2.true))
      | else-same-2 w ↦ w.result-is ∙ sym (is ∙ ap (λ (b : Bool). if b then Some row else None) (sym c.same-in-Some.ensures.test ∙ w.if-same-2.false))
    ]

pub returns-after-same-2-clause-length : goal.returns-after-same-2-clause-length
returns-after-same-2-clause-length c = elim c.if-same-2.branch [
  | then-same-2 w ↦ subst (λ (o : Option Places). IfSome o (λ r. length r ≡ length c.args.row)) (sym w.result-is) refl
  | else-same-2 w ↦ subst (λ (o : Option Places). IfSome o (λ r. length r ≡ length c.args.row)) (sym w.result-is) tt
]

pub returns-in_ok-bind-in-None-clause-value : goal.returns-in_ok-bind-in-None-clause-value
returns-in_ok-bind-in-None-clause-value c =
    let row = c.args.row in let n = c.in-Name.name in
    ap (λ (r : Places). Some r) (c.in_ok-bind-in-None.ensures.done ∙ ap (λ (t : Term). slice_set row n (Some t)) c.in_ok-copy-in-None.ensures)
    ∙ sym (ap (λ (p : Part). bind p c.args.term.now row) c.in-Name.is
    ∙ put_free row n c.args.term.now (subst (λ (p : Part). HasPlaceFor (length row) p) c.in-Name.is c.requires) c.in-None.ensures)

pub returns-in_ok-bind-in-None-clause-length : goal.returns-in_ok-bind-in-None-clause-length
returns-in_ok-bind-in-None-clause-length c = ap length c.in_ok-bind-in-None.ensures.done ∙ length-set c.args.row c.in-Name.name (Some c.in_ok-copy-in-None.field-0)
