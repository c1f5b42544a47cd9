-- Each line comes behind the others, and what stood before stays at the front.
use Rattle.std.proofs.Common.{ℕ, List, ◌++◌, ap, sym, ◌∙◌, arith, append-nil}
use Rattle.std.specs.List.{flat_map}
use Rattle.std.proofs.lemmas.Result.{IfOk-from_err}
use Rattle.std.proofs.lemmas.List.{take_all}
use Rattle.list_laws.proofs.Begins.{begins_on, cut_back, more_begins, same_begins}
use Rattle.tpf_base.specs.HttpText.{field_line, status_line}
use Rattle.http_wire.specs.declared.message.Field.{Field}
use Rattle.http_wire.specs.Fields.{pairs_of}
use Rattle.http_wire.proofs.WriteLemmas.{head_more, head_next}
use Rattle.http_wire.proofs.write.append_head.Goals as goal

pub returns-in_err-append_line-clause-ok : goal.returns-in_err-append_line-clause-ok
returns-in_err-append_line-clause-ok c = IfOk-from_err _ _ c.from_residual.ensures.0

pub returns-in_err-append_line-clause-kept : goal.returns-in_err-append_line-clause-kept
returns-in_err-append_line-clause-kept c = cut_back c.args.out.now.items c.append_line.new.out.items (same_begins _ _ c.in_err-append_line.ensures.err)

pub loop-field-init : goal.loop-field-init
loop-field-init c = c.in_ok-append_line.ensures.ok ∙ ap (λ (l : List ℕ). c.args.out.now.items ++ l) (sym (append-nil (status_line c.args.digits.now c.args.phrase.now)))

pub returns-in_err-append_field-clause-ok : goal.returns-in_err-append_field-clause-ok
returns-in_err-append_field-clause-ok c = IfOk-from_err _ _ c.from_residual-in_err-append_field.ensures.0

pub returns-in_err-append_field-clause-kept : goal.returns-in_err-append_field-clause-kept
returns-in_err-append_field-clause-kept c = cut_back c.args.out.now.items c.append_field.new.out.items (more_begins _ _ _ (c.in_err-append_field.ensures.err ∙ c.loop-field.invariant))

pub loop-field-preserved : goal.loop-field-preserved
loop-field-preserved c =
    head_next c.args.digits.now c.args.phrase.now c.args.fields.now c.loop-field.field-index _ c.field-item.result c.args.out.now.items c.loop-field.out.items c.append_field.new.out.items c.loop-field-test.true c.field-item.is c.loop-field.invariant c.in_ok-append_field.ensures.ok

pub returns-in_err-extend_from_slice-clause-ok : goal.returns-in_err-extend_from_slice-clause-ok
returns-in_err-extend_from_slice-clause-ok c = IfOk-from_err _ _ c.from_residual-in_err-extend_from_slice.ensures.0

pub returns-in_err-extend_from_slice-clause-kept : goal.returns-in_err-extend_from_slice-clause-kept
returns-in_err-extend_from_slice-clause-kept c =
    cut_back c.args.out.now.items c.extend_from_slice.new.self.items (begins_on c.args.out.now.items c.loop-field.out.items c.extend_from_slice.new.self.items (more_begins _ _ _ c.loop-field.invariant) (same_begins _ _ c.in_err-extend_from_slice.ensures.items))

pub returns-clause-ok : goal.returns-clause-ok
returns-clause-ok c =
    c.in_ok-extend_from_slice.ensures.items
    ∙ head_more c.args.digits.now c.args.phrase.now (pairs_of c.args.fields.now) c.args.out.now.items c.loop-field.out.items
    (c.loop-field.invariant ∙ ap (λ (l : List Field). c.args.out.now.items ++ (status_line c.args.digits.now c.args.phrase.now ++ flat_map field_line (pairs_of l))) (take_all c.loop-field.field-index c.args.fields.now (omega (arith, c.loop-field-test.false))))

pub returns-clause-kept : goal.returns-clause-kept
returns-clause-kept c =
    cut_back c.args.out.now.items c.extend_from_slice.new.self.items (begins_on c.args.out.now.items c.loop-field.out.items c.extend_from_slice.new.self.items (more_begins _ _ _ c.loop-field.invariant) (more_begins _ _ _ c.in_ok-extend_from_slice.ensures.items))
