-- Each piece is written behind those before it.
use Rattle.std.proofs.Common.{◌∙◌, refl, arith}
use Rattle.std.proofs.lemmas.Result.{IfOk-from_err, err_from_is_err_and, on_ok_weaker, on_err_weaker}
use Rattle.list_laws.proofs.Results.{any_err}
use Rattle.tpf_base.proofs.SendingLemmas.{rose_on}
use Rattle.generated_data.proofs.Pieces.{as_err, front_so_far, front_written, memory_not_failed, nothing_written, person_added, piece_written, whole_written, writing_begins}
use Rattle.generated_data.proofs.write.write_generated.Goals as goal
use Rattle.generated_data.proofs.write.write_generated.Goals.{then-len-ge-PIECE+in_ok-write_all, else-len-ge-PIECE}

pub returns-in_default-clause-err : goal.returns-in_default-clause-err
returns-in_default-clause-err g c = nothing_written _ _

pub returns-in_default-clause-later : goal.returns-in_default-clause-later
returns-in_default-clause-later g c = omega arith

pub returns-in_default-clause-failed : goal.returns-in_default-clause-failed
returns-in_default-clause-failed g c = λ e. absurd (memory_not_failed e)

pub returns-in_default-clause-faultless : goal.returns-in_default-clause-faultless
returns-in_default-clause-faultless g c = refl

pub returns-in_default-clause-spared : goal.returns-in_default-clause-spared
returns-in_default-clause-spared g c = λ _. record { same = refl; answer = memory_not_failed }

pub loop-person-init : goal.loop-person-init
loop-person-init g c = record { written = writing_begins c.args.persons _ _ c.in-Ok.ensures.items; later = omega arith; faultless = refl; spared = λ _. refl }

pub returns-in_default-add_person-clause-err : goal.returns-in_default-add_person-clause-err
returns-in_default-add_person-clause-err g c = front_so_far _ _ _ _ _ c.loop-person.invariant.written

pub returns-in_default-add_person-clause-later : goal.returns-in_default-add_person-clause-later
returns-in_default-add_person-clause-later g c = c.loop-person.invariant.later

pub returns-in_default-add_person-clause-failed : goal.returns-in_default-add_person-clause-failed
returns-in_default-add_person-clause-failed g c = λ e. absurd (memory_not_failed e)

pub returns-in_default-add_person-clause-faultless : goal.returns-in_default-add_person-clause-faultless
returns-in_default-add_person-clause-faultless g c = c.loop-person.invariant.faultless

pub returns-in_default-add_person-clause-spared : goal.returns-in_default-add_person-clause-spared
returns-in_default-add_person-clause-spared g c = λ s. record { same = c.loop-person.invariant.spared s; answer = memory_not_failed }

pub returns-in_err-write_all-clause-ok : goal.returns-in_err-write_all-clause-ok
returns-in_err-write_all-clause-ok g c = IfOk-from_err _ _ c.from_residual.ensures.0

pub returns-in_err-write_all-clause-err : goal.returns-in_err-write_all-clause-err
returns-in_err-write_all-clause-err g c =
    let added = person_added c.args.persons c.loop-person.person _ _ _ _ _ (omega (arith, c.loop-person-test.true)) c.in-Ok-add_person.ensures c.loop-person.invariant.written in
    any_err c.from_residual.result _ (front_written _ _ _ _ _ _ _ c.deref.ensures.value c.in_err-write_all.ensures.err added)

pub returns-in_err-write_all-clause-later : goal.returns-in_err-write_all-clause-later
returns-in_err-write_all-clause-later g c = omega (arith, c.loop-person.invariant.later, c.write_all.ensures.cause.later)

pub returns-in_err-write_all-clause-failed : goal.returns-in_err-write_all-clause-failed
returns-in_err-write_all-clause-failed g c =
    let p = err_from_is_err_and c.from_residual.result c.from_residual.ensures.1 in
    λ h. rose_on _ _ _ c.loop-person.invariant.later (c.in_err-write_all.ensures.cause.failed (as_err _ p.0 _ p.1 p.2 h))

pub returns-in_err-write_all-clause-faultless : goal.returns-in_err-write_all-clause-faultless
returns-in_err-write_all-clause-faultless g c = c.write_all.ensures.faultless ∙ c.loop-person.invariant.faultless

pub returns-in_err-write_all-clause-spared : goal.returns-in_err-write_all-clause-spared
returns-in_err-write_all-clause-spared g c =
    let p = err_from_is_err_and c.from_residual.result c.from_residual.ensures.1 in
    λ s. record {
      same = (c.write_all.ensures.spared (c.loop-person.invariant.faultless ∙ s)).same ∙ c.loop-person.invariant.spared s;
      answer = λ h. (c.in_err-write_all.ensures.spared (c.loop-person.invariant.faultless ∙ s)).answer (as_err _ p.0 _ p.1 p.2 h);
    }

pub loop-person-preserved : goal.loop-person-preserved
loop-person-preserved g c =
    let added = person_added c.args.persons c.loop-person.person _ _ _ _ _ (omega (arith, c.loop-person-test.true)) c.in-Ok-add_person.ensures c.loop-person.invariant.written in
    let before = c.loop-person.invariant in
    elim c.if-len-ge-PIECE.branch [
      | then-len-ge-PIECE+in_ok-write_all w ↦ rw w.out-is (rw w.piece-is record {
        written = piece_written _ _ _ _ _ _ _ _ w.clear.ensures.items w.deref.ensures.value w.in_ok-write_all.ensures.ok added;
        later = omega (arith, before.later, w.write_all.ensures.cause.later);
        faultless = w.write_all.ensures.faultless ∙ before.faultless;
        spared = λ spares. (w.write_all.ensures.spared (before.faultless ∙ spares)).same ∙ before.spared spares;
      })
      | else-len-ge-PIECE w ↦ rw w.out-is (rw w.piece-is record { written = added; later = before.later; faultless = before.faultless; spared = before.spared })
    ]

pub returns-clause-ok : goal.returns-clause-ok
returns-clause-ok g c = on_ok_weaker c.write_all-2.result
    (λ a. whole_written c.args.persons c.loop-person.person _ _ _ _ _ _ (omega (arith, c.loop-person-test.false)) c.as_slice.ensures.value a c.loop-person.invariant.written)
    c.write_all-2.ensures.ok

pub returns-clause-err : goal.returns-clause-err
returns-clause-err g c = on_err_weaker c.write_all-2.result
    (λ p. front_written _ _ _ _ _ _ _ c.as_slice.ensures.value p c.loop-person.invariant.written)
    c.write_all-2.ensures.err

pub returns-clause-later : goal.returns-clause-later
returns-clause-later g c = omega (arith, c.loop-person.invariant.later, c.write_all-2.ensures.cause.later)

pub returns-clause-failed : goal.returns-clause-failed
returns-clause-failed g c = λ h. rose_on _ _ _ c.loop-person.invariant.later (c.write_all-2.ensures.cause.failed h)

pub returns-clause-faultless : goal.returns-clause-faultless
returns-clause-faultless g c = c.write_all-2.ensures.faultless ∙ c.loop-person.invariant.faultless

pub returns-clause-spared : goal.returns-clause-spared
returns-clause-spared g c = λ s. record { same = (c.write_all-2.ensures.spared (c.loop-person.invariant.faultless ∙ s)).same ∙ c.loop-person.invariant.spared s; answer = (c.write_all-2.ensures.spared (c.loop-person.invariant.faultless ∙ s)).answer }
