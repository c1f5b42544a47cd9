-- What came of a call over the wire decides what came of the query.
use Rattle.std.proofs.Common.{◌≡◌, Result, Ok, Err, refl, sym, subst}
use Rattle.tpf_client.specs.declared.fault.ClientFault.{ClientFault}
use Rattle.answer_faults.specs.declared.fault.AnswerFault.{AnswerFault}
use Rattle.answer_faults.specs.declared.fault.AnswerFault.TheVariants as faults

-- what holds of either outcome of the call, by what the call promises of its result, holds of what came of the query
pub by_called : {A : Type 0} (Q : Result A ClientFault → Type 0) (P : Result A AnswerFault → Type 0) (came : Result A ClientFault) (told : Result A AnswerFault)
    → ((answer : A) → came ≡ Ok answer → told ≡ Ok answer) → ((fault : ClientFault) → came ≡ Err fault → told ≡ Err (faults.Client fault))
    → Q came → ((answer : A) → Q (Ok answer) → P (Ok answer)) → ((fault : ClientFault) → Q (Err fault) → P (Err (faults.Client fault))) → P told
by_called Q P (Ok answer) told ok err q gave failed = subst P (sym (ok answer refl)) (gave answer q)
by_called Q P (Err fault) told ok err q gave failed = subst P (sym (err fault refl)) (failed fault q)
