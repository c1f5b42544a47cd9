use Rattle.std.proofs.Common.{refl}
use Rattle.template_fill.proofs.Reading.{spells_is_address, no_address}
use Rattle.template_fill.proofs.address.WebAddress.read.Goals as goal

pub returns-in-Ok-clause-read : goal.returns-in-Ok-clause-read
returns-in-Ok-clause-read c =
    let text = rw c.as_bytes.ensures.value at c.in-Some.ensures.text in
    rw c.in-Ok.ensures (spells_is_address _ _ c.in-Some.ensures.spelled text)

pub returns-in-Ok-clause-refused : goal.returns-in-Ok-clause-refused
returns-in-Ok-clause-refused c =
    let text = rw c.as_bytes.ensures.value at c.in-Some.ensures.text in
    (λ h. absurd (cc), λ none. absurd (none _ (spells_is_address _ _ c.in-Some.ensures.spelled text)))

pub returns-in-Err-clause-refused : goal.returns-in-Err-clause-refused
returns-in-Err-clause-refused c =
    let text = rw c.as_bytes.ensures.value at c.in-Some.ensures.text in
    (λ h. absurd (cc), λ none. absurd (none _ (spells_is_address _ _ c.in-Some.ensures.spelled text)))

pub returns-in-None-clause-refused : goal.returns-in-None-clause-refused
returns-in-None-clause-refused c =
    let none = rw c.as_bytes.ensures.value at c.in-None.ensures.parts in
    (λ _. no_address c.args.text.now none, λ _. refl)
