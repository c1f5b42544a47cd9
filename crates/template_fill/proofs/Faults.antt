-- Faults that are handed on.
use Rattle.std.proofs.Common.{◌≡◌, Err, ap}
use Rattle.std.specs.Prelude.{IsErrOf}
use Rattle.template_fill.specs.declared.fault.TemplateFault.{TemplateFault}

pub same_fault : {A B : Type 0} (fault wanted : TemplateFault) → IsErrOf {T = A} (Err fault) wanted → IsErrOf {T = B} (Err fault) wanted
same_fault {A} {B} fault wanted h = let is : fault ≡ wanted = cc in ap Err is
