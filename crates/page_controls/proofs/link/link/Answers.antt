use Rattle.std.proofs.Common.{refl, inr, ap, Err}
use Rattle.template_fill.specs.declared.fault.AddressFault.{AddressFault}
use Rattle.page_controls.proofs.link.link.Goals as goal

pub returns-in-Err-BadAddress : goal.returns-in-Err-BadAddress
returns-in-Err-BadAddress c = inr (refl, c.in-Err-BadAddress.ensures.refused.0 (ap (λ (f : AddressFault). Err f) c.in-Err-BadAddress.field-0-is))
