use Rattle.template_fill.proofs.Addresses.{kept_text, kept_is_address, kept_iri}
use Rattle.template_fill.proofs.address.WebAddress.text.Goals as goal

pub returns-clause-text : goal.returns-clause-text
returns-clause-text c = rw c.as_str.ensures.value (kept_text _ _ _ _ _ c.self.invariant c.self.view_is)

pub returns-clause-address : goal.returns-clause-address
returns-clause-address c = rw c.as_str.ensures.value (kept_is_address _ _ _ _ _ c.self.invariant c.self.view_is)

pub returns-clause-iri : goal.returns-clause-iri
returns-clause-iri c = rw c.as_str.ensures.value (kept_iri _ _ _ _ c.self.invariant)
