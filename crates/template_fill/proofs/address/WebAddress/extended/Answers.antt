use Rattle.std.proofs.Common.{refl, sym}
use Rattle.template_fill.proofs.Addresses.{extended, extended_shares, kept_is_address, kept_text}
use Rattle.template_fill.proofs.address.WebAddress.extended.Goals as goal

pub invariant_of-result : goal.invariant_of-result
invariant_of-result c = extended _ _ _ _ _ _ c.self.invariant c.self.view_is c.requires

pub returns-clause-address : goal.returns-clause-address
returns-clause-address c = kept_is_address _ _ _ _ _ (extended _ _ _ _ _ _ c.self.invariant c.self.view_is c.requires) refl

pub returns-clause-text : goal.returns-clause-text
returns-clause-text c = sym (kept_text _ _ _ _ _ (extended _ _ _ _ _ _ c.self.invariant c.self.view_is c.requires) refl)

pub returns-clause-authority : goal.returns-clause-authority
returns-clause-authority c = extended_shares _ _ _ _ _ _ c.self.invariant c.self.view_is c.requires
