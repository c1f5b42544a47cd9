-- An address in its normal form, whose text is an IRI of ASCII.
use Rattle.std.proofs.Common.{◌≡◌, ℕ, List, ◌++◌, length, refl, sym, subst}
use Rattle.std.specs.Prelude.{codes}
use Rattle.tpf_base.specs.Addresses.{Address, IsAddress, authority_text, target_of, address_text}
use Rattle.template_fill.specs.WebAddress.{IsNormal}
use Rattle.template_fill.proofs.Addresses.{keeps, kept_iri}
use Rattle.template_fill.proofs.Authorities.{is_normal}
use Rattle.own_controls.specs.Safe.{IsWeb}

-- an address that is read from its own text has the parts of the normal form
pub base_normal : (base : Address) → IsAddress (address_text base) base → IsNormal base.host base.port (target_of base)
base_normal base r = is_normal (address_text base) base r

-- ---- texts that are IRIs of ASCII

normal_web : (host target : List ℕ) (port : ℕ) → IsNormal host port target → IsWeb (codes "http://" ++ (authority_text host port ++ target))
normal_web host target port n =
    let text = codes "http://" ++ (authority_text host port ++ target) in
    let kept = (keeps text host target (length host) (length (authority_text host port)) port n refl refl refl).0 in
    record { iri = kept_iri text (length host) (length (authority_text host port)) port kept; ascii = kept.ascii }

pub base_web : (base : Address) → IsAddress (address_text base) base → IsWeb (address_text base)
base_web base h = normal_web base.host (target_of base) base.port (base_normal base h)

-- the text of an address, which is that of the address itself
pub text_web : (text : List ℕ) (address : Address) → text ≡ address_text address → IsAddress text address → IsWeb text
text_web text address is own = subst IsWeb (sym is) (base_web address (subst (λ (t : List ℕ). IsAddress t address) is own))
