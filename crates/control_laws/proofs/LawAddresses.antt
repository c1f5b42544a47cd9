-- The texts of addresses that begin with that of a server's base.
use Rattle.std.proofs.Common.{◌≡◌, ℕ, List, ◌∷◌, ◌++◌, true, Some, refl, ◌∙◌, ap, append_assoc}
use Rattle.std.specs.Prelude.{codes}
use Rattle.std.specs.List.{list_all}
use Rattle.std.specs.Char.{is_ascii}
use Rattle.rdf_terms.specs.Iri.{is_iri_byte}
use Rattle.tpf_base.specs.Addresses.{Address, IsAddress, is_address_byte, authority_text, authority_of, target_of, address_text}
use Rattle.template_fill.specs.ReadAddress.{read_spelled, with_target}
use Rattle.template_fill.specs.WebAddress.{IsNormal, Extends, port_text}
use Rattle.own_controls.specs.Safe.{IsWeb}
use Rattle.own_controls.proofs.Addresses.{base_web}
use Rattle.own_controls.proofs.Web.{web_more}
use Rattle.template_fill.proofs.Addresses.{authority-port, is_port_typed, is_ascii-address, iri_byte-address}
use Rattle.template_fill.proofs.Reading.{IsTail, one_address, read_of}
use Rattle.template_fill.proofs.Passing.{list_all-wider}
use Rattle.template_fill.proofs.Authorities.{continued}

-- ---- texts that are IRIs of ASCII

pub extends_web : (base : Address) (text : List ℕ) → IsAddress (address_text base) base → Extends base text → IsWeb text
extends_web base text h e =
    rw e.is_text (web_more (address_text base) e.more (base_web base h) (list_all-wider is_address_byte is_iri_byte iri_byte-address e.more e.bytes) (list_all-wider is_address_byte is_ascii is_ascii-address e.more e.bytes))

-- ---- addresses that go on

-- the address of such a text
pub longer : (base : Address) (text : List ℕ) → Extends base text → Address
longer base text e = with_target base.host base.port (target_of base ++ e.more)

pub longer_is : (base : Address) (text : List ℕ) → IsAddress (address_text base) base → (e : Extends base text) → IsAddress text (longer base text e)
unfolding longer
longer_is base text h e = continued base e.more text h e.bytes e.is_text

longer_authority : (base : Address) (text : List ℕ) (e : Extends base text) → authority_of (longer base text e) ≡ authority_of base
unfolding longer
longer_authority base text e = refl

-- an address whose text goes on from that of the base has its authority
pub same_authority : (base next : Address) (text : List ℕ) → IsAddress (address_text base) base → Extends base text → IsAddress text next → authority_of next ≡ authority_of base
same_authority base next text h e is = ap authority_of (one_address text next (longer base text e) is (longer_is base text h e)) ∙ longer_authority base text e

-- ---- reading the base

slash_tail : (after : List ℕ) → list_all is_address_byte after ≡ true → IsTail (47 ∷ after)
slash_tail after all = record { rest = all; host = refl; digit = refl }

pub normal_spelled : (host target : List ℕ) (port : ℕ) → IsNormal host port target → read_spelled (codes "http://" ++ (authority_text host port ++ target)) ≡ Some (record { host = host; port = port; rest = target })
normal_spelled host target port n =
    let tail : IsTail target = rw n.slash (slash_tail n.after_slash n.bytes) in
    rw (authority-port host port, append_assoc host (port_text port) target) (read_of host (port_text port) target port n.is_host (is_port_typed port n.low n.high) tail)
