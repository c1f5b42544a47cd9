use Rattle.std.proofs.Common.{refl, inr}
use Rattle.list_laws.proofs.Tests.{not_both_ways}
use Rattle.tpf_base.specs.Addresses.{authority_of}
use Rattle.page_controls.proofs.Counted.{no_link}
use Rattle.page_controls.proofs.link.home_link.Goals as goal

pub returns-else-same_authority : goal.returns-else-same_authority
returns-else-same_authority c =
    inr (
      refl,
      no_link c.args.term.now c.in-Iri.iri c.as_str.result.now c.in_ok-next.next (authority_of c.args.address.now) c.in-Iri.is c.as_str.ensures.text c.in_ok-next.ensures
          (λ same. not_both_ways c.same_authority.result (c.same_authority.ensures.1 same) c.if-same_authority.false),
    )
