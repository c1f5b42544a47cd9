-- What is taken from a page keeps the authority of its address.
use Rattle.std.proofs.Common.{◌≡◌, List, [], ℕ, Option, Some, None, sym, ◌∙◌}
use Rattle.std.specs.Prelude.{IfSome}
use Rattle.rdf_terms.specs.declared.term.Term.{Term}
use Rattle.rdf_terms.specs.declared.term.Term.TheVariants.{Iri, Blank, Literal}
use Rattle.rdf_terms.specs.declared.term.Quad.{Quad}
use Rattle.tpf_base.specs.Addresses.{Address, IsAddress, address_text, authority_of}
use Rattle.template_fill.specs.Templates.{Template, expansion}
use Rattle.template_fill.specs.Authorities.{ShareAuthority, IsTemplate, AuthoritiesAreHostsAndPorts, TemplatesAreKept, ExpansionsShareAuthority}
use Rattle.control_triples.specs.Controls.{IsLink, IsNext}
use Rattle.page_controls.specs.Controls.{IsHome}
use Rattle.control_reader.specs.Authorities.{PagesKeepAuthority}

module _ (hosts_and_ports : AuthoritiesAreHostsAndPorts) (kept : TemplatesAreKept) (expansions : ExpansionsShareAuthority) where
  start_shares : (text : List ℕ) (address : Address) (template : Template) → IsAddress text address → IsTemplate template → IsHome template (authority_of address) → ShareAuthority address template.start
  start_shares text address template r is home =
      let share = expansions template [] home.0 is home.1 in
      let same = (hosts_and_ports (address_text template.start) (expansion template []) template.start home.0 is.start home.1).1 share in
      (hosts_and_ports text (address_text template.start) address template.start r is.start).0 (sym same ∙ home.2)

  link_shares : (text : List ℕ) (address next : Address) (object : Term) → IsAddress text address → IsLink object next → authority_of next ≡ authority_of address → ShareAuthority address next
  link_shares text address next (Iri iri) r link same = (hosts_and_ports text iri address next r link).0 same
  link_shares text address next (Blank label) r link same = absurd link
  link_shares text address next (Literal form kind) r link same = absurd link

  next_shares : (text : List ℕ) (address : Address) (quads : List Quad) (topic : List ℕ) (next : Option Address) → IsAddress text address → IsNext quads topic (authority_of address) next → IfSome next (λ n. ShareAuthority address n)
  next_shares text address quads topic None r is = tt
  next_shares text address quads topic (Some next) r is = link_shares text address next is.0 r is.2 is.3

  pub pages_keep_authority : PagesKeepAuthority
  pages_keep_authority text bytes address page r t =
      let template = kept t.texts.template page.form.template t.form.template in
      record {
        template = template;
        form = start_shares text address page.form.template r template t.home;
        next = next_shares text address t.quads t.topic page.next r t.next;
      }
