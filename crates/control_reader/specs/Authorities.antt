-- The authority of what is taken from a page.
use Rattle.std.specs.Prelude.{ℕ, List, IfSome}
use Rattle.tpf_base.specs.Addresses.{Address, IsAddress}
use Rattle.template_fill.specs.Authorities.{ShareAuthority, IsTemplate}
use Rattle.fragment_page.specs.declared.page.Page.{Page}
use Rattle.control_reader.specs.Takes.{Takes}

-- the page's form and the next page have the authority of the address, so each further address has it
pub record KeepsAuthority (address : Address) (page : Page) : Type 0 where
  pub template : IsTemplate page.form.template
  pub form : ShareAuthority address page.form.template.start
  pub next : IfSome page.next (λ next. ShareAuthority address next)

-- each page that is taken keeps the authority of its address
abbrev pub PagesKeepAuthority : Type 0
PagesKeepAuthority = (text bytes : List ℕ) (address : Address) (page : Page) → IsAddress text address → Takes bytes address page → KeepsAuthority address page
