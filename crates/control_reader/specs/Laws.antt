-- Laws of pages.
use Rattle.std.specs.Prelude.{ℕ, ◌≡◌, List}
use Rattle.tpf_base.specs.Addresses.{Address}
use Rattle.fragment_page.specs.declared.page.Page.{Page}
use Rattle.fragment_page.specs.declared.page.PageFault.{PageFault}
use Rattle.control_reader.specs.Takes.{Takes, Faults}

-- a body is one page at most
abbrev pub OnePage : Type 0
OnePage = (bytes : List ℕ) (address : Address) (one other : Page) → Takes bytes address one → Takes bytes address other → one ≡ other

-- it has one first fault at most
abbrev pub OneFault : Type 0
OneFault = (bytes : List ℕ) (address : Address) (one other : PageFault) → Faults bytes address one → Faults bytes address other → one ≡ other

-- no page has a fault
abbrev pub NoPageAtFault : Type 0
NoPageAtFault = (bytes : List ℕ) (address : Address) (page : Page) (fault : PageFault) → Takes bytes address page → Faults bytes address fault → ⊥
