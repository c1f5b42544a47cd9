-- A page that was asked for: its ticket and address, and the page once it came.
use Rattle.std.specs.Prelude.{ℕ, ◌≡◌, Bool, List, [], ◌∷◌, Option, Some, None, is_some}
use Rattle.std.specs.List.{flat_map, list_all}
use Rattle.tpf_base.specs.Addresses.{Address}
use Rattle.fragment_page.specs.declared.page.Page.{Page}

pub record PartData : Type 0 where
  pub ticket : ℕ
  pub address : Address
  pub page : Option Page

-- a page that is awaited under a ticket
abbrev pub awaited : ℕ → Address → PartData
awaited ticket address = record { ticket = ticket; address = address; page = None }

-- the same part, once its page came
abbrev pub came : PartData → Page → PartData
came p page = record { ticket = p.ticket; address = p.address; page = Some page }

-- its page is awaited under the ticket
pub record Awaits (p : PartData) (ticket : ℕ) : Type 0 where
  pub under : p.ticket ≡ ticket
  pub out : p.page ≡ None

abbrev pub ticket_while : ℕ → Option Page → List ℕ
ticket_while ticket None = ticket ∷ []
ticket_while ticket (Some page) = []

-- the tickets that are out, in the order in which they were given
abbrev pub tickets_in : List PartData → List ℕ
tickets_in parts = flat_map (λ p. ticket_while p.ticket p.page) parts

abbrev pub out_while : ℕ → Address → Option Page → List (ℕ × Address)
out_while ticket address None = (ticket, address) ∷ []
out_while ticket address (Some page) = []

-- the tickets that are out, each with its address
abbrev pub outs_in : List PartData → List (ℕ × Address)
outs_in parts = flat_map (λ p. out_while p.ticket p.address p.page) parts

abbrev pub page_of : Option Page → List Page
page_of None = []
page_of (Some page) = page ∷ []

-- the pages that came, in the order of their addresses
abbrev pub pages_in : List PartData → List Page
pages_in parts = flat_map (λ p. page_of p.page) parts

-- all pages came
abbrev pub are_there : List PartData → Bool
are_there parts = list_all (λ p. is_some p.page) parts
