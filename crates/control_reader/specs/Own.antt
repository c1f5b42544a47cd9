-- What is read of a page of a server of our own.
use Rattle.std.specs.Prelude.{ℕ, ◌≡◌, true, List, codes, is_none, Option, Some, None, ⊤}
use Rattle.std.specs.Borrow.{Bor}
use Rattle.std.specs.List.{list_all}
use Rattle.rdf_terms.specs.declared.term.Quad.{Quad}
use Rattle.tpf_base.specs.Addresses.{Address, IsAddress, authority_of}
use Rattle.template_fill.specs.declared.form.Form.{Form}
use Rattle.control_triples.specs.Controls.{FormTexts}
use Rattle.page_controls.specs.Controls.{IsFormOf, IsHome}
use Rattle.control_reader.specs.Takes.{IsBody}

-- these are the quads of the lines before the controls, all of the default graph
pub record IsData (front : List ℕ) (quads : List Quad) : Type 0 where
  pub body : IsBody front quads
  pub default : list_all (λ (q : Quad). is_none q.graph) quads ≡ true

-- the texts of such a server's form
abbrev pub own_texts : List ℕ → FormTexts
own_texts template = record { template = template; subject = codes "subject"; predicate = codes "predicate"; object = codes "object" }

-- the form with such texts, of the authority
pub record IsOwnForm (template authority : List ℕ) (found : Form) : Type 0 where
  pub form : IsFormOf (own_texts template) found
  pub home : IsHome found.template authority

-- the address of the next page, of the authority, where there is one
abbrev pub IsOwnNext : List ℕ → Option (Bor (List ℕ)) → Option Address → Type 0
IsOwnNext authority None None = ⊤
IsOwnNext authority None (Some next) = ⊥
IsOwnNext authority (Some text) None = ⊥
IsOwnNext authority (Some text) (Some next) = IsAddress text.now next × (authority_of next ≡ authority)
