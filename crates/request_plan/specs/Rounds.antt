-- What a join asks for at once: the page of one number of a fragment, from each server that has it.
use Rattle.std.specs.Prelude.{◌≡◌, List, [], ◌∷◌, Option, Some, None, ⊤}
use Rattle.std.specs.List.{All, flat_map}
use Rattle.tpf_base.specs.Addresses.{Address, IsAddress}
use Rattle.rdf_terms.specs.declared.term.Triple.{Triple}
use Rattle.rdf_terms.specs.Selections.{Selection}
use Rattle.template_fill.specs.declared.form.Form.{Form}
use Rattle.template_fill.specs.Forms.{selection_form_text}
use Rattle.template_fill.specs.Authorities.{ShareAuthority}
use Rattle.request_plan.specs.Evaluations.{HasHome}

-- The addresses of the pages, in the order of the servers. Where there are several servers, also the triples that the pages before
-- these had, ascending, each once: what stands among them opens nothing.
pub record RoundData : Type 0 where
  pub addresses : List Address
  pub taken : List Triple

-- the triples that came before, where they are kept
abbrev pub taken_of : Option (List Triple) → List Triple
taken_of None = []
taken_of (Some triples) = triples

-- what one server alone is asked for
abbrev pub round_of_one : Address → RoundData
round_of_one address = record { addresses = address ∷ []; taken = [] }

-- the addresses of rounds, one round after another
abbrev pub addresses_in : List RoundData → List Address
addresses_in rounds = flat_map (λ round. round.addresses) rounds

-- ---- the first round

-- each form gives the address of the first page for the selection
abbrev pub AreFirst : List Form → Selection → List Address → Type 0
AreFirst [] s [] = ⊤
AreFirst [] s (address ∷ addresses) = ⊥
AreFirst (form ∷ forms) s [] = ⊥
AreFirst (form ∷ forms) s (address ∷ addresses) = IsAddress (selection_form_text form s) address × AreFirst forms s addresses

pub record IsFirstRound (forms : List Form) (s : Selection) (round : RoundData) : Type 0 where
  pub addresses : AreFirst forms s round.addresses
  pub none : round.taken ≡ []

-- ---- authorities

-- the addresses have the authorities of the forms, one each
abbrev pub ShareForms : List Form → List Address → Type 0
ShareForms [] [] = ⊤
ShareForms [] (address ∷ addresses) = ⊥
ShareForms (form ∷ forms) [] = ⊥
ShareForms (form ∷ forms) (address ∷ addresses) = ShareAuthority form.template.start address × ShareForms forms addresses

-- each address of the round has one of the authorities
abbrev pub RoundAtHome : List Address → RoundData → Type 0
RoundAtHome homes round = All (HasHome homes) round.addresses

-- so has the next round, if there is one
abbrev pub NextRoundAtHome : List Address → Option RoundData → Type 0
NextRoundAtHome homes None = Unit {0}
NextRoundAtHome homes (Some next) = RoundAtHome homes next

-- so has each form
abbrev pub FormsAtHome : List Address → List Form → Type 0
FormsAtHome homes forms = All (λ form. HasHome homes form.template.start) forms
