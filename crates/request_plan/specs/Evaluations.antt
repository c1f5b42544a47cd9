-- What an evaluation of a query owes and shows, and how its calls change that.
use Rattle.std.specs.Prelude.{ℕ, ◌≡◌, ◌+◌, ◌≤◌, Bool, true, List, [], ◌∷◌, Option, Some, None}
use Rattle.std.specs.List.{All, Contains}
use Rattle.std.specs.List.Sorted.{IsPermutation}
use Rattle.tpf_base.specs.Addresses.{Address}
use Rattle.template_fill.specs.Authorities.{ShareAuthority}
use Rattle.fragment_page.specs.declared.page.Page.{Page}
use Rattle.bgp_core.specs.Solutions.{Places}
use Rattle.request_plan.specs.declared.evaluation.Ask.{Ask}
use Rattle.request_plan.specs.declared.evaluation.Answered.{Answered}
use Rattle.request_plan.specs.declared.evaluation.Answered.TheVariants.{Taken, Stranger}

-- ---- what is owed, where what the other end has is known

-- the rows still to be given, the addresses still to be handed out, and the tickets that are out, each with its address;
-- the lists count up to their order
pub record Account : Type 0 where
  pub owed : List Places
  pub left : List Address
  pub out : List (ℕ × Address)

-- nothing is owed, and nothing is left to ask
abbrev pub nothing : Account
nothing = record { owed = []; left = []; out = [] }

-- an address was handed out under a ticket
pub record HandsOver (before after : Account) (ticket : ℕ) (address : Address) : Type 0 where
  pub owed : IsPermutation before.owed after.owed
  pub left : IsPermutation before.left (address ∷ after.left)
  pub out : IsPermutation after.out ((ticket, address) ∷ before.out)

-- a ticket was answered
pub record EndsTicket (before after : Account) (ticket : ℕ) : Type 0 where
  pub owed : IsPermutation before.owed after.owed
  pub left : IsPermutation before.left after.left
  pub address : Address
  pub out : IsPermutation before.out ((ticket, address) ∷ after.out)

-- a row was given
pub record GivesOwed (before after : Account) (row : Places) : Type 0 where
  pub owed : IsPermutation before.owed (row ∷ after.owed)
  pub left : IsPermutation before.left after.left
  pub out : IsPermutation before.out after.out

abbrev pub OwesAfterAsk : Account → Account → Option Ask → Type 0
OwesAfterAsk before after None = after ≡ before
OwesAfterAsk before after (Some ask) = HandsOver before after ask.ticket ask.address

abbrev pub OwesAfterAnswer : Account → Account → ℕ → Answered → Type 0
OwesAfterAnswer before after ticket Stranger = after ≡ before
OwesAfterAnswer before after ticket Taken = EndsTicket before after ticket

-- the page is true for each address with which the ticket is out
abbrev pub IsTrueOut : (Address → Page → Type 0) → Account → ℕ → Page → Type 0
IsTrueOut is_true account ticket page = (address : Address) → Contains account.out (ticket, address) → is_true address page

-- ---- what is to be seen, whatever pages came

-- how many tickets were given, which is the number of the next one; those that are out; how many rows wait; whether
-- nothing is open any more
pub record Standing : Type 0 where
  pub given : ℕ
  pub out : List ℕ
  pub waiting : ℕ
  pub done : Bool

pub record NumbersAsk (before after : Standing) (ticket : ℕ) : Type 0 where
  pub number : ticket ≡ before.given
  pub given : after.given ≡ before.given + 1
  pub out : IsPermutation after.out (ticket ∷ before.out)
  pub waiting : after.waiting ≡ before.waiting

pub record EndsNumber (before after : Standing) (ticket : ℕ) : Type 0 where
  pub given : after.given ≡ before.given
  pub out : IsPermutation before.out (ticket ∷ after.out)
  pub waiting : before.waiting ≤ after.waiting

pub record TakesOne (before after : Standing) : Type 0 where
  pub given : after.given ≡ before.given
  pub out : after.out ≡ before.out
  pub waiting : before.waiting ≡ after.waiting + 1

abbrev pub StandsAfterAsk : Standing → Standing → Option Ask → Type 0
StandsAfterAsk before after None = after ≡ before
StandsAfterAsk before after (Some ask) = NumbersAsk before after ask.ticket

abbrev pub StandsAfterAnswer : Standing → Standing → ℕ → Answered → Type 0
StandsAfterAnswer before after ticket Stranger = (after ≡ before) × All (λ t. (t ≡ ticket) → ⊥) before.out
StandsAfterAnswer before after ticket Taken = EndsNumber before after ticket

-- with no ticket out and no row waiting it is done
abbrev pub EndsInQuiet : Standing → Type 0
EndsInQuiet standing = standing.out ≡ [] → standing.waiting ≡ 0 → standing.done ≡ true

-- ---- what is kept, whatever pages came

-- addresses whose authorities the asks have, and the number of places of a row
pub record Terms : Type 0 where
  pub homes : List Address
  pub width : ℕ

-- how many patterns a query has, and how many rows are extended at a time
pub record Sizes : Type 0 where
  pub patterns : ℕ
  pub window : ℕ

-- the address has the authority of one of these
abbrev pub HasHome : List Address → Address → Type 0
HasHome homes address = (home : Address) × Contains homes home × ShareAuthority home address

-- an ask that there may be has one of the authorities
abbrev pub AsksAtHome : List Address → Option Ask → Type 0
AsksAtHome homes None = Unit {0}
AsksAtHome homes (Some ask) = HasHome homes ask.address

-- so has the next page, if there is one
abbrev pub NextAtHome : List Address → Option Address → Type 0
NextAtHome homes None = Unit {0}
NextAtHome homes (Some next) = HasHome homes next
