-- Worked selections of one small data set, by computing: each argument matters.
use Rattle.std.specs.Prelude.{◌≡◌, List, [], ◌∷◌, codes, refl}
use Rattle.rdf_terms.specs.declared.term.Term.{Term}
use Rattle.rdf_terms.specs.declared.term.Term.TheVariants.{Iri}
use Rattle.rdf_terms.specs.declared.term.Triple.{Triple}
use Rattle.rdf_terms.specs.declared.slots.Slot.{Slot}
use Rattle.rdf_terms.specs.declared.slots.Slot.TheVariants.{Any, Fixed}
use Rattle.rdf_terms.specs.declared.slots.Slots.{Slots}
use Rattle.rdf_terms.specs.Order.{term_order}
use Rattle.rdf_terms.specs.Fragments.{fragment}
use Rattle.rdf_terms.specs.Selections.{Selection, selected, selected_last, selected_page}

-- ---- five terms and four triples, not in their order

abbrev alice : Term
alice = Iri (codes "a")

abbrev bob : Term
bob = Iri (codes "b")

abbrev carol : Term
carol = Iri (codes "c")

abbrev knows : Term
knows = Iri (codes "k")

abbrev likes : Term
likes = Iri (codes "l")

abbrev says : Term → Term → Term → Triple
says s p o = record { subject = s; predicate = p; object = o }

abbrev people : List Triple
people = says bob likes carol ∷ says alice knows carol ∷ says bob knows carol ∷ says alice knows bob ∷ []

abbrev row : Slot → Slot → Slot → Slots
row s p o = record { subject = s; predicate = p; object = o }

abbrev anything : Slots
anything = row Any Any Any

abbrev known : Slots
known = row Any (Fixed knows) Any

abbrev of : Slots → List Slots → List Triple
of slots rows = selected people (record { slots = slots; rows = rows })

-- ---- the slots

-- with no rows: the fragment, in its order, here by predicate and object
without-rows : of known [] ≡ says alice knows bob ∷ says alice knows carol ∷ says bob knows carol ∷ []
unfolding fragment term_order
without-rows = refl

-- one row: of the fragment what matches it
one-row : of known (row (Fixed bob) Any Any ∷ []) ≡ says bob knows carol ∷ []
unfolding fragment term_order
one-row = refl

-- other slots, the same row
other-slots : of anything (row (Fixed bob) Any Any ∷ []) ≡ says bob knows carol ∷ says bob likes carol ∷ []
unfolding fragment term_order
other-slots = refl

-- ---- the rows

-- two rows: what matches either, once where it matches both, in the order of the slots and not of the rows
two-rows : of known (row Any Any (Fixed carol) ∷ row (Fixed alice) Any Any ∷ []) ≡ says alice knows bob ∷ says alice knows carol ∷ says bob knows carol ∷ []
unfolding fragment term_order
two-rows = refl

-- a row that binds two places wants both
both-places : of known (row (Fixed alice) Any (Fixed carol) ∷ []) ≡ says alice knows carol ∷ []
unfolding fragment term_order
both-places = refl

-- a row against the slots selects nothing, which is not what no rows do
against-the-slots : of known (row Any (Fixed likes) Any ∷ []) ≡ []
unfolding fragment term_order
against-the-slots = refl

-- ---- the data

other-data : selected (says alice likes bob ∷ []) (record { slots = anything; rows = row (Fixed bob) Any Any ∷ [] }) ≡ []
unfolding fragment term_order
other-data = refl

-- ---- pages

abbrev by-alice-or-to-carol : Selection
by-alice-or-to-carol = record { slots = known; rows = row Any Any (Fixed carol) ∷ row (Fixed alice) Any Any ∷ [] }

first-page : selected_page people by-alice-or-to-carol 1 2 ≡ says alice knows bob ∷ says alice knows carol ∷ []
unfolding fragment term_order
first-page = refl

second-page : selected_page people by-alice-or-to-carol 2 2 ≡ says bob knows carol ∷ []
unfolding fragment term_order
second-page = refl

past-the-last : selected_page people by-alice-or-to-carol 3 2 ≡ []
unfolding fragment term_order
past-the-last = refl

last-of-two : selected_last people by-alice-or-to-carol 2 ≡ 2
unfolding fragment term_order
last-of-two = refl

last-of-one : selected_last people by-alice-or-to-carol 1 ≡ 3
unfolding fragment term_order
last-of-one = refl

-- a selection of nothing has one page
last-of-none : selected_last people (record { slots = known; rows = row Any (Fixed likes) Any ∷ [] }) 2 ≡ 1
unfolding fragment term_order
last-of-none = refl
