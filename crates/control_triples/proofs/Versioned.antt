-- The version is that of the only literal that gives one.
use Rattle.std.proofs.Common.{ℕ, ◌≡◌, Bool, true, false, not, List, [], ◌∷◌, refl, sym, ap, subst, ◌∙◌, Option, Some, None}
use Rattle.std.specs.Prelude.{if◌then◌else◌, MatchOption}
use Rattle.std.specs.Str.Parse.{digits_value}
use Rattle.std.specs.List.{Contains, list_any}
use Rattle.std.proofs.lemmas.Bool.{and_parts, and_from}
use Rattle.list_laws.proofs.Members.{at_head, in_tail, any_of, some_of}
use Rattle.list_laws.proofs.Tests.{not_both_ways}
use Rattle.rdf_terms.specs.Same.{term_eq}
use Rattle.rdf_terms.specs.declared.term.Term.{Term}
use Rattle.rdf_terms.specs.declared.term.Term.TheVariants.{Iri, Blank, Literal}
use Rattle.rdf_terms.specs.declared.term.Triple.{Triple}
use Rattle.rdf_terms.specs.declared.term.Quad.{Quad}
use Rattle.rdf_terms.proofs.Equality.{term_same, term_self, same_passes}
use Rattle.control_triples.specs.Vocabulary.{version_info}
use Rattle.control_triples.specs.Controls.{Says, IsNumber, IsVersionObject, IsVersion}
use Rattle.control_triples.specs.Parts.{AreControls, triple}
use Rattle.control_triples.specs.Versions.{is_number_term, is_version, is_other_version, first_version}

-- ---- numbers

number_term : (o : Term) (n : ℕ) → IsNumber o n → is_number_term o ≡ true
number_term (Iri text) n h = absurd h
number_term (Blank label) n h = absurd h
number_term (Literal form kind) n h = h.0

-- ---- the first version

no_first : (t : Triple) (triples : List Triple) (v : Bool) → is_version t ≡ v → (if v then Some t.object else first_version triples) ≡ None → (is_version t ≡ false) × (first_version triples ≡ None)
no_first t triples true is none = absurd cc
no_first t triples false is none = (is, none)

none_gives : (triples : List Triple) → first_version triples ≡ None → list_any is_version triples ≡ false
none_gives [] none = refl
none_gives (t ∷ triples) none =
    let parts = no_first t triples (is_version t) refl none in
    rw parts.0 (none_gives triples parts.1)

-- a triple gives this version
Gives : List Triple → Term → Type 0
Gives triples o = (t : Triple) × Contains triples t × (is_version t ≡ true) × (t.object ≡ o)

first_by : (t : Triple) (triples : List Triple) (o : Term) → (first_version triples ≡ Some o → Gives triples o) → (v : Bool) → is_version t ≡ v → (if v then Some t.object else first_version triples) ≡ Some o → Gives (t ∷ triples) o
unfolding Gives
first_by t triples o rest true is some = (t, at_head t triples, is, cc)
first_by t triples o rest false is some = let found = rest some in (found.0, in_tail t found.0 triples found.1, found.2, found.3)

first_gives : (triples : List Triple) (o : Term) → first_version triples ≡ Some o → Gives triples o
first_gives [] o some = absurd cc
first_gives (t ∷ triples) o some = first_by t triples o (first_gives triples o) (is_version t) refl some

-- ---- what is said

module _ (quads : List Quad) (topic : List ℕ) (triples : List Triple) (are : AreControls quads topic triples) where
  version_triple : (s o : Term) (n : ℕ) → IsNumber o n → is_version (triple s version_info o) ≡ true
  version_triple s o n number = and_from (term_eq version_info version_info) (is_number_term o) (term_self version_info) (number_term o n number)

  stands : (s o : Term) → Says quads topic s version_info o → Contains triples (triple s version_info o)
  stands s o says = (are.members s version_info o).1 says

  none_there : first_version triples ≡ None → (o : Term) → IsVersionObject quads topic o → ⊥
  none_there none o h =
      not_both_ways (list_any is_version triples) (any_of is_version triples (triple h.0.0 version_info o) (stands h.0.0 o h.0.1) (version_triple h.0.0 o h.1.0 h.1.1)) (none_gives triples none)

  pub no_version : first_version triples ≡ None → IsVersion quads topic None
  no_version none o only = none_there none o only.0

  -- a triple of the controls that gives a version says so
  said : (t : Triple) → Contains triples t → is_version t ≡ true → (n : ℕ) → IsNumber t.object n → IsVersionObject quads topic t.object
  said t there is n number =
      let parts = and_parts (term_eq t.predicate version_info) (is_number_term t.object) is in
      let word : t.predicate ≡ version_info = term_same t.predicate version_info parts.0 in
      ((t.subject, (are.members t.subject version_info t.object).0 (subst (λ (p : Term). Contains triples (triple t.subject p t.object)) word there)), (n, number))

  -- a literal of 1 to MOST_DIGITS digits is a number
  some_number : (o : Term) → is_number_term o ≡ true → (n : ℕ) × IsNumber o n
  some_number (Iri text) is = absurd cc
  some_number (Blank label) is = absurd cc
  some_number (Literal form kind) is = (digits_value 10 form, (is, refl))

  object_said : (t : Triple) → Contains triples t → is_version t ≡ true → IsVersionObject quads topic t.object
  object_said t there is =
      let number = some_number t.object (and_parts (term_eq t.predicate version_info) (is_number_term t.object) is).1 in
      said t there is number.0 number.1

  pub several : (o : Term) → first_version triples ≡ Some o → list_any (is_other_version o) triples ≡ true → IsVersion quads topic None
  unfolding Gives
  several o first other only_one only =
      let one = first_gives triples o first in
      let two = some_of (is_other_version o) triples other in
      let parts = and_parts (is_version two.0) (not (term_eq two.0.object o)) two.2 in
      let same_first : o ≡ only_one = sym one.3 ∙ only.1 one.0.object (object_said one.0 one.1 one.2) in
      let same_second : two.0.object ≡ only_one = only.1 two.0.object (object_said two.0 two.1 parts.0) in
      differs (term_eq two.0.object o) (same_passes two.0.object o (same_second ∙ sym same_first)) parts.1
    where
      differs : (v : Bool) → v ≡ true → not v ≡ true → ⊥
      differs true is no_ = absurd cc
      differs false is no_ = absurd cc

  other_by : (o other : Term) (v : Bool) → term_eq other o ≡ v → (v ≡ false → ⊥) → other ≡ o
  other_by o other true is never = term_same other o is
  other_by o other false is never = absurd (never refl)

  only_first : (o : Term) → first_version triples ≡ Some o → list_any (is_other_version o) triples ≡ false → (other : Term) → IsVersionObject quads topic other → other ≡ o
  only_first o first none other h =
      other_by o other (term_eq other o) refl
      (λ differs. not_both_ways (list_any (is_other_version o) triples)
      (any_of (is_other_version o) triples (triple h.0.0 version_info other) (stands h.0.0 other h.0.1)
      (and_from (is_version (triple h.0.0 version_info other)) (not (term_eq other o)) (version_triple h.0.0 other h.1.0 h.1.1) (ap (λ (v : Bool). not v) differs))) none)

  pub one_number : (o : Term) (n : ℕ) → first_version triples ≡ Some o → list_any (is_other_version o) triples ≡ false → IsNumber o n → IsVersion quads topic (Some n)
  unfolding Gives
  one_number o n first none number =
      let one = first_gives triples o first in
      let is : IsVersionObject quads topic o = subst (IsVersionObject quads topic) one.3 (object_said one.0 one.1 one.2) in
      (o, (is, only_first o first none), number)

  pub never_none : (o : Term) → first_version triples ≡ Some o → ((n : ℕ) → IsNumber o n → ⊥) → ⊥
  unfolding Gives
  never_none o first never =
      let one = first_gives triples o first in
      let is : IsVersionObject quads topic o = subst (IsVersionObject quads topic) one.3 (object_said one.0 one.1 one.2) in
      never is.1.0 is.1.1

  pub said_by : (o : Term) → first_version triples ≡ Some o → list_any (is_other_version o) triples ≡ false → (r : Option ℕ) → MatchOption r ((n : ℕ) → IsNumber o n → ⊥) (λ n. IsNumber o n) → IsVersion quads topic r
  said_by o first none None never = absurd (never_none o first never)
  said_by o first none (Some n) number = one_number o n first none number
