-- The fragment of slots by their ids.
use Rattle.std.proofs.Common.{◌≡◌, List, [], sym, subst, None}
use Rattle.std.specs.List.{Contains}
use Rattle.std.specs.List.Sorted.{IsStrictlySortedBy}
use Rattle.list_laws.proofs.Members.{in_flat_map, none_in}
use Rattle.rdf_terms.specs.declared.term.Triple.{Triple}
use Rattle.rdf_terms.specs.declared.term.Term.{Term}
use Rattle.rdf_terms.specs.declared.slots.Slot.{Slot}
use Rattle.rdf_terms.specs.declared.slots.Slot.TheVariants.{Any, Fixed}
use Rattle.rdf_terms.specs.declared.slots.Slots.{Slots}
use Rattle.rdf_terms.specs.Slots.{Matches, MatchesSlot}
use Rattle.rdf_terms.specs.Fragments.{IsFragment, fragment}
use Rattle.rdf_terms.proofs.FragmentLaws.{fragment_only}
use Rattle.triple_table.specs.Served.{terms_in, terms_of}
use Rattle.triple_table.specs.Stored.{Stored, triples_in, listed, slots_at}
use Rattle.triple_table.proofs.Built.{subject_in, predicate_in, object_in}
use Rattle.triple_table.specs.declared.ids.Range.{Range}
use Rattle.triple_table.specs.declared.ids.IdPattern.{IdPattern}
use Rattle.fragment_pages.specs.SlotIds.{IsSlotId}

-- ---- a term that is not held

absent : (s : Stored) (slot : Slot) → IsSlotId s slot None → (t : Term) → MatchesSlot slot t → Contains (terms_of (triples_in s)) t → ⊥
absent s Any h t m c = h
absent s (Fixed f) h t m c = h (subst (Contains (terms_of (triples_in s))) (sym m) c)

pub no_subject : (s : Stored) (slots : Slots) → IsSlotId s slots.subject None → (t : Triple) → Contains (triples_in s) t → Matches slots t → ⊥
no_subject s slots h t c m = absent s slots.subject h t.subject m.subject (in_flat_map terms_in (triples_in s) t t.subject c (subject_in t))

pub no_predicate : (s : Stored) (slots : Slots) → IsSlotId s slots.predicate None → (t : Triple) → Contains (triples_in s) t → Matches slots t → ⊥
no_predicate s slots h t c m = absent s slots.predicate h t.predicate m.predicate (in_flat_map terms_in (triples_in s) t t.predicate c (predicate_in t))

pub no_object : (s : Stored) (slots : Slots) → IsSlotId s slots.object None → (t : Triple) → Contains (triples_in s) t → Matches slots t → ⊥
no_object s slots h t c m = absent s slots.object h t.object m.object (in_flat_map terms_in (triples_in s) t t.object c (object_in t))

-- ---- the range of a pattern, or an empty one

pub range_listed : (s : Stored) (slots : Slots) (p : IdPattern) (range : Range) → slots_at s p ≡ slots → IsFragment (triples_in s) (slots_at s p) (listed s range) → listed s range ≡ fragment (triples_in s) slots
range_listed s slots p range e h = subst (λ x. listed s range ≡ fragment (triples_in s) x) e (fragment_only (triples_in s) (slots_at s p) (listed s range) h)

empty_fragment : (triples : List Triple) (slots : Slots) → ((t : Triple) → Contains triples t → Matches slots t → ⊥) → IsFragment triples slots []
unfolding IsStrictlySortedBy
empty_fragment triples slots h = record {
  ascending = tt;
  members = λ t. (λ c. absurd (none_in t c), λ c. absurd (h t c.0 c.1));
}

pub nothing_listed : (triples : List Triple) (slots : Slots) → ((t : Triple) → Contains triples t → Matches slots t → ⊥) → [] ≡ fragment triples slots
nothing_listed triples slots h = fragment_only triples slots [] (empty_fragment triples slots h)

-- ---- the page
