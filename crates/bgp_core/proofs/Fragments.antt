-- A pattern takes a triple only where its instance matches.
use Rattle.std.proofs.Common.{ℕ, ◌≡◌, true, false, List, [], Option, Some, None, slice_get, refl, sym, subst}
use Rattle.std.specs.List.{flat_map, filter}
use Rattle.std.specs.List.Sorted.{IsPermutation}
use Rattle.std.proofs.lemmas.List.Sorted.{IsPermutation-trans}
use Rattle.list_laws.proofs.Tests.{all_three}
use Rattle.list_laws.proofs.Orders.{same, flat_map_IsPermutation}
use Rattle.rdf_terms.specs.Same.{term_eq}
use Rattle.rdf_terms.specs.Slots.{matches_slot, matches}
use Rattle.rdf_terms.specs.declared.term.Term.{Term}
use Rattle.rdf_terms.specs.declared.term.Triple.{Triple}
use Rattle.rdf_terms.proofs.Equality.{term_self}
use Rattle.bgp_core.specs.declared.pattern.Part.{Part}
use Rattle.bgp_core.specs.declared.pattern.Part.TheVariants.{Fixed, Name}
use Rattle.bgp_core.specs.declared.pattern.Pattern.{Pattern}
use Rattle.bgp_core.specs.Solutions.{Places, joined, extension, rows_from}
use Rattle.bgp_core.specs.Instances.{slot_of, slot, instance}
use Rattle.bgp_core.specs.Extends.{Becomes}
use Rattle.bgp_core.proofs.Extending.{extension-some}
use Rattle.bgp_core.proofs.Patterns.{flat_map-filter}

name-matches : (row new : Places) (n : ℕ) (t : Term) (o : Option (Option Term)) → slice_get row n ≡ o → slice_get new n ≡ Some (Some t) → ((k : ℕ) (u : Term) → slice_get row k ≡ Some (Some u) → slice_get new k ≡ Some (Some u)) → matches_slot (slot_of (joined o)) t ≡ true
name-matches row new n t None at b keeps = refl
name-matches row new n t (Some None) at b keeps = refl
name-matches row new n t (Some (Some u)) at b keeps =
    let there : slice_get new n ≡ Some (Some u) = keeps n u at in
    let e : u ≡ t = cc in
    subst (λ (x : Term). term_eq u x ≡ true) e (term_self u)

part-matches : (row new : Places) (p : Part) (t : Term) → Becomes new p t → ((k : ℕ) (u : Term) → slice_get row k ≡ Some (Some u) → slice_get new k ≡ Some (Some u)) → matches_slot (slot row p) t ≡ true
part-matches row new (Fixed u) t b keeps = subst (λ (x : Term). term_eq u x ≡ true) b (term_self u)
part-matches row new (Name n) t b keeps = name-matches row new n t (slice_get row n) refl b keeps

pub extension-matches : (p : Pattern) (row : Places) (t : Triple) (new : Places) → extension p row t ≡ Some new → matches (instance p row) t ≡ true
extension-matches p row t new e =
    let x = extension-some p row t new e in
    all_three _ _ _ (part-matches row new p.subject t.subject x.subject x.grows.keeps) (part-matches row new p.predicate t.predicate x.predicate x.grows.keeps) (part-matches row new p.object t.object x.object x.grows.keeps)

nothing : {A : Type 0} (p : Pattern) (row : Places) (t : Triple) (f : Places → List A) (o : Option Places) → extension p row t ≡ o → matches (instance p row) t ≡ false → rows_from o f ≡ []
nothing p row t f None e h = refl
nothing p row t f (Some new) e h = let no : matches (instance p row) t ≡ true = extension-matches p row t new e in cc

-- a pattern may go over its fragment in place of all triples
pub over_fragment : {A : Type 0} (p : Pattern) (row : Places) (triples items : List Triple) (f : Places → List A) → IsPermutation (filter (matches (instance p row)) triples) items → IsPermutation (flat_map (λ t. rows_from (extension p row t) f) triples) (flat_map (λ t. rows_from (extension p row t) f) items)
over_fragment p row triples items f h =
    IsPermutation-trans _ _ _
    (same _ _ (sym (flat_map-filter (λ t. rows_from (extension p row t) f) (matches (instance p row)) triples (λ t h. nothing p row t f (extension p row t) refl h))))
    (flat_map_IsPermutation (λ t. rows_from (extension p row t) f) _ _ h)
