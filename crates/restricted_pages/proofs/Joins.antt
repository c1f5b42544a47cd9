-- What rows leave of slots, by ids.
use Rattle.std.proofs.Common.{ℕ, ◌≡◌, ◌++◌, Bool, true, false, ◌&&◌, ◌||◌, List, [], ◌∷◌, map, Option, Some, None, refl, sym, ap, subst, ◌∙◌}
use Rattle.std.specs.List.{Contains, list_any}
use Rattle.std.proofs.lemmas.List.Elements.{All-nil, All-push}
use Rattle.list_laws.proofs.Lists.{any_snoc, map_snoc}
use Rattle.list_laws.proofs.Tests.{and_false}
use Rattle.list_laws.proofs.Members.{Contains-map, any_of, in_flat_map}
use Rattle.rdf_terms.specs.declared.term.Term.{Term}
use Rattle.rdf_terms.specs.declared.term.Triple.{Triple}
use Rattle.rdf_terms.specs.declared.slots.Slot.TheVariants.{Fixed}
use Rattle.rdf_terms.specs.declared.slots.Slots.{Slots}
use Rattle.rdf_terms.specs.EqualityLaws.{term_decides}
use Rattle.rdf_terms.specs.Slots.{matches, matches_slot}
use Rattle.rdf_terms.specs.Selections.{matches_one}
use Rattle.triple_table.specs.declared.ids.IdPattern.{IdPattern}
use Rattle.triple_table.specs.Served.{terms_in}
use Rattle.triple_table.specs.Stored.{Stored, IsIdPattern, slots_at, triples_in}
use Rattle.triple_table.proofs.Built.{subject_in, predicate_in, object_in}
use Rattle.restricted_pages.proofs.Bools.{and_or, either, or_absorbed, place_by_place, second_false, third_false, three}
use Rattle.restricted_pages.specs.Patterns.{IsJoined, IsJoinedId, ArePatternsOf, matches_pattern}

-- ---- three places at once

module _ (s : Stored) (slots row : Slots) where
  parted : (t : Triple) → (matches slots t && matches row t) ≡
      ((matches_slot slots.subject t.subject && matches_slot row.subject t.subject) && ((matches_slot slots.predicate t.predicate && matches_slot row.predicate t.predicate) && (matches_slot slots.object t.object && matches_slot row.object t.object)))
  parted t = place_by_place (matches_slot slots.subject t.subject) (matches_slot slots.predicate t.predicate) (matches_slot slots.object t.object) (matches_slot row.subject t.subject) (matches_slot row.predicate t.predicate) (matches_slot row.object t.object)

  pub no_subject : IsJoinedId s slots.subject row.subject None → IsJoined s slots row None
  no_subject h t held =
      let never = h t.subject (in_flat_map terms_in (triples_in s) t t.subject held (subject_in t)) in
      parted t ∙ ap (λ b. b && ((matches_slot slots.predicate t.predicate && matches_slot row.predicate t.predicate) && (matches_slot slots.object t.object && matches_slot row.object t.object))) never

  pub no_predicate : IsJoinedId s slots.predicate row.predicate None → IsJoined s slots row None
  no_predicate h t held =
      let never = h t.predicate (in_flat_map terms_in (triples_in s) t t.predicate held (predicate_in t)) in
      parted t ∙ ap (λ b. (matches_slot slots.subject t.subject && matches_slot row.subject t.subject) && (b && (matches_slot slots.object t.object && matches_slot row.object t.object))) never
      ∙ second_false (matches_slot slots.subject t.subject && matches_slot row.subject t.subject) (matches_slot slots.object t.object && matches_slot row.object t.object)

  pub no_object : IsJoinedId s slots.object row.object None → IsJoined s slots row None
  no_object h t held =
      let never = h t.object (in_flat_map terms_in (triples_in s) t t.object held (object_in t)) in
      parted t ∙ ap (λ b. (matches_slot slots.subject t.subject && matches_slot row.subject t.subject) && ((matches_slot slots.predicate t.predicate && matches_slot row.predicate t.predicate) && b)) never
      ∙ third_false (matches_slot slots.subject t.subject && matches_slot row.subject t.subject) (matches_slot slots.predicate t.predicate && matches_slot row.predicate t.predicate)

  pub joined : (a b c : Option ℕ) → IsJoinedId s slots.subject row.subject (Some a) → IsJoinedId s slots.predicate row.predicate (Some b) → IsJoinedId s slots.object row.object (Some c) →
      IsJoined s slots row (Some record { subject = a; predicate = b; object = c })
  joined a b c h k l = (record { subject = h.0; predicate = k.0; object = l.0 }, λ t. parted t ∙ three _ _ _ _ _ _ (h.1 t.subject) (k.1 t.predicate) (l.1 t.object))

-- ---- no row

pub no_row : (s : Stored) (slots : Slots) (ps : List IdPattern) → ps ≡ [] → ArePatternsOf s slots [] ps
no_row s slots ps e = subst (λ (l : List IdPattern). ArePatternsOf s slots [] l) (sym e) record { ids = All-nil (IsIdPattern s); same = λ t held. and_false (matches slots t) }

-- ---- a term that the table does not hold

pub not_held : (terms : List Term) (term t : Term) → (Contains terms term → ⊥) → Contains terms t → matches_slot (Fixed term) t ≡ false
not_held terms term t none held = by (matches_slot (Fixed term) t) refl
  where
    by : (b : Bool) → matches_slot (Fixed term) t ≡ b → b ≡ false
    by true h = absurd (none (subst (Contains terms) (sym ((term_decides term t).0 h)) held))
    by false h = refl

-- ---- one row more

module _ (s : Stored) (slots row : Slots) (rows : List Slots) (ps : List IdPattern) (h : ArePatternsOf s slots rows ps) where
  row_more : (b : Bool) (t : Triple) → Contains (triples_in s) t → (matches slots t && matches row t) ≡ b → (matches slots t && matches_one (rows ++ row ∷ []) t) ≡ (b || matches_pattern s ps t)
  row_more b t held is =
      ap (λ m. matches slots t && m) (any_snoc (λ r. matches r t) rows row) ∙ and_or (matches slots t) (matches row t) (matches_one rows t)
      ∙ either (matches slots t && matches row t) (matches slots t && matches_one rows t) b (matches_pattern s ps t) is (h.same t held)

  pub there_before : (p : IdPattern) → Contains ps p → IsJoined s slots row (Some p) → ArePatternsOf s slots (rows ++ row ∷ []) ps
  there_before p found is = record {
    ids = h.ids;
    same = λ t held. row_more (matches (slots_at s p) t) t held (is.1 t)
        ∙ or_absorbed (matches (slots_at s p) t) (matches_pattern s ps t) (any_of (λ r. matches r t) (map (slots_at s) ps) (slots_at s p) (Contains-map (slots_at s) ps p found));
  }

  pub nothing_more : IsJoined s slots row None → ArePatternsOf s slots (rows ++ row ∷ []) ps
  nothing_more is = record { ids = h.ids; same = λ t held. row_more false t held (is t held) }

  pub one_more : (p : IdPattern) → IsJoined s slots row (Some p) → (new : List IdPattern) → new ≡ ps ++ p ∷ [] → ArePatternsOf s slots (rows ++ row ∷ []) new
  one_more p is new e = subst (λ (l : List IdPattern). ArePatternsOf s slots (rows ++ row ∷ []) l) (sym e) record {
    ids = All-push (IsIdPattern s) ps p h.ids is.0;
    same = λ t held. row_more (matches (slots_at s p) t) t held (is.1 t)
        ∙ sym (ap (list_any (λ r. matches r t)) (map_snoc (slots_at s) ps p) ∙ any_snoc (λ r. matches r t) (map (slots_at s) ps) (slots_at s p));
  }
