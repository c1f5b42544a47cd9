-- A pattern and a triple by ids match exactly where their slots and terms do.
use Rattle.std.proofs.Common.{ℕ, ◌≡◌, ◌<◌, ◌==◌, List, [], ◌∷◌, length, Option, Some, None, All, refl, ap}
use Rattle.std.specs.Bool.{one_answer}
use Rattle.std.specs.List.{AllByRecursion, list_any}
use Rattle.std.specs.List.Sorted.{IsStrictlySortedBy}
use Rattle.std.proofs.lemmas.Bool.Decides.{Decides-eqb}
use Rattle.std.proofs.lemmas.List.Elements.{recursion_from_All}
use Rattle.rdf_terms.specs.declared.term.Term.{Term}
use Rattle.rdf_terms.specs.Order.{term_order}
use Rattle.rdf_terms.specs.Slots.{matches, matches_slot}
use Rattle.rdf_terms.specs.EqualityLaws.{term_decides}
use Rattle.triple_table.specs.declared.ids.IdTriple.{IdTriple}
use Rattle.triple_table.specs.declared.ids.IdPattern.{IdPattern}
use Rattle.triple_table.specs.Stored.{Stored, IsIdOrOpen, IsIdPattern, IsIdTriple, slot_at, slots_at, term_at, triple_at}
use Rattle.triple_table.proofs.Ranks.{same_rank}
use Rattle.restricted_pages.proofs.Bools.{either, three}
use Rattle.restricted_pages.specs.Patterns.{fits, fits_id, matches_pattern}

id_fits : (terms : List Term) → IsStrictlySortedBy term_order terms → (o : Option ℕ) (x : ℕ) → IsIdOrOpen terms o → x < length terms → fits_id o x ≡ matches_slot (slot_at terms o) (term_at terms x)
id_fits terms ascend None x i l = refl
id_fits terms ascend (Some y) x i l =
    let ids = Decides-eqb y x in
    one_answer (y == x) (matches_slot (slot_at terms (Some y)) (term_at terms x)) ((λ h. ap (term_at terms) (ids.0 h)), (λ e. ids.1 (same_rank terms ascend y x i l e))) (term_decides (term_at terms y) (term_at terms x))

module _ (s : Stored) (ascend : IsStrictlySortedBy term_order s.terms) (t : IdTriple) (ids : IsIdTriple s.terms t) where
  pub pattern_fits : (p : IdPattern) → IsIdPattern s p → fits p t ≡ matches (slots_at s p) (triple_at s.terms t)
  pattern_fits p i = three _ _ _ _ _ _ (id_fits s.terms ascend p.subject t.subject i.subject ids.subject) (id_fits s.terms ascend p.predicate t.predicate i.predicate ids.predicate) (id_fits s.terms ascend p.object t.object i.object ids.object)

  by_pattern : (ps : List IdPattern) → AllByRecursion (IsIdPattern s) ps → list_any (λ p. fits p t) ps ≡ matches_pattern s ps (triple_at s.terms t)
  by_pattern [] i = refl
  by_pattern (p ∷ ps) i = either (fits p t) (list_any (λ q. fits q t) ps) (matches (slots_at s p) (triple_at s.terms t)) (matches_pattern s ps (triple_at s.terms t)) (pattern_fits p i.0) (by_pattern ps i.1)

  pub one_fits : (ps : List IdPattern) → All (IsIdPattern s) ps → list_any (λ p. fits p t) ps ≡ matches_pattern s ps (triple_at s.terms t)
  one_fits ps i = by_pattern ps (recursion_from_All (IsIdPattern s) ps i)
