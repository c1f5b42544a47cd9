-- Quads that are made one by one.
use Rattle.std.proofs.Common.{◌≡◌, ℕ, ◌+◌, ◌<◌, List, [], ◌∷◌, ◌++◌, length, take, sym, ap, ◌∙◌}
use Rattle.std.specs.Prelude.{slice_index_or}
use Rattle.std.proofs.lemmas.List.{take_more}
use Rattle.rdf_terms.specs.declared.term.Quad.{Quad}

-- one quad more was made
pub quad_pushed : (value before after : List Quad) (i : ℕ) (q made d : Quad) → slice_index_or value i d ≡ made → q ≡ made → after ≡ before ++ q ∷ [] → after ≡ before ++ slice_index_or value i d ∷ []
quad_pushed value before after i q made d at same pushed = pushed ∙ ap (λ (x : Quad). before ++ x ∷ []) (same ∙ sym at)

pub quad_taken : (value before after : List Quad) (i : ℕ) (d : Quad) → i < length value → before ≡ take i value → after ≡ before ++ slice_index_or value i d ∷ [] → after ≡ take (i + 1) value
quad_taken value before after i d h is pushed =
    pushed ∙ ap (λ (l : List Quad). l ++ slice_index_or value i d ∷ []) is ∙ sym (take_more value i d h)
