-- A literal's form, byte by byte.
use Rattle.std.proofs.Common.{◌≡◌, ℕ, ◌+◌, ◌<◌, ◌≤◌, List, ◌++◌, length, get_or, drop, sym, ap, ◌∙◌, append_assoc, append-nil}
use Rattle.std.specs.List.{concat}
use Rattle.std.proofs.lemmas.List.{drop_all, drop_more}
use Rattle.rdf_terms.specs.Canon.{canonical_byte}
use Rattle.page_responses.specs.Parts.{form_marks}

-- one byte more was written
pub form_pushed : (form : List ℕ) (i d : ℕ) (all before after : List ℕ) → i < length form → after ≡ before ++ canonical_byte (get_or form i d)
    → before ++ concat (form_marks (drop i form)) ≡ all → after ++ concat (form_marks (drop (i + 1) form)) ≡ all
form_pushed form i d all before after within pushed so_far =
    ap (λ (l : List ℕ). l ++ concat (form_marks (drop (i + 1) form))) pushed
    ∙ append_assoc before (canonical_byte (get_or form i d)) (concat (form_marks (drop (i + 1) form)))
    ∙ ap (λ (l : List ℕ). before ++ concat (form_marks l)) (sym (drop_more form i d within))
    ∙ so_far

-- all bytes were written
pub form_over : (form : List ℕ) (i : ℕ) (all after : List ℕ) → length form ≤ i → after ++ concat (form_marks (drop i form)) ≡ all → after ≡ all
form_over form i all after past so_far = sym (append-nil after) ∙ ap (λ (l : List ℕ). after ++ concat (form_marks l)) (sym (drop_all i form past)) ∙ so_far
