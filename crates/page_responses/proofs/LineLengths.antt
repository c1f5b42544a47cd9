-- The lengths of lines.
use Rattle.std.proofs.Common.{◌≡◌, ℕ, zero, suc, ◌+◌, ◌<◌, List, [], ◌∷◌, ◌++◌, map, length, drop, refl, ap, ◌∙◌, arith, length-append}
use Rattle.std.specs.Prelude.{slice_index_or}
use Rattle.std.specs.List.{concat}
use Rattle.rdf_terms.specs.declared.term.Triple.{Triple}
use Rattle.rdf_terms.specs.declared.term.Quad.{Quad}
use Rattle.rdf_terms.specs.Canon.{canonical_term, canonical_graph, canonical_line}
use Rattle.template_fill.specs.Bodies.{in_default_graph}
use Rattle.page_responses.specs.Lines.{triple_line, triple_lines}

parts_length : (s p o g : List ℕ) → length (s ++ 32 ∷ (p ++ 32 ∷ (o ++ g ++ 32 ∷ 46 ∷ 10 ∷ []))) ≡ length s + length p + length o + length g + 5
parts_length s p o g =
    omega (arith, length-append s (32 ∷ (p ++ 32 ∷ (o ++ g ++ 32 ∷ 46 ∷ 10 ∷ []))), length-append p (32 ∷ (o ++ g ++ 32 ∷ 46 ∷ 10 ∷ [])), length-append (o ++ g) (32 ∷ 46 ∷ 10 ∷ []), length-append o g)

pub line_length : (q : Quad) → length (canonical_line q) ≡ length (canonical_term q.triple.subject) + length (canonical_term q.triple.predicate) + length (canonical_term q.triple.object) + length (canonical_graph q.graph) + 5
line_length q = parts_length (canonical_term q.triple.subject) (canonical_term q.triple.predicate) (canonical_term q.triple.object) (canonical_graph q.graph)

pub triple_line_length : (t : Triple) → length (canonical_line (in_default_graph t)) ≡ length (canonical_term t.subject) + length (canonical_term t.predicate) + length (canonical_term t.object) + 5
triple_line_length t = omega (arith, parts_length (canonical_term t.subject) (canonical_term t.predicate) (canonical_term t.object) [])

-- the first of what is left
pub drop_at : {A : Type 0} (xs : List A) (i : ℕ) (d : A) → i < length xs → drop i xs ≡ slice_index_or xs i d ∷ drop (suc i) xs
drop_at [] i d h = absurd (omega arith)
drop_at (x ∷ xs) zero d h = refl
drop_at (x ∷ xs) (suc i) d h = drop_at xs i d (omega arith)

pub next_triple : (triples : List Triple) (i : ℕ) (d : Triple) → i < length triples
    → length (concat (triple_lines (drop i triples))) ≡ length (triple_line (slice_index_or triples i d)) + length (concat (triple_lines (drop (i + 1) triples)))
next_triple triples i d h =
    let e : suc i ≡ i + 1 = omega arith in
    ap (λ (l : List Triple). length (concat (triple_lines l))) (drop_at triples i d h ∙ ap (λ (n : ℕ). slice_index_or triples i d ∷ drop n triples) e)
    ∙ length-append (triple_line (slice_index_or triples i d)) (concat (triple_lines (drop (i + 1) triples)))

-- of triples by ids
pub next_ids : {A : Type 0} (f : A → Triple) (ids : List A) (i : ℕ) (d : A) → i < length ids
    → length (concat (triple_lines (map f (drop i ids)))) ≡ length (triple_line (f (slice_index_or ids i d))) + length (concat (triple_lines (map f (drop (i + 1) ids))))
next_ids {A = A} f ids i d h =
    let e : suc i ≡ i + 1 = omega arith in
    ap (λ (l : List A). length (concat (triple_lines (map f l)))) (drop_at ids i d h ∙ ap (λ (n : ℕ). slice_index_or ids i d ∷ drop n ids) e)
    ∙ length-append (triple_line (f (slice_index_or ids i d))) (concat (triple_lines (map f (drop (i + 1) ids))))
