-- Of a body of which something is left a byte is left.
use Rattle.std.proofs.Common.{◌≡◌, ◌<◌, ℕ, true, List, [], ◌∷◌, ◌++◌, length, sym, inl, inr, arith, length-append}
use Rattle.std.specs.Prelude.{nat_lt}
use Rattle.std.specs.List.{concat}
use Rattle.std.proofs.lemmas.Bool.{ltb-true, or_cases, true≢false}
use Rattle.rdf_terms.specs.declared.term.Triple.{Triple}
use Rattle.rdf_terms.specs.declared.term.Quad.{Quad}
use Rattle.rdf_terms.specs.Canon.{canonical_line}
use Rattle.template_fill.specs.Bodies.{in_default_graph}
use Rattle.page_responses.specs.declared.rest.Rest.{Rest}
use Rattle.page_responses.specs.declared.rest.Rest.TheVariants.{Nothing, Line, Words, Page}
use Rattle.page_responses.specs.Lines.{quad_lines, triple_line, triple_lines}
use Rattle.page_responses.specs.PageRests.{ArePart, PageLines, lines_left, page_left, page_text, triples_left, triples_of}
use Rattle.page_responses.specs.Rests.{IsWithin, is_left, rest_text}
use Rattle.page_responses.proofs.LineLengths.{line_length}
use Rattle.page_responses.proofs.StatusLaws.{body_some}
use Rattle.page_responses.proofs.RestLaws.{lines_some, some_triples}

long_first : (x : List ℕ) (xs : List (List ℕ)) → 0 < length x → 0 < length (concat (x ∷ xs))
long_first x xs some = omega (arith, some, length-append x (concat xs))

long_line : (q : Quad) → 0 < length (canonical_line q)
long_line q = omega (arith, line_length q)

long_triples : (triples : List Triple) → 0 < length triples → 0 < length (concat (triple_lines triples))
long_triples [] some = absurd (omega arith)
long_triples (t ∷ triples) some = long_first (triple_line t) (triple_lines triples) (long_line (in_default_graph t))

long_lines : (page : PageLines) → ArePart page.table page.triples → lines_left page ≡ true → 0 < length (concat (triple_lines (triples_of page.table page.triples)) ++ concat (quad_lines page.quads))
long_lines page part left =
    let sum = length-append (concat (triple_lines (triples_of page.table page.triples))) (concat (quad_lines page.quads)) in
    elim (or_cases (triples_left page.triples) (nat_lt 0 (length page.quads)) left) as (λ e. 0 < length (concat (triple_lines (triples_of page.table page.triples)) ++ concat (quad_lines page.quads))) [
      | inl h ↦ omega (arith, sum, long_triples (triples_of page.table page.triples) (some_triples page.table page.triples part h))
      | inr h ↦ omega (arith, sum, lines_some page.quads (ltb-true 0 (length page.quads) h))
    ]

long_page : (page : PageLines) → ArePart page.table page.triples → page_left page ≡ true → 0 < length (page_text page)
unfolding page_text
long_page page part left =
    let lines = concat (triple_lines (triples_of page.table page.triples)) ++ concat (quad_lines page.quads) in
    let sum = length-append page.begun lines in
    elim (or_cases (nat_lt 0 (length page.begun)) (lines_left page) left) as (λ e. 0 < length (page.begun ++ lines)) [
      | inl h ↦ omega (arith, sum, ltb-true 0 (length page.begun) h)
      | inr h ↦ omega (arith, sum, long_lines page part h)
    ]

pub long_rest : (rest : Rest) → IsWithin rest → is_left rest ≡ true → 0 < length (rest_text rest)
unfolding rest_text
long_rest Nothing within left = absurd (true≢false (sym left))
long_rest (Line status) within left = body_some status
long_rest (Words text) within left = within.0
long_rest (Page page) within left = long_page page within left
