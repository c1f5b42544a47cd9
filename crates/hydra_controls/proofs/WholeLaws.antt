-- Texts and lines that are appended whole.
use Rattle.std.proofs.Common.{◌≡◌, ℕ, ◌+◌, ◌<◌, ◌≤◌, ◌==◌, List, [], ◌∷◌, ◌++◌, true, length, drop, sym, ap, ◌∙◌, arith, append_assoc, append-nil, length-append}
use Rattle.std.proofs.lemmas.List.{drop_all, drop_more}
use Rattle.rdf_terms.specs.declared.term.Quad.{Quad}
use Rattle.rdf_terms.specs.declared.term.Term.TheVariants.{Iri}
use Rattle.template_fill.specs.Metadata.{statement}
use Rattle.hydra_controls.specs.declared.line_text.LineText.{LineText}
use Rattle.hydra_controls.specs.declared.text_parts.TextParts.{TextParts}
use Rattle.hydra_controls.specs.Lines.{lines_text}
use Rattle.hydra_controls.specs.LineTexts.{IsLineAt, digits_of, text_of, text_of_line}

pub nothing_appended : (old text : List ℕ) → (length text == 0) ≡ true → old ≡ old ++ text
nothing_appended old [] h = sym (append-nil old)
nothing_appended old (x ∷ text) h = absurd (grind (arith, h))

-- what was appended in turn stands behind the rest
two_appended : (old one new a b : List ℕ) → one ≡ old ++ a → new ≡ one ++ b → new ≡ old ++ (a ++ b)
two_appended old one new a b first second = second ∙ ap (λ (l : List ℕ). l ++ b) first ∙ append_assoc old a b

four_appended : (a b d e old one two three new : List ℕ) → one ≡ old ++ a → two ≡ one ++ b → three ≡ two ++ d → new ≡ three ++ e → new ≡ old ++ (a ++ (b ++ (d ++ e)))
four_appended a b d e old one two three new first second third fourth =
    two_appended old one new a (b ++ (d ++ e)) first (two_appended one two new b (d ++ e) second (two_appended two three new d e third fourth))

-- a text in parts
pub text_whole : (t : TextParts) (old one two three new : List ℕ) → one ≡ old ++ t.front.now → two ≡ one ++ t.middle.now → three ≡ two ++ digits_of t.number → new ≡ three ++ t.end.now
    → new ≡ old ++ text_of t
text_whole t old one two three new first second third fourth = four_appended t.front.now t.middle.now (digits_of t.number) t.end.now old one two three new first second third fourth

-- a line
pub line_whole : (l : LineText) (old one two three new : List ℕ) → one ≡ old ++ l.opening.now → two ≡ one ++ text_of l.subject → three ≡ two ++ text_of l.object → new ≡ three ++ text_of l.graph
    → new ≡ old ++ text_of_line l
line_whole l old one two three new first second third fourth = four_appended l.opening.now (text_of l.subject) (text_of l.object) (text_of l.graph) old one two three new first second third fourth

-- ---- the lines of a list of quads

-- the text of the lines from place i on
abbrev pub lines_from : List Quad → ℕ → List ℕ
lines_from quads i = lines_text (drop i quads)

pub some_quad : Quad
some_quad = statement [] (Iri []) (Iri []) (Iri [])

next_line : (quads : List Quad) (i : ℕ) (text : List ℕ) → i < length quads → IsLineAt quads i text → lines_from quads i ≡ text ++ lines_from quads (i + 1)
next_line quads i text within at = ap lines_text (drop_more quads i some_quad within) ∙ ap (λ (l : List ℕ). l ++ lines_from quads (i + 1)) (at some_quad)

no_line : (quads : List Quad) (i : ℕ) → length quads ≤ i → lines_from quads i ≡ []
no_line quads i past = ap lines_text (drop_all i quads past)

-- one line more was counted
pub line_counted : (quads : List Quad) (i sum line : ℕ) (text : List ℕ) → i < length quads → IsLineAt quads i text → line ≡ length text
    → sum + length (lines_from quads i) ≡ length (lines_from quads 0) → sum + line + length (lines_from quads (i + 1)) ≡ length (lines_from quads 0)
line_counted quads i sum line text within at size so_far =
    let next = ap (λ (l : List ℕ). length l) (next_line quads i text within at) in
    omega (arith, next, size, so_far, length-append text (lines_from quads (i + 1)))

-- one line more was appended
pub line_appended : (quads : List Quad) (i : ℕ) (all before after text : List ℕ) → i < length quads → IsLineAt quads i text → after ≡ before ++ text
    → before ++ lines_from quads i ≡ all → after ++ lines_from quads (i + 1) ≡ all
line_appended quads i all before after text within at appended so_far =
    ap (λ (l : List ℕ). l ++ lines_from quads (i + 1)) appended
    ∙ append_assoc before text (lines_from quads (i + 1))
    ∙ ap (λ (l : List ℕ). before ++ l) (sym (next_line quads i text within at))
    ∙ so_far

-- all lines were appended
pub lines_appended : (quads : List Quad) (i : ℕ) (text after : List ℕ) → length quads ≤ i → after ++ lines_from quads i ≡ text → after ≡ text
lines_appended quads i text after past all = sym (append-nil after) ∙ ap (λ (l : List ℕ). after ++ l) (sym (no_line quads i past)) ∙ all

-- all lines were counted
pub lines_counted : (quads : List Quad) (i sum : ℕ) → length quads ≤ i → sum + length (lines_from quads i) ≡ length (lines_from quads 0) → sum ≡ length (lines_text quads)
lines_counted quads i sum past all = omega (arith, all, ap (λ (l : List ℕ). length l) (no_line quads i past))
