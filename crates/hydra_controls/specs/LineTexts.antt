-- Lines by the texts that they are written with.
use Rattle.std.specs.Prelude.{ℕ, ◌≡◌, Bool, not, List, [], ◌++◌, Option, Some, None, slice_index_or}
use Rattle.rdf_terms.specs.Canon.{canonical_line, is_marked}
use Rattle.rdf_terms.specs.declared.term.Quad.{Quad}
use Rattle.tpf_base.specs.Decimals.{decimal_text}
use Rattle.hydra_controls.specs.declared.line_text.LineText.{LineText}
use Rattle.hydra_controls.specs.declared.text_parts.TextParts.{TextParts}

-- the digits of a number, if there is one
abbrev pub digits_of : Option ℕ → List ℕ
digits_of None = []
digits_of (Some number) = decimal_text number

-- two texts, the digits of a number if there is one, and a text
abbrev pub text_of : TextParts → List ℕ
text_of t = t.front.now ++ (t.middle.now ++ (digits_of t.number ++ t.end.now))

-- what stands in front of the subject, and then the texts of the subject, the object and the graph, each with what stands behind it
abbrev pub text_of_line : LineText → List ℕ
text_of_line l = l.opening.now ++ (text_of l.subject ++ (text_of l.object ++ text_of l.graph))

-- the canonical line of the quad in place i of a list is this text
abbrev pub IsLineAt : List Quad → ℕ → List ℕ → Type 0
IsLineAt quads i text = (d : Quad) → canonical_line (slice_index_or quads i d) ≡ text

-- a byte of a literal's form that is written without a backslash
abbrev pub is_plain_byte : ℕ → Bool
is_plain_byte b = not (is_marked b)
