-- Lines of a page's metadata, by the pieces that they are written of.
use Rattle.std.specs.Prelude.{ℕ, ◌≡◌, ◌⊎◌, List, [], ◌∷◌, ◌++◌, codes}
use Rattle.own_controls.specs.declared.lines.LineText.{LineText}

-- the graph of the page's metadata, and the end of a line
abbrev pub graph_end : List ℕ → List ℕ
graph_end page = codes " <" ++ (page ++ codes "#metadata> .\n")

-- a line: five pieces, and what all lines end with
abbrev pub line_text : List ℕ → LineText → List ℕ
line_text ending l = l.opening.now ++ (l.one.now ++ (l.middle.now ++ (l.other.now ++ (l.closing.now ++ ending))))

-- lines, one after another
abbrev pub lines_text : List ℕ → List LineText → List ℕ
lines_text ending [] = []
lines_text ending (l ∷ ls) = line_text ending l ++ lines_text ending ls

-- nothing, or a text whose last line ends with LF
abbrev pub EndsLine : List ℕ → Type 0
EndsLine text = (text ≡ []) ⊎ ((front : List ℕ) × (text ≡ front ++ 10 ∷ []))
