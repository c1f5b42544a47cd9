-- What the reader makes of the lines of a text.
use Rattle.std.specs.Prelude.{ℕ, ◌+◌, ◌≡◌, ◌==◌, ◌||◌, List, [], ◌∷◌, ◌++◌, Option, Some, None, Result, Ok, Err, if◌then◌else◌}
use Rattle.rdf_terms.specs.declared.term.Quad.{Quad}
use Rattle.nquads_text.specs.declared.fault.Why.{Why}
use Rattle.nquads_text.specs.declared.fault.TextFault.{TextFault}
use Rattle.nquads_text.specs.declared.fault.TextFault.TheVariants.{Bad, OutOfMemory}
use Rattle.nquads_text.specs.declared.line.LineFault.{LineFault}
use Rattle.nquads_text.specs.declared.line.LineFault.TheVariants as line
use Rattle.nquads_text.specs.Scan.{first_place}
use Rattle.nquads_text.specs.Line.{line_read}
use Rattle.nquads_text.specs.Reads.{lines_of}

-- the quads with what a line reads as at their end
abbrev pub with_quad : List Quad → Option Quad → List Quad
with_quad quads None = quads
with_quad quads (Some q) = quads ++ q ∷ []

-- what follows the reading of the line with the number n
abbrev pub after_line : ℕ → Result (Option Quad) Why → (Option Quad → Result (List Quad) (ℕ × Why)) → Result (List Quad) (ℕ × Why)
after_line n (Ok q) more = more q
after_line n (Err why) more = Err (n, why)

-- the quads so far, and the number of the next line
abbrev pub read_lines : ℕ → List Quad → ℕ → List (List ℕ) → Result (List Quad) (ℕ × Why)
read_lines longest quads n [] = Ok quads
read_lines longest quads n (line ∷ lines) = after_line n (line_read longest line) (λ q. read_lines longest (with_quad quads q) (n + 1) lines)

-- the quads of a text, or the number of the first line with a fault and its first fault
unfoldable pub text_read : ℕ → List ℕ → Result (List Quad) (ℕ × Why)
text_read longest bytes = read_lines longest [] 1 (lines_of bytes)

-- what a function returned is what reading gives, unless memory ran out
abbrev pub Fails : TextFault → Result (List Quad) (ℕ × Why) → Type 0
Fails OutOfMemory read = Unit {0}
Fails (Bad n why) read = read ≡ Err (n, why)

abbrev pub Gives : {X : Type 0} → (X → List Quad) → Result X TextFault → Result (List Quad) (ℕ × Why) → Type 0
Gives view (Ok x) read = read ≡ Ok (view x)
Gives view (Err e) read = Fails e read

-- the same of a line, and of a raw statement
abbrev pub LineFails : LineFault → {X : Type 0} → Result X Why → Type 0
LineFails line.OutOfMemory read = Unit {0}
LineFails (line.Bad why) read = read ≡ Err why

abbrev pub LineGives : {X : Type 0} → Result X LineFault → Result X Why → Type 0
LineGives (Ok x) read = read ≡ Ok x
LineGives (Err e) read = LineFails e read

-- new is old with what the line reads as at its end
abbrev pub AddsLine : Result Unit LineFault → Result (Option Quad) Why → List Quad → List Quad → Type 0
AddsLine (Ok x) read old new = (q : Option Quad) × (read ≡ Ok q) × (new ≡ with_quad old q)
AddsLine (Err e) read old new = LineFails e read

-- the place of the first LF or CR, read from the place i
abbrev pub line_end : ℕ → List ℕ → Option ℕ
line_end i bytes = first_place (λ b. (b == 10) || (b == 13)) i bytes

-- the bytes after an LF at the front, if one stands there
abbrev pub without_lf : List ℕ → List ℕ
without_lf [] = []
without_lf (b ∷ bs) = if b == 10 then bs else b ∷ bs

-- the bytes after the line end at the front
abbrev pub after_end : List ℕ → List ℕ
after_end [] = []
after_end (b ∷ bs) = if b == 13 then without_lf bs else bs
