-- What a text of N-Quads reads as, line by line, and its first fault (RDF 1.1 N-Quads 2 to 4).
use Rattle.std.specs.Prelude.{ℕ, ◌≡◌, ◌+◌, Bool, true, false, ◌==◌, List, [], ◌∷◌, ◌++◌, length, Option, Some, None, Result, Ok, Err, if◌then◌else◌}
use Rattle.std.specs.Option.{option_to_list}
use Rattle.std.specs.Str.{IsUtf8}
use Rattle.rdf_terms.specs.declared.term.Quad.{Quad}
use Rattle.nquads_text.specs.declared.fault.Why.{Why}
use Rattle.nquads_text.specs.declared.fault.Why.TheVariants.{Utf8, Statement, Escape, RelativeIri, LangString, TermTooLong}
use Rattle.nquads_text.specs.declared.fault.TextFault.{TextFault}
use Rattle.nquads_text.specs.declared.fault.TextFault.TheVariants.{Bad, OutOfMemory}
use Rattle.nquads_text.specs.Grammar.{HasNoStatement, IsStatement}
use Rattle.nquads_text.specs.Meaning.{MeansQuad, QuadIsBad}
use Rattle.nquads_text.specs.Faults.{fault_of}

-- ---- lines

-- b in front of the first line
abbrev pub onto_first : ℕ → List (List ℕ) → List (List ℕ)
onto_first b [] = (b ∷ []) ∷ []
onto_first b (line ∷ lines) = (b ∷ line) ∷ lines

-- the lines, each ended by LF, CR or CR LF, which the last may lack; whether a CR stands just before
abbrev pub lines_from : Bool → List ℕ → List (List ℕ)
lines_from cr [] = []
lines_from cr (b ∷ bytes) = if b == 10 then (if cr then lines_from false bytes else [] ∷ lines_from false bytes)
    else (if b == 13 then [] ∷ lines_from true bytes else onto_first b (lines_from false bytes))

-- the lines of a text, without their ends
abbrev pub lines_of : List ℕ → List (List ℕ)
lines_of bytes = lines_from false bytes

-- ---- one line

-- the line has no statement; or it has one, with this quad and no fault
abbrev pub ReadsLine : ℕ → List ℕ → Option Quad → Type 0
ReadsLine longest line None = IsUtf8 line × HasNoStatement line
ReadsLine longest line (Some q) = IsUtf8 line × ((written : Quad) × IsStatement line written × MeansQuad written q × (fault_of longest q ≡ None))

-- the line has a statement of this quad, whose first fault is this one
abbrev pub HasQuadFault : ℕ → List ℕ → Why → Type 0
HasQuadFault longest line why = IsUtf8 line × ((written : Quad) × (q : Quad) × IsStatement line written × MeansQuad written q × (fault_of longest q ≡ Some why))

-- the first fault of a line
abbrev pub HasFault : ℕ → List ℕ → Why → Type 0
HasFault longest line Utf8 = IsUtf8 line → ⊥
HasFault longest line Statement = IsUtf8 line × (HasNoStatement line → ⊥) × ((written : Quad) → IsStatement line written → ⊥)
HasFault longest line Escape = IsUtf8 line × ((written : Quad) × IsStatement line written × QuadIsBad written)
HasFault longest line RelativeIri = HasQuadFault longest line RelativeIri
HasFault longest line LangString = HasQuadFault longest line LangString
HasFault longest line TermTooLong = HasQuadFault longest line TermTooLong

-- ---- the text

-- each line is read, and these are their quads in order
abbrev pub ReadsLines : ℕ → List (List ℕ) → List Quad → Type 0
ReadsLines longest [] quads = quads ≡ []
ReadsLines longest (line ∷ lines) quads = (q : Option Quad) × (rest : List Quad) × ReadsLine longest line q × ReadsLines longest lines rest × (quads ≡ option_to_list q ++ rest)

-- the text is read, and these are its quads in order
abbrev pub Reads : List ℕ → ℕ → List Quad → Type 0
Reads bytes longest quads = ReadsLines longest (lines_of bytes) quads

-- the line with this number, from 1 on, has this fault, and each before it is read
pub record FirstFault (bytes : List ℕ) (longest number : ℕ) (why : Why) : Type 0 where
  pub front : List (List ℕ)
  pub line : List ℕ
  pub rest : List (List ℕ)
  pub lines : lines_of bytes ≡ front ++ line ∷ rest
  pub place : number ≡ length front + 1
  pub before : (quads : List Quad) × ReadsLines longest front quads
  pub fault : HasFault longest line why

-- ---- answers

-- what a refusal says, want of memory aside
abbrev pub RefusedFor : {X : Type 0} → (ℕ → Why → Type 0) → Result X TextFault → Type 0
RefusedFor P (Ok x) = Unit {0}
RefusedFor P (Err OutOfMemory) = Unit {0}
RefusedFor P (Err (Bad line why)) = P line why

-- Ok with a value of which this holds, unless memory ran out
abbrev pub IsOkOrMemory : {X : Type 0} → (X → Type 0) → Result X TextFault → Type 0
IsOkOrMemory P (Ok x) = P x
IsOkOrMemory P (Err OutOfMemory) = Unit {0}
IsOkOrMemory P (Err (Bad line why)) = ⊥

-- this fault, unless memory ran out
abbrev pub IsBadOrMemory : {X : Type 0} → ℕ → Why → Result X TextFault → Type 0
IsBadOrMemory n why (Ok x) = ⊥
IsBadOrMemory n why (Err OutOfMemory) = Unit {0}
IsBadOrMemory n why (Err (Bad line kind)) = (line ≡ n) × (kind ≡ why)
