-- What a file of data holds, and what is served of it.
use Rattle.std.specs.Prelude.{ℕ, ◌≡◌, ◌<◌, ◌≤◌, List, length, Option, Some}
use Rattle.tpf_base.specs.Outside.{content_of}
use Rattle.rdf_terms.specs.declared.limits.TheConstants.{LONGEST_TERM, MOST_TRIPLES}
use Rattle.rdf_terms.specs.declared.term.Term.{Term}
use Rattle.rdf_terms.specs.declared.term.Triple.{Triple}
use Rattle.rdf_terms.specs.declared.term.Quad.{Quad}
use Rattle.nquads_text.specs.Reads.{Reads, FirstFault}
use Rattle.nquads_text.specs.declared.fault.Why.{Why}
use Rattle.triple_table.specs.declared.choice.Choice.{Choice}
use Rattle.triple_table.specs.Chosen.{chosen}
use Rattle.triple_table.specs.Stored.{IsRanking, PassesMost}
use Rattle.triple_table.specs.Served.{Clashes, IsLeastClash, IsServed}
use Rattle.data_files.specs.declared.data.TheConstants.{MOST_BYTES}

-- the contents of files by their names
abbrev pub Files : Type 0
Files = List (List ℕ × List ℕ)

-- a fact about the files, where the shelf tells them
abbrev pub IfTold : Option Files → (Files → Type 0) → Type 0
IfTold told P = (files : Files) → told ≡ Some files → P files

-- a fact about the contents of files: of some contents, and so of those that the shelf tells, where it tells them
pub record OfContents (told : Option Files) (P : Files → Type 0) : Type 0 where
  pub files : Files
  pub holds : P files
  pub tells : IfTold told P

-- the file holds at most MOST_BYTES bytes, which read as these quads; no term has a canonical text of more than LONGEST_TERM bytes
abbrev pub HoldsData : Files → List ℕ → List Quad → Type 0
HoldsData files name quads = (bytes : List ℕ) × (content_of files name ≡ Some bytes) × (length bytes ≤ MOST_BYTES) × Reads bytes LONGEST_TERM quads

-- the file holds more bytes than are read
abbrev pub IsTooLong : Files → List ℕ → ℕ → Type 0
IsTooLong files name most = (bytes : List ℕ) × (content_of files name ≡ Some bytes) × (most < length bytes)

-- the first line with a fault, and its first fault
abbrev pub HasDataFault : Files → List ℕ → ℕ → Why → Type 0
HasDataFault files name line why = (bytes : List ℕ) × (content_of files name ≡ Some bytes) × (length bytes ≤ MOST_BYTES) × FirstFault bytes LONGEST_TERM line why

-- the least label of which a blank node and its IRI under the authority both stand in the chosen triples
abbrev pub HasClash : Files → List ℕ → Choice → List ℕ → List ℕ → Type 0
HasClash files name choice authority label = (quads : List Quad) × HoldsData files name quads × IsLeastClash authority (chosen choice quads) label

-- no label clashes, and the distinct triples of the chosen graphs, or their distinct terms, are more than MOST_TRIPLES
abbrev pub HasTooMany : Files → List ℕ → Choice → List ℕ → Type 0
HasTooMany files name choice authority = (quads : List Quad) × HoldsData files name quads × PassesMost MOST_TRIPLES authority (chosen choice quads)

-- the triples and their terms are not more than MOST_TRIPLES each
abbrev pub AreFew : List Triple → Type 0
AreFew triples = (terms : List Term) × IsRanking triples terms × (length triples ≤ MOST_TRIPLES) × (length terms ≤ MOST_TRIPLES)

-- the file is read, and these are the triples that are served of it under the authority
abbrev pub Serves : Files → List ℕ → Choice → List ℕ → List Triple → Type 0
Serves files name choice authority triples = (quads : List Quad) × HoldsData files name quads × ((label : List ℕ) → ¬ (Clashes authority (chosen choice quads) label)) × IsServed authority (chosen choice quads) triples × AreFew triples

-- the data set is one that is served of a file of this name, and of that which the shelf tells, where it tells it
abbrev pub IsOfFile : Option Files → List ℕ → Choice → List ℕ → List Triple → Type 0
IsOfFile told name choice authority triples = OfContents told (λ files. Serves files name choice authority triples)

-- what becomes of a file of data: its triples are served, or why they are not
pub data Outcome : Type 0 where
  served : List Triple → Outcome
  too_long : Outcome
  bad : ℕ → Why → Outcome
  clash : List ℕ → Outcome
  too_many : Outcome

abbrev pub IsOutcome : Files → List ℕ → Choice → List ℕ → Outcome → Type 0
IsOutcome files name choice authority (served triples) = Serves files name choice authority triples
IsOutcome files name choice authority too_long = IsTooLong files name MOST_BYTES
IsOutcome files name choice authority (bad line why) = HasDataFault files name line why
IsOutcome files name choice authority (clash label) = HasClash files name choice authority label
IsOutcome files name choice authority too_many = HasTooMany files name choice authority

-- the law: of a file one of them is true at most
abbrev pub OneOutcome : Type 0
OneOutcome = (files : Files) (name : List ℕ) (choice : Choice) (authority : List ℕ) (one other : Outcome) → IsOutcome files name choice authority one → IsOutcome files name choice authority other → one ≡ other
