-- Laws of readings: what the empty functions of the crate promise.
use Rattle.std.specs.Prelude.{ℕ, ◌⊎◌, List}
use Rattle.std.specs.List.{AllByRecursion}
use Rattle.rdf_terms.specs.Canon.{canon}
use Rattle.rdf_terms.specs.declared.term.Quad.{Quad}
use Rattle.nquads_text.specs.declared.fault.Why.{Why}
use Rattle.nquads_text.specs.Quads.{IsReadable}
use Rattle.nquads_text.specs.Reads.{Reads, FirstFault}

-- a text has a reading or a first fault
abbrev pub IsReadOrFaulty : Type 0
IsReadOrFaulty = (longest : ℕ) (bytes : List ℕ) → ((quads : List Quad) × Reads bytes longest quads) ⊎ ((n : ℕ) × (why : Why) × FirstFault bytes longest n why)

-- and not both
abbrev pub IsNotBoth : Type 0
IsNotBoth = (longest : ℕ) (bytes : List ℕ) (quads : List Quad) (n : ℕ) (why : Why) → Reads bytes longest quads → FirstFault bytes longest n why → ⊥

-- the quads of a text that is read have RDF's classes, terms that keep the rules of their parts, and texts within the limits
abbrev pub ReadIsReadable : Type 0
ReadIsReadable = (bytes : List ℕ) (longest : ℕ) (quads : List Quad) → Reads bytes longest quads → AllByRecursion (IsReadable longest) quads

-- the canonical text of quads that text can give is read as these quads
abbrev pub CanonReadsBack : Type 0
CanonReadsBack = (longest : ℕ) (quads : List Quad) → AllByRecursion (IsReadable longest) quads → Reads (canon quads) longest quads
