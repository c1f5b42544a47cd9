-- Terms and triples gathered for a table.
use Rattle.std.specs.Prelude.{ℕ, ◌≡◌, ◌⊎◌, ◌↔◌, ◌<◌, ◌≤◌, Option, Some, None, List, [], ◌∷◌, ◌++◌, map, length, All, slice_index_or}
use Rattle.std.specs.Borrow.{Bor}
use Rattle.std.specs.List.{Contains}
use Rattle.std.specs.List.Sorted.{IsStrictlySortedBy}
use Rattle.rdf_terms.specs.declared.term.Term.{Term}
use Rattle.rdf_terms.specs.declared.term.Term.TheVariants.{Iri, Blank, Literal}
use Rattle.rdf_terms.specs.declared.term.Triple.{Triple}
use Rattle.rdf_terms.specs.Order.{term_order}
use Rattle.rdf_terms.specs.Triples.{IsDataSet}
use Rattle.triple_table.specs.declared.gather.Places.{Places}
use Rattle.triple_table.specs.declared.ids.IdTriple.{IdTriple}
use Rattle.triple_table.specs.declared.ranking.Entry.{Entry}
use Rattle.triple_table.specs.Genid.{genid}
use Rattle.triple_table.specs.Served.{terms_in, terms_of}
use Rattle.triple_table.specs.Stored.{IsRanking, term_at}

-- what borrowed terms hold
abbrev pub borrowed_terms : List (Bor Term) → List Term
borrowed_terms borrowed = map (λ (term : Bor Term). term.now) borrowed

-- the same elements, in any order and number
abbrev pub SameMembers : {X : Type 0} → List X → List X → Type 0
SameMembers {X} xs ys = (x : X) → Contains xs x ↔ Contains ys x

-- the data set that holds these triples has more than this many triples or terms
pub record HoldsMore (most : ℕ) (triples : List Triple) : Type 0 where
  pub distinct : List Triple
  pub terms : List Term
  pub data_set : IsDataSet distinct
  pub members : SameMembers distinct triples
  pub ranking : IsRanking distinct terms
  pub passes : (most < length distinct) ⊎ (most < length terms)

-- the triples have more terms than this
pub record HasMoreTerms (most : ℕ) (triples : List Triple) : Type 0 where
  pub terms : List Term
  pub ranking : IsRanking triples terms
  pub passes : most < length terms

-- each term of the first list stands at its place in the second
pub record Keeps (old new : List Term) : Type 0 where
  pub longer : length old ≤ length new
  pub same : (k : ℕ) → k < length old → term_at new k ≡ term_at old k

-- a term stands at this place of a list
pub record StandsAt (terms : List Term) (place : ℕ) (term : Term) : Type 0 where
  pub within : place < length terms
  pub is : term_at terms place ≡ term

-- a list with one more term, unless it stood there, and the term's place
pub record Gathers (old new : List Term) (term : Term) (place : ℕ) : Type 0 where
  pub members : SameMembers new (old ++ term ∷ [])
  pub keeps : Keeps old new
  pub at : StandsAt new place term

-- the triple of the terms at these places
abbrev pub placed : List Term → Places → Triple
placed terms p = record { subject = term_at terms p.subject; predicate = term_at terms p.predicate; object = term_at terms p.object }

-- the places are places of the list
pub record IsPlaced (terms : List Term) (p : Places) : Type 0 where
  pub subject : p.subject < length terms
  pub predicate : p.predicate < length terms
  pub object : p.object < length terms

-- the same of the terms of a triple
pub record GathersTriple (old new : List Term) (triple : Triple) (p : Places) : Type 0 where
  pub members : SameMembers new (old ++ terms_in triple)
  pub keeps : Keeps old new
  pub places : IsPlaced new p
  pub is : placed new p ≡ triple

-- the terms of triples, and the triples by places
pub record IsGathered (triples : List Triple) (terms : List Term) (places : List Places) : Type 0 where
  pub members : SameMembers terms (terms_of triples)
  pub each : All (IsPlaced terms) places
  pub are : map (placed terms) places ≡ triples

-- the IRI of a term that is a blank node
abbrev pub genid_of : List ℕ → Term → Option Term
genid_of authority (Iri text) = None
genid_of authority (Blank label) = Some (Iri (genid authority label))
genid_of authority (Literal form kind) = None

-- an entry is of the term at its place
pub record IsEntry (terms : List Term) (e : Entry) : Type 0 where
  pub within : e.place < length terms
  pub is : term_at terms e.place ≡ e.term.now

-- there is an entry for each place, and each is of the term at its place
pub record AreEntries (terms : List Term) (entries : List Entry) : Type 0 where
  pub each : All (IsEntry terms) entries
  pub all : (k : ℕ) → k < length terms → Contains (map (λ (e : Entry). e.place) entries) k

-- the number for a place is the rank of its term
pub record IsRank (terms ranked : List Term) (ranks : List ℕ) (k : ℕ) : Type 0 where
  pub within : slice_index_or ranks k 0 < length ranked
  pub is : term_at ranked (slice_index_or ranks k 0) ≡ term_at terms k

-- the terms each once, in their order, and for each place the rank of its term
pub record AreRanked (terms ranked : List Term) (ranks : List ℕ) : Type 0 where
  pub ascending : IsStrictlySortedBy term_order ranked
  pub members : SameMembers ranked terms
  pub len : length ranks ≡ length terms
  pub each : (k : ℕ) → k < length terms → IsRank terms ranked ranks k

-- the triple by ids, of a triple by places
abbrev pub ids_of : List ℕ → Places → IdTriple
ids_of ranks p = record { subject = slice_index_or ranks p.subject 0; predicate = slice_index_or ranks p.predicate 0; object = slice_index_or ranks p.object 0 }

-- the places are places of the list
pub record HasRanks (ranks : List ℕ) (p : Places) : Type 0 where
  pub subject : p.subject < length ranks
  pub predicate : p.predicate < length ranks
  pub object : p.object < length ranks
