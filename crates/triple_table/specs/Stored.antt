-- What a table holds, as terms and triples.
use Rattle.std.specs.Prelude.{ℕ, ◌≡◌, ◌⊎◌, ◌↔◌, ◌-◌, ◌*◌, ◌<◌, ◌≤◌, ◌^◌, Option, Some, None, List, [], map, take, drop, length, All, slice_index_or}
use Rattle.std.specs.List.{Contains}
use Rattle.std.specs.List.Sorted.{IsStrictlySortedBy}
use Rattle.rdf_terms.specs.declared.term.Term.{Term}
use Rattle.rdf_terms.specs.declared.term.Term.TheVariants.{Iri}
use Rattle.rdf_terms.specs.declared.term.Triple.{Triple}
use Rattle.rdf_terms.specs.declared.slots.Slot.{Slot}
use Rattle.rdf_terms.specs.declared.slots.Slot.TheVariants.{Any, Fixed}
use Rattle.rdf_terms.specs.declared.slots.Slots.{Slots}
use Rattle.rdf_terms.specs.Order.{term_order}
use Rattle.rdf_terms.specs.Triples.{IsDataSet}
use Rattle.triple_table.specs.declared.ids.Row.{Row}
use Rattle.triple_table.specs.declared.ids.IdTriple.{IdTriple}
use Rattle.triple_table.specs.declared.ids.IdPattern.{IdPattern}
use Rattle.triple_table.specs.declared.ids.Order.{Order}
use Rattle.triple_table.specs.declared.ids.Order.TheVariants.{Spo, Pos, Osp}
use Rattle.triple_table.specs.declared.ids.Range.{Range}
use Rattle.triple_table.specs.Rows.{row_order, row_of, id_triple_of}
use Rattle.triple_table.specs.Served.{terms_of, Clashes, IsServed}

-- the terms by their ids, and the rows of each order
pub record Stored : Type 0 where
  pub terms : List Term
  pub spo : List Row
  pub pos : List Row
  pub osp : List Row

-- the terms, each at its id
abbrev pub held_terms : Stored → List Term
held_terms s = s.terms

-- the term with an id of the list
abbrev pub term_at : List Term → ℕ → Term
term_at terms id = slice_index_or terms id (Iri [])

-- the triple with these ids
abbrev pub triple_at : List Term → IdTriple → Triple
triple_at terms t = record { subject = term_at terms t.subject; predicate = term_at terms t.predicate; object = term_at terms t.object }

abbrev pub rows_in : Stored → Order → List Row
rows_in s Spo = s.spo
rows_in s Pos = s.pos
rows_in s Osp = s.osp

-- the triples of rows of an order
abbrev pub triples_by : List Term → Order → List Row → List Triple
triples_by terms order rows = map (λ (row : Row). triple_at terms (id_triple_of order row)) rows

-- the data set of a table
abbrev pub triples_in : Stored → List Triple
triples_in s = triples_by s.terms Spo s.spo

-- the triples of a range, in its order
abbrev pub listed : Stored → Range → List Triple
listed s range = triples_by s.terms range.order (take (range.to - range.from) (drop range.from (rows_in s range.order)))

-- a range of a table
pub record IsRange (s : Stored) (range : Range) : Type 0 where
  pub order : range.from ≤ range.to
  pub within : range.to ≤ length (triples_in s)

abbrev pub slot_at : List Term → Option ℕ → Slot
slot_at terms None = Any
slot_at terms (Some id) = Fixed (term_at terms id)

-- the slots of a pattern of ids
abbrev pub slots_at : Stored → IdPattern → Slots
slots_at s p = record { subject = slot_at s.terms p.subject; predicate = slot_at s.terms p.predicate; object = slot_at s.terms p.object }

abbrev pub IsIdOrOpen : List Term → Option ℕ → Type 0
IsIdOrOpen terms None = Unit {0}
IsIdOrOpen terms (Some id) = id < length terms

-- each id of the pattern is an id of the table
pub record IsIdPattern (s : Stored) (p : IdPattern) : Type 0 where
  pub subject : IsIdOrOpen s.terms p.subject
  pub predicate : IsIdOrOpen s.terms p.predicate
  pub object : IsIdOrOpen s.terms p.object

-- each id of the triple is an id of the table
pub record IsIdTriple (terms : List Term) (t : IdTriple) : Type 0 where
  pub subject : t.subject < length terms
  pub predicate : t.predicate < length terms
  pub object : t.object < length terms

-- the terms of the triples, each once, in the order of terms
pub record IsRanking (triples : List Triple) (terms : List Term) : Type 0 where
  pub ascending : IsStrictlySortedBy term_order terms
  pub members : (term : Term) → Contains terms term ↔ Contains (terms_of triples) term

-- the rows of an order hold the triples of the table, each once, in that order
pub record IsOrdered (s : Stored) (order : Order) (rows : List Row) : Type 0 where
  pub ascending : IsStrictlySortedBy row_order rows
  pub ids : All (λ (row : Row). IsIdTriple s.terms (id_triple_of order row)) rows
  pub members : (t : IdTriple) → Contains rows (row_of order t) ↔ Contains s.spo (row_of Spo t)
  pub len : length rows ≡ length s.spo

-- what a table keeps
pub record IsStored (s : Stored) : Type 0 where
  pub data_set : IsDataSet (triples_in s)
  pub ranking : IsRanking (triples_in s) s.terms
  pub few : length s.terms ≤ 3 * length s.spo
  pub small : length s.terms < 2 ^ 32
  pub rows : (order : Order) → IsOrdered s order (rows_in s order)

-- no label clashes, and the data that are served have more than this many triples or terms
pub record PassesMost (most : ℕ) (authority : List ℕ) (chosen : List Triple) : Type 0 where
  pub unclashed : (label : List ℕ) → ¬ (Clashes authority chosen label)
  pub triples : List Triple
  pub terms : List Term
  pub served : IsServed authority chosen triples
  pub ranking : IsRanking triples terms
  pub passes : (most < length triples) ⊎ (most < length terms)
