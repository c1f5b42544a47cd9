-- The data that are served, and the labels that can't be.
use Rattle.std.specs.Prelude.{ℕ, ◌↔◌, ◌≢◌, List, [], ◌∷◌, map}
use Rattle.std.specs.List.{Contains, flat_map}
use Rattle.std.specs.declared.cmp.Ordering.TheVariants.{Less}
use Rattle.rdf_terms.specs.declared.term.Term.{Term}
use Rattle.rdf_terms.specs.declared.term.Term.TheVariants.{Iri, Blank}
use Rattle.rdf_terms.specs.declared.term.Triple.{Triple}
use Rattle.rdf_terms.specs.Order.{bytes_order}
use Rattle.rdf_terms.specs.Triples.{IsDataSet}
use Rattle.triple_table.specs.Genid.{genid, skolem_triple}

-- the terms of triples, place by place
abbrev pub terms_in : Triple → List Term
terms_in t = t.subject ∷ t.predicate ∷ t.object ∷ []

abbrev pub terms_of : List Triple → List Term
terms_of triples = flat_map terms_in triples

-- the blank node with this label stands in the triples, and so does the IRI that would stand for it
pub record Clashes (authority : List ℕ) (triples : List Triple) (label : List ℕ) : Type 0 where
  pub blank : Contains (terms_of triples) (Blank label)
  pub iri : Contains (terms_of triples) (Iri (genid authority label))

-- such a label of which none comes before it, by bytes
pub record IsLeastClash (authority : List ℕ) (triples : List Triple) (label : List ℕ) : Type 0 where
  pub clashes : Clashes authority triples label
  pub least : (other : List ℕ) → Clashes authority triples other → bytes_order other label ≢ Less

-- the data set that holds exactly these triples, each blank node as its IRI
pub record IsServed (authority : List ℕ) (triples served : List Triple) : Type 0 where
  pub data_set : IsDataSet served
  pub members : (t : Triple) → Contains served t ↔ Contains (map (skolem_triple authority) triples) t
