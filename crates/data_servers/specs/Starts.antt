-- The server of generated data.
use Rattle.std.specs.Prelude.{ℕ, ◌≡◌, ◌*◌, ◌≤◌, List, length}
use Rattle.std.specs.List.{Contains}
use Rattle.rdf_terms.specs.declared.limits.TheConstants.{LONGEST_TERM}
use Rattle.rdf_terms.specs.declared.term.Term.{Term}
use Rattle.rdf_terms.specs.Canon.{canonical_term}
use Rattle.rdf_terms.specs.declared.term.Triple.{Triple}
use Rattle.tpf_base.specs.Addresses.{IsAuthority, authority_of}
use Rattle.template_fill.specs.Metadata.{Config}
use Rattle.triple_table.specs.declared.choice.Choice.TheVariants.{DefaultGraph}
use Rattle.triple_table.specs.Chosen.{chosen}
use Rattle.triple_table.specs.Served.{terms_of, IsServed}
use Rattle.connections.specs.Versions.{Serving}
use Rattle.generated_data.specs.declared.limits.TheConstants.{MOST_PERSONS}
use Rattle.generated_data.specs.Generated.{generated}

-- version 1 is served: the data of so many persons, under the authority of the base
pub record StartsGenerated (persons : ℕ) (config : Config) (server : Serving (List Triple) Config) : Type 0 where
  pub config_is : server.config ≡ config
  pub version : server.version ≡ 1
  pub data_set : IsServed (authority_of config.base) (chosen DefaultGraph (generated persons)) server.data_set

-- each term has a canonical text of at most LONGEST_TERM bytes, and there are at most three triples for each of MOST_PERSONS
pub record AreSmall (triples : List Triple) : Type 0 where
  pub terms : (term : Term) → Contains (terms_of triples) term → length (canonical_term term) ≤ LONGEST_TERM
  pub few : length triples ≤ 3 * MOST_PERSONS

-- the law: so it is of the data of at most MOST_PERSONS, under each authority
abbrev pub GeneratedAreSmall : Type 0
GeneratedAreSmall =
    (persons : ℕ) (authority : List ℕ) (triples : List Triple) → persons ≤ MOST_PERSONS → IsAuthority authority → IsServed authority (chosen DefaultGraph (generated persons)) triples → AreSmall triples
