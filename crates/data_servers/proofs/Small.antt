-- The generated data that are served have short terms, and there are few of them.
use Rattle.std.proofs.Common.{◌+◌, ◌≤◌, arith, lit≤}
use Rattle.std.proofs.lemmas.List.Elements.{All-from_recursion}
use Rattle.rdf_terms.specs.declared.limits.TheConstants.{LONGEST_TERM}
use Rattle.rdf_terms.specs.declared.term.Quad.{Quad}
use Rattle.rdf_terms.specs.Sizes.{IsShortTriple}
use Rattle.nquads_text.proofs.ReadLaws.{short_quads}
use Rattle.triple_table.specs.declared.choice.Choice.TheVariants.{DefaultGraph}
use Rattle.triple_table.specs.Chosen.{chosen}
use Rattle.triple_table.specs.Short.{AuthoritiesAreShort, ServedAreShort}
use Rattle.generated_data.specs.Generated.{generated}
use Rattle.data_servers.specs.Starts.{GeneratedAreSmall}
use Rattle.data_servers.proofs.Few.{chosen_few, served_few}
use Rattle.data_servers.proofs.Readable.{generated_reads}

abbrev IsShort : Quad → Type 0
IsShort q = IsShortTriple LONGEST_TERM q.triple

-- there is room for the longest IRI of a blank node
room : 261 + 1052 ≤ LONGEST_TERM
room = lit≤ tt

pub generated_are_small : AuthoritiesAreShort → ServedAreShort → GeneratedAreSmall
generated_are_small authorities short persons authority triples most is served = record {
  terms = short LONGEST_TERM authority DefaultGraph (generated persons) triples (omega (arith, room, authorities authority is))
      (All-from_recursion IsShort (generated persons) (short_quads LONGEST_TERM (generated persons) (generated_reads persons most))) served;
  few = omega (arith, served_few authority (chosen DefaultGraph (generated persons)) triples served, chosen_few persons, most);
}
