-- Files and generated data are within the limits under which plans are read.
use Rattle.std.specs.Prelude.{ℕ, ◌≤◌, List, codes}
use Rattle.std.specs.List.{AllByRecursion}
use Rattle.rdf_terms.specs.declared.term.Triple.{Triple}
use Rattle.triple_table.specs.declared.choice.Choice.{Choice}
use Rattle.triple_table.specs.declared.choice.Choice.TheVariants.{DefaultGraph}
use Rattle.triple_table.specs.Chosen.{chosen}
use Rattle.triple_table.specs.Served.{IsServed}
use Rattle.generated_data.specs.declared.limits.TheConstants.{MOST_PERSONS}
use Rattle.generated_data.specs.Generated.{generated}
use Rattle.bgp_core.specs.Queries.{QueryData, IsValidPattern}
use Rattle.plan_laws.specs.Fitting.{AreServable, IsAskable}
use Rattle.data_files.specs.declared.query.Grammar.{Grammar}
use Rattle.data_files.specs.Data.{Files, Serves}
use Rattle.group_query.specs.Trees.{GroupData, group_tree, blocks_of}
use Rattle.data_files.specs.Queries.{HoldsQuery, HoldsGroup}

-- the data that are served of a file
abbrev pub FilesAreServable : Type 0
FilesAreServable = (files : Files) (name : List ℕ) (choice : Choice) (triples : List Triple) → Serves files name choice (codes "localhost") triples → AreServable triples

-- the generated data
abbrev pub GeneratedAreServable : Type 0
GeneratedAreServable = (persons : ℕ) (triples : List Triple) → persons ≤ MOST_PERSONS → IsServed (codes "localhost") (chosen DefaultGraph (generated persons)) triples → AreServable triples

-- the patterns of the query that a file holds
abbrev pub QueriesAreAskable : Type 0
QueriesAreAskable = (files : Files) (name : List ℕ) (q : QueryData) → HoldsQuery files name q → AllByRecursion IsValidPattern q.patterns → AllByRecursion IsAskable q.patterns

-- the patterns of each block of the query with groups that a file holds
abbrev pub GroupsAreAskable : Type 0
GroupsAreAskable = (grammar : Grammar) (files : Files) (name : List ℕ) (g : GroupData) → HoldsGroup grammar files name g
    → AllByRecursion (AllByRecursion IsValidPattern) (blocks_of (group_tree g)) → AllByRecursion (AllByRecursion IsAskable) (blocks_of (group_tree g))
