-- What a file of a query holds.
use Rattle.std.specs.Prelude.{ℕ, ◌≡◌, List, Option, Some}
use Rattle.tpf_base.specs.Outside.{content_of}
use Rattle.bgp_core.specs.Queries.{QueryData}
use Rattle.pattern_parser.specs.Queries.{ReadsQuery, FaultAt}
use Rattle.group_query.specs.Trees.{GroupData}
use Rattle.group_faults.specs.declared.fault.GroupWhy.{GroupWhy}
use Rattle.group_faults.specs.declared.fault.GroupWhy.TheVariants as whys
use Rattle.group_faults.specs.Faults.{GroupFaultAt}
use Rattle.group_parser.specs.declared.reading.Asked.{Asked}
use Rattle.group_parser.specs.declared.reading.Asked.TheVariants.{Plain, Groups}
use Rattle.group_parser.specs.Asking.{IsAsked}
use Rattle.data_files.specs.declared.query.Grammar.{Grammar}
use Rattle.data_files.specs.declared.query.Grammar.TheVariants as grammars
use Rattle.data_files.specs.Data.{Files, OfContents}

-- the file holds a text that is this query
abbrev pub HoldsQuery : Files → List ℕ → QueryData → Type 0
HoldsQuery files name q = (bytes : List ℕ) × (content_of files name ≡ Some bytes) × ReadsQuery bytes q

-- the query is that of a file of this name, and of that which the shelf tells, where it tells it
abbrev pub IsOfQueryFile : Option Files → List ℕ → QueryData → Type 0
IsOfQueryFile told name q = OfContents told (λ files. HoldsQuery files name q)

-- the file holds a text that is this query with groups: its tokens hold one of DISTINCT, OPTIONAL and UNION, or not one '{'; no text is one where the grammar has no groups
abbrev pub HoldsGroup : Grammar → Files → List ℕ → GroupData → Type 0
HoldsGroup grammars.Groups files name g = (bytes : List ℕ) × (content_of files name ≡ Some bytes) × IsAsked bytes (Groups g)
HoldsGroup grammars.Patterns files name g = ⊥

-- the query with groups is that of a file of this name, and of that which the shelf tells, where it tells it
abbrev pub IsOfGroupFile : Grammar → Option Files → List ℕ → GroupData → Type 0
IsOfGroupFile grammar told name g = OfContents told (λ files. HoldsGroup grammar files name g)

-- what was read is that of a file of this name: a query without groups, or one with groups
abbrev pub IsOfAskedFile : Grammar → Option Files → List ℕ → Asked → Type 0
IsOfAskedFile grammar told name (Plain q) = IsOfQueryFile told name q
IsOfAskedFile grammar told name (Groups g) = IsOfGroupFile grammar told name g

-- the first fault of a text by a grammar; where that has no groups none is too deep, and no label is shared by two blocks
abbrev pub IsFaultBy : Grammar → List ℕ → ℕ → GroupWhy → Type 0
IsFaultBy grammars.Groups text at why = GroupFaultAt text why at
IsFaultBy grammars.Patterns text at (whys.Basic why) = FaultAt text why at
IsFaultBy grammars.Patterns text at whys.TooDeep = ⊥
IsFaultBy grammars.Patterns text at whys.SharedBlank = ⊥

-- the file holds a text whose first fault this is, at this byte
abbrev pub HasQueryFault : Grammar → Files → List ℕ → ℕ → GroupWhy → Type 0
HasQueryFault grammar files name at why = (bytes : List ℕ) × (content_of files name ≡ Some bytes) × IsFaultBy grammar bytes at why

-- what becomes of a file of a query: it is read as one without groups or as one with groups, or is refused
pub data QueryOutcome : Type 0 where
  reads : QueryData → QueryOutcome
  reads_groups : GroupData → QueryOutcome
  refused : ℕ → GroupWhy → QueryOutcome

abbrev pub IsQueryOutcome : Grammar → Files → List ℕ → QueryOutcome → Type 0
IsQueryOutcome grammar files name (reads q) = HoldsQuery files name q
IsQueryOutcome grammar files name (reads_groups g) = HoldsGroup grammar files name g
IsQueryOutcome grammar files name (refused at why) = HasQueryFault grammar files name at why

-- the outcome of what was read
abbrev pub outcome_of : Asked → QueryOutcome
outcome_of (Plain q) = reads q
outcome_of (Groups g) = reads_groups g

-- the law: of a file one of them is true at most, by either grammar
abbrev pub OneQueryOutcome : Type 0
OneQueryOutcome = (grammar : Grammar) (files : Files) (name : List ℕ) (one other : QueryOutcome) → IsQueryOutcome grammar files name one → IsQueryOutcome grammar files name other → one ≡ other
