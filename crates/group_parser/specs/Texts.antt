-- What a text is as a query with groups.
use Rattle.std.specs.Prelude.{ℕ, ◌≡◌, ◌⊎◌, Bool, true, false, ◌||◌, List, [], ◌∷◌, Option, None, if◌then◌else◌}
use Rattle.bgp_core.specs.Queries.{QueryData}
use Rattle.bgp_core.specs.declared.pattern.Pattern.{Pattern}
use Rattle.query_grammar.specs.Groups.{ArePlain}
use Rattle.query_words.specs.declared.word.Value.{Value}
use Rattle.query_words.specs.declared.word.Value.TheVariants as values
use Rattle.query_words.specs.declared.word.Word.{Word}
use Rattle.query_words.specs.Words.{kinds_of}
use Rattle.pattern_parser.specs.declared.fault.QueryWhy.{QueryWhy}
use Rattle.pattern_parser.specs.Names.{variable_numbers}
use Rattle.pattern_parser.specs.Items.{names_after}
use Rattle.pattern_parser.specs.Queries.{prefixes, body, block, select_part, has_star, ReadsTokens, ReadsQuery, FaultAt, IsTokenFaultAt}
use Rattle.group_query.specs.Trees as trees
use Rattle.group_query.specs.Trees.{Tree, steps_of, tree_of, IsPostfix, GroupData}
use Rattle.group_faults.specs.declared.limits.TheConstants.{MOST_OPEN}
use Rattle.group_faults.specs.declared.fault.GroupWhy.{GroupWhy}
use Rattle.group_faults.specs.declared.fault.GroupWhy.TheVariants.{Basic}
use Rattle.group_faults.specs.Faults.{group_fault, ReadsGroupWords, GroupFaultAt}
use Rattle.group_parser.specs.Groups.{IsGroup}

-- ---- the query

-- DISTINCT
abbrev pub is_distinct : Value → Bool
is_distinct values.DistinctWord = true
is_distinct _ = false

abbrev pub has_distinct : List Word → Bool
has_distinct [] = false
has_distinct (w ∷ ws) = is_distinct w.value || has_distinct ws

-- The tokens of the SELECT part and those from the first brace on are this query: its group is nested at most MOST_OPEN deep; its names are numbered by their first place; with '*' all variables are selected, by their first place.
pub record IsGroupIn (iri : List ℕ → Option (List ℕ)) (select block : List Word) (g : GroupData) : Type 0 where
  pub group : IsGroup iri MOST_OPEN (names_after [] 0 select) block (tree_of g.steps) g.names
  pub postfix : IsPostfix g.steps
  pub selected : g.selected ≡ variable_numbers 0 (if has_star select then g.names else names_after [] 0 select)
  pub distinct : g.distinct ≡ has_distinct select

-- the tokens after the PREFIX part are this query
abbrev pub IsGroupText : (List ℕ → Option (List ℕ)) → List Word → GroupData → Type 0
IsGroupText iri bs g = IsGroupIn iri (select_part bs) (block bs) g

-- the text is this query
pub record ReadsGroups (text : List ℕ) (g : GroupData) : Type 0 where
  pub words : List Word
  pub reads : ReadsGroupWords text words
  pub fine : group_fault words ≡ None
  pub is : IsGroupText (prefixes words) (body words) g

-- a text is exactly one of the two: one query with groups, or a text with one first fault
pub record OneGroupQuery : Type 0 where
  pub some : (text : List ℕ) → ((g : GroupData) × ReadsGroups text g) ⊎ ((w : GroupWhy) × (n : ℕ) × GroupFaultAt text w n)
  pub queries : (text : List ℕ) (g h : GroupData) → ReadsGroups text g → ReadsGroups text h → g ≡ h
  pub faults : (text : List ℕ) (v : GroupWhy) (m : ℕ) (w : GroupWhy) (n : ℕ) → GroupFaultAt text v m → GroupFaultAt text w n → (v ≡ w) × (m ≡ n)
  pub apart : (text : List ℕ) (g : GroupData) (w : GroupWhy) (n : ℕ) → ReadsGroups text g → GroupFaultAt text w n → ⊥

-- ---- queries without a group inside the group

-- the tokens of the text hold none of DISTINCT, OPTIONAL and UNION, and at most one '{'
pub record IsPlainText (text : List ℕ) : Type 0 where
  pub words : List Word
  pub tokens : ReadsTokens text words
  pub plain : ArePlain 1 (kinds_of words)

-- the patterns as the one block, or the empty group where there is none
abbrev pub one_block : List Pattern → Tree
one_block [] = trees.empty
one_block (p ∷ ps) = trees.block (p ∷ ps)

-- a query as one with groups
abbrev pub as_groups : QueryData → GroupData
as_groups q = record { steps = steps_of (one_block q.patterns); names = q.names; selected = q.selected; distinct = false }

-- A text whose tokens hold none of the three words and at most one '{' is as a query with groups what it is as a query, and else it has the same first fault; and so has a text without tokens.
pub record PlainTextsAgree : Type 0 where
  pub query : (text : List ℕ) (q : QueryData) → IsPlainText text → ReadsQuery text q → ReadsGroups text (as_groups q)
  pub fault : (text : List ℕ) (w : QueryWhy) (at : ℕ) → IsPlainText text → FaultAt text w at → GroupFaultAt text (Basic w) at
  pub token : (text : List ℕ) (w : QueryWhy) (at : ℕ) → IsTokenFaultAt text w at → GroupFaultAt text (Basic w) at
