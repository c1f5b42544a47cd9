-- What a text asks: one basic graph pattern, or groups.
use Rattle.std.specs.Prelude.{ℕ, ◌≡◌, List, None}
use Rattle.query_words.specs.declared.word.Word.{Word}
use Rattle.query_words.specs.Words.{kinds_of}
use Rattle.query_grammar.specs.Grammar.{IsQuery}
use Rattle.query_grammar.specs.Groups.{ArePlain}
use Rattle.bgp_core.specs.Queries.{QueryData}
use Rattle.pattern_parser.specs.Queries.{prefixes, body, query_of, later_fault, ReadsQuery}
use Rattle.group_faults.specs.Faults.{group_fault}
use Rattle.group_parser.specs.declared.reading.Asked.{Asked}
use Rattle.group_parser.specs.declared.reading.Asked.TheVariants.{Plain, Groups}
use Rattle.group_parser.specs.Texts.{IsGroupText, ReadsGroups, IsPlainText}

-- the text is this query; its tokens hold none of DISTINCT, OPTIONAL and UNION and one '{', or they do
abbrev pub IsAsked : List ℕ → Asked → Type 0
IsAsked text (Plain q) = IsPlainText text × ReadsQuery text q
IsAsked text (Groups g) = (IsPlainText text → ⊥) × ReadsGroups text g

-- ---- by the tokens

-- the tokens are those of a query, and say this
pub record IsPlainQuery (ws : List Word) (q : QueryData) : Type 0 where
  pub query : IsQuery (kinds_of ws)
  pub fine : later_fault ws ≡ None
  pub is : q ≡ query_of (prefixes ws) (body ws)

pub record IsOfGroups (ws : List Word) : Type 0 where
  pub plain : ArePlain 1 (kinds_of ws) → ⊥
  pub fine : group_fault ws ≡ None

abbrev pub IsAskedBy : List Word → Asked → Type 0
IsAskedBy ws (Plain q) = ArePlain 1 (kinds_of ws) × IsPlainQuery ws q
IsAskedBy ws (Groups g) = IsOfGroups ws × IsGroupText (prefixes ws) (body ws) g
