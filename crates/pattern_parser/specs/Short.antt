-- Bounds of the fixed terms of a query that is read.
use Rattle.std.specs.Prelude.{ℕ, ◌+◌, ◌≤◌, List, ⊤}
use Rattle.std.specs.List.{AllByRecursion}
use Rattle.rdf_terms.specs.declared.limits.TheConstants.{MOST_UNWRITTEN}
use Rattle.rdf_terms.specs.Sizes.{term_size}
use Rattle.bgp_core.specs.declared.pattern.Part.{Part}
use Rattle.bgp_core.specs.declared.pattern.Part.TheVariants as parts
use Rattle.bgp_core.specs.declared.pattern.Pattern.{Pattern}
use Rattle.bgp_core.specs.Queries.{QueryData}
use Rattle.query_tokens.specs.declared.piece.TheConstants.{LONGEST_QUERY}
use Rattle.pattern_parser.specs.Queries.{ReadsQuery}

-- a fixed part's texts have at most LONGEST_QUERY + MOST_UNWRITTEN bytes
abbrev pub IsShortPart : Part → Type 0
IsShortPart (parts.Fixed t) = term_size t ≤ LONGEST_QUERY + MOST_UNWRITTEN
IsShortPart (parts.Name n) = ⊤

-- each part of the pattern is short
pub record IsShortPattern (p : Pattern) : Type 0 where
  pub subject : IsShortPart p.subject
  pub predicate : IsShortPart p.predicate
  pub object : IsShortPart p.object

-- in a query that is read the texts of each fixed term have at most MOST_UNWRITTEN bytes more than a query's text may have
abbrev pub TermsAreShort : Type 0
TermsAreShort = (text : List ℕ) (q : QueryData) → ReadsQuery text q → AllByRecursion IsShortPattern q.patterns
