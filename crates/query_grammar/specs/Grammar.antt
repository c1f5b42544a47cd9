-- The grammar of queries (SPARQL 1.1, section 19.8), as a regular expression over the kinds of tokens: without groups inside groups it is one. Each production stands with its number.
use Rattle.std.specs.Prelude.{[], ◌∷◌, ℕ, ◌≡◌, ◌⊎◌, ◌+◌, ◌<◌, ◌≤◌, List, map, take, length}
use Rattle.regular_expressions.specs.Regular.{Regular, one_of, many, Matches, Begins}
use Rattle.regular_expressions.specs.Combinators.{◌·◌, ◌∣◌, maybe}
use Rattle.query_grammar.specs.declared.kind.Kind.{Kind}
use Rattle.query_grammar.specs.declared.kind.Kind.TheVariants.{Iri, Prefix, Prefixed, Variable, Blank, Anonymous, Str, Tag, Number, PrefixWord, SelectWord, WhereWord, TrueWord, FalseWord, TypeWord, DistinctWord, OptionalWord, UnionWord, OtherWord, OpenBrace, CloseBrace, Dot, Semicolon, Comma, Star, Carets}

-- the letter of a kind
abbrev pub code : Kind → ℕ
code Iri = 0
code Prefix = 1
code Prefixed = 2
code Variable = 3
code Blank = 4
code Anonymous = 5
code Str = 6
code Tag = 7
code Number = 8
code PrefixWord = 9
code SelectWord = 10
code WhereWord = 11
code TrueWord = 12
code FalseWord = 13
code TypeWord = 14
code OtherWord = 15
code OpenBrace = 16
code CloseBrace = 17
code Dot = 18
code Semicolon = 19
code Comma = 20
code Star = 21
code Carets = 22
code DistinctWord = 23
code OptionalWord = 24
code UnionWord = 25

-- one token of a kind
abbrev pub a : Kind → Regular
a k = one_of (code k ∷ [])

-- [136] iri, with [137] PrefixedName
abbrev pub iri : Regular
iri = a Iri ∣ a Prefixed ∣ a Prefix

-- [129] RDFLiteral, [130] NumericLiteral and [134] BooleanLiteral
abbrev pub literal : Regular
literal = a Str · maybe (a Tag ∣ a Carets · iri) ∣ a Number ∣ a TrueWord ∣ a FalseWord

-- [106] VarOrTerm, with [108] Var, [109] GraphTerm but NIL, and [138] BlankNode
abbrev pub subject : Regular
subject = a Variable ∣ iri ∣ literal ∣ a Blank ∣ a Anonymous

-- [78] Verb, with [107] VarOrIri: without paths it is VerbPath [84] or VerbSimple [85]
abbrev pub verb : Regular
verb = a Variable ∣ iri ∣ a TypeWord

-- [80] Object, with [104] GraphNode but TriplesNode
abbrev pub object : Regular
object = subject

-- [78] Verb and [79] ObjectList
abbrev pub verb_objects : Regular
verb_objects = verb · (object · many (a Comma · object))

-- [77] PropertyListNotEmpty: without paths it is PropertyListPathNotEmpty [83]
abbrev pub list : Regular
list = verb_objects · many (a Semicolon · maybe verb_objects)

-- [75] TriplesSameSubject with VarOrTerm: without paths it is TriplesSameSubjectPath [81]
abbrev pub same : Regular
same = subject · list

-- [55] TriplesBlock
abbrev pub block : Regular
block = same · many (a Dot · same) · maybe (a Dot)

-- the queries of the profile: [4] Prologue of [6] PrefixDecl alone; [7] SelectQuery; [9] SelectClause without DISTINCT, REDUCED and expressions; [17] WhereClause; [53] GroupGraphPattern, whose [54] GroupGraphPatternSub is one basic graph pattern
unfoldable pub query : Regular
query = many (a PrefixWord · a Prefix · a Iri) · a SelectWord · (a Star ∣ a Variable · many (a Variable)) · maybe (a WhereWord) · a OpenBrace · maybe block · a CloseBrace

-- the letters of some kinds
abbrev pub codes : List Kind → List ℕ
codes ks = map code ks

-- these tokens are a query
abbrev pub IsQuery : List Kind → Type 0
IsQuery ks = Matches query (codes ks)

-- these tokens are the front of a query
abbrev pub BeginsQuery : List Kind → Type 0
BeginsQuery ks = Begins query (codes ks)

-- the token at n is the first with which the tokens so far begin no query, or n is past the last and the tokens end too early
pub record IsGrammarFault (ks : List Kind) (n : ℕ) : Type 0 where
  pub no_query : IsQuery ks → ⊥
  pub within : n ≤ length ks
  pub before : BeginsQuery (take n ks)
  pub here : n < length ks → BeginsQuery (take (n + 1) ks) → ⊥

-- tokens are exactly one of the two: a query, or a list with one place of fault
pub record OneFault : Type 0 where
  pub some : (ks : List Kind) → IsQuery ks ⊎ ((n : ℕ) × IsGrammarFault ks n)
  pub faults : (ks : List Kind) (m n : ℕ) → IsGrammarFault ks m → IsGrammarFault ks n → m ≡ n
  pub apart : (ks : List Kind) (n : ℕ) → IsQuery ks → IsGrammarFault ks n → ⊥
