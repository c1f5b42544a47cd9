-- What a text is as a query, and its first fault.
use Rattle.std.specs.Prelude.{ℕ, ◌≡◌, ◌⊎◌, ◌<◌, ◌≤◌, Bool, true, false, ◌||◌, List, [], ◌∷◌, map, take, drop, length, Option, Some, None, if◌then◌else◌, slice_get, option_map}
use Rattle.std.specs.Str.{chars, IsUtf8, IsValidUpTo}
use Rattle.bgp_core.specs.Queries.{QueryData}
use Rattle.query_tokens.specs.declared.piece.Piece.{Piece}
use Rattle.query_tokens.specs.declared.piece.TheConstants.{LONGEST_QUERY}
use Rattle.query_tokens.specs.Pieces.{AreTokens, IsTokenFault, byte_place}
use Rattle.query_grammar.specs.Grammar.{IsQuery, IsGrammarFault}
use Rattle.query_words.specs.declared.word.Value.{Value}
use Rattle.query_words.specs.declared.word.Value.TheVariants.{SelectWord, OpenBrace, Star}
use Rattle.query_words.specs.declared.word.Word.{Word}
use Rattle.query_words.specs.Words.{words_of, kinds_of}
use Rattle.pattern_parser.specs.declared.fault.QueryWhy.{QueryWhy}
use Rattle.pattern_parser.specs.declared.fault.QueryWhy.TheVariants as why
use Rattle.pattern_parser.specs.declared.limit.TheConstants.{MOST_PATTERNS}
use Rattle.pattern_parser.specs.Prefixes.{iri_of, is_unknown, is_relative, first_at, lang_at, before}
use Rattle.pattern_parser.specs.Names.{variable_numbers}
use Rattle.pattern_parser.specs.Items.{names_after}
use Rattle.pattern_parser.specs.Triples.{Placed, block_triples}

-- SELECT
abbrev pub is_select : Value → Bool
is_select SelectWord = true
is_select _ = false

-- '{'
abbrev pub is_brace : Value → Bool
is_brace OpenBrace = true
is_brace _ = false

-- '*'
abbrev pub is_star : Value → Bool
is_star Star = true
is_star _ = false

-- some token is '*'
abbrev pub has_star : List Word → Bool
has_star [] = false
has_star (w ∷ ws) = is_star w.value || has_star ws

-- the PREFIX part
abbrev pub prologue : List Word → List Word
prologue ws = take (before is_select ws) ws

-- SELECT and what follows it
abbrev pub body : List Word → List Word
body ws = drop (before is_select ws) ws

-- the IRI of a prefix
abbrev pub prefixes : List Word → List ℕ → Option (List ℕ)
prefixes ws = iri_of (prologue ws)

-- of SELECT and what follows it, the part before the brace
abbrev pub select_part : List Word → List Word
select_part bs = take (before is_brace bs) bs

-- the braces and what stands between them
abbrev pub block : List Word → List Word
block bs = drop (before is_brace bs) bs

-- the names of the SELECT part
abbrev pub select_names : List Word → List (List ℕ)
select_names bs = names_after [] 0 (select_part bs)

-- all names, by their first place
abbrev pub names_of : List Word → List (List ℕ)
names_of bs = names_after (select_names bs) 0 (block bs)

-- the triple patterns, each with the place of its object
abbrev pub triples_of : (List ℕ → Option (List ℕ)) → List Word → List Placed
triples_of iri bs = block_triples iri (select_names bs) (block bs)

-- the numbers of the selected variables: those of the SELECT part, or with '*' all, by their first place
abbrev pub selected_of : List Word → List ℕ
selected_of bs = variable_numbers 0 (if has_star (select_part bs) then names_of bs else select_names bs)

-- the query that the tokens after the PREFIX part are
abbrev pub query_of : (List ℕ → Option (List ℕ)) → List Word → QueryData
query_of iri bs = record { patterns = map (λ p. p.pattern) (triples_of iri bs); names = names_of bs; selected = selected_of bs }

-- the place of the object that completes one pattern more than a query may have
abbrev pub excess : List Placed → Option ℕ
excess ts = option_map (λ p. p.at) (slice_get ts MOST_PATTERNS)

-- a fault of a kind where there is a place, or else a later one
abbrev pub fault_or : Option ℕ → QueryWhy → Option (QueryWhy × ℕ) → Option (QueryWhy × ℕ)
fault_or None why later = later
fault_or (Some at) why later = Some (why, at)

-- the first fault of names and terms
abbrev pub term_fault : (List ℕ → Option (List ℕ)) → List Word → List Word → Option (QueryWhy × ℕ)
term_fault iri ws bs = fault_or (first_at (is_unknown iri) bs) why.UnknownPrefix (fault_or (first_at is_relative ws) why.RelativeIri (fault_or (lang_at iri bs) why.LangString None))

-- the first, or the second where there is none
abbrev pub first_of : Option (QueryWhy × ℕ) → Option (QueryWhy × ℕ) → Option (QueryWhy × ℕ)
first_of None later = later
first_of (Some f) later = Some f

-- the first fault of tokens with these prefixes, of which those from SELECT on are given too
abbrev pub fault_with : (List ℕ → Option (List ℕ)) → List Word → List Word → Option (QueryWhy × ℕ)
fault_with iri ws bs = first_of (term_fault iri ws bs) (fault_or (excess (triples_of iri bs)) why.TooManyPatterns None)

-- the first fault of tokens that the grammar reads
abbrev pub later_fault : List Word → Option (QueryWhy × ℕ)
later_fault ws = fault_with (prefixes ws) ws (body ws)

-- the place of a token, or the end
abbrev pub at_or : Option Word → ℕ → ℕ
at_or None end = end
at_or (Some w) end = w.at

-- the place of the token at n, or the end
abbrev pub place_or : List Word → ℕ → ℕ → ℕ
place_or ws n end = at_or (slice_get ws n) end

-- the text has tokens that the grammar reads, and what they say
pub record Reads (text : List ℕ) (ws : List Word) : Type 0 where
  pub short : length text ≤ LONGEST_QUERY
  pub utf8 : IsUtf8 text
  pub tokens : List Piece
  pub are : AreTokens (chars text) tokens
  pub words : ws ≡ words_of (chars text) tokens
  pub query : IsQuery (kinds_of ws)

-- the text is this query
pub record ReadsQuery (text : List ℕ) (q : QueryData) : Type 0 where
  pub words : List Word
  pub reads : Reads text words
  pub fine : later_fault words ≡ None
  pub is : q ≡ query_of (prefixes words) (body words)

-- the text is UTF-8, not too long, and this is its first place that begins no token
pub record IsTokenAt (text : List ℕ) (at : ℕ) : Type 0 where
  pub short : length text ≤ LONGEST_QUERY
  pub utf8 : IsUtf8 text
  pub place : ℕ
  pub fault : IsTokenFault (chars text) place
  pub place_is : at ≡ byte_place (chars text) place

-- the text has tokens, and this is the place of the first with which those so far begin no query
pub record IsGrammarAt (text : List ℕ) (at : ℕ) : Type 0 where
  pub short : length text ≤ LONGEST_QUERY
  pub utf8 : IsUtf8 text
  pub tokens : List Piece
  pub are : AreTokens (chars text) tokens
  pub number : ℕ
  pub fault : IsGrammarFault (kinds_of (words_of (chars text) tokens)) number
  pub place_is : at ≡ place_or (words_of (chars text) tokens) number (length text)

-- the grammar reads the text, and this is the first fault of what its tokens say
pub record IsLaterAt (text : List ℕ) (w : QueryWhy) (at : ℕ) : Type 0 where
  pub words : List Word
  pub reads : Reads text words
  pub is : later_fault words ≡ Some (w, at)

-- the first fault of a text: its kind and its place
abbrev pub FaultAt : List ℕ → QueryWhy → ℕ → Type 0
FaultAt text why.TooLong at = (LONGEST_QUERY < length text) × (at ≡ LONGEST_QUERY)
FaultAt text why.Utf8 at = (length text ≤ LONGEST_QUERY) × ¬ (IsUtf8 text) × IsValidUpTo text at
FaultAt text why.Token at = IsTokenAt text at
FaultAt text why.Grammar at = IsGrammarAt text at
FaultAt text w at = IsLaterAt text w at

-- the first fault of a text is one of length, of UTF-8 or of a token
abbrev pub IsTokenFaultAt : List ℕ → QueryWhy → ℕ → Type 0
IsTokenFaultAt text why.TooLong at = FaultAt text why.TooLong at
IsTokenFaultAt text why.Utf8 at = FaultAt text why.Utf8 at
IsTokenFaultAt text why.Token at = FaultAt text why.Token at
IsTokenFaultAt text w at = ⊥

-- the text is UTF-8 and not too long, and its tokens say this
pub record ReadsTokens (text : List ℕ) (ws : List Word) : Type 0 where
  pub short : length text ≤ LONGEST_QUERY
  pub utf8 : IsUtf8 text
  pub tokens : List Piece
  pub are : AreTokens (chars text) tokens
  pub words : ws ≡ words_of (chars text) tokens

-- a text is exactly one of the two: one query, or a text with one first fault
pub record OneQuery : Type 0 where
  pub some : (text : List ℕ) → ((q : QueryData) × ReadsQuery text q) ⊎ ((w : QueryWhy) × (n : ℕ) × FaultAt text w n)
  pub queries : (text : List ℕ) (q r : QueryData) → ReadsQuery text q → ReadsQuery text r → q ≡ r
  pub faults : (text : List ℕ) (v : QueryWhy) (m : ℕ) (w : QueryWhy) (n : ℕ) → FaultAt text v m → FaultAt text w n → (v ≡ w) × (m ≡ n)
  pub apart : (text : List ℕ) (q : QueryData) (w : QueryWhy) (n : ℕ) → ReadsQuery text q → FaultAt text w n → ⊥
