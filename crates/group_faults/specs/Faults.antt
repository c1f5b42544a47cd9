-- The first fault of the text of a query with groups.
use Rattle.std.specs.Prelude.{ℕ, ◌≡◌, ◌+◌, ◌-◌, ◌==◌, nat_lt, List, [], ◌∷◌, ◌++◌, length, Option, Some, None, if◌then◌else◌, slice_get, option_map}
use Rattle.std.specs.Str.{bytes_eq}
use Rattle.query_grammar.specs.Groups.{IsGroupQuery, IsGroupFault}
use Rattle.query_words.specs.declared.word.Value.{Value}
use Rattle.query_words.specs.declared.word.Value.TheVariants as values
use Rattle.query_words.specs.declared.word.Word.{Word}
use Rattle.query_words.specs.Words.{kinds_of}
use Rattle.pattern_parser.specs.declared.fault.QueryFault.{QueryFault}
use Rattle.pattern_parser.specs.declared.fault.QueryFault.TheVariants as queries
use Rattle.pattern_parser.specs.declared.fault.QueryWhy.{QueryWhy}
use Rattle.pattern_parser.specs.declared.fault.QueryWhy.TheVariants as why
use Rattle.pattern_parser.specs.Items.{names_after}
use Rattle.pattern_parser.specs.Triples.{Placed, block_triples}
use Rattle.pattern_parser.specs.Queries.{prefixes, body, block, select_names, excess, term_fault, place_or, ReadsTokens, FaultAt}
use Rattle.group_faults.specs.declared.fault.GroupFault.{GroupFault}
use Rattle.group_faults.specs.declared.fault.GroupFault.TheVariants as faults
use Rattle.group_faults.specs.declared.fault.GroupWhy.{GroupWhy}
use Rattle.group_faults.specs.declared.fault.GroupWhy.TheVariants.{Basic, TooDeep, SharedBlank}
use Rattle.group_faults.specs.declared.limits.TheConstants.{MOST_OPEN}
use Rattle.group_faults.specs.Signs.{sign_of, is_other, runs_of}

-- a fault of a query as that of a query with groups
abbrev pub basic : QueryFault → GroupFault
basic (queries.Bad at why) = faults.Bad at (Basic why)
basic queries.OutOfMemory = faults.OutOfMemory

-- ---- too many patterns

-- the triple patterns of runs of tokens behind these names, each with the place of its object
abbrev pub triples_in : (List ℕ → Option (List ℕ)) → List (List ℕ) → List (List Word) → List Placed
triples_in iri names [] = []
triples_in iri names (run ∷ runs) = block_triples iri names run ++ triples_in iri (names_after names 0 run) runs

-- the place of the object of the pattern with this number
abbrev pub place_at : ℕ → List Placed → Option ℕ
place_at n ts = option_map (λ p. p.at) (slice_get ts n)

-- ---- too deep

-- how many groups are open behind a token, unless it opens one inside MOST_OPEN others
abbrev pub depth_after : ℕ → Value → Option ℕ
depth_after depth values.OpenBrace = if nat_lt depth MOST_OPEN then Some (depth + 1) else None
depth_after depth values.CloseBrace = Some (depth - 1)
depth_after depth _ = Some depth

-- the place where nothing is told, or what comes at what is
abbrev pub place_unless : ℕ → Option ℕ → (ℕ → Option ℕ) → Option ℕ
place_unless at None rest = Some at
place_unless at (Some n) rest = rest n

-- the place of the first '{' inside MOST_OPEN groups, where so many are open before these tokens
abbrev pub deep_from : ℕ → List Word → Option ℕ
deep_from depth [] = None
deep_from depth (w ∷ ws) = place_unless w.at (depth_after depth w.value) (λ n. deep_from n ws)

-- ---- a label in two blocks

-- the label of a blank node
abbrev pub label_text : Value → Option (List ℕ)
label_text (values.Label t) = Some t
label_text _ = None

-- the number of the block of the next token: each brace, OPTIONAL and UNION ends one
abbrev pub block_after : ℕ → Value → ℕ
block_after n v = if is_other (sign_of v) then n else n + 1

-- the number of the block in which each label stands first, with one label more
abbrev pub with_label : (List ℕ → Option ℕ) → List ℕ → ℕ → List ℕ → Option ℕ
with_label first t n q = if bytes_eq q t then Some n else first q

-- at a label in block n: what comes where it is new, or known from this block; else its place
abbrev pub at_label : Option ℕ → ℕ → ℕ → Option ℕ → Option ℕ → Option ℕ
at_label None n at new again = new
at_label (Some b) n at new again = if b == n then again else Some at

abbrev pub by_label : Option (List ℕ) → (List ℕ → Option ℕ) → Option ℕ → Option ℕ
by_label None labelled other = other
by_label (Some t) labelled other = labelled t

-- the place of the first label that stands first in another block, in the blocks from number n on
abbrev pub shared_from : (List ℕ → Option ℕ) → ℕ → List Word → Option ℕ
shared_from first n [] = None
shared_from first n (w ∷ ws) = by_label (label_text w.value) (λ t. at_label (first t) n w.at (shared_from (with_label first t n) n ws) (shared_from first n ws)) (shared_from first (block_after n w.value) ws)

-- ---- the first fault of tokens that the grammar reads

-- a fault of this kind where there is a place, or else a later one
abbrev pub fault_at : Option ℕ → GroupWhy → Option (GroupWhy × ℕ) → Option (GroupWhy × ℕ)
fault_at None kind later = later
fault_at (Some at) kind later = Some (kind, at)

-- a basic fault, or else a later one
abbrev pub basic_or : Option (QueryWhy × ℕ) → Option (GroupWhy × ℕ) → Option (GroupWhy × ℕ)
basic_or None later = later
basic_or (Some f) later = Some (Basic f.0, f.1)

-- the first fault of the tokens from the first brace on, behind the names of the SELECT part
abbrev pub block_fault : (List ℕ → Option (List ℕ)) → List (List ℕ) → List Word → Option (GroupWhy × ℕ)
block_fault iri names b = fault_at (excess (triples_in iri names (runs_of b))) (Basic why.TooManyPatterns) (fault_at (deep_from 0 b) TooDeep (fault_at (shared_from (λ t. None) 0 b) SharedBlank None))

-- this is the first fault of the tokens from the first brace on, or there is none, whatever their prefixes stand for and whatever names stand before them
abbrev pub HasBlockFault : List Word → Option (GroupWhy × ℕ) → Type 0
HasBlockFault b fault = (iri : List ℕ → Option (List ℕ)) (names : List (List ℕ)) → block_fault iri names b ≡ fault

-- the first fault of tokens with these prefixes, of which those from SELECT on are given too
abbrev pub group_fault_with : (List ℕ → Option (List ℕ)) → List Word → List Word → Option (GroupWhy × ℕ)
group_fault_with iri ws bs = basic_or (term_fault iri ws bs) (block_fault iri (select_names bs) (block bs))

-- the first fault of tokens that the grammar reads
abbrev pub group_fault : List Word → Option (GroupWhy × ℕ)
group_fault ws = group_fault_with (prefixes ws) ws (body ws)

-- ---- the text

-- the text has tokens that the grammar of groups reads
pub record ReadsGroupWords (text : List ℕ) (ws : List Word) : Type 0 where
  pub tokens : ReadsTokens text ws
  pub query : IsGroupQuery (kinds_of ws)

-- the text has tokens, and this is the place of the first with which those so far begin no query with groups
pub record IsGroupGrammarAt (text : List ℕ) (at : ℕ) : Type 0 where
  pub words : List Word
  pub tokens : ReadsTokens text words
  pub number : ℕ
  pub fault : IsGroupFault (kinds_of words) number
  pub place_is : at ≡ place_or words number (length text)

-- the grammar reads the text, and this is the first fault of what its tokens say
pub record IsLaterGroupFault (text : List ℕ) (w : GroupWhy) (at : ℕ) : Type 0 where
  pub words : List Word
  pub reads : ReadsGroupWords text words
  pub is : group_fault words ≡ Some (w, at)

-- the first fault of a text: its kind and its place
abbrev pub GroupFaultAt : List ℕ → GroupWhy → ℕ → Type 0
GroupFaultAt text (Basic why.TooLong) at = FaultAt text why.TooLong at
GroupFaultAt text (Basic why.Utf8) at = FaultAt text why.Utf8 at
GroupFaultAt text (Basic why.Token) at = FaultAt text why.Token at
GroupFaultAt text (Basic why.Grammar) at = IsGroupGrammarAt text at
GroupFaultAt text w at = IsLaterGroupFault text w at
