-- The machine does what the grammar says: what may still come after a state and a kind is what may still come at the next state.
use Rattle.std.proofs.Common.{◌≡◌, true, refl, List, [], ◌∷◌, Option, Some, None}
use Rattle.regular_expressions.specs.Regular.{Regular, nothing, left, lefts, nullable, is_alive}
use Rattle.query_grammar.specs.declared.kind.Kind.{Kind}
use Rattle.query_grammar.specs.declared.kind.Kind.TheVariants as kinds
use Rattle.query_grammar.specs.declared.machine.State.{State}
use Rattle.query_grammar.specs.declared.machine.State.TheVariants.{Start, AfterPrefixWord, AfterSelect, AfterPrefix, InVariables, AfterStar, AfterWhere, AtSubject, AtVerb, AfterSubjectString, AtEnd, AtObject, AtSubjectType, AfterObject, AfterObjectString, AfterSemicolon, AtObjectType}
use Rattle.query_grammar.specs.Steps.{next, is_end}
use Rattle.query_grammar.specs.Grammar.{code, codes, query}

-- tokens to where the patterns begin, and what stands before an object
abbrev opened : List Kind → List Kind
opened ks = kinds.SelectWord ∷ kinds.Variable ∷ kinds.OpenBrace ∷ ks

abbrev with_object : List Kind → List Kind
with_object ks = opened (kinds.Iri ∷ kinds.Iri ∷ ks)

-- tokens that lead to a state
abbrev path_to : State → List Kind
path_to Start = []
path_to AfterPrefixWord = kinds.PrefixWord ∷ []
path_to AfterPrefix = kinds.PrefixWord ∷ kinds.Prefix ∷ []
path_to AfterSelect = kinds.SelectWord ∷ []
path_to InVariables = kinds.SelectWord ∷ kinds.Variable ∷ []
path_to AfterStar = kinds.SelectWord ∷ kinds.Star ∷ []
path_to AfterWhere = kinds.SelectWord ∷ kinds.Star ∷ kinds.WhereWord ∷ []
path_to AtSubject = opened []
path_to AfterSubjectString = opened (kinds.Str ∷ [])
path_to AtSubjectType = opened (kinds.Str ∷ kinds.Carets ∷ [])
path_to AtVerb = opened (kinds.Iri ∷ [])
path_to AtObject = with_object []
path_to AfterObjectString = with_object (kinds.Str ∷ [])
path_to AtObjectType = with_object (kinds.Str ∷ kinds.Carets ∷ [])
path_to AfterObject = with_object (kinds.Iri ∷ [])
path_to AfterSemicolon = with_object (kinds.Iri ∷ kinds.Semicolon ∷ [])
path_to AtEnd = opened (kinds.CloseBrace ∷ [])

-- what may still come in a state
unfoldable pub rest_of : State → Regular
rest_of s = lefts query (codes (path_to s))

abbrev pub rest_after : Option State → Regular
rest_after None = nothing
rest_after (Some s) = rest_of s

pub follows : (s : State) (k : Kind) → left (rest_of s) (code k) ≡ rest_after (next s k)
unfolding query rest_of
follows Start kinds.Iri = refl
follows Start _ = refl
follows _ kinds.Iri = refl
follows _ _ = refl

pub alive : (s : State) → is_alive (rest_of s) ≡ true
unfolding query rest_of
alive Start = refl
alive _ = refl

pub ends : (s : State) → nullable (rest_of s) ≡ is_end s
unfolding query rest_of
ends Start = refl
ends _ = refl

pub starts : rest_of Start ≡ query
unfolding query rest_of
starts = refl
