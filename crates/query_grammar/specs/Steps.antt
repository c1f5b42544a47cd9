-- The machine over kinds of token, as edges over named sets. It serves the reader and the proofs alone.
use Rattle.std.specs.Prelude.{Bool, true, false, List, [], ◌∷◌, ◌++◌, Option, Some, None, if◌then◌else◌}
use Rattle.regular_expressions.specs.Regular.{is_among}
use Rattle.query_grammar.specs.declared.kind.Kind.{Kind}
use Rattle.query_grammar.specs.declared.kind.Kind.TheVariants.{Iri, Prefix, Prefixed, Variable, Blank, Anonymous, Str, Tag, Number, PrefixWord, SelectWord, WhereWord, TrueWord, FalseWord, TypeWord, OpenBrace, CloseBrace, Dot, Semicolon, Comma, Star, Carets}
use Rattle.query_grammar.specs.declared.machine.State.{State}
use Rattle.query_grammar.specs.declared.machine.State.TheVariants.{Start, AfterPrefixWord, AfterSelect, AfterPrefix, InVariables, AfterStar, AfterWhere, AtSubject, AtVerb, AfterSubjectString, AtEnd, AtObject, AtSubjectType, AfterObject, AfterObjectString, AfterSemicolon, AtObjectType}
use Rattle.query_grammar.specs.Grammar.{code, codes}

-- ---- sets of kinds, by their productions

-- iri
abbrev pub iris : List Kind
iris = Iri ∷ Prefix ∷ Prefixed ∷ []

-- Verb
abbrev pub verbs : List Kind
verbs = Variable ∷ TypeWord ∷ iris

-- VarOrTerm, but strings
abbrev pub terms : List Kind
terms = Variable ∷ Blank ∷ Anonymous ∷ Number ∷ TrueWord ∷ FalseWord ∷ iris

-- ---- edges: with a token of a set, to a state

abbrev pub Edges : Type 0
Edges = List (List Kind × State)

-- where the patterns begin
abbrev pub opening : Edges
opening = (WhereWord ∷ [], AfterWhere) ∷ (OpenBrace ∷ [], AtSubject) ∷ []

-- behind a string: its language or its datatype
abbrev pub string_ends : State → State → Edges
string_ends whole at_type = (Tag ∷ [], whole) ∷ (Carets ∷ [], at_type) ∷ []

-- behind a triple
abbrev pub triple_ends : Edges
triple_ends = (Semicolon ∷ [], AfterSemicolon) ∷ (Dot ∷ [], AtSubject) ∷ (CloseBrace ∷ [], AtEnd) ∷ []

-- behind an object
abbrev pub object_ends : Edges
object_ends = (Comma ∷ [], AtObject) ∷ triple_ends

abbrev pub edges : State → Edges
edges Start = (PrefixWord ∷ [], AfterPrefixWord) ∷ (SelectWord ∷ [], AfterSelect) ∷ []
edges AfterPrefixWord = (Prefix ∷ [], AfterPrefix) ∷ []
edges AfterPrefix = (Iri ∷ [], Start) ∷ []
edges AfterSelect = (Variable ∷ [], InVariables) ∷ (Star ∷ [], AfterStar) ∷ []
edges InVariables = (Variable ∷ [], InVariables) ∷ opening
edges AfterStar = opening
edges AfterWhere = (OpenBrace ∷ [], AtSubject) ∷ []
edges AtSubject = (terms, AtVerb) ∷ (Str ∷ [], AfterSubjectString) ∷ (CloseBrace ∷ [], AtEnd) ∷ []
edges AfterSubjectString = string_ends AtVerb AtSubjectType ++ (verbs, AtObject) ∷ []
edges AtSubjectType = (iris, AtVerb) ∷ []
edges AtVerb = (verbs, AtObject) ∷ []
edges AtObject = (terms, AfterObject) ∷ (Str ∷ [], AfterObjectString) ∷ []
edges AfterObjectString = string_ends AfterObject AtObjectType ++ object_ends
edges AtObjectType = (iris, AfterObject) ∷ []
edges AfterObject = object_ends
edges AfterSemicolon = (verbs, AtObject) ∷ triple_ends
edges AtEnd = []

-- the end of the first edge whose set has the kind
abbrev pub taken : Edges → Kind → Option State
taken [] k = None
taken (e ∷ es) k = if is_among (codes e.0) (code k) then Some e.1 else taken es k

-- the state after one more token, where there is one
abbrev pub next : State → Kind → Option State
next s k = taken (edges s) k

-- the tokens may end here
abbrev pub is_end : State → Bool
is_end AtEnd = true
is_end _ = false
