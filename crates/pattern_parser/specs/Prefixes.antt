-- The prefixes that a query declares, and the IRIs that its names stand for (SPARQL 1.1, section 4.1.1).
use Rattle.std.specs.Prelude.{ℕ, Bool, true, false, not, ◌&&◌, List, [], ◌∷◌, ◌++◌, Option, Some, None, if◌then◌else◌, suc, String}
use Rattle.std.specs.BTreeMap.{BTreeMap, get_by_text}
use Rattle.std.specs.Option.{unwrap_or, is_some}
use Rattle.std.specs.Str.{bytes_eq}
use Rattle.rdf_terms.specs.Iri.{is_iri}
use Rattle.rdf_terms.specs.Datatype.{is_lang_string}
use Rattle.query_words.specs.declared.word.Value.{Value}
use Rattle.query_words.specs.declared.word.Value.TheVariants.{Iri, Prefix, Prefixed, Str, Carets}
use Rattle.query_words.specs.declared.word.Word.{Word}

-- the IRI that a map of declared prefixes has for a name
abbrev pub iris : {Y : Type 0} → BTreeMap (String Y) (List ℕ) → List ℕ → Option (List ℕ)
iris declared = λ name. get_by_text declared name

-- the first, or the second where there is none
abbrev pub or_else : Option (List ℕ) → Option (List ℕ) → Option (List ℕ)
or_else None o = o
or_else (Some t) o = Some t

-- the text of a token that is an IRI
abbrev pub iri_in : Value → Option (List ℕ)
iri_in (Iri t) = Some t
iri_in _ = None

-- the text of the IRI that comes first
abbrev pub first_iri : List Word → Option (List ℕ)
first_iri [] = None
first_iri (w ∷ ws) = iri_in w.value

-- the IRI that a token with those after it declares for a name
abbrev pub declares : Value → List Word → List ℕ → Option (List ℕ)
declares (Prefix p) ws name = if bytes_eq name p then first_iri ws else None
declares _ ws name = None

-- the IRI of the last declaration of a name
abbrev pub iri_of : List Word → List ℕ → Option (List ℕ)
iri_of [] name = None
iri_of (w ∷ ws) name = or_else (iri_of ws name) (declares w.value ws name)

-- the IRI that a token stands for
abbrev pub iri_text : (List ℕ → Option (List ℕ)) → Value → List ℕ
iri_text iri (Iri t) = t
iri_text iri (Prefix n) = unwrap_or (iri n) []
iri_text iri (Prefixed n l) = unwrap_or (iri n) [] ++ l
iri_text iri _ = []

-- a name whose prefix is not declared
abbrev pub is_unknown : (List ℕ → Option (List ℕ)) → Value → Bool
is_unknown iri (Prefix n) = not (is_some (iri n))
is_unknown iri (Prefixed n l) = not (is_some (iri n))
is_unknown iri _ = false

-- an IRI with no scheme
abbrev pub is_relative : Value → Bool
is_relative (Iri t) = not (is_iri t)
is_relative _ = false

-- the place of the first token that passes
abbrev pub first_at : (Value → Bool) → List Word → Option ℕ
first_at test [] = None
first_at test (w ∷ ws) = if test w.value then Some w.at else first_at test ws

-- '^^'
abbrev pub is_carets : Value → Bool
is_carets Carets = true
is_carets _ = false

-- '^^' and an IRI that is rdf:langString
abbrev pub gives_lang_string : (List ℕ → Option (List ℕ)) → List Word → Bool
gives_lang_string iri [] = false
gives_lang_string iri (c ∷ []) = false
gives_lang_string iri (c ∷ d ∷ ws) = is_carets c.value && is_lang_string (iri_text iri d.value)

-- a string, behind which stands what gives it the datatype rdf:langString
abbrev pub is_lang : (List ℕ → Option (List ℕ)) → Value → List Word → Bool
is_lang iri (Str s) ws = gives_lang_string iri ws
is_lang iri _ ws = false

-- the place of the first string with the datatype rdf:langString
abbrev pub lang_at : (List ℕ → Option (List ℕ)) → List Word → Option ℕ
lang_at iri [] = None
lang_at iri (w ∷ ws) = if is_lang iri w.value ws then Some w.at else lang_at iri ws

-- how many tokens stand before the first that passes
abbrev pub before : (Value → Bool) → List Word → ℕ
before test [] = 0
before test (w ∷ ws) = if test w.value then 0 else suc (before test ws)
