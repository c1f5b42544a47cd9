-- A text is one query or has one first fault.
use Rattle.std.proofs.Common.{ℕ, zero, suc, ◌≡◌, ◌<◌, ◌≤◌, ◌⊎◌, inl, inr, Bool, true, false, List, [], ◌∷◌, Option, Some, None, refl, sym, subst, ◌∙◌, take, length, arith}
use Rattle.std.proofs.lemmas.List.{take_all}
use Rattle.std.proofs.lemmas.Bool.{cases_order}
use Rattle.std.specs.Str.{chars, is_utf8, IsUtf8, IsValidUpTo}
use Rattle.std.proofs.lemmas.Str.{IsUtf8-from_is_utf8, is_utf8-from_IsUtf8}
use Rattle.bgp_core.specs.Queries.{QueryData}
use Rattle.query_tokens.specs.declared.piece.Piece.{Piece}
use Rattle.query_tokens.specs.declared.piece.TheConstants.{LONGEST_QUERY}
use Rattle.query_tokens.specs.Pieces.{AreTokens, IsTokenFault, byte_place}
use Rattle.query_grammar.specs.declared.kind.Kind.{Kind}
use Rattle.query_grammar.specs.Grammar.{IsQuery, IsGrammarFault}
use Rattle.query_words.specs.declared.word.Word.{Word}
use Rattle.query_words.specs.Words.{words_of, kinds_of}
use Rattle.pattern_parser.specs.declared.fault.QueryWhy.{QueryWhy}
use Rattle.pattern_parser.specs.declared.fault.QueryWhy.TheVariants as why
use Rattle.pattern_parser.specs.Prefixes.{is_unknown, is_relative, first_at, lang_at}
use Rattle.pattern_parser.specs.Queries.{prefixes, body, triples_of, query_of, excess, fault_or, first_of, term_fault, fault_with, place_or, later_fault, Reads, ReadsQuery, IsLaterAt, FaultAt}

-- what a text is: one query, or a text with a first fault
abbrev pub Known : List ℕ → Type 0
Known text = ((q : QueryData) × ReadsQuery text q) ⊎ ((w : QueryWhy) × (n : ℕ) × FaultAt text w n)

-- ---- UTF-8, or the place up to which a text is

utf8_or : (bs : List ℕ) → IsUtf8 bs ⊎ (IsUtf8 bs → ⊥)
utf8_or bs = pick (is_utf8 bs) refl
  where
    pick : (b : Bool) → is_utf8 bs ≡ b → IsUtf8 bs ⊎ (IsUtf8 bs → ⊥)
    pick true e = inl (IsUtf8-from_is_utf8 bs e)
    pick false e = inr (λ u. differ (sym e ∙ is_utf8-from_IsUtf8 bs u))
      where
        differ : false ≡ true → ⊥
        differ d = cc

-- going down from a place, the first front that is UTF-8
down : (bs : List ℕ) (n : ℕ) → n < length bs → ((m : ℕ) → n < m → IsUtf8 (take m bs) → ⊥) → (k : ℕ) × IsValidUpTo bs k
down bs zero s h = (0, record { short = s; front = ([], (refl, refl)); longest = h })
down bs (suc n) s h = pick (λ g. down bs n (omega arith) g) (utf8_or (take (suc n) bs))
  where
    pick : (((m : ℕ) → n < m → IsUtf8 (take m bs) → ⊥) → (k : ℕ) × IsValidUpTo bs k) → IsUtf8 (take (suc n) bs) ⊎ (IsUtf8 (take (suc n) bs) → ⊥) → (k : ℕ) × IsValidUpTo bs k
    pick go (inl u) = (suc n, record { short = s; front = u; longest = h })
    pick go (inr u) = go (λ m l v. below m l v (cases_order m (suc n)))
      where
        below : (m : ℕ) → n < m → IsUtf8 (take m bs) → (m ≡ suc n) ⊎ ((m < suc n) ⊎ (suc n < m)) → ⊥
        below m l v (inl e) = u (subst (λ (k : ℕ). IsUtf8 (take k bs)) e v)
        below m l v (inr (inl k)) = absurd (omega arith)
        below m l v (inr (inr k)) = h m k v

-- a text that is not UTF-8 is so up to some place
valid_up_to : (bs : List ℕ) → (IsUtf8 bs → ⊥) → (k : ℕ) × IsValidUpTo bs k
valid_up_to [] u = absurd (u ([], (refl, refl)))
valid_up_to (b ∷ bs) u = down (b ∷ bs) (length bs) (omega arith) (λ m l v. u (subst IsUtf8 (take_all m (b ∷ bs) (omega arith)) v))

-- ---- the later faults

-- the kinds of the faults of what the tokens say
abbrev IsLate : QueryWhy → Type 0
IsLate why.TooLong = ⊥
IsLate why.Utf8 = ⊥
IsLate why.Token = ⊥
IsLate why.Grammar = ⊥
IsLate _ = Unit {0}

abbrev LateFault : Option (QueryWhy × ℕ) → Type 0
LateFault None = Unit {0}
LateFault (Some f) = IsLate f.0

late_or : (o : Option ℕ) (w : QueryWhy) (later : Option (QueryWhy × ℕ)) → IsLate w → LateFault later → LateFault (fault_or o w later)
late_or None w later a b = b
late_or (Some at) w later a b = a

late_of : (o later : Option (QueryWhy × ℕ)) → LateFault o → LateFault later → LateFault (first_of o later)
late_of None later a b = b
late_of (Some f) later a b = a

late_with : (iri : List ℕ → Option (List ℕ)) (ws bs : List Word) → LateFault (fault_with iri ws bs)
late_with iri ws bs =
    late_of (term_fault iri ws bs) (fault_or (excess (triples_of iri bs)) why.TooManyPatterns None)
    (late_or (first_at (is_unknown iri) bs) why.UnknownPrefix (fault_or (first_at is_relative ws) why.RelativeIri (fault_or (lang_at iri bs) why.LangString None)) tt
    (late_or (first_at is_relative ws) why.RelativeIri (fault_or (lang_at iri bs) why.LangString None) tt
    (late_or (lang_at iri bs) why.LangString None tt tt)))
    (late_or (excess (triples_of iri bs)) why.TooManyPatterns None tt tt)

late_at : (text : List ℕ) (w : QueryWhy) (n : ℕ) → IsLate w → IsLaterAt text w n → FaultAt text w n
late_at text why.TooLong n l f = absurd l
late_at text why.Utf8 n l f = absurd l
late_at text why.Token n l f = absurd l
late_at text why.Grammar n l f = absurd l
late_at text _ n l f = f

read_or : (text : List ℕ) (ws : List Word) → Reads text ws → Known text
read_or text ws r = pick (later_fault ws) refl (late_with (prefixes ws) ws (body ws))
  where
    pick : (o : Option (QueryWhy × ℕ)) → later_fault ws ≡ o → LateFault o → Known text
    pick None e l = inl (query_of (prefixes ws) (body ws), record { words = ws; reads = r; fine = e; is = refl })
    pick (Some f) e l = inr (f.0, f.1, late_at text f.0 f.1 l (record { words = ws; reads = r; is = e }))

-- ---- the text

-- each text of characters has tokens or a first place that begins none
abbrev pub TokensKnown : Type 0
TokensKnown = (cs : List ℕ) → ((ts : List Piece) × AreTokens cs ts) ⊎ ((n : ℕ) × IsTokenFault cs n)

-- each list of kinds is a query or has a first kind that cannot come
abbrev pub GrammarKnown : Type 0
GrammarKnown = (ks : List Kind) → IsQuery ks ⊎ ((n : ℕ) × IsGrammarFault ks n)

grammar_or : (text : List ℕ) → length text ≤ LONGEST_QUERY → IsUtf8 text → (ts : List Piece) → AreTokens (chars text) ts → IsQuery (kinds_of (words_of (chars text) ts)) ⊎ ((n : ℕ) × IsGrammarFault (kinds_of (words_of (chars text) ts)) n) → Known text
grammar_or text s u ts t (inl q) =
    read_or text (words_of (chars text) ts) (record { short = s; utf8 = u; tokens = ts; are = t; words = refl; query = q })
grammar_or text s u ts t (inr f) =
    inr (why.Grammar, place_or (words_of (chars text) ts) f.0 (length text), record { short = s; utf8 = u; tokens = ts; are = t; number = f.0; fault = f.1; place_is = refl })

tokens_or : GrammarKnown → (text : List ℕ) → length text ≤ LONGEST_QUERY → IsUtf8 text → ((ts : List Piece) × AreTokens (chars text) ts) ⊎ ((n : ℕ) × IsTokenFault (chars text) n) → Known text
tokens_or g text s u (inl t) = grammar_or text s u t.0 t.1 (g (kinds_of (words_of (chars text) t.0)))
tokens_or g text s u (inr f) =
    inr (why.Token, byte_place (chars text) f.0, record { short = s; utf8 = u; place = f.0; fault = f.1; place_is = refl })

utf8_known : TokensKnown → GrammarKnown → (text : List ℕ) → length text ≤ LONGEST_QUERY → IsUtf8 text ⊎ (IsUtf8 text → ⊥) → Known text
utf8_known t g text s (inl u) = tokens_or g text s u (t (chars text))
utf8_known t g text s (inr u) = let v = valid_up_to text u in inr (why.Utf8, v.0, (s, u, v.1))

length_known : TokensKnown → GrammarKnown → (text : List ℕ) (n : ℕ) → n ≡ LONGEST_QUERY → (length text ≡ n) ⊎ ((length text < n) ⊎ (n < length text)) → Known text
length_known t g text n e (inl l) = utf8_known t g text (omega arith) (utf8_or text)
length_known t g text n e (inr (inl l)) = utf8_known t g text (omega arith) (utf8_or text)
length_known t g text n e (inr (inr l)) = inr (why.TooLong, LONGEST_QUERY, (omega arith, refl))

pub some_query : TokensKnown → GrammarKnown → (text : List ℕ) → Known text
some_query t g text = length_known t g text LONGEST_QUERY refl (cases_order (length text) LONGEST_QUERY)
