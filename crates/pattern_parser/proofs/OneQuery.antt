-- A text is one query or has one first fault, and never both.
use Rattle.std.proofs.Common.{ℕ, ◌≡◌, ◌<◌, ◌≤◌, List, Option, Some, None, refl, sym, ap, subst, ◌∙◌, length, arith}
use Rattle.std.specs.Str.{chars, IsUtf8, IsValidUpTo}
use Rattle.std.proofs.lemmas.Str.{utf8_valid_len-IsValidUpTo}
use Rattle.bgp_core.specs.Queries.{QueryData}
use Rattle.query_tokens.specs.declared.piece.Piece.{Piece}
use Rattle.query_tokens.specs.declared.piece.TheConstants.{LONGEST_QUERY}
use Rattle.query_tokens.specs.Pieces.{AreTokens, byte_place}
use Rattle.query_tokens.proofs.Pieces.{one_tokens, one_fault, apart}
use Rattle.query_grammar.specs.Grammar.{IsQuery, IsGrammarFault}
use Rattle.query_grammar.proofs.Faults.{one_place}
use Rattle.query_words.specs.declared.word.Word.{Word}
use Rattle.query_words.specs.Words.{words_of, kinds_of}
use Rattle.pattern_parser.specs.declared.fault.QueryWhy.{QueryWhy}
use Rattle.pattern_parser.specs.declared.fault.QueryWhy.TheVariants as why
use Rattle.pattern_parser.specs.Queries.{prefixes, body, query_of, place_or, later_fault, Reads, ReadsQuery, IsTokenAt, IsGrammarAt, IsLaterAt, FaultAt}

one_words : (text : List ℕ) (ws vs : List Word) → Reads text ws → Reads text vs → ws ≡ vs
one_words text ws vs a b =
    a.words ∙ ap (words_of (chars text)) (one_tokens (chars text) a.tokens b.tokens a.are b.are) ∙ sym b.words

pub one_query : (text : List ℕ) (q r : QueryData) → ReadsQuery text q → ReadsQuery text r → q ≡ r
one_query text q r a b =
    a.is ∙ ap (λ (ws : List Word). query_of (prefixes ws) (body ws)) (one_words text a.words b.words a.reads b.reads) ∙ sym b.is

-- ---- a text that the grammar reads has no earlier fault

pub token_apart : (text : List ℕ) (ts : List Piece) (n : ℕ) → AreTokens (chars text) ts → IsTokenAt text n → ⊥
token_apart text ts n t f = apart (chars text) ts f.place t f.fault

grammar_apart : (text : List ℕ) (ws : List Word) (n : ℕ) → Reads text ws → IsGrammarAt text n → ⊥
grammar_apart text ws n r f =
    let same : words_of (chars text) f.tokens ≡ ws = ap (words_of (chars text)) (one_tokens (chars text) f.tokens r.tokens f.are r.are) ∙ sym r.words in
    f.fault.no_query (subst (λ (l : List Word). IsQuery (kinds_of l)) (sym same) r.query)

differ : (f : QueryWhy × ℕ) → None ≡ Some f → ⊥
differ f e = cc

later_apart : (text : List ℕ) (q : QueryData) (w : QueryWhy) (n : ℕ) → ReadsQuery text q → IsLaterAt text w n → ⊥
later_apart text q w n r f =
    differ (w, n) (sym r.fine ∙ ap later_fault (one_words text r.words f.words r.reads f.reads) ∙ f.is)

pub query_apart : (text : List ℕ) (q : QueryData) (w : QueryWhy) (n : ℕ) → ReadsQuery text q → FaultAt text w n → ⊥
query_apart text q why.TooLong n r f = let s = r.reads.short in let l = f.0 in omega arith
query_apart text q why.Utf8 n r f = f.1 r.reads.utf8
query_apart text q why.Token n r f = token_apart text r.reads.tokens n r.reads.are f
query_apart text q why.Grammar n r f = grammar_apart text r.words n r.reads f
query_apart text q _ n r f = later_apart text q _ n r f

-- ---- one first fault

abbrev Same : QueryWhy → ℕ → QueryWhy → ℕ → Type 0
Same v m w n = (v ≡ w) × (m ≡ n)

long_first : (text : List ℕ) (m : ℕ) (w : QueryWhy) (n : ℕ) → LONGEST_QUERY < length text → m ≡ LONGEST_QUERY → FaultAt text w n → Same why.TooLong m w n
long_first text m why.TooLong n l e f = (refl, e ∙ sym f.1)
long_first text m why.Utf8 n l e f = let s = f.0 in absurd (omega arith)
long_first text m why.Token n l e f = let s = f.short in absurd (omega arith)
long_first text m why.Grammar n l e f = let s = f.short in absurd (omega arith)
long_first text m _ n l e f = let s = f.reads.short in absurd (omega arith)

utf8_first : (text : List ℕ) (m : ℕ) (w : QueryWhy) (n : ℕ) → length text ≤ LONGEST_QUERY → (IsUtf8 text → ⊥) → IsValidUpTo text m → FaultAt text w n → Same why.Utf8 m w n
utf8_first text m why.TooLong n s u v f = let l = f.0 in absurd (omega arith)
utf8_first text m why.Utf8 n s u v f = (refl, sym (utf8_valid_len-IsValidUpTo text m v) ∙ utf8_valid_len-IsValidUpTo text n f.2)
utf8_first text m why.Token n s u v f = absurd (u f.utf8)
utf8_first text m why.Grammar n s u v f = absurd (u f.utf8)
utf8_first text m _ n s u v f = absurd (u f.reads.utf8)

token_first : (text : List ℕ) (m : ℕ) (w : QueryWhy) (n : ℕ) → IsTokenAt text m → FaultAt text w n → Same why.Token m w n
token_first text m why.TooLong n a f = let l = f.0 in let s = a.short in absurd (omega arith)
token_first text m why.Utf8 n a f = absurd (f.1 a.utf8)
token_first text m why.Token n a f = (refl, a.place_is ∙ ap (byte_place (chars text)) (one_fault (chars text) a.place f.place a.fault f.fault) ∙ sym f.place_is)
token_first text m why.Grammar n a f = absurd (token_apart text f.tokens m f.are a)
token_first text m _ n a f = absurd (token_apart text f.reads.tokens m f.reads.are a)

grammar_same : (text : List ℕ) (m n : ℕ) → IsGrammarAt text m → IsGrammarAt text n → m ≡ n
grammar_same text m n a b =
    let same : words_of (chars text) a.tokens ≡ words_of (chars text) b.tokens = ap (words_of (chars text)) (one_tokens (chars text) a.tokens b.tokens a.are b.are) in
    let moved : IsGrammarFault (kinds_of (words_of (chars text) b.tokens)) a.number = subst (λ (l : List Word). IsGrammarFault (kinds_of l) a.number) same a.fault in
    let number : a.number ≡ b.number = one_place (kinds_of (words_of (chars text) b.tokens)) a.number b.number moved b.fault in
    a.place_is ∙ ap (λ (l : List Word). place_or l a.number (length text)) same ∙ ap (λ (k : ℕ). place_or (words_of (chars text) b.tokens) k (length text)) number ∙ sym b.place_is

grammar_first : (text : List ℕ) (m : ℕ) (w : QueryWhy) (n : ℕ) → IsGrammarAt text m → FaultAt text w n → Same why.Grammar m w n
grammar_first text m why.TooLong n a f = let l = f.0 in let s = a.short in absurd (omega arith)
grammar_first text m why.Utf8 n a f = absurd (f.1 a.utf8)
grammar_first text m why.Token n a f = absurd (token_apart text a.tokens n a.are f)
grammar_first text m why.Grammar n a f = (refl, grammar_same text m n a f)
grammar_first text m _ n a f = absurd (grammar_apart text f.words m f.reads a)

parts : (v w : QueryWhy) (m n : ℕ) → ◌≡◌ {A = Option (QueryWhy × ℕ)} (Some (v, m)) (Some (w, n)) → Same v m w n
parts v w m n e =
    let pair : ◌≡◌ {A = QueryWhy × ℕ} (v, m) (w, n) = cc in
    (ap (λ (p : QueryWhy × ℕ). p.0) pair, ap (λ (p : QueryWhy × ℕ). p.1) pair)

later_same : (text : List ℕ) (v : QueryWhy) (m : ℕ) (w : QueryWhy) (n : ℕ) → IsLaterAt text v m → IsLaterAt text w n → Same v m w n
later_same text v m w n a b =
    parts v w m n (sym a.is ∙ ap later_fault (one_words text a.words b.words a.reads b.reads) ∙ b.is)

later_first : (text : List ℕ) (v : QueryWhy) (m : ℕ) (w : QueryWhy) (n : ℕ) → IsLaterAt text v m → FaultAt text w n → Same v m w n
later_first text v m why.TooLong n a f = let l = f.0 in let s = a.reads.short in absurd (omega arith)
later_first text v m why.Utf8 n a f = absurd (f.1 a.reads.utf8)
later_first text v m why.Token n a f = absurd (token_apart text a.reads.tokens n a.reads.are f)
later_first text v m why.Grammar n a f = absurd (grammar_apart text a.words n a.reads f)
later_first text v m _ n a f = later_same text v m _ n a f

pub one_first : (text : List ℕ) (v : QueryWhy) (m : ℕ) (w : QueryWhy) (n : ℕ) → FaultAt text v m → FaultAt text w n → (v ≡ w) × (m ≡ n)
one_first text why.TooLong m w n a f = long_first text m w n a.0 a.1 f
one_first text why.Utf8 m w n a f = utf8_first text m w n a.0 a.1 a.2 f
one_first text why.Token m w n a f = token_first text m w n a f
one_first text why.Grammar m w n a f = grammar_first text m w n a f
one_first text _ m w n a f = later_first text _ m w n a f
