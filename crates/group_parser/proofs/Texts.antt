-- A text is one query with groups or has one first fault, and never both.
use Rattle.std.specs.Prelude.{IfOk, OnOk}
use Rattle.std.proofs.Common.{ℕ, ◌≡◌, ◌⊎◌, inl, inr, ◌<◌, ◌≤◌, if◌then◌else◌, Result, Ok, Err, List, [], Option, Some, None, refl, sym, ap, subst, ◌∙◌, length, arith}
use Rattle.std.specs.Str.{chars, IsUtf8, IsValidUpTo}
use Rattle.std.proofs.lemmas.Str.{utf8_valid_len-IsValidUpTo}
use Rattle.bgp_core.specs.Queries.{QueryData}
use Rattle.query_tokens.specs.declared.piece.TheConstants.{LONGEST_QUERY}
use Rattle.query_tokens.specs.Pieces.{byte_place}
use Rattle.query_tokens.proofs.Pieces.{one_tokens, one_fault}
use Rattle.query_grammar.specs.declared.kind.Kind.{Kind}
use Rattle.query_grammar.specs.Groups.{IsGroupQuery, IsGroupFault}
use Rattle.query_grammar.proofs.GroupFaults.{one_place}
use Rattle.query_words.specs.declared.word.Word.{Word}
use Rattle.query_words.specs.Words.{words_of, kinds_of}
use Rattle.pattern_parser.specs.declared.fault.QueryWhy.{QueryWhy}
use Rattle.pattern_parser.specs.declared.fault.QueryWhy.TheVariants as why
use Rattle.pattern_parser.specs.Names.{variable_numbers}
use Rattle.pattern_parser.specs.Items.{names_after}
use Rattle.pattern_parser.specs.Prefixes.{is_unknown, is_relative, first_at, lang_at}
use Rattle.pattern_parser.specs.Queries.{prefixes, body, block, select_part, select_names, has_star, place_or, fault_or, term_fault, excess, ReadsTokens, ReadsQuery, IsTokenAt, FaultAt}
use Rattle.pattern_parser.proofs.OneQuery.{token_apart}
use Rattle.group_query.specs.Trees.{Tree, steps_of, tree_of, GroupData}
use Rattle.group_query.proofs.Trees.{tree_back, is_postfix}
use Rattle.group_faults.specs.declared.limits.TheConstants.{MOST_OPEN}
use Rattle.group_faults.specs.declared.fault.GroupWhy.{GroupWhy}
use Rattle.group_faults.specs.declared.fault.GroupWhy.TheVariants.{Basic, TooDeep, SharedBlank}
use Rattle.group_faults.specs.Signs.{runs_of}
use Rattle.group_faults.specs.Faults.{triples_in, deep_from, shared_from, fault_at, basic_or, block_fault, group_fault, ReadsGroupWords, IsGroupGrammarAt, IsLaterGroupFault, GroupFaultAt}
use Rattle.group_parser.specs.Groups.{IsGroup}
use Rattle.group_parser.specs.Texts.{has_distinct, IsGroupIn, IsGroupText, ReadsGroups}
use Rattle.group_parser.proofs.Walked.{group_read}
use Rattle.group_parser.proofs.Made.{IsShallow}
use Rattle.group_parser.proofs.Outline.{is_made}

abbrev pub Iri : Type 0
Iri = List ℕ → Option (List ℕ)

-- ---- where no fault stands

basic_none : (o : Option (QueryWhy × ℕ)) (later : Option (GroupWhy × ℕ)) → basic_or o later ≡ None → (o ≡ None) × (later ≡ None)
basic_none None later e = (refl, e)
basic_none (Some f) later e = absurd (cc)

at_none : (o : Option ℕ) (kind : GroupWhy) (later : Option (GroupWhy × ℕ)) → fault_at o kind later ≡ None → (o ≡ None) × (later ≡ None)
at_none None kind later e = (refl, e)
at_none (Some n) kind later e = absurd (cc)

-- no group is too deep
pub shallow : (ws : List Word) → group_fault ws ≡ None → IsShallow 0 (block (body ws))
shallow ws e =
    let b = block (body ws) in
    let iri = prefixes ws in
    let names = select_names (body ws) in
    let one = basic_none (term_fault iri ws (body ws)) (block_fault iri names b) e in
    let two = at_none (excess (triples_in iri names (runs_of b))) (Basic why.TooManyPatterns) (fault_at (deep_from 0 b) TooDeep (fault_at (shared_from (λ t. None) 0 b) SharedBlank None)) one.1 in
    (at_none (deep_from 0 b) TooDeep (fault_at (shared_from (λ t. None) 0 b) SharedBlank None) two.1).0

-- ---- one query

one_group : (iri : Iri) (select b : List Word) (g h : GroupData) → IsGroupIn iri select b g → IsGroupIn iri select b h → g ≡ h
one_group iri select b g h p q =
    let x = group_read MOST_OPEN iri (names_after [] 0 select) b (tree_of g.steps) g.names p.group in
    let y = group_read MOST_OPEN iri (names_after [] 0 select) b (tree_of h.steps) h.names q.group in
    let steps : g.steps ≡ h.steps = p.postfix ∙ sym x.0 ∙ y.0 ∙ sym q.postfix in
    let names : g.names ≡ h.names = sym x.1 ∙ y.1 in
    let selected : g.selected ≡ h.selected = p.selected ∙ ap (λ (l : List (List ℕ)). variable_numbers 0 (if has_star select then l else names_after [] 0 select)) names ∙ sym q.selected in
    let distinct = p.distinct ∙ sym q.distinct in
    λ i. record { steps = steps i; names = names i; selected = selected i; distinct = distinct i }

pub one_words : (text : List ℕ) (ws vs : List Word) → ReadsTokens text ws → ReadsTokens text vs → ws ≡ vs
one_words text ws vs a b =
    a.words ∙ ap (words_of (chars text)) (one_tokens (chars text) a.tokens b.tokens a.are b.are) ∙ sym b.words

pub one_query : (text : List ℕ) (g h : GroupData) → ReadsGroups text g → ReadsGroups text h → g ≡ h
one_query text g h a b =
    let same = one_words text a.words b.words a.reads.tokens b.reads.tokens in
    one_group (prefixes b.words) (select_part (body b.words)) (block (body b.words)) g h (subst (λ (ws : List Word). IsGroupText (prefixes ws) (body ws) g) same a.is) b.is

-- ---- a text that the grammar reads has no earlier fault

grammar_apart : (text : List ℕ) (ws : List Word) (n : ℕ) → ReadsGroupWords text ws → IsGroupGrammarAt text n → ⊥
grammar_apart text ws n r f =
    f.fault.no_query (subst (λ (l : List Word). IsGroupQuery (kinds_of l)) (one_words text ws f.words r.tokens f.tokens) r.query)

later_apart : (text : List ℕ) (g : GroupData) (w : GroupWhy) (n : ℕ) → ReadsGroups text g → IsLaterGroupFault text w n → ⊥
later_apart text g w n r f = differ (sym r.fine ∙ ap group_fault (one_words text r.words f.words r.reads.tokens f.reads.tokens) ∙ f.is)
  where
    differ : ◌≡◌ {A = Option (GroupWhy × ℕ)} None (Some (w, n)) → ⊥
    differ e = cc

pub query_apart : (text : List ℕ) (g : GroupData) (w : GroupWhy) (n : ℕ) → ReadsGroups text g → GroupFaultAt text w n → ⊥
query_apart text g (Basic why.TooLong) n r f = let s = r.reads.tokens.short in let l = f.0 in omega arith
query_apart text g (Basic why.Utf8) n r f = f.1 r.reads.tokens.utf8
query_apart text g (Basic why.Token) n r f = token_apart text r.reads.tokens.tokens n r.reads.tokens.are f
query_apart text g (Basic why.Grammar) n r f = grammar_apart text r.words n r.reads f
query_apart text g _ n r f = later_apart text g _ n r f

-- ---- one first fault

abbrev Same : GroupWhy → ℕ → GroupWhy → ℕ → Type 0
Same v m w n = (v ≡ w) × (m ≡ n)

long_first : (text : List ℕ) (m : ℕ) (w : GroupWhy) (n : ℕ) → LONGEST_QUERY < length text → m ≡ LONGEST_QUERY → GroupFaultAt text w n → Same (Basic why.TooLong) m w n
long_first text m (Basic why.TooLong) n l e f = (refl, e ∙ sym f.1)
long_first text m (Basic why.Utf8) n l e f = let s = f.0 in absurd (omega arith)
long_first text m (Basic why.Token) n l e f = let s = f.short in absurd (omega arith)
long_first text m (Basic why.Grammar) n l e f = let s = f.tokens.short in absurd (omega arith)
long_first text m _ n l e f = let s = f.reads.tokens.short in absurd (omega arith)

utf8_first : (text : List ℕ) (m : ℕ) (w : GroupWhy) (n : ℕ) → length text ≤ LONGEST_QUERY → (IsUtf8 text → ⊥) → IsValidUpTo text m → GroupFaultAt text w n → Same (Basic why.Utf8) m w n
utf8_first text m (Basic why.TooLong) n s u v f = let l = f.0 in absurd (omega arith)
utf8_first text m (Basic why.Utf8) n s u v f = (refl, sym (utf8_valid_len-IsValidUpTo text m v) ∙ utf8_valid_len-IsValidUpTo text n f.2)
utf8_first text m (Basic why.Token) n s u v f = absurd (u f.utf8)
utf8_first text m (Basic why.Grammar) n s u v f = absurd (u f.tokens.utf8)
utf8_first text m _ n s u v f = absurd (u f.reads.tokens.utf8)

token_first : (text : List ℕ) (m : ℕ) (w : GroupWhy) (n : ℕ) → IsTokenAt text m → GroupFaultAt text w n → Same (Basic why.Token) m w n
token_first text m (Basic why.TooLong) n a f = let l = f.0 in let s = a.short in absurd (omega arith)
token_first text m (Basic why.Utf8) n a f = absurd (f.1 a.utf8)
token_first text m (Basic why.Token) n a f = (refl, a.place_is ∙ ap (byte_place (chars text)) (one_fault (chars text) a.place f.place a.fault f.fault) ∙ sym f.place_is)
token_first text m (Basic why.Grammar) n a f = absurd (token_apart text f.tokens.tokens m f.tokens.are a)
token_first text m _ n a f = absurd (token_apart text f.reads.tokens.tokens m f.reads.tokens.are a)

grammar_same : (text : List ℕ) (m n : ℕ) → IsGroupGrammarAt text m → IsGroupGrammarAt text n → m ≡ n
grammar_same text m n a b =
    let same = one_words text a.words b.words a.tokens b.tokens in
    let moved : IsGroupFault (kinds_of b.words) a.number = subst (λ (l : List Word). IsGroupFault (kinds_of l) a.number) same a.fault in
    let number : a.number ≡ b.number = one_place (kinds_of b.words) a.number b.number moved b.fault in
    a.place_is ∙ ap (λ (l : List Word). place_or l a.number (length text)) same ∙ ap (λ (k : ℕ). place_or b.words k (length text)) number ∙ sym b.place_is

grammar_first : (text : List ℕ) (m : ℕ) (w : GroupWhy) (n : ℕ) → IsGroupGrammarAt text m → GroupFaultAt text w n → Same (Basic why.Grammar) m w n
grammar_first text m (Basic why.TooLong) n a f = let l = f.0 in let s = a.tokens.short in absurd (omega arith)
grammar_first text m (Basic why.Utf8) n a f = absurd (f.1 a.tokens.utf8)
grammar_first text m (Basic why.Token) n a f = absurd (token_apart text a.tokens.tokens n a.tokens.are f)
grammar_first text m (Basic why.Grammar) n a f = (refl, grammar_same text m n a f)
grammar_first text m _ n a f = absurd (grammar_apart text f.words m f.reads a)

parts : (v w : GroupWhy) (m n : ℕ) → ◌≡◌ {A = Option (GroupWhy × ℕ)} (Some (v, m)) (Some (w, n)) → Same v m w n
parts v w m n e =
    let pair : ◌≡◌ {A = GroupWhy × ℕ} (v, m) (w, n) = cc in
    (ap (λ (p : GroupWhy × ℕ). p.0) pair, ap (λ (p : GroupWhy × ℕ). p.1) pair)

later_same : (text : List ℕ) (v : GroupWhy) (m : ℕ) (w : GroupWhy) (n : ℕ) → IsLaterGroupFault text v m → IsLaterGroupFault text w n → Same v m w n
later_same text v m w n a b =
    parts v w m n (sym a.is ∙ ap group_fault (one_words text a.words b.words a.reads.tokens b.reads.tokens) ∙ b.is)

later_first : (text : List ℕ) (v : GroupWhy) (m : ℕ) (w : GroupWhy) (n : ℕ) → IsLaterGroupFault text v m → GroupFaultAt text w n → Same v m w n
later_first text v m (Basic why.TooLong) n a f = let l = f.0 in let s = a.reads.tokens.short in absurd (omega arith)
later_first text v m (Basic why.Utf8) n a f = absurd (f.1 a.reads.tokens.utf8)
later_first text v m (Basic why.Token) n a f = absurd (token_apart text a.reads.tokens.tokens n a.reads.tokens.are f)
later_first text v m (Basic why.Grammar) n a f = absurd (grammar_apart text a.words n a.reads f)
later_first text v m _ n a f = later_same text v m _ n a f

pub one_first : (text : List ℕ) (v : GroupWhy) (m : ℕ) (w : GroupWhy) (n : ℕ) → GroupFaultAt text v m → GroupFaultAt text w n → (v ≡ w) × (m ≡ n)
one_first text (Basic why.TooLong) m w n a f = long_first text m w n a.0 a.1 f
one_first text (Basic why.Utf8) m w n a f = utf8_first text m w n a.0 a.1 a.2 f
one_first text (Basic why.Token) m w n a f = token_first text m w n a f
one_first text (Basic why.Grammar) m w n a f = grammar_first text m w n a f
one_first text _ m w n a f = later_first text _ m w n a f

-- ---- one or the other

-- what a text is: one query, or a text with a first fault
abbrev pub Known : List ℕ → Type 0
Known text = ((g : GroupData) × ReadsGroups text g) ⊎ ((w : GroupWhy) × (n : ℕ) × GroupFaultAt text w n)

-- the kinds of the faults of what the tokens say
abbrev IsLate : GroupWhy → Type 0
IsLate (Basic why.TooLong) = ⊥
IsLate (Basic why.Utf8) = ⊥
IsLate (Basic why.Token) = ⊥
IsLate (Basic why.Grammar) = ⊥
IsLate _ = Unit {0}

abbrev LateFault : Option (GroupWhy × ℕ) → Type 0
LateFault None = Unit {0}
LateFault (Some f) = IsLate f.0

late_at : (o : Option ℕ) (w : GroupWhy) (later : Option (GroupWhy × ℕ)) → IsLate w → LateFault later → LateFault (fault_at o w later)
late_at None w later a b = b
late_at (Some n) w later a b = a

-- of names and terms
abbrev IsOfTerms : Option (QueryWhy × ℕ) → Type 0
IsOfTerms None = Unit {0}
IsOfTerms (Some f) = IsLate (Basic f.0)

late_or : (o : Option ℕ) (w : QueryWhy) (later : Option (QueryWhy × ℕ)) → IsLate (Basic w) → IsOfTerms later → IsOfTerms (fault_or o w later)
late_or None w later a b = b
late_or (Some n) w later a b = a

late_basic : (o : Option (QueryWhy × ℕ)) (later : Option (GroupWhy × ℕ)) → IsOfTerms o → LateFault later → LateFault (basic_or o later)
late_basic None later a b = b
late_basic (Some f) later a b = a

late : (ws : List Word) → LateFault (group_fault ws)
late ws =
    let b = block (body ws) in
    let iri = prefixes ws in
    late_basic (term_fault iri ws (body ws)) (block_fault iri (select_names (body ws)) b)
    (late_or (first_at (is_unknown iri) (body ws)) why.UnknownPrefix (fault_or (first_at is_relative ws) why.RelativeIri (fault_or (lang_at iri (body ws)) why.LangString None)) tt
    (late_or (first_at is_relative ws) why.RelativeIri (fault_or (lang_at iri (body ws)) why.LangString None) tt
    (late_or (lang_at iri (body ws)) why.LangString None tt tt)))
    (late_at (excess (triples_in iri (select_names (body ws)) (runs_of b))) (Basic why.TooManyPatterns) (fault_at (deep_from 0 b) TooDeep (fault_at (shared_from (λ t. None) 0 b) SharedBlank None)) tt
    (late_at (deep_from 0 b) TooDeep (fault_at (shared_from (λ t. None) 0 b) SharedBlank None) tt
    (late_at (shared_from (λ t. None) 0 b) SharedBlank None tt tt)))

late_is : (text : List ℕ) (w : GroupWhy) (n : ℕ) → IsLate w → IsLaterGroupFault text w n → GroupFaultAt text w n
late_is text (Basic why.TooLong) n l f = absurd l
late_is text (Basic why.Utf8) n l f = absurd l
late_is text (Basic why.Token) n l f = absurd l
late_is text (Basic why.Grammar) n l f = absurd l
late_is text _ n l f = f

pub later_fault_at : (text : List ℕ) (ws : List Word) (w : GroupWhy) (n : ℕ) → ReadsGroupWords text ws → group_fault ws ≡ Some (w, n) → GroupFaultAt text w n
later_fault_at text ws w n r e = late_is text w n (subst LateFault e (late ws)) (record { words = ws; reads = r; is = e })

-- the query of tokens without a fault
pub query_made : (iri : Iri) (select b : List Word) (t : Tree) (names : List (List ℕ)) → IsGroup iri MOST_OPEN (names_after [] 0 select) b t names → IsGroupIn iri select b (record { steps = steps_of t; names = names; selected = variable_numbers 0 (if has_star select then names else names_after [] 0 select); distinct = has_distinct select })
query_made iri select b t names m = record {
  group = subst (λ (u : Tree). IsGroup iri MOST_OPEN (names_after [] 0 select) b u names) (sym (tree_back t)) m;
  postfix = is_postfix t;
  selected = refl;
  distinct = refl;
}

read_or : (text : List ℕ) (ws : List Word) → ReadsGroupWords text ws → Known text
read_or text ws r = pick (group_fault ws) refl (late ws)
  where
    pick : (o : Option (GroupWhy × ℕ)) → group_fault ws ≡ o → LateFault o → Known text
    pick None e l =
        let m = is_made (prefixes ws) (select_names (body ws)) ws r.query (shallow ws e) in
        let select = select_part (body ws) in
        let g : GroupData = record { steps = steps_of m.0; names = m.1; selected = variable_numbers 0 (if has_star select then m.1 else names_after [] 0 select); distinct = has_distinct select } in
        inl (g, record { words = ws; reads = r; fine = e; is = query_made (prefixes ws) (select_part (body ws)) (block (body ws)) m.0 m.1 m.2 })
    pick (Some f) e l = inr (f.0, f.1, late_is text f.0 f.1 l (record { words = ws; reads = r; is = e }))

-- each list of kinds is a query with groups or has a first kind that cannot come
abbrev pub GroupsKnown : Type 0
GroupsKnown = (ks : List Kind) → IsGroupQuery ks ⊎ ((n : ℕ) × IsGroupFault ks n)

tokens_or : GroupsKnown → (text : List ℕ) (ws : List Word) → ReadsTokens text ws → Known text
tokens_or g text ws t = pick (g (kinds_of ws))
  where
    pick : IsGroupQuery (kinds_of ws) ⊎ ((n : ℕ) × IsGroupFault (kinds_of ws) n) → Known text
    pick (inl q) = read_or text ws (record { tokens = t; query = q })
    pick (inr f) = inr (Basic why.Grammar, place_or ws f.0 (length text), record { words = ws; tokens = t; number = f.0; fault = f.1; place_is = refl })

abbrev pub QueryKnown : List ℕ → Type 0
QueryKnown text = ((q : QueryData) × ReadsQuery text q) ⊎ ((w : QueryWhy) × (n : ℕ) × FaultAt text w n)

fault_or_tokens : GroupsKnown → (text : List ℕ) (w : QueryWhy) (n : ℕ) → FaultAt text w n → Known text
fault_or_tokens g text why.TooLong n f = inr (Basic why.TooLong, n, f)
fault_or_tokens g text why.Utf8 n f = inr (Basic why.Utf8, n, f)
fault_or_tokens g text why.Token n f = inr (Basic why.Token, n, f)
fault_or_tokens g text why.Grammar n f = tokens_or g text (words_of (chars text) f.tokens) (record { short = f.short; utf8 = f.utf8; tokens = f.tokens; are = f.are; words = refl })
fault_or_tokens g text _ n f =
    let r = f.reads in
    tokens_or g text f.words (record { short = r.short; utf8 = r.utf8; tokens = r.tokens; are = r.are; words = r.words })

pub some_query : GroupsKnown → (text : List ℕ) → QueryKnown text → Known text
some_query g text (inl q) =
    let r = q.1.reads in
    tokens_or g text q.1.words (record { short = r.short; utf8 = r.utf8; tokens = r.tokens; are = r.are; words = r.words })
some_query g text (inr f) = fault_or_tokens g text f.0 f.1 f.2

-- what is built of tokens without a fault is the query of the text
pub groups_read : {E : Type 0} (text : List ℕ) (ws : List Word) → ReadsGroupWords text ws → (r : Result GroupData E) → OnOk r (group_fault ws ≡ None) → IfOk r (λ g. IsGroupText (prefixes ws) (body ws) g) → IfOk r (λ g. ReadsGroups text g)
groups_read text ws t (Ok g) f q = record { words = ws; reads = t; fine = f; is = q }
groups_read text ws t (Err e) f q = q
