-- Queries without a group inside the group are the same for both readers, and have the same faults.
use Rattle.std.proofs.Common.{ℕ, zero, suc, ◌≡◌, inl, inr, ◌+◌, ◌||◌, Bool, true, false, if◌then◌else◌, map, take, drop, append_assoc, List, [], ◌∷◌, ◌++◌, Option, Some, None, refl, sym, ap, subst, ◌∙◌, eq-eqb}
use Rattle.std.proofs.lemmas.List.{append-nil}
use Rattle.std.specs.Str.{bytes_eq, chars}
use Rattle.bgp_core.specs.declared.pattern.Part.{Part}
use Rattle.bgp_core.specs.declared.pattern.Part.TheVariants as parts
use Rattle.bgp_core.specs.declared.pattern.Pattern.{Pattern}
use Rattle.bgp_core.specs.Queries.{QueryData}
use Rattle.rdf_terms.specs.declared.term.Term.{Term}
use Rattle.query_grammar.specs.declared.kind.Kind.{Kind}
use Rattle.query_grammar.specs.Grammar as grammar
use Rattle.query_grammar.specs.Grammar.{code, codes, IsQuery}
use Rattle.query_grammar.specs.Groups.{IsPlainKind, ArePlain, PlainIsQuery}
use Rattle.regular_expressions.specs.Combinators.{maybe}
use Rattle.query_words.specs.declared.word.Value.{Value}
use Rattle.query_words.specs.declared.word.Value.TheVariants as values
use Rattle.query_words.specs.declared.word.Word.{Word}
use Rattle.query_words.specs.Words.{kind_of, kinds_of, words_of}
use Rattle.query_words.proofs.Values.{open_value, close_value}
use Rattle.pattern_parser.specs.declared.fault.QueryWhy.{QueryWhy}
use Rattle.pattern_parser.specs.declared.fault.QueryWhy.TheVariants as why
use Rattle.pattern_parser.specs.declared.item.Item.{Item}
use Rattle.pattern_parser.specs.Names.{name_text, with_name}
use Rattle.pattern_parser.specs.Items.{string_before, string_term, part_of, more_of, more_after, more, item_of, items_after, names_after}
use Rattle.pattern_parser.specs.Triples.{Placed, triples_after, block_triples, block_patterns}
use Rattle.pattern_parser.specs.Prefixes.{before}
use Rattle.pattern_parser.specs.Queries.{is_select, is_brace, prefixes, body, block, select_part, select_names, names_of, triples_of, query_of, excess, fault_or, first_of, term_fault, later_fault, Reads, ReadsTokens, ReadsQuery, IsGrammarAt, IsLaterAt, FaultAt}
use Rattle.pattern_parser.proofs.Shorts.{as_tokens}
use Rattle.pattern_parser.proofs.Splits.{Is, none}
use Rattle.pattern_parser.proofs.Nexts.{FirstIri, Nexts, keeps_block}
use Rattle.pattern_parser.proofs.Outline.{outline, block_is}
use Rattle.group_query.specs.Trees as trees
use Rattle.group_faults.specs.declared.limits.TheConstants.{MOST_OPEN}
use Rattle.group_faults.specs.declared.fault.GroupWhy.{GroupWhy}
use Rattle.group_faults.specs.declared.fault.GroupWhy.TheVariants.{Basic, TooDeep, SharedBlank}
use Rattle.group_faults.specs.Signs.{sign_of, is_other, runs_after, runs_of}
use Rattle.group_faults.specs.Faults.{triples_in, depth_after, place_unless, deep_from, label_text, block_after, with_label, at_label, by_label, shared_from, fault_at, basic_or, group_fault, ReadsGroupWords, IsGroupGrammarAt, IsLaterGroupFault, GroupFaultAt}
use Rattle.group_parser.specs.Groups.{Triples, IsGroup}
use Rattle.group_parser.specs.Texts.{is_distinct, has_distinct, IsGroupIn, ReadsGroups, IsPlainText, one_block, as_groups}
use Rattle.group_parser.proofs.Walked.{AllOther, block_other, block_some, block_is_read}
use Rattle.group_parser.proofs.Made.{block_made, skip_others}
use Rattle.group_parser.proofs.Texts.{one_words, query_made}

abbrev pub Iri : Type 0
Iri = List ℕ → Option (List ℕ)

-- ---- a closing brace behind a block says nothing

string_closed : (iri : Iri) (s : List ℕ) (v : Value) (ws : List Word) (c : Word) → (code (kind_of v) ≡ 22 → FirstIri (codes (kinds_of ws))) → string_before iri s v (ws ++ c ∷ []) ≡ string_before iri s v ws
string_closed iri s values.Carets [] c n = absurd (n refl)
string_closed iri s values.Carets (d ∷ ws) c n = refl
string_closed iri s _ ws c n = refl

strings_closed : (iri : Iri) (s : List ℕ) (ws : List Word) (c : Word) → c.value ≡ values.CloseBrace → Nexts (codes (kinds_of ws)) → string_term iri s (ws ++ c ∷ []) ≡ string_term iri s ws
strings_closed iri s [] c e n = ap (λ (v : Value). string_before iri s v []) e
strings_closed iri s (w ∷ ws) c e n = string_closed iri s w.value ws c n.0

part_closed : (iri : Iri) (names : List (List ℕ)) (v : Value) (ws : List Word) (c : Word) → c.value ≡ values.CloseBrace → Nexts (codes (kinds_of ws)) → part_of iri names v (ws ++ c ∷ []) ≡ part_of iri names v ws
part_closed iri names (values.Str s) ws c e n = ap (λ (t : Term). let o : Option Part = Some (parts.Fixed t) in o) (strings_closed iri s ws c e n)
part_closed iri names _ ws c e n = refl

after_closed : (ws : List Word) (c : Word) → c.value ≡ values.CloseBrace → more_after (ws ++ c ∷ []) ≡ more_after ws
after_closed [] c e = ap more_of e
after_closed (w ∷ ws) c e = refl

more_closed : (v : Value) (ws : List Word) (c : Word) → c.value ≡ values.CloseBrace → more v (ws ++ c ∷ []) ≡ more v ws
more_closed (values.Str s) ws c e = after_closed ws c e
more_closed _ ws c e = refl

items_closed : (iri : Iri) (names : List (List ℕ)) (skip : ℕ) (ws : List Word) (c : Word) → c.value ≡ values.CloseBrace → Nexts (codes (kinds_of ws)) → items_after iri names skip (ws ++ c ∷ []) ≡ items_after iri names skip ws
items_closed iri names zero [] c e n = ap (λ (v : Value). item_of (part_of iri names v []) c.at v ++ []) e
items_closed iri names (suc k) [] c e n = refl
items_closed iri names (suc k) (w ∷ ws) c e n = items_closed iri names k ws c e n.1
items_closed iri names zero (w ∷ ws) c e n =
    let new = with_name names (name_text w.value) in
    let tail = ws ++ c ∷ [] in
    ap (λ (p : Option Part). item_of p w.at w.value ++ items_after iri new (more w.value tail) tail) (part_closed iri names w.value ws c e n.1) ∙
    ap (λ (k : ℕ). item_of (part_of iri names w.value ws) w.at w.value ++ items_after iri new k tail) (more_closed w.value ws c e) ∙
    ap (λ (l : List Item). item_of (part_of iri names w.value ws) w.at w.value ++ l) (items_closed iri new (more w.value ws) ws c e n.1)

names_closed : (names : List (List ℕ)) (skip : ℕ) (ws : List Word) (c : Word) → c.value ≡ values.CloseBrace → names_after names skip (ws ++ c ∷ []) ≡ names_after names skip ws
names_closed names zero [] c e = ap (λ (v : Value). with_name names (name_text v)) e
names_closed names (suc k) [] c e = refl
names_closed names (suc k) (w ∷ ws) c e = names_closed names k ws c e
names_closed names zero (w ∷ ws) c e =
    let new = with_name names (name_text w.value) in
    ap (λ (k : ℕ). names_after new k (ws ++ c ∷ [])) (more_closed w.value ws c e) ∙ names_closed new (more w.value ws) ws c e

-- ---- the braces of a query and what stands between them

-- the words from the brace on
pub record Braces (b : List Word) : Type 0 where
  pub brace : Word
  pub inner : List Word
  pub close : Word
  pub opens : brace.value ≡ values.OpenBrace
  pub closes : close.value ≡ values.CloseBrace
  pub inner_is : Is (maybe grammar.block) inner
  pub words : b ≡ brace ∷ (inner ++ close ∷ [])

pub braces : (ws : List Word) → IsQuery (kinds_of ws) → Braces (block (body ws))
braces ws q =
    let l = outline ws q in
    record { brace = l.brace; inner = l.inner; close = l.close; opens = open_value l.brace.value l.brace_is; closes = close_value l.close.value l.close_is; inner_is = l.inner_is; words = block_is ws l }

braced_items : (iri : Iri) (names : List (List ℕ)) (b : List Word) (k : Braces b) → items_after iri names 0 b ≡ items_after iri names 0 k.inner
braced_items iri names b k =
    let tail = k.inner ++ k.close ∷ [] in
    ap (items_after iri names 0) k.words ∙
    ap (λ (v : Value). item_of (part_of iri names v tail) k.brace.at v ++ items_after iri (with_name names (name_text v)) (more v tail) tail) k.opens ∙
    items_closed iri names 0 k.inner k.close k.closes (keeps_block (codes (kinds_of k.inner)) k.inner_is)

braced_names : (names : List (List ℕ)) (b : List Word) (k : Braces b) → names_after names 0 b ≡ names_after names 0 k.inner
braced_names names b k =
    let tail = k.inner ++ k.close ∷ [] in
    ap (names_after names 0) k.words ∙ ap (λ (v : Value). names_after (with_name names (name_text v)) (more v tail) tail) k.opens ∙ names_closed names 0 k.inner k.close k.closes

inner_other : (ws : List Word) → Is (maybe grammar.block) ws → AllOther ws
inner_other ws (inl m) = block_other ws m
inner_other ws (inr m) = subst AllOther (sym (none ws m)) tt

others_run : (run us ts : List Word) → AllOther us → runs_after run (us ++ ts) ≡ runs_after (run ++ us) ts
others_run run [] ts h = ap (λ (r : List Word). runs_after r ts) (sym (append-nil run))
others_run run (u ∷ us) ts h =
    ap (λ (b : Bool). if b then runs_after (run ++ u ∷ []) (us ++ ts) else run ∷ runs_after [] (us ++ ts)) h.0 ∙ others_run (run ++ u ∷ []) us ts h.1 ∙ ap (λ (r : List Word). runs_after r ts) (append_assoc run (u ∷ []) us)

braced_runs : (b : List Word) (k : Braces b) → runs_of b ≡ [] ∷ k.inner ∷ [] ∷ []
braced_runs b k =
    let tail = k.inner ++ k.close ∷ [] in
    ap runs_of k.words ∙
    ap (λ (v : Value). if is_other (sign_of v) then runs_after (k.brace ∷ []) tail else [] ∷ runs_after [] tail) k.opens ∙
    ap (λ (l : List (List Word)). [] ∷ l) (others_run [] k.inner (k.close ∷ []) (inner_other k.inner k.inner_is) ∙ ap (λ (v : Value). if is_other (sign_of v) then runs_after (k.inner ++ k.close ∷ []) [] else k.inner ∷ runs_after [] []) k.closes)

braced_triples : (iri : Iri) (names : List (List ℕ)) (b : List Word) → Braces b → triples_in iri names (runs_of b) ≡ block_triples iri names b
braced_triples iri names b k =
    ap (triples_in iri names) (braced_runs b k) ∙ append-nil (block_triples iri names k.inner) ∙ ap (triples_after None None) (sym (braced_items iri names b k))

braced_deep : (b : List Word) → Braces b → deep_from 0 b ≡ None
braced_deep b k =
    let tail = k.inner ++ k.close ∷ [] in
    ap (deep_from 0) k.words ∙ ap (λ (v : Value). place_unless k.brace.at (depth_after 0 v) (λ n. deep_from n tail)) k.opens ∙ skip_others 1 k.inner (k.close ∷ []) (inner_other k.inner k.inner_is) ∙
    ap (λ (v : Value). place_unless k.close.at (depth_after 1 v) (λ n. deep_from n [])) k.closes

-- all labels so far stand in this block
abbrev InBlock : (List ℕ → Option ℕ) → ℕ → Type 0
InBlock first n = (t : List ℕ) (b : ℕ) → first t ≡ Some b → b ≡ n

one_more : (first : List ℕ → Option ℕ) (n : ℕ) (t : List ℕ) → InBlock first n → InBlock (with_label first t n) n
one_more first n t f q b e = pick (bytes_eq q t) e
  where
    pick : (c : Bool) → (if c then Some n else first q) ≡ Some b → b ≡ n
    pick true e = cc
    pick false e = f q b e

label_here : (first : List ℕ → Option ℕ) (n : ℕ) (t : List ℕ) (at : ℕ) (o new again : Option ℕ) → o ≡ first t → InBlock first n → new ≡ None → again ≡ None → at_label o n at new again ≡ None
label_here first n t at None new again e f g h = g
label_here first n t at (Some b) new again e f g h = ap (λ (c : Bool). if c then again else Some at) (eq-eqb b n (f t b (sym e))) ∙ h

shared_one : (first : List ℕ → Option ℕ) (n : ℕ) (u : Word) (ts : List Word) (o : Option (List ℕ)) → block_after n u.value ≡ n → InBlock first n → ((g : List ℕ → Option ℕ) → InBlock g n → shared_from g n ts ≡ None) → by_label o (λ t. at_label (first t) n u.at (shared_from (with_label first t n) n ts) (shared_from first n ts)) (shared_from first (block_after n u.value) ts) ≡ None
shared_one first n u ts None s f k = ap (λ (m : ℕ). shared_from first m ts) s ∙ k first f
shared_one first n u ts (Some t) s f k =
    label_here first n t u.at (first t) (shared_from (with_label first t n) n ts) (shared_from first n ts) refl f (k (with_label first t n) (one_more first n t f)) (k first f)

shared_others : (us : List Word) (c : Word) → c.value ≡ values.CloseBrace → AllOther us → (first : List ℕ → Option ℕ) (n : ℕ) → InBlock first n → shared_from first n (us ++ c ∷ []) ≡ None
shared_others [] c e h first n f = ap (λ (v : Value). by_label (label_text v) (λ t. at_label (first t) n c.at None None) (shared_from first (block_after n v) [])) e
shared_others (u ∷ us) c e h first n f =
    shared_one first n u (us ++ c ∷ []) (label_text u.value) (ap (λ (b : Bool). if b then n else n + 1) h.0) f (λ g k. shared_others us c e h.1 g n k)

braced_shared : (b : List Word) → Braces b → shared_from (λ t. None) 0 b ≡ None
braced_shared b k =
    let tail = k.inner ++ k.close ∷ [] in
    ap (shared_from (λ t. None) 0) k.words ∙ ap (λ (v : Value). by_label (label_text v) (λ t. shared_from (with_label (λ t. None) t 0) 0 tail) (shared_from (λ t. None) (block_after 0 v) tail)) k.opens ∙
    shared_others k.inner k.close k.closes (inner_other k.inner k.inner_is) (λ t. None) 1 (λ t b e. absurd (cc))

-- ---- the faults

-- a fault of a query as that of a query with groups
abbrev pub as_basic : Option (QueryWhy × ℕ) → Option (GroupWhy × ℕ)
as_basic None = None
as_basic (Some f) = Some (Basic f.0, f.1)

faults_same : (t : Option (QueryWhy × ℕ)) (x : Option ℕ) → basic_or t (fault_at x (Basic why.TooManyPatterns) None) ≡ as_basic (first_of t (fault_or x why.TooManyPatterns None))
faults_same None None = refl
faults_same None (Some at) = refl
faults_same (Some f) x = refl

pub plain_fault : (ws : List Word) → IsQuery (kinds_of ws) → group_fault ws ≡ as_basic (later_fault ws)
plain_fault ws q =
    let k = braces ws q in
    let b = block (body ws) in
    let iri = prefixes ws in
    let names = select_names (body ws) in
    let t = term_fault iri ws (body ws) in
    let x = excess (triples_in iri names (runs_of b)) in
    ap (λ (o : Option ℕ). basic_or t (fault_at x (Basic why.TooManyPatterns) (fault_at o TooDeep (fault_at (shared_from (λ t. None) 0 b) SharedBlank None)))) (braced_deep b k) ∙
    ap (λ (o : Option ℕ). basic_or t (fault_at x (Basic why.TooManyPatterns) (fault_at o SharedBlank None))) (braced_shared b k) ∙
    ap (λ (l : List Placed). basic_or t (fault_at (excess l) (Basic why.TooManyPatterns) None)) (braced_triples iri names b k) ∙
    faults_same t (excess (triples_of iri (body ws)))

-- ---- the query

-- the words from the brace on are the one block, or nothing
block_group : (iri : Iri) (names : List (List ℕ)) (b : List Word) (k : Braces b) → IsGroup iri MOST_OPEN names b (one_block (block_patterns iri names b)) (names_after names 0 b)
block_group iri names b k = pick k.inner_is
  where
    same : block_patterns iri names b ≡ block_patterns iri names k.inner
    same = ap (λ (is : List Item). map (λ p. p.pattern) (triples_after None None is)) (braced_items iri names b k)

    made : IsGroup iri MOST_OPEN names b (one_block (block_patterns iri names k.inner)) (names_after names 0 k.inner) → IsGroup iri MOST_OPEN names b (one_block (block_patterns iri names b)) (names_after names 0 b)
    made g = subst (λ (l : List Pattern). IsGroup iri MOST_OPEN names b (one_block l) (names_after names 0 b)) (sym same) (subst (λ (l : List (List ℕ)). IsGroup iri MOST_OPEN names b (one_block (block_patterns iri names k.inner)) l) (sym (braced_names names b k)) g)

    pick : Is (maybe grammar.block) k.inner → IsGroup iri MOST_OPEN names b (one_block (block_patterns iri names b)) (names_after names 0 b)
    pick (inl m) =
        let r = block_made iri names k.inner m in
        let s = block_some (items_after iri names 0 k.inner) r.1.triples r.1.produced in
        let some : r.0 ≡ s.0.pattern ∷ map (λ p. p.pattern) s.1 = r.1.patterns ∙ ap (map (λ (p : Placed). p.pattern)) s.2 in
        let tree : one_block (block_patterns iri names k.inner) ≡ trees.block r.0 = ap one_block (block_is_read iri names k.inner r.0 (names_after names 0 k.inner) r.1 ∙ some) ∙ ap trees.block (sym some) in
        made (record {
          open_brace = k.brace;
          close_brace = k.close;
          inner = k.inner;
          elements = Triples r.0 ∷ [];
          words = k.words;
          opens = k.opens;
          closes = k.closes;
          are_elements = (k.inner, [], names_after names 0 k.inner, sym (append-nil k.inner), r.1, (refl, refl));
          apart = tt;
          is = tree;
        })
    pick (inr m) =
        let e : k.inner ≡ [] = none k.inner m in
        made (record {
          open_brace = k.brace;
          close_brace = k.close;
          inner = k.inner;
          elements = [];
          words = k.words;
          opens = k.opens;
          closes = k.closes;
          are_elements = (e, ap (names_after names 0) e);
          apart = tt;
          is = ap (λ (l : List Word). one_block (block_patterns iri names l)) e;
        })

-- the SELECT part has no DISTINCT
abbrev PlainWords : List Word → Type 0
PlainWords [] = Unit {0}
PlainWords (w ∷ ws) = (is_distinct w.value ≡ false) × PlainWords ws

plain_at_none : (v : Value) → IsPlainKind (kind_of v) → is_distinct v ≡ false
plain_at_none values.DistinctWord h = absurd h
plain_at_none _ h = refl

plain_head : (v : Value) (n : ℕ) (ks : List Kind) → ArePlain (suc n) (kind_of v ∷ ks) → (is_distinct v ≡ false) × ((m : ℕ) × ArePlain m ks)
plain_head values.OpenBrace n ks h = (refl, (n, h))
plain_head values.DistinctWord n ks h = absurd h.0
plain_head _ n ks h = (refl, (suc n, h.1))

words_plain : (ws : List Word) (most : ℕ) → ArePlain most (kinds_of ws) → PlainWords ws
words_plain [] most h = tt
words_plain (w ∷ ws) zero h = (plain_at_none w.value h.0, words_plain ws zero h.2)
words_plain (w ∷ ws) (suc n) h = let p = plain_head w.value n (kinds_of ws) h in (p.0, words_plain ws p.1.0 p.1.1)

plain_back : (n : ℕ) (ws : List Word) → PlainWords ws → PlainWords (drop n ws)
plain_back zero ws h = h
plain_back (suc n) [] h = tt
plain_back (suc n) (w ∷ ws) h = plain_back n ws h.1

plain_front : (n : ℕ) (ws : List Word) → PlainWords ws → PlainWords (take n ws)
plain_front zero ws h = tt
plain_front (suc n) [] h = tt
plain_front (suc n) (w ∷ ws) h = (h.0, plain_front n ws h.1)

none_distinct : (ws : List Word) → PlainWords ws → has_distinct ws ≡ false
none_distinct [] h = refl
none_distinct (w ∷ ws) h = ap (λ (b : Bool). b || has_distinct ws) h.0 ∙ none_distinct ws h.1

no_distinct : (ws : List Word) → ArePlain 1 (kinds_of ws) → has_distinct (select_part (body ws)) ≡ false
no_distinct ws p =
    none_distinct (select_part (body ws)) (plain_front (before is_brace (body ws)) (body ws) (plain_back (before is_select ws) ws (words_plain ws 1 p)))

plain_group : (ws : List Word) → ArePlain 1 (kinds_of ws) → IsQuery (kinds_of ws) → IsGroupIn (prefixes ws) (select_part (body ws)) (block (body ws)) (as_groups (query_of (prefixes ws) (body ws)))
plain_group ws p q =
    let bs = body ws in
    let iri = prefixes ws in
    let t = one_block (map (λ p. p.pattern) (triples_of iri bs)) in
    let made = query_made iri (select_part bs) (block bs) t (names_of bs) (block_group iri (select_names bs) (block bs) (braces ws q)) in
    record { group = made.group; postfix = made.postfix; selected = refl; distinct = sym (no_distinct ws p) }

-- ---- the law

pub plain_words : (text : List ℕ) (ws : List Word) → IsPlainText text → ReadsTokens text ws → ArePlain 1 (kinds_of ws)
plain_words text ws p t = subst (λ (l : List Word). ArePlain 1 (kinds_of l)) (one_words text p.words ws p.tokens t) p.plain

-- what the grammar of queries reads that of groups reads as well
group_words : PlainIsQuery → (text : List ℕ) (ws : List Word) → IsPlainText text → Reads text ws → ReadsGroupWords text ws
group_words law text ws p r =
    let t = as_tokens text ws r in
    record { tokens = t; query = law.query (kinds_of ws) (plain_words text ws p t) r.query }

pub plain_query : PlainIsQuery → (text : List ℕ) (q : QueryData) → IsPlainText text → ReadsQuery text q → ReadsGroups text (as_groups q)
plain_query law text q p r =
    let ws = r.words in
    let there : IsGroupIn (prefixes ws) (select_part (body ws)) (block (body ws)) (as_groups q) = subst (λ (d : QueryData). IsGroupIn (prefixes ws) (select_part (body ws)) (block (body ws)) (as_groups d)) (sym r.is) (plain_group ws (plain_words text ws p (as_tokens text ws r.reads)) r.reads.query) in
    record { words = ws; reads = group_words law text ws p r.reads; fine = plain_fault ws r.reads.query ∙ ap as_basic r.fine; is = there }

later_plain : PlainIsQuery → (text : List ℕ) (w : QueryWhy) (at : ℕ) → IsPlainText text → IsLaterAt text w at → IsLaterGroupFault text (Basic w) at
later_plain law text w at p f =
    record { words = f.words; reads = group_words law text f.words p f.reads; is = plain_fault f.words f.reads.query ∙ ap as_basic f.is }

grammar_plain : PlainIsQuery → (text : List ℕ) (at : ℕ) → IsPlainText text → IsGrammarAt text at → IsGroupGrammarAt text at
grammar_plain law text at p f =
    let ws = words_of (chars text) f.tokens in
    let t : ReadsTokens text ws = record { short = f.short; utf8 = f.utf8; tokens = f.tokens; are = f.are; words = refl } in
    record { words = ws; tokens = t; number = f.number; fault = law.fault (kinds_of ws) f.number (plain_words text ws p t) f.fault; place_is = f.place_is }

pub plain_fault_at : PlainIsQuery → (text : List ℕ) (w : QueryWhy) (at : ℕ) → IsPlainText text → FaultAt text w at → GroupFaultAt text (Basic w) at
plain_fault_at law text why.TooLong at p f = f
plain_fault_at law text why.Utf8 at p f = f
plain_fault_at law text why.Token at p f = f
plain_fault_at law text why.Grammar at p f = grammar_plain law text at p f
plain_fault_at law text _ at p f = later_plain law text _ at p f
