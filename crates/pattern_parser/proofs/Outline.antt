-- The parts of some words that the grammar reads: the PREFIX part, the SELECT part, and the braces with what stands between them.
use Rattle.std.specs.List.{list_all}
use Rattle.std.proofs.Common.{ℕ, suc, ◌≡◌, Bool, true, false, not, ◌==◌, if◌then◌else◌, List, [], ◌∷◌, ◌++◌, refl, ap, ◌∙◌, drop, append_assoc}
use Rattle.std.proofs.lemmas.Bool.{and_parts}
use Rattle.regular_expressions.specs.Regular.{Regular, many}
use Rattle.query_grammar.specs.declared.kind.Kind.{Kind}
use Rattle.query_grammar.specs.declared.kind.Kind.TheVariants as kinds
use Rattle.query_grammar.specs.Grammar.{code, codes, a, query, IsQuery}
use Rattle.regular_expressions.specs.Combinators.{◌·◌, ◌∣◌, maybe}
use Rattle.query_grammar.specs.Grammar as grammar
use Rattle.query_words.specs.declared.word.Value.{Value}
use Rattle.query_words.specs.declared.word.Value.TheVariants as values
use Rattle.query_words.specs.declared.word.Word.{Word}
use Rattle.query_words.specs.Words.{kind_of, kinds_of}
use Rattle.pattern_parser.specs.Prefixes.{before}
use Rattle.pattern_parser.specs.Queries.{is_select, is_brace, body, block}
use Rattle.pattern_parser.proofs.Splits.{Is, seq_split, one, only, only_all}

-- the expressions of the parts
abbrev pub prefix_part : Regular
prefix_part = many (a kinds.PrefixWord · a kinds.Prefix · a kinds.Iri)

abbrev pub chosen : Regular
chosen = a kinds.Star ∣ a kinds.Variable · many (a kinds.Variable)

abbrev pub where_word : Regular
where_word = maybe (a kinds.WhereWord)

abbrev pub selection : Regular
selection = prefix_part · a kinds.SelectWord · chosen · where_word

-- none of the words passes the test
abbrev pub NonePass : (Value → Bool) → List Word → Type 0
NonePass test [] = Unit {0}
NonePass test (w ∷ ws) = (test w.value ≡ false) × NonePass test ws

-- the letter is another than that of this kind
abbrev pub is_other : Kind → ℕ → Bool
is_other k j = not (j == code k)

pub select_kind : (v : Value) → is_other kinds.SelectWord (code (kind_of v)) ≡ true → is_select v ≡ false
select_kind values.SelectWord h = cc
select_kind _ h = refl

pub brace_kind : (v : Value) → is_other kinds.OpenBrace (code (kind_of v)) ≡ true → is_brace v ≡ false
brace_kind values.OpenBrace h = cc
brace_kind _ h = refl

none_pass : (test : Value → Bool) (k : Kind) → ((v : Value) → is_other k (code (kind_of v)) ≡ true → test v ≡ false) → (ws : List Word) → list_all (is_other k) (codes (kinds_of ws)) ≡ true → NonePass test ws
none_pass test k f [] h = tt
none_pass test k f (w ∷ ws) h =
    let p = and_parts (is_other k (code (kind_of w.value))) (list_all (is_other k) (codes (kinds_of ws))) h in
    (f w.value p.0, none_pass test k f ws p.1)

-- none of the words passes, where their expression has no letter of the kind
pub none_of : (test : Value → Bool) (k : Kind) → ((v : Value) → is_other k (code (kind_of v)) ≡ true → test v ≡ false) → (r : Regular) → only (is_other k) r ≡ true → (ws : List Word) → Is r ws → NonePass test ws
none_of test k f r o ws m = none_pass test k f ws (only_all (is_other k) r o (codes (kinds_of ws)) m)

pub both_none : (test : Value → Bool) (xs ys : List Word) → NonePass test xs → NonePass test ys → NonePass test (xs ++ ys)
both_none test [] ys a b = b
both_none test (x ∷ xs) ys a b = (a.0, both_none test xs ys a.1 b)

-- the words in their parts
pub record Outline (ws : List Word) : Type 0 where
  pub front : List Word
  pub select : Word
  pub names : List Word
  pub brace : Word
  pub inner : List Word
  pub close : Word
  pub front_is : Is prefix_part front
  pub select_is : kind_of select.value ≡ kinds.SelectWord
  pub front_select : NonePass is_select front
  pub names_are : NonePass is_brace names
  pub brace_is : kind_of brace.value ≡ kinds.OpenBrace
  pub inner_is : Is (maybe grammar.block) inner
  pub close_is : kind_of close.value ≡ kinds.CloseBrace
  pub whole : ws ≡ front ++ select ∷ (names ++ brace ∷ (inner ++ close ∷ []))

pub is_select-kind : (v : Value) → kind_of v ≡ kinds.SelectWord → is_select v ≡ true
is_select-kind values.SelectWord e = refl
is_select-kind _ e = cc

pub is_brace-kind : (v : Value) → kind_of v ≡ kinds.OpenBrace → is_brace v ≡ true
is_brace-kind values.OpenBrace e = refl
is_brace-kind _ e = cc

-- the words from the first that passes on
pub back : (test : Value → Bool) (xs : List Word) (w : Word) (ys : List Word) → NonePass test xs → test w.value ≡ true → drop (before test (xs ++ w ∷ ys)) (xs ++ w ∷ ys) ≡ w ∷ ys
back test [] w ys h e = ap (λ (b : Bool). drop (if b then 0 else suc (before test ys)) (w ∷ ys)) e
back test (x ∷ xs) w ys h e =
    ap (λ (b : Bool). drop (if b then 0 else suc (before test (xs ++ w ∷ ys))) (x ∷ (xs ++ w ∷ ys))) h.0 ∙ back test xs w ys h.1 e

assoc_all : (p b c e : List Word) (s o l : Word) → (((((p ++ s ∷ []) ++ b) ++ c) ++ o ∷ []) ++ e) ++ l ∷ [] ≡ p ++ s ∷ ((b ++ c) ++ o ∷ (e ++ l ∷ []))
assoc_all p b c e s o l =
    let y = ((p ++ s ∷ []) ++ b) ++ c in
    let z = o ∷ (e ++ l ∷ []) in
    append_assoc (y ++ o ∷ []) e (l ∷ []) ∙ append_assoc y (o ∷ []) (e ++ l ∷ []) ∙ ap (λ (x : List Word). x ++ z) (append_assoc (p ++ s ∷ []) b c) ∙ append_assoc (p ++ s ∷ []) (b ++ c) z ∙ append_assoc p (s ∷ []) ((b ++ c) ++ z)

-- words that the grammar reads have these parts
pub outline : (ws : List Word) → IsQuery (kinds_of ws) → Outline ws
unfolding query
outline ws q =
    let f = seq_split (selection · a kinds.OpenBrace · maybe grammar.block) (a kinds.CloseBrace) ws q in
    let close = one kinds.CloseBrace f.1 f.3 in
    let e = seq_split (selection · a kinds.OpenBrace) (maybe grammar.block) f.0 f.2 in
    let d = seq_split selection (a kinds.OpenBrace) e.0 e.2 in
    let brace = one kinds.OpenBrace d.1 d.3 in
    let c = seq_split (prefix_part · a kinds.SelectWord · chosen) where_word d.0 d.2 in
    let b = seq_split (prefix_part · a kinds.SelectWord) chosen c.0 c.2 in
    let p = seq_split prefix_part (a kinds.SelectWord) b.0 b.2 in
    let select = one kinds.SelectWord p.1 p.3 in
    record {
      front = p.0;
      select = select.0;
      names = b.1 ++ c.1;
      brace = brace.0;
      inner = e.1;
      close = close.0;
      front_is = p.2;
      select_is = select.2;
      front_select = none_of is_select kinds.SelectWord select_kind prefix_part refl p.0 p.2;
      names_are = both_none is_brace b.1 c.1 (none_of is_brace kinds.OpenBrace brace_kind chosen refl b.1 b.3) (none_of is_brace kinds.OpenBrace brace_kind where_word refl c.1 c.3);
      brace_is = brace.2;
      inner_is = e.3;
      close_is = close.2;
      whole =
          f.4 ∙ ap (λ (y : List Word). f.0 ++ y) close.1 ∙
          ap (λ (y : List Word). y ++ close.0 ∷ []) (e.4 ∙ ap (λ (y : List Word). y ++ e.1) (d.4 ∙ ap (λ (y : List Word). d.0 ++ y) brace.1 ∙ ap (λ (y : List Word). y ++ brace.0 ∷ []) (c.4 ∙ ap (λ (y : List Word). y ++ c.1) (b.4 ∙ ap (λ (y : List Word). y ++ b.1) (p.4 ∙ ap (λ (y : List Word). p.0 ++ y) select.1))))) ∙
          assoc_all p.0 b.1 c.1 e.1 select.0 brace.0 close.0;
    }

pub body_is : (ws : List Word) (l : Outline ws) → body ws ≡ l.select ∷ (l.names ++ l.brace ∷ (l.inner ++ l.close ∷ []))
body_is ws l =
    let tail = l.names ++ l.brace ∷ (l.inner ++ l.close ∷ []) in
    ap body l.whole ∙ back is_select l.front l.select tail l.front_select (is_select-kind l.select.value l.select_is)

pub select_no_brace : (v : Value) → kind_of v ≡ kinds.SelectWord → is_brace v ≡ false
select_no_brace values.OpenBrace e = cc
select_no_brace _ e = refl

-- the braces and what stands between them
pub block_is : (ws : List Word) (l : Outline ws) → block (body ws) ≡ l.brace ∷ (l.inner ++ l.close ∷ [])
block_is ws l =
    ap block (body_is ws l) ∙
    back is_brace (l.select ∷ l.names) l.brace (l.inner ++ l.close ∷ []) (select_no_brace l.select.value l.select_is, l.names_are) (is_brace-kind l.brace.value l.brace_is)
