-- The walk over the tokens of a group writes the steps of the tree that its productions give.
use Rattle.std.proofs.Common.{ℕ, zero, suc, ◌≡◌, Bool, true, false, if◌then◌else◌, map, List, [], ◌∷◌, ◌++◌, Option, None, refl, sym, ap, subst, ◌∙◌, append_assoc, inr}
use Rattle.std.proofs.lemmas.List.{append-nil}
use Rattle.bgp_core.specs.declared.pattern.Part.{Part}
use Rattle.bgp_core.specs.declared.pattern.Pattern.{Pattern}
use Rattle.query_words.specs.declared.word.Value.{Value}
use Rattle.query_words.specs.declared.word.Value.TheVariants as values
use Rattle.query_words.specs.declared.word.Word.{Word}
use Rattle.query_words.specs.Words.{kind_of, kinds_of}
use Rattle.query_grammar.specs.declared.kind.Kind.TheVariants as kinds
use Rattle.query_grammar.specs.Grammar as grammar
use Rattle.query_grammar.specs.Grammar.{code, codes}
use Rattle.regular_expressions.specs.Regular.{is_among}
use Rattle.std.specs.List.{list_all}
use Rattle.std.specs.Prelude.{not}
use Rattle.std.proofs.lemmas.Bool.{and_parts}
use Rattle.pattern_parser.specs.declared.item.Item.{Item}
use Rattle.pattern_parser.specs.declared.item.Item.TheVariants as items
use Rattle.pattern_parser.specs.Names.{name_text, with_name}
use Rattle.pattern_parser.specs.Items.{items_after, names_after, more}
use Rattle.pattern_parser.specs.Triples.{Placed, placed, triples_after, block_triples, block_patterns}
use Rattle.pattern_parser.specs.Productions as productions
use Rattle.pattern_parser.proofs.Splits.{Is, only_all}
use Rattle.pattern_parser.proofs.Blocks.{mark_read}
use Rattle.pattern_parser.proofs.Produced.{body_read}
use Rattle.group_query.specs.declared.step.Step.{Step}
use Rattle.group_query.specs.Trees.{Tree, block, empty, optional, union, steps_of}
use Rattle.group_faults.specs.declared.sign.Sign.{Sign}
use Rattle.group_faults.specs.declared.sign.Sign.TheVariants as signs
use Rattle.group_faults.specs.Signs.{sign_of, is_other}
use Rattle.group_parser.specs.declared.walk.Opener.{Opener}
use Rattle.group_parser.specs.declared.walk.Opener.TheVariants as openers
use Rattle.group_parser.specs.declared.walk.Frame.{Frame}
use Rattle.group_parser.specs.Groups.{Element, Triples, Groups, Optional, joined, united, translated, AreApart, Reading, IsBlock, IsMaybeDot, AreUnions, AreElements, IsBraced, IsGroup}
use Rattle.group_parser.specs.Walks.{Walking, Walked, begun, settled, ready, ready_by, opened, closed_in, with_sign, with_block, with_patterns, with_run, walked, whole_walk, finished, steps_read, names_read}
use Rattle.group_parser.proofs.States.{is_empty, in_group, in_part, behind, settled_part, settled_block, union_behind, optional_behind, entered_is, finished_is}

abbrev pub Iri : Type 0
Iri = List ℕ → Option (List ℕ)

-- ---- tokens between signs

-- none of the words is a sign
abbrev pub AllOther : List Word → Type 0
AllOther [] = Unit {0}
AllOther (w ∷ ws) = (is_other (sign_of w.value) ≡ true) × AllOther ws

-- a sign comes first
abbrev pub BeginsSign : List Word → Type 0
BeginsSign ws = (s : Word) × (ts : List Word) × (ws ≡ s ∷ ts) × (is_other (sign_of s.value) ≡ false)

pub take_others : (iri : Iri) (names : List (List ℕ)) (w : Walking) (run us ts : List Word) → AllOther us → walked iri names w run (us ++ ts) ≡ walked iri names w (run ++ us) ts
take_others iri names w run [] ts h = ap (λ (r : List Word). walked iri names w r ts) (sym (append-nil run))
take_others iri names w run (u ∷ us) ts h =
    ap (λ (b : Bool). if b then walked iri names w (run ++ u ∷ []) (us ++ ts) else walked iri (names_after names 0 run) (with_sign (sign_of u.value) (with_run iri names run w)) [] (us ++ ts)) h.0 ∙
    take_others iri names w (run ++ u ∷ []) us ts h.1 ∙
    ap (λ (r : List Word). walked iri names w r ts) (append_assoc run (u ∷ []) us)

-- at a sign the run that is begun may be taken first
flush_at : (iri : Iri) (names : List (List ℕ)) (w : Walking) (run : List Word) (s : Word) (ts : List Word) → is_other (sign_of s.value) ≡ false → walked iri names w run (s ∷ ts) ≡ walked iri (names_after names 0 run) (with_run iri names run w) [] (s ∷ ts)
flush_at iri names w run s ts e =
    let end = walked iri (names_after names 0 run) (with_sign (sign_of s.value) (with_run iri names run w)) [] ts in
    ap (λ (b : Bool). if b then walked iri names w (run ++ s ∷ []) ts else end) e ∙
    sym (ap (λ (b : Bool). if b then walked iri (names_after names 0 run) (with_run iri names run w) (s ∷ []) ts else end) e)

flush : (iri : Iri) (names : List (List ℕ)) (w : Walking) (run ts : List Word) → BeginsSign ts → walked iri names w run ts ≡ walked iri (names_after names 0 run) (with_run iri names run w) [] ts
flush iri names w run ts b =
    subst (λ (l : List Word). walked iri names w run l ≡ walked iri (names_after names 0 run) (with_run iri names run w) [] l) (sym b.2) (flush_at iri names w run b.0 b.1 b.3)

pub at_sign : (iri : Iri) (names : List (List ℕ)) (w : Walking) (s : Word) (ts : List Word) (k : Sign) → sign_of s.value ≡ k → is_other k ≡ false → walked iri names w [] (s ∷ ts) ≡ walked iri names (with_sign k w) [] ts
at_sign iri names w s ts k e o =
    ap (λ (j : Sign). if is_other j then walked iri names w (s ∷ []) ts else walked iri names (with_sign j w) [] ts) e ∙
    ap (λ (b : Bool). if b then walked iri names w (s ∷ []) ts else walked iri names (with_sign k w) [] ts) o

-- ---- '.' or nothing

pub dot_other : (run : List Word) → IsMaybeDot run → AllOther run
dot_other [] h = tt
dot_other (d ∷ []) h = (ap (λ (v : Value). is_other (sign_of v)) h, tt)
dot_other (d ∷ e ∷ ws) h = absurd h

dot_items : (iri : Iri) (names : List (List ℕ)) (run ws : List Word) → IsMaybeDot run → block_triples iri names (run ++ ws) ≡ block_triples iri names ws
dot_items iri names [] ws h = refl
dot_items iri names (d ∷ []) ws h = ap (triples_after None None) (mark_read kinds.Dot refl iri names d ws (ap kind_of h))
dot_items iri names (d ∷ e ∷ us) ws h = absurd h

pub dot_patterns : (iri : Iri) (names : List (List ℕ)) (run ws : List Word) → IsMaybeDot run → block_patterns iri names (run ++ ws) ≡ block_patterns iri names ws
dot_patterns iri names run ws h = ap (map (λ (p : Placed). p.pattern)) (dot_items iri names run ws h)

pub dot_names : (names : List (List ℕ)) (run ws : List Word) → IsMaybeDot run → names_after names 0 (run ++ ws) ≡ names_after names 0 ws
dot_names names [] ws h = refl
dot_names names (d ∷ []) ws h = ap (λ (v : Value). names_after (with_name names (name_text v)) (more v ws) ws) h
dot_names names (d ∷ e ∷ us) ws h = absurd h

-- at a sign nothing comes of it
dot_flush : (iri : Iri) (names : List (List ℕ)) (w : Walking) (run ts : List Word) → IsMaybeDot run → BeginsSign ts → walked iri names w run ts ≡ walked iri names w [] ts
dot_flush iri names w run ts h b =
    let n : names_after names 0 run ≡ names = ap (names_after names 0) (sym (append-nil run)) ∙ dot_names names run [] h in
    let p : block_patterns iri names run ≡ [] = ap (block_patterns iri names) (sym (append-nil run)) ∙ dot_patterns iri names run [] h in
    flush iri names w run ts b ∙ ap (λ (ns : List (List ℕ)). walked iri ns (with_run iri names run w) [] ts) n ∙ ap (λ (ps : List Pattern). walked iri names (with_patterns ps w) [] ts) p

-- ---- blocks

-- the letters of the words that stand in a block
abbrev is_inner : ℕ → Bool
is_inner j = not (is_among (16 ∷ 17 ∷ 24 ∷ 25 ∷ []) j)

inner_other : (v : Value) → is_inner (code (kind_of v)) ≡ true → is_other (sign_of v) ≡ true
inner_other values.OpenBrace h = cc
inner_other values.CloseBrace h = cc
inner_other values.OptionalWord h = cc
inner_other values.UnionWord h = cc
inner_other _ h = refl

all_inner : (ws : List Word) → list_all is_inner (codes (kinds_of ws)) ≡ true → AllOther ws
all_inner [] h = tt
all_inner (w ∷ ws) h =
    let p = and_parts (is_inner (code (kind_of w.value))) (list_all is_inner (codes (kinds_of ws))) h in
    (inner_other w.value p.0, all_inner ws p.1)

pub block_other : (ws : List Word) → Is grammar.block ws → AllOther ws
block_other ws m = all_inner ws (only_all is_inner grammar.block refl (codes (kinds_of ws)) m)

objects_some : (s v : Part) (is : List Item) (ts : List Placed) → productions.Objects s v is ts → (p : Placed) × (rest : List Placed) × (ts ≡ p ∷ rest)
objects_some s v (items.Part o at ∷ []) ts e = (placed s v o at, [], e)
objects_some s v (items.Part o at ∷ items.Comma ∷ is) ts m = (placed s v o at, m.0, m.2)
objects_some s v _ ts m = absurd m

-- a block has a pattern
pub block_some : (is : List Item) (ts : List Placed) → productions.Block is ts → (p : Placed) × (rest : List Placed) × (ts ≡ p ∷ rest)
block_some is ts b =
    let v = b.first_is.first_is in
    let o = objects_some b.first_is.subject v.0 v.2 b.first_is.first.1 v.4 in
    let first : b.first.1 ≡ o.0 ∷ (o.1 ++ productions.triples_of b.first_is.more) = b.first_is.triples_are ∙ ap (λ (l : List Placed). l ++ productions.triples_of b.first_is.more) o.2 in
    (o.0, (o.1 ++ productions.triples_of b.first_is.more) ++ productions.triples_of b.more, b.triples_are ∙ ap (λ (l : List Placed). l ++ productions.triples_of b.more) first)

pub block_is_read : (iri : Iri) (names : List (List ℕ)) (ws : List Word) (ps : List Pattern) (names' : List (List ℕ)) → IsBlock iri names ws ps names' → block_patterns iri names ws ≡ ps
block_is_read iri names ws ps names' b =
    ap (map (λ (p : Placed). p.pattern)) (sym (body_read (items_after iri names 0 ws) b.triples (inr b.produced))) ∙ sym b.patterns

block_taken : (iri : Iri) (names : List (List ℕ)) (ws : List Word) (ps : List Pattern) (names' : List (List ℕ)) (w : Walking) → IsBlock iri names ws ps names' → with_patterns ps w ≡ with_block ps w
block_taken iri names ws ps names' w b =
    let s = block_some (items_after iri names 0 ws) b.triples b.produced in
    let some : ps ≡ s.0.pattern ∷ map (λ p. p.pattern) s.1 = b.patterns ∙ ap (map (λ (p : Placed). p.pattern)) s.2 in
    subst (λ (l : List Pattern). with_patterns l w ≡ with_block l w) (sym some) refl

-- ---- groups inside

-- the walk over a group goes on behind it
abbrev pub Walks : Iri → Reading Tree → Type 0
Walks iri G = (names : List (List ℕ)) (ws : List Word) (t : Tree) (names' : List (List ℕ)) (w : Walking) (rest : List Word) → G names ws t names' → walked iri names w [] (ws ++ rest) ≡ walked iri names' (behind (ready w) t) [] rest

-- a group begins with its brace
abbrev pub Opens : Reading Tree → Type 0
Opens G = (names : List (List ℕ)) (ws : List Word) (t : Tree) (names' : List (List ℕ)) → G names ws t names' → (o : Word) × (us : List Word) × (ws ≡ o ∷ us) × (o.value ≡ values.OpenBrace)

opens_sign : (ws rest : List Word) → (o : Word) × (us : List Word) × (ws ≡ o ∷ us) × (o.value ≡ values.OpenBrace) → BeginsSign (ws ++ rest)
opens_sign ws rest m = (m.0, m.1 ++ rest, ap (λ (l : List Word). l ++ rest) m.2, ap (λ (v : Value). is_other (sign_of v)) m.3)

walk_unions : (iri : Iri) (G : Reading Tree) → Walks iri G → (ts : List Tree) (names : List (List ℕ)) (ws : List Word) (names' : List (List ℕ)) (x : List Step) (t u : Tree) (fs : List Frame) (rest : List Word) → AreUnions iri G names ws ts names' → walked iri names (in_part x t u fs) [] (ws ++ rest) ≡ walked iri names' (in_part x t (united u ts) fs) [] rest
walk_unions iri G g [] names ws names' x t u fs rest m =
    ap (λ (l : List Word). walked iri names (in_part x t u fs) [] (l ++ rest)) m.0 ∙ ap (λ (ns : List (List ℕ)). walked iri ns (in_part x t u fs) [] rest) (sym m.1)
walk_unions iri G g (v ∷ ts) names ws names' x t u fs rest m =
    let s : Walking = in_part x t u fs in
    let r : Walking = record s { next = openers.Union } in
    ap (λ (l : List Word). walked iri names s [] (l ++ rest)) m.4 ∙
    at_sign iri names s m.0 ((m.1 ++ m.2) ++ rest) signs.Union (ap sign_of m.5) refl ∙
    ap (λ (l : List Word). walked iri names r [] l) (append_assoc m.1 m.2 rest) ∙
    g names m.1 v m.3 r (m.2 ++ rest) m.6 ∙
    ap (λ (q : Walking). walked iri m.3 q [] (m.2 ++ rest)) (union_behind x t u v fs) ∙
    walk_unions iri G g ts m.3 m.2 names' x t (union u v) fs rest m.7

-- the walk over elements of a group up to its closing brace
abbrev WalksElements : Iri → List (List ℕ) → Walking → List Word → List Word → List Word → List Step → Tree → List Frame → List (List ℕ) → Type 0
WalksElements iri names w run ws rest x t fs names' = (v : Walking) × (settled v ≡ in_group x t fs) × (walked iri names w run (ws ++ rest) ≡ walked iri names' v [] rest)

-- a sign comes behind a block
behind_block : (iri : Iri) (G : Reading Tree) → Opens G → (ps : List Pattern) (es : List Element) (names : List (List ℕ)) (ws : List Word) (names' : List (List ℕ)) (rest : List Word) → AreElements iri G names ws es names' → AreApart (Triples ps ∷ es) → BeginsSign rest → BeginsSign (ws ++ rest)
behind_block iri G o ps [] names ws names' rest m a b = subst (λ (l : List Word). BeginsSign (l ++ rest)) (sym m.0) b
behind_block iri G o ps (Triples qs ∷ es) names ws names' rest m a b = absurd a
behind_block iri G o ps (Groups first more ∷ es) names ws names' rest m a b =
    let g = m.4 in
    let all : ws ++ rest ≡ g.front ++ ((g.unions ++ g.dot) ++ (m.1 ++ rest)) = ap (λ (l : List Word). l ++ rest) (m.3 ∙ ap (λ (l : List Word). l ++ m.1) g.words) ∙ append_assoc (g.front ++ (g.unions ++ g.dot)) m.1 rest ∙ append_assoc g.front (g.unions ++ g.dot) (m.1 ++ rest) in
    subst BeginsSign (sym all) (opens_sign g.front ((g.unions ++ g.dot) ++ (m.1 ++ rest)) (o names g.front first g.between g.is_first))
behind_block iri G o ps (Optional t ∷ es) names ws names' rest m a b =
    let g = m.4 in
    let all : ws ++ rest ≡ g.word ∷ (((g.group ++ g.dot) ++ m.1) ++ rest) = ap (λ (l : List Word). l ++ rest) (m.3 ∙ ap (λ (l : List Word). l ++ m.1) g.words) in
    (g.word, ((g.group ++ g.dot) ++ m.1) ++ rest, all, ap (λ (v : Value). is_other (sign_of v)) g.is_word)

apart_rest : (e : Element) (es : List Element) → AreApart (e ∷ es) → AreApart es
apart_rest (Triples ps) [] a = tt
apart_rest (Triples ps) (Triples qs ∷ es) a = absurd a
apart_rest (Triples ps) (Groups t ts ∷ es) a = a
apart_rest (Triples ps) (Optional t ∷ es) a = a
apart_rest (Groups t ts) es a = a
apart_rest (Optional t) es a = a

walk_elements : (iri : Iri) (G : Reading Tree) → Walks iri G → Opens G → (es : List Element) (names : List (List ℕ)) (ws : List Word) (names' : List (List ℕ)) (w : Walking) (run : List Word) (x : List Step) (t : Tree) (fs : List Frame) (rest : List Word) → AreElements iri G names ws es names' → AreApart es → IsMaybeDot run → settled w ≡ in_group x t fs → w.next ≡ openers.Part → BeginsSign rest → WalksElements iri names w run ws rest x (translated t es) fs names'
walk_elements iri G g o [] names ws names' w run x t fs rest m a d h n b = (
  w,
  h,
  ap (λ (l : List Word). walked iri names w run (l ++ rest)) m.0 ∙ dot_flush iri names w run rest d b ∙ ap (λ (ns : List (List ℕ)). walked iri ns w [] rest) (sym m.1),
)
walk_elements iri G g o (Triples ps ∷ es) names ws names' w run x t fs rest m a d h n b =
    let u = m.0 in
    let tail = m.1 ++ rest in
    let k = m.4 in
    let sign : BeginsSign tail = behind_block iri G o ps es m.2 m.1 names' rest m.5 a b in
    let next : (with_block ps w).next ≡ openers.Part = ap (λ (v : Walking). v.next) h in
    let r = walk_elements iri G g o es m.2 m.1 names' (with_block ps w) [] x (joined t (block ps)) fs rest m.5 (apart_rest (Triples ps) es a) tt (settled_block w x t fs ps h) next b in
    let all : ws ++ rest ≡ u ++ tail = ap (λ (l : List Word). l ++ rest) m.3 ∙ append_assoc u m.1 rest in
    let ns : names_after names 0 (run ++ u) ≡ m.2 = dot_names names run u d ∙ sym k.names_are in
    let qs : block_patterns iri names (run ++ u) ≡ ps = dot_patterns iri names run u d ∙ block_is_read iri names u ps m.2 k in (
      r.0,
      r.1,
      ap (walked iri names w run) all ∙ take_others iri names w run u tail (block_other u k.is) ∙ flush iri names w (run ++ u) tail sign ∙
          ap (λ (l : List (List ℕ)). walked iri l (with_run iri names (run ++ u) w) [] tail) ns ∙
          ap (λ (l : List Pattern). walked iri m.2 (with_patterns l w) [] tail) qs ∙
          ap (λ (v : Walking). walked iri m.2 v [] tail) (block_taken iri names u ps m.2 w k) ∙ r.2,
    )
walk_elements iri G g o (Groups first more ∷ es) names ws names' w run x t fs rest m a d h n b =
    let k = m.4 in
    let tail = m.1 ++ rest in
    let behind_front = k.unions ++ (k.dot ++ tail) in
    let part : Walking = in_part x t (united first more) fs in
    let r = walk_elements iri G g o es m.2 m.1 names' part k.dot x (joined t (united first more)) fs rest m.5 (apart_rest (Groups first more) es a) k.is_dot (settled_part x t (united first more) fs) refl b in
    let all : ws ++ rest ≡ k.front ++ behind_front =
    ap (λ (l : List Word). l ++ rest) (m.3 ∙ ap (λ (l : List Word). l ++ m.1) k.words) ∙ append_assoc (k.front ++ (k.unions ++ k.dot)) m.1 rest ∙ append_assoc k.front (k.unions ++ k.dot) tail ∙ ap (λ (l : List Word). k.front ++ l) (append_assoc k.unions k.dot tail) in
    let at : ready w ≡ in_group x t fs = ap (λ (q : Opener). ready_by q w) n ∙ h in (
      r.0,
      r.1,
      ap (walked iri names w run) all ∙ dot_flush iri names w run (k.front ++ behind_front) d (opens_sign k.front behind_front (o names k.front first k.between k.is_first)) ∙
          g names k.front first k.between w behind_front k.is_first ∙
          ap (λ (v : Walking). walked iri k.between (behind v first) [] behind_front) at ∙
          walk_unions iri G g more k.between k.unions m.2 x t first fs (k.dot ++ tail) k.are_more ∙
          take_others iri m.2 part [] k.dot tail (dot_other k.dot k.is_dot) ∙ r.2,
    )
walk_elements iri G g o (Optional u ∷ es) names ws names' w run x t fs rest m a d h n b =
    let k = m.4 in
    let tail = m.1 ++ rest in
    let s : Walking = in_group x (optional t u) fs in
    let r = walk_elements iri G g o es m.2 m.1 names' s k.dot x (optional t u) fs rest m.5 (apart_rest (Optional u) es a) k.is_dot refl refl b in
    let all : ws ++ rest ≡ k.word ∷ (k.group ++ (k.dot ++ tail)) =
    ap (λ (l : List Word). l ++ rest) (m.3 ∙ ap (λ (l : List Word). l ++ m.1) k.words) ∙ ap (λ (l : List Word). k.word ∷ l) (append_assoc (k.group ++ k.dot) m.1 rest ∙ append_assoc k.group k.dot tail) in (
      r.0,
      r.1,
      ap (walked iri names w run) all ∙ dot_flush iri names w run (k.word ∷ (k.group ++ (k.dot ++ tail))) d (k.word, k.group ++ (k.dot ++ tail), refl, ap (λ (v : Value). is_other (sign_of v)) k.is_word) ∙
          at_sign iri names w k.word (k.group ++ (k.dot ++ tail)) signs.Optional (ap sign_of k.is_word) refl ∙
          ap (λ (v : Walking). walked iri names (record v { next = openers.Optional }) [] (k.group ++ (k.dot ++ tail))) h ∙
          g names k.group u m.2 (record (in_group x t fs) { next = openers.Optional }) (k.dot ++ tail) k.is_group ∙
          ap (λ (v : Walking). walked iri m.2 v [] (k.dot ++ tail)) (optional_behind x t u fs) ∙
          take_others iri m.2 s [] k.dot tail (dot_other k.dot k.is_dot) ∙ r.2,
    )

-- ---- a group

pub group_opens : (n : ℕ) (iri : Iri) → Opens (IsGroup iri n)
group_opens zero iri names ws t names' m = absurd m
group_opens (suc n) iri names ws t names' m = (m.open_brace, m.inner ++ m.close_brace ∷ [], m.words, m.opens)

braced_walk : (iri : Iri) (G : Reading Tree) → Walks iri G → Opens G → (names : List (List ℕ)) (ws : List Word) (t : Tree) (names' : List (List ℕ)) (w : Walking) (rest : List Word) → IsBraced iri G names ws t names' → walked iri names w [] (ws ++ rest) ≡ walked iri names' (behind (ready w) t) [] rest
braced_walk iri G g o names ws t names' w rest m =
    let r = ready w in
    let fs : List Frame = record { is_empty = r.is_empty; opener = r.next } ∷ r.around in
    let tail = m.close_brace ∷ rest in
    let sign : BeginsSign tail = (m.close_brace, rest, refl, ap (λ (v : Value). is_other (sign_of v)) m.closes) in
    let e = walk_elements iri G g o m.elements names m.inner names' (opened w) [] r.steps empty fs tail m.are_elements m.apart tt (entered_is r.steps fs) refl sign in
    let all : ws ++ rest ≡ m.open_brace ∷ (m.inner ++ tail) = ap (λ (l : List Word). l ++ rest) m.words ∙ ap (λ (l : List Word). m.open_brace ∷ l) (append_assoc m.inner (m.close_brace ∷ []) rest) in
    ap (walked iri names w []) all ∙
    at_sign iri names w m.open_brace (m.inner ++ tail) signs.Open (ap sign_of m.opens) refl ∙ e.2 ∙
    at_sign iri names' e.0 m.close_brace rest signs.Close (ap sign_of m.closes) refl ∙
    ap (λ (v : Walking). walked iri names' (closed_in v.around v) [] rest) e.1 ∙
    ap (λ (u : Tree). walked iri names' (behind r u) [] rest) (sym m.is)

pub group_walk : (n : ℕ) (iri : Iri) → Walks iri (IsGroup iri n)
group_walk zero iri names ws t names' w rest m = absurd m
group_walk (suc n) iri names ws t names' w rest m = braced_walk iri (IsGroup iri n) (group_walk n iri) (group_opens n iri) names ws t names' w rest m

-- the walk over a whole group gives its steps and names
pub group_read : (n : ℕ) (iri : Iri) (names : List (List ℕ)) (ws : List Word) (t : Tree) (names' : List (List ℕ)) → IsGroup iri n names ws t names' → (steps_read iri names ws ≡ steps_of t) × (names_read iri names ws ≡ names')
group_read n iri names ws t names' m =
    let all : whole_walk iri names ws ≡ walked iri names' (behind begun t) [] [] = ap (walked iri names begun []) (sym (append-nil ws)) ∙ group_walk n iri names ws t names' begun [] m in
    (ap (λ (e : Walked). finished e.at) all ∙ finished_is t, ap (λ (e : Walked). e.names) all)
