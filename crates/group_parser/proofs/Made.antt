-- Words that the grammar reads as a group, nested no deeper than it may be, have the productions of a group.
use Rattle.std.proofs.Common.{ℕ, zero, suc, ◌≡◌, ◌+◌, ◌-◌, ◌<◌, nat_lt, Bool, true, false, if◌then◌else◌, map, List, [], ◌∷◌, ◌++◌, Option, Some, None, refl, sym, ap, subst, ◌∙◌, append_assoc, inl, inr, arith}
use Rattle.std.proofs.lemmas.List.{append-nil}
use Rattle.bgp_core.specs.declared.pattern.Pattern.{Pattern}
use Rattle.query_words.specs.declared.word.Value.{Value}
use Rattle.query_words.specs.declared.word.Value.TheVariants as values
use Rattle.query_words.specs.declared.word.Word.{Word}
use Rattle.query_words.specs.Words.{kind_of}
use Rattle.query_words.proofs.Values.{open_value, close_value}
use Rattle.regular_expressions.specs.Regular.{Regular, many}
use Rattle.regular_expressions.specs.Combinators.{◌·◌, maybe}
use Rattle.query_grammar.specs.declared.kind.Kind.TheVariants as kinds
use Rattle.query_grammar.specs.Grammar as grammar
use Rattle.query_grammar.specs.Grammar.{a}
use Rattle.query_grammar.specs.Groups.{part, inside, group_of}
use Rattle.pattern_parser.specs.declared.item.Item.{Item}
use Rattle.pattern_parser.specs.Items.{names_after}
use Rattle.pattern_parser.specs.Productions as productions
use Rattle.pattern_parser.proofs.Splits.{Is, Are, flat, seq_split, none, many_split, one, marked}
use Rattle.pattern_parser.proofs.Blocks.{It, block_read}
use Rattle.group_query.specs.Trees.{Tree, empty}
use Rattle.group_faults.specs.declared.limits.TheConstants.{MOST_OPEN}
use Rattle.group_faults.specs.Signs.{sign_of, is_other}
use Rattle.group_faults.specs.Faults.{depth_after, place_unless, deep_from}
use Rattle.group_parser.specs.Groups.{Element, Triples, Groups, Optional, translated, AreApart, Reading, IsBlock, IsMaybeDot, AreUnions, AreElements, IsGroup}
use Rattle.group_parser.proofs.Walked.{AllOther, block_other}

abbrev pub Iri : Type 0
Iri = List ℕ → Option (List ℕ)

-- ---- words by their kinds

union_value : (v : Value) → kind_of v ≡ kinds.UnionWord → v ≡ values.UnionWord
union_value values.UnionWord e = refl
union_value _ e = cc

optional_value : (v : Value) → kind_of v ≡ kinds.OptionalWord → v ≡ values.OptionalWord
optional_value values.OptionalWord e = refl
optional_value _ e = cc

dot_value : (v : Value) → kind_of v ≡ kinds.Dot → v ≡ values.Dot
dot_value values.Dot e = refl
dot_value _ e = cc

maybe_dot : (ws : List Word) → Is (maybe (a kinds.Dot)) ws → IsMaybeDot ws
maybe_dot ws (inl m) = let o = one kinds.Dot ws m in subst IsMaybeDot (sym o.1) (dot_value o.0.value o.2)
maybe_dot ws (inr m) = subst IsMaybeDot (sym (none ws m)) tt

-- ---- depth

-- another token than a brace leaves the depth
other_depth : (d : ℕ) (v : Value) → is_other (sign_of v) ≡ true → depth_after d v ≡ Some d
other_depth d values.OpenBrace h = cc
other_depth d values.CloseBrace h = cc
other_depth d _ h = refl

skip : (d : ℕ) (w : Word) (ts : List Word) → depth_after d w.value ≡ Some d → deep_from d (w ∷ ts) ≡ deep_from d ts
skip d w ts e = ap (λ (o : Option ℕ). place_unless w.at o (λ n. deep_from n ts)) e

pub skip_others : (d : ℕ) (us ts : List Word) → AllOther us → deep_from d (us ++ ts) ≡ deep_from d ts
skip_others d [] ts h = refl
skip_others d (u ∷ us) ts h = skip d u (us ++ ts) (other_depth d u.value h.0) ∙ skip_others d us ts h.1

skip_dot : (d : ℕ) (us ts : List Word) → IsMaybeDot us → deep_from d (us ++ ts) ≡ deep_from d ts
skip_dot d [] ts h = refl
skip_dot d (u ∷ []) ts h = skip d u ts (ap (depth_after d) h)
skip_dot d (u ∷ v ∷ us) ts h = absurd h

-- no group opens too deep in these words
abbrev pub IsShallow : ℕ → List Word → Type 0
IsShallow d ws = deep_from d ws ≡ None

-- a brace may open only inside fewer than MOST_OPEN groups
opened_depth : (d : ℕ) (w : Word) (ts : List Word) → w.value ≡ values.OpenBrace → IsShallow d (w ∷ ts) → (d < MOST_OPEN) × IsShallow (d + 1) ts
opened_depth d w ts e h =
    let there : place_unless w.at (if nat_lt d MOST_OPEN then Some (d + 1) else None) (λ n. deep_from n ts) ≡ None = ap (λ (v : Value). place_unless w.at (depth_after d v) (λ n. deep_from n ts)) (sym e) ∙ h in
    pick (nat_lt d MOST_OPEN) refl there
  where
    pick : (b : Bool) → nat_lt d MOST_OPEN ≡ b → place_unless w.at (if b then Some (d + 1) else None) (λ n. deep_from n ts) ≡ None → (d < MOST_OPEN) × IsShallow (d + 1) ts
    pick true f h = (grind (arith, f), h)
    pick false f h = absurd (cc)

closed_depth : (d : ℕ) (w : Word) (ts : List Word) → w.value ≡ values.CloseBrace → IsShallow (d + 1) (w ∷ ts) → IsShallow d ts
closed_depth d w ts e h =
    let less : d + 1 - 1 ≡ d = omega arith in
    ap (λ (n : ℕ). deep_from n ts) (sym less) ∙ ap (λ (v : Value). place_unless w.at (depth_after (d + 1) v) (λ n. deep_from n ts)) (sym e) ∙ h

-- ---- blocks

pub block_made : (iri : Iri) (names : List (List ℕ)) (ws : List Word) → Is grammar.block ws → (ps : List Pattern) × IsBlock iri names ws ps (names_after names 0 ws)
block_made iri names ws m =
    let b = block_read iri names ws [] m refl in
    let same : It iri names ws ≡ b.0 = ap (It iri names) (sym (append-nil ws)) ∙ b.4 ∙ append-nil b.0 in
    (map (λ p. p.pattern) b.1, record { is = m; triples = b.1; produced = subst (λ (is : List Item). productions.Block is b.1) (sym same) b.3; patterns = refl; names_are = refl })

-- ---- elements

-- the words are a group of this kind, and no group behind them is too deep
abbrev pub Made : Reading Tree → ℕ → List (List ℕ) → List Word → List Word → Type 0
Made G d names ws rest = (t : Tree) × (names' : List (List ℕ)) × G names ws t names' × IsShallow d rest

abbrev pub Makes : Regular → Reading Tree → ℕ → Type 0
Makes g G d = (names : List (List ℕ)) (ws rest : List Word) → Is g ws → IsShallow d (ws ++ rest) → Made G d names ws rest

abbrev NoBlock : List Element → Type 0
NoBlock (Triples ps ∷ es) = ⊥
NoBlock _ = Unit {0}

apart_block : (ps : List Pattern) (es : List Element) → AreApart es → NoBlock es → AreApart (Triples ps ∷ es)
apart_block ps [] h n = tt
apart_block ps (Triples qs ∷ es) h n = absurd n
apart_block ps (Groups t ts ∷ es) h n = h
apart_block ps (Optional t ∷ es) h n = h

abbrev pub MadeElements : Iri → Reading Tree → ℕ → List (List ℕ) → List Word → List Word → Type 0
MadeElements iri G d names ws rest = (es : List Element) × (names' : List (List ℕ)) × AreElements iri G names ws es names' × AreApart es × IsShallow d rest

-- the same, where no block comes first
abbrev MadeParts : Iri → Reading Tree → ℕ → List (List ℕ) → List Word → List Word → Type 0
MadeParts iri G d names ws rest = (es : List Element) × (names' : List (List ℕ)) × AreElements iri G names ws es names' × AreApart es × IsShallow d rest × NoBlock es

-- a block or nothing, before parts
block_first : (iri : Iri) (G : Reading Tree) (d : ℕ) (names : List (List ℕ)) (u v rest : List Word) → Is (maybe grammar.block) u → ((names : List (List ℕ)) → IsShallow d (v ++ rest) → MadeParts iri G d names v rest) → IsShallow d ((u ++ v) ++ rest) → MadeElements iri G d names (u ++ v) rest
block_first iri G d names u v rest (inl m) f h =
    let b = block_made iri names u m in
    let tail : IsShallow d (v ++ rest) = sym (skip_others d u (v ++ rest) (block_other u m)) ∙ ap (deep_from d) (sym (append_assoc u v rest)) ∙ h in
    let p = f (names_after names 0 u) tail in
    (Triples b.0 ∷ p.0, p.1, (u, v, names_after names 0 u, refl, b.1, p.2), apart_block b.0 p.0 p.3 p.5, p.4)
block_first iri G d names u v rest (inr m) f h =
    let e : u ≡ [] = none u m in
    let tail : IsShallow d (v ++ rest) = ap (λ (l : List Word). deep_from d ((l ++ v) ++ rest)) (sym e) ∙ h in
    let p = f names tail in
    (p.0, p.1, subst (λ (l : List Word). AreElements iri G names (l ++ v) p.0 p.1) (sym e) p.2, p.3, p.4)

abbrev MadeUnions : Iri → Reading Tree → ℕ → List (List ℕ) → List Word → List Word → Type 0
MadeUnions iri G d names ws rest = (ts : List Tree) × (names' : List (List ℕ)) × AreUnions iri G names ws ts names' × IsShallow d rest

unions_made : (iri : Iri) (g : Regular) (G : Reading Tree) (d : ℕ) → Makes g G d → (names : List (List ℕ)) (xs : List (List Word)) (rest : List Word) → Are (a kinds.UnionWord · g) xs → IsShallow d (flat xs ++ rest) → MadeUnions iri G d names (flat xs) rest
unions_made iri g G d f names [] rest h s = ([], names, (refl, refl), s)
unions_made iri g G d f names (x ∷ xs) rest h s =
    let c = marked kinds.UnionWord g x h.0 in
    let v = union_value c.0.value c.3 in
    let words : x ++ flat xs ≡ c.0 ∷ (c.1 ++ flat xs) = ap (λ (l : List Word). l ++ flat xs) c.2 in
    let all : (x ++ flat xs) ++ rest ≡ c.0 ∷ (c.1 ++ (flat xs ++ rest)) = ap (λ (l : List Word). l ++ rest) words ∙ ap (λ (l : List Word). c.0 ∷ l) (append_assoc c.1 (flat xs) rest) in
    let tail : IsShallow d (c.1 ++ (flat xs ++ rest)) = sym (skip d c.0 (c.1 ++ (flat xs ++ rest)) (ap (depth_after d) v)) ∙ ap (deep_from d) (sym all) ∙ s in
    let t = f names c.1 (flat xs ++ rest) c.4 tail in
    let r = unions_made iri g G d f t.1 xs rest h.1 t.3 in
    (t.0 ∷ r.0, r.1, (c.0, c.1, flat xs, t.1, words, v, t.2, r.2), r.3)

-- one part with the '.' behind it
abbrev MadePart : Iri → Reading Tree → ℕ → List (List ℕ) → List Word → List Word → List Word → Type 0
MadePart iri G d names p dot rest = (e : Element) × (names' : List (List ℕ)) × ((ws v : List Word) (es : List Element) (last : List (List ℕ)) → ws ≡ (p ++ dot) ++ v → AreElements iri G names' v es last → AreElements iri G names ws (e ∷ es) last) × ((es : List Element) → AreApart es → AreApart (e ∷ es) × NoBlock (e ∷ es)) × IsShallow d rest

part_made : (iri : Iri) (g : Regular) (G : Reading Tree) (d : ℕ) → Makes g G d → (names : List (List ℕ)) (p dot rest : List Word) → Is (part g) p → IsMaybeDot dot → IsShallow d (p ++ (dot ++ rest)) → MadePart iri G d names p dot rest
part_made iri g G d f names p dot rest (inl m) k s =
    let c = marked kinds.OptionalWord g p m in
    let v = optional_value c.0.value c.3 in
    let tail : IsShallow d (c.1 ++ (dot ++ rest)) = sym (skip d c.0 (c.1 ++ (dot ++ rest)) (ap (depth_after d) v)) ∙ ap (λ (l : List Word). deep_from d (l ++ (dot ++ rest))) (sym c.2) ∙ s in
    let t = f names c.1 (dot ++ rest) c.4 tail in (
      Optional t.0,
      t.1,
      λ ws v' es last e r. (
        p ++ dot,
        v',
        t.1,
        e,
        record { word = c.0; group = c.1; dot = dot; words = ap (λ (l : List Word). l ++ dot) c.2; is_word = v; is_group = t.2; is_dot = k },
        r,
      ),
      λ es h. (h, tt),
      sym (skip_dot d dot rest k) ∙ t.3,
    )
part_made iri g G d f names p dot rest (inr m) k s =
    let c = seq_split g (many (a kinds.UnionWord · g)) p m in
    let xs = many_split (a kinds.UnionWord · g) c.1 c.3 in
    let words : p ≡ c.0 ++ flat xs.0 = c.4 ∙ ap (λ (l : List Word). c.0 ++ l) xs.2 in
    let tail : IsShallow d (c.0 ++ (flat xs.0 ++ (dot ++ rest))) = ap (deep_from d) (sym (append_assoc c.0 (flat xs.0) (dot ++ rest))) ∙ ap (λ (l : List Word). deep_from d (l ++ (dot ++ rest))) (sym words) ∙ s in
    let t = f names c.0 (flat xs.0 ++ (dot ++ rest)) c.2 tail in
    let u = unions_made iri g G d f t.1 xs.0 (dot ++ rest) xs.1 t.3 in (
      Groups t.0 u.0,
      u.1,
      λ ws v' es last e r. (
        p ++ dot,
        v',
        u.1,
        e,
        record {
          front = c.0;
          unions = flat xs.0;
          dot = dot;
          between = t.1;
          words = ap (λ (l : List Word). l ++ dot) words ∙ append_assoc c.0 (flat xs.0) dot;
          is_first = t.2;
          are_more = u.2;
          is_dot = k;
        },
        r,
      ),
      λ es h. (h, tt),
      sym (skip_dot d dot rest k) ∙ u.3,
    )

abbrev piece : Regular → Regular
piece g = part g · maybe (a kinds.Dot) · maybe grammar.block

parts_made : (iri : Iri) (g : Regular) (G : Reading Tree) (d : ℕ) → Makes g G d → (names : List (List ℕ)) (xs : List (List Word)) (rest : List Word) → Are (piece g) xs → IsShallow d (flat xs ++ rest) → MadeParts iri G d names (flat xs) rest
parts_made iri g G d f names [] rest h s = ([], names, (refl, refl), tt, s, tt)
parts_made iri g G d f names (x ∷ xs) rest h s =
    let b = seq_split (part g · maybe (a kinds.Dot)) (maybe grammar.block) x h.0 in
    let q = seq_split (part g) (maybe (a kinds.Dot)) b.0 b.2 in
    let behind = b.1 ++ flat xs in
    let words : x ++ flat xs ≡ (q.0 ++ q.1) ++ behind = ap (λ (l : List Word). l ++ flat xs) (b.4 ∙ ap (λ (l : List Word). l ++ b.1) q.4) ∙ append_assoc (q.0 ++ q.1) b.1 (flat xs) in
    let all : (x ++ flat xs) ++ rest ≡ q.0 ++ (q.1 ++ (behind ++ rest)) = ap (λ (l : List Word). l ++ rest) words ∙ append_assoc (q.0 ++ q.1) behind rest ∙ append_assoc q.0 q.1 (behind ++ rest) in
    let e = part_made iri g G d f names q.0 q.1 (behind ++ rest) q.2 (maybe_dot q.1 q.3) (ap (deep_from d) (sym all) ∙ s) in
    let r = block_first iri G d e.1 b.1 (flat xs) rest b.3 (λ ns k. parts_made iri g G d f ns xs rest h.1 k) e.4 in
    let last = e.3 r.0 r.3 in
    (e.0 ∷ r.0, r.1, e.2 (x ++ flat xs) behind r.0 r.1 words r.2, last.0, r.4, last.1)

-- ---- groups

pub group_made : (n : ℕ) (iri : Iri) (d k : ℕ) → d + k ≡ MOST_OPEN → Makes (group_of n) (IsGroup iri k) d
unfolding group_of
group_made zero iri d k e names ws rest m s = absurd m
group_made (suc n) iri d zero e names ws rest m s =
    let c = seq_split (a kinds.OpenBrace · inside (group_of n)) (a kinds.CloseBrace) ws m in
    let o = marked kinds.OpenBrace (inside (group_of n)) c.0 c.2 in
    let all : ws ++ rest ≡ o.0 ∷ ((o.1 ++ c.1) ++ rest) = ap (λ (l : List Word). l ++ rest) (c.4 ∙ ap (λ (l : List Word). l ++ c.1) o.2) in
    let deep = opened_depth d o.0 ((o.1 ++ c.1) ++ rest) (open_value o.0.value o.3) (ap (deep_from d) (sym all) ∙ s) in
    let small = deep.0 in
    absurd (omega (arith, e, small))
group_made (suc n) iri d (suc k) e names ws rest m s =
    let c = seq_split (a kinds.OpenBrace · inside (group_of n)) (a kinds.CloseBrace) ws m in
    let o = marked kinds.OpenBrace (inside (group_of n)) c.0 c.2 in
    let close = one kinds.CloseBrace c.1 c.3 in
    let i = seq_split (maybe grammar.block) (many (piece (group_of n))) o.1 o.4 in
    let xs = many_split (piece (group_of n)) i.1 i.3 in
    let inner : o.1 ≡ i.0 ++ flat xs.0 = i.4 ∙ ap (λ (l : List Word). i.0 ++ l) xs.2 in
    let words : ws ≡ o.0 ∷ ((i.0 ++ flat xs.0) ++ close.0 ∷ []) = c.4 ∙ ap (λ (l : List Word). l ++ c.1) (o.2 ∙ ap (λ (l : List Word). o.0 ∷ l) inner) ∙ ap (λ (l : List Word). o.0 ∷ ((i.0 ++ flat xs.0) ++ l)) close.1 in
    let all : ws ++ rest ≡ o.0 ∷ ((i.0 ++ flat xs.0) ++ close.0 ∷ rest) = ap (λ (l : List Word). l ++ rest) words ∙ ap (λ (l : List Word). o.0 ∷ l) (append_assoc (i.0 ++ flat xs.0) (close.0 ∷ []) rest) in
    let deep = opened_depth d o.0 ((i.0 ++ flat xs.0) ++ close.0 ∷ rest) (open_value o.0.value o.3) (ap (deep_from d) (sym all) ∙ s) in
    let next : d + 1 + k ≡ MOST_OPEN = omega (arith, e) in
    let r = block_first iri (IsGroup iri k) (d + 1) names i.0 (flat xs.0) (close.0 ∷ rest) i.2 (λ ns h. parts_made iri (group_of n) (IsGroup iri k) (d + 1) (group_made n iri (d + 1) k next) ns xs.0 (close.0 ∷ rest) xs.1 h) deep.1 in (
      translated empty r.0,
      r.1,
      record {
        open_brace = o.0;
        close_brace = close.0;
        inner = i.0 ++ flat xs.0;
        elements = r.0;
        words = words;
        opens = open_value o.0.value o.3;
        closes = close_value close.0.value close.2;
        are_elements = r.2;
        apart = r.3;
        is = refl;
      },
      closed_depth d close.0 rest (close_value close.0.value close.2) r.4,
    )
