-- The fixed terms of the blocks of a query with groups are short, as those of a query without groups.
use Rattle.std.proofs.Common.{ℕ, zero, suc, ◌≡◌, ◌+◌, ◌≤◌, List, [], ◌∷◌, ◌++◌, Option, None, refl, sym, ap, subst, arith}
use Rattle.std.specs.List.{AllByRecursion}
use Rattle.list_laws.proofs.Each.{all_append}
use Rattle.bgp_core.specs.declared.pattern.Pattern.{Pattern}
use Rattle.bgp_core.specs.Queries.{IsValidPattern}
use Rattle.query_tokens.specs.declared.piece.TheConstants.{LONGEST_QUERY}
use Rattle.query_words.specs.declared.word.Word.{Word}
use Rattle.pattern_parser.specs.Prefixes.{before}
use Rattle.pattern_parser.specs.Items.{items_after, names_after}
use Rattle.pattern_parser.specs.Queries.{is_select, is_brace, prologue, prefixes, body, block, select_part}
use Rattle.pattern_parser.specs.Short.{IsShortPattern}
use Rattle.plan_laws.specs.Fitting.{IsAskable}
use Rattle.group_query.specs.Trees as trees
use Rattle.group_query.specs.Trees.{Tree, empty, optional, union, GroupData, group_tree, blocks_of}
use Rattle.group_parser.specs.Groups.{Element, Triples, Groups, Optional, joined, united, translated, Reading, IsBlock, AreUnions, AreElements, IsGroup}
use Rattle.group_parser.specs.Texts.{ReadsGroups}
use Rattle.group_parser.proofs.Fits.{blocks_joined}
use Rattle.group_parser.proofs.Walked.{block_is_read}
use Rattle.data_files.specs.declared.query.Grammar.TheVariants as grammars
use Rattle.query_command.specs.Limits.{GroupsAreAskable}
use Rattle.query_command.proofs.Bounded.{patterns_askable}
use Rattle.pattern_parser.proofs.Shorts.{total, total_append, total_split, tokens_short, Bound, prefix_short, items_short, triples_short}

abbrev Iri : Type 0
Iri = List ℕ → Option (List ℕ)

abbrev ShortBlocks : List (List Pattern) → Type 0
ShortBlocks bs = AllByRecursion (AllByRecursion IsShortPattern) bs

abbrev ShortTree : Tree → Type 0
ShortTree t = ShortBlocks (blocks_of t)

joined_short : (a b : Tree) → ShortTree a → ShortTree b → ShortTree (joined a b)
joined_short a b f g = subst ShortBlocks (sym (blocks_joined a b)) (all_append (AllByRecursion IsShortPattern) (blocks_of a) (blocks_of b) f g)

-- ---- groups, where the prefixes and the tokens have so many bytes

-- the IRIs of prefixes have at most so many bytes, and with them the tokens are within the text
abbrev Few : ℕ → List Word → Type 0
Few b ws = b + total ws ≤ LONGEST_QUERY

abbrev ShortGroups : ℕ → Reading Tree → Type 0
ShortGroups b G = (names : List (List ℕ)) (ws : List Word) (t : Tree) (names' : List (List ℕ)) → G names ws t names' → Few b ws → ShortTree t

module _ (iri : Iri) (b : ℕ) (bound : Bound iri b) where
  front_few : (ws us vs : List Word) → ws ≡ us ++ vs → Few b ws → Few b us
  front_few ws us vs e f = omega (arith, f, ap total e, total_append us vs)

  back_few : (ws us vs : List Word) → ws ≡ us ++ vs → Few b ws → Few b vs
  back_few ws us vs e f = omega (arith, f, ap total e, total_append us vs)

  rest_few : (ws : List Word) (w : Word) (us : List Word) → ws ≡ w ∷ us → Few b ws → Few b us
  rest_few ws w us e f = omega (arith, f, ap total e)

  block_short : (names : List (List ℕ)) (ws : List Word) (ps : List Pattern) (names' : List (List ℕ)) → IsBlock iri names ws ps names' → Few b ws → AllByRecursion IsShortPattern ps
  block_short names ws ps names' m f =
      subst (AllByRecursion IsShortPattern) (block_is_read iri names ws ps names' m) (triples_short None None (items_after iri names 0 ws) tt tt (items_short iri b bound names 0 ws f))

  unions_short : (G : Reading Tree) → ShortGroups b G → (ts : List Tree) (names : List (List ℕ)) (ws : List Word) (names' : List (List ℕ)) (t : Tree) → AreUnions iri G names ws ts names' → Few b ws → ShortTree t → ShortTree (united t ts)
  unions_short G g [] names ws names' t m f s = s
  unions_short G g (u ∷ ts) names ws names' t m f s =
      let rest : Few b (m.1 ++ m.2) = rest_few ws m.0 (m.1 ++ m.2) m.4 f in
      let one = g names m.1 u m.3 m.6 (front_few (m.1 ++ m.2) m.1 m.2 refl rest) in
      unions_short G g ts m.3 m.2 names' (union t u) m.7 (back_few (m.1 ++ m.2) m.1 m.2 refl rest) (all_append (AllByRecursion IsShortPattern) (blocks_of t) (blocks_of u) s one)

  elements_short : (G : Reading Tree) → ShortGroups b G → (es : List Element) (names : List (List ℕ)) (ws : List Word) (names' : List (List ℕ)) (t : Tree) → AreElements iri G names ws es names' → Few b ws → ShortTree t → ShortTree (translated t es)
  elements_short G g [] names ws names' t m f s = s
  elements_short G g (Triples ps ∷ es) names ws names' t m f s =
      let one = block_short names m.0 ps m.2 m.4 (front_few ws m.0 m.1 m.3 f) in
      elements_short G g es m.2 m.1 names' (joined t (trees.block ps)) m.5 (back_few ws m.0 m.1 m.3 f) (joined_short t (trees.block ps) s (one, tt))
  elements_short G g (Groups first more ∷ es) names ws names' t m f s =
      let k = m.4 in
      let front : Few b m.0 = front_few ws m.0 m.1 m.3 f in
      let one = g names k.front first k.between k.is_first (front_few m.0 k.front (k.unions ++ k.dot) k.words front) in
      let unions : Few b k.unions = front_few (k.unions ++ k.dot) k.unions k.dot refl (back_few m.0 k.front (k.unions ++ k.dot) k.words front) in
      let all = unions_short G g more k.between k.unions m.2 first k.are_more unions one in
      elements_short G g es m.2 m.1 names' (joined t (united first more)) m.5 (back_few ws m.0 m.1 m.3 f) (joined_short t (united first more) s all)
  elements_short G g (Optional u ∷ es) names ws names' t m f s =
      let k = m.4 in
      let front : Few b m.0 = front_few ws m.0 m.1 m.3 f in
      let one = g names k.group u m.2 k.is_group (front_few (k.group ++ k.dot) k.group k.dot refl (rest_few m.0 k.word (k.group ++ k.dot) k.words front)) in
      elements_short G g es m.2 m.1 names' (optional t u) m.5 (back_few ws m.0 m.1 m.3 f) (all_append (AllByRecursion IsShortPattern) (blocks_of t) (blocks_of u) s one)

  group_short : (n : ℕ) → ShortGroups b (IsGroup iri n)
  group_short zero names ws t names' m f = absurd m
  group_short (suc n) names ws t names' m f =
      let inner : Few b m.inner = front_few (m.inner ++ m.close_brace ∷ []) m.inner (m.close_brace ∷ []) refl (rest_few ws m.open_brace (m.inner ++ m.close_brace ∷ []) m.words f) in
      let all = elements_short (IsGroup iri n) (group_short n) m.elements names m.inner names' empty m.are_elements inner tt in
      subst ShortTree (sym m.is) all

-- ---- the text

groups_short : (text : List ℕ) (g : GroupData) → ReadsGroups text g → ShortTree (group_tree g)
groups_short text g r =
    let ws = r.words in
    let bs = body ws in
    let pro = prologue ws in
    let all = total_split (before is_select ws) ws in
    let part = total_split (before is_brace bs) bs in
    let few : total pro + total (block bs) ≤ LONGEST_QUERY = omega (arith, all, part, tokens_short text ws r.reads.tokens) in
    group_short (prefixes ws) (total pro) (prefix_short pro) 32 (names_after [] 0 (select_part bs)) (block bs) (group_tree g) g.names r.is.group few

blocks_askable : (bs : List (List Pattern)) → AllByRecursion (AllByRecursion IsValidPattern) bs → ShortBlocks bs → AllByRecursion (AllByRecursion IsAskable) bs
blocks_askable [] v h = tt
blocks_askable (b ∷ bs) v h = (patterns_askable b v.0 h.0, blocks_askable bs v.1 h.1)

pub groups_are_askable : GroupsAreAskable
groups_are_askable grammars.Groups files name g holds valid = blocks_askable (blocks_of (group_tree g)) valid (groups_short holds.0 g holds.2.1)
groups_are_askable grammars.Patterns files name g holds valid = absurd holds
