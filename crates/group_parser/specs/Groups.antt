-- Groups by their productions (SPARQL 1.1, section 19.8), each with the pattern that it stands for (18.2.2.6).
use Rattle.std.specs.Prelude.{ℕ, zero, suc, ◌≡◌, List, [], ◌∷◌, ◌++◌, map, Option}
use Rattle.regular_expressions.specs.Regular.{Matches}
use Rattle.query_grammar.specs.Grammar as grammar
use Rattle.query_grammar.specs.Grammar.{codes}
use Rattle.bgp_core.specs.declared.pattern.Pattern.{Pattern}
use Rattle.query_words.specs.declared.word.Value.TheVariants as values
use Rattle.query_words.specs.declared.word.Word.{Word}
use Rattle.query_words.specs.Words.{kinds_of}
use Rattle.pattern_parser.specs.Triples.{Placed}
use Rattle.pattern_parser.specs.Items.{items_after, names_after}
use Rattle.pattern_parser.specs.Productions as productions
use Rattle.group_query.specs.Trees.{Tree, block, empty, join, optional, union}

-- ---- what a group is translated to

-- Join, where a group that is empty is left out (18.2.2.8)
abbrev pub joined : Tree → Tree → Tree
joined empty b = b
joined a empty = a
joined a b = join a b

-- what stands in a group: a block, groups with UNION between, or OPTIONAL and a group
pub data Element : Type 0 where
  Triples : List Pattern → Element
  Groups : Tree → List Tree → Element
  Optional : Tree → Element

-- a group with those that follow it, each after UNION
abbrev pub united : Tree → List Tree → Tree
united t [] = t
united t (u ∷ us) = united (union t u) us

-- what stood before, and one more element
abbrev pub with_element : Tree → Element → Tree
with_element t (Triples ps) = joined t (block ps)
with_element t (Groups first more) = joined t (united first more)
with_element t (Optional u) = optional t u

-- element after element, from the empty pattern on
abbrev pub translated : Tree → List Element → Tree
translated t [] = t
translated t (e ∷ es) = translated (with_element t e) es

-- no block stands right behind a block
abbrev pub AreApart : List Element → Type 0
AreApart [] = Unit {0}
AreApart (Triples ps ∷ Triples qs ∷ es) = ⊥
AreApart (e ∷ es) = AreApart es

-- ---- the words

-- What words are, where names stood before them and stand after them.
abbrev pub Reading : Type 0 → Type 1
Reading A = List (List ℕ) → List Word → A → List (List ℕ) → Type 0

-- [55] TriplesBlock
pub record IsBlock (iri : List ℕ → Option (List ℕ)) (names : List (List ℕ)) (ws : List Word) (ps : List Pattern) (names' : List (List ℕ)) : Type 0 where
  pub is : Matches grammar.block (codes (kinds_of ws))
  pub triples : List Placed
  pub produced : productions.Block (items_after iri names 0 ws) triples
  pub patterns : ps ≡ map (λ p. p.pattern) triples
  pub names_are : names' ≡ names_after names 0 ws

-- '.' or nothing
abbrev pub IsMaybeDot : List Word → Type 0
IsMaybeDot [] = Unit {0}
IsMaybeDot (w ∷ []) = w.value ≡ values.Dot
IsMaybeDot _ = ⊥

module _ (iri : List ℕ → Option (List ℕ)) (IsGroup : Reading Tree) where
  -- { UNION group }
  abbrev pub AreUnions : List (List ℕ) → List Word → List Tree → List (List ℕ) → Type 0
  AreUnions names ws [] names' = (ws ≡ []) × (names' ≡ names)
  AreUnions names ws (t ∷ ts) names' = (w : Word) × (u : List Word) × (v : List Word) × (mid : List (List ℕ))
      × (ws ≡ w ∷ (u ++ v)) × (w.value ≡ values.UnionWord) × IsGroup names u t mid × AreUnions mid v ts names'

  -- [67] GroupOrUnionGraphPattern: group { UNION group } [ "." ]
  pub record AreGroups (names : List (List ℕ)) (ws : List Word) (first : Tree) (more : List Tree) (names' : List (List ℕ)) : Type 0 where
    pub front : List Word
    pub unions : List Word
    pub dot : List Word
    pub between : List (List ℕ)
    pub words : ws ≡ front ++ (unions ++ dot)
    pub is_first : IsGroup names front first between
    pub are_more : AreUnions between unions more names'
    pub is_dot : IsMaybeDot dot

  -- [57] OptionalGraphPattern: OPTIONAL group [ "." ]
  pub record IsOptional (names : List (List ℕ)) (ws : List Word) (t : Tree) (names' : List (List ℕ)) : Type 0 where
    pub word : Word
    pub group : List Word
    pub dot : List Word
    pub words : ws ≡ word ∷ (group ++ dot)
    pub is_word : word.value ≡ values.OptionalWord
    pub is_group : IsGroup names group t names'
    pub is_dot : IsMaybeDot dot

  abbrev pub IsElement : List (List ℕ) → List Word → Element → List (List ℕ) → Type 0
  IsElement names ws (Triples ps) names' = IsBlock iri names ws ps names'
  IsElement names ws (Groups first more) names' = AreGroups names ws first more names'
  IsElement names ws (Optional t) names' = IsOptional names ws t names'

  -- [54] GroupGraphPatternSub
  abbrev pub AreElements : List (List ℕ) → List Word → List Element → List (List ℕ) → Type 0
  AreElements names ws [] names' = (ws ≡ []) × (names' ≡ names)
  AreElements names ws (e ∷ es) names' = (u : List Word) × (v : List Word) × (mid : List (List ℕ)) × (ws ≡ u ++ v) × IsElement names u e mid × AreElements mid v es names'

  -- [53] GroupGraphPattern: "{" elements "}"
  pub record IsBraced (names : List (List ℕ)) (ws : List Word) (t : Tree) (names' : List (List ℕ)) : Type 0 where
    pub open_brace : Word
    pub close_brace : Word
    pub inner : List Word
    pub elements : List Element
    pub words : ws ≡ open_brace ∷ (inner ++ close_brace ∷ [])
    pub opens : open_brace.value ≡ values.OpenBrace
    pub closes : close_brace.value ≡ values.CloseBrace
    pub are_elements : AreElements names inner elements names'
    pub apart : AreApart elements
    pub is : t ≡ translated empty elements

-- The words are a group, in which groups nest at most so deep, itself having depth 1, and stand for this pattern.
abbrev pub IsGroup : (List ℕ → Option (List ℕ)) → ℕ → List (List ℕ) → List Word → Tree → List (List ℕ) → Type 0
IsGroup iri zero names ws t names' = ⊥
IsGroup iri (suc n) names ws t names' = IsBraced iri (IsGroup iri n) names ws t names'
