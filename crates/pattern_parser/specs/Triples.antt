-- The triple patterns of what stands between the braces.
use Rattle.std.specs.Prelude.{ℕ, List, [], ◌∷◌, map, Option, Some, None}
use Rattle.bgp_core.specs.declared.pattern.Part.{Part}
use Rattle.bgp_core.specs.declared.pattern.Pattern.{Pattern}
use Rattle.query_words.specs.declared.word.Word.{Word}
use Rattle.pattern_parser.specs.declared.item.Item.{Item}
use Rattle.pattern_parser.specs.declared.item.Item.TheVariants as items
use Rattle.pattern_parser.specs.Items.{items_after}

-- a pattern with the place of its object
pub record Placed : Type 0 where
  pub pattern : Pattern
  pub at : ℕ

-- the pattern of these parts, with the place of its object
abbrev pub placed : Part → Part → Part → ℕ → Placed
placed s v o at = record { pattern = record { subject = s; predicate = v; object = o }; at = at }

-- the patterns that come, where this subject and this verb hold: '.' ends both, ';' ends the verb, ',' ends neither
abbrev pub triples_after : Option Part → Option Part → List Item → List Placed
triples_after s v [] = []
triples_after None v (items.Part t at ∷ is) = triples_after (Some t) None is
triples_after (Some s) None (items.Part t at ∷ is) = triples_after (Some s) (Some t) is
triples_after (Some s) (Some v) (items.Part t at ∷ is) = placed s v t at ∷ triples_after (Some s) (Some v) is
triples_after s v (items.Dot ∷ is) = triples_after None None is
triples_after s v (items.Semicolon ∷ is) = triples_after s None is
triples_after s v (items.Comma ∷ is) = triples_after s v is

-- the patterns of a block's tokens, behind names, each with the place of its object
abbrev pub block_triples : (List ℕ → Option (List ℕ)) → List (List ℕ) → List Word → List Placed
block_triples iri names ws = triples_after None None (items_after iri names 0 ws)

-- the same without the places
abbrev pub block_patterns : (List ℕ → Option (List ℕ)) → List (List ℕ) → List Word → List Pattern
block_patterns iri names ws = map (λ p. p.pattern) (block_triples iri names ws)
