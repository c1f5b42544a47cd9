-- The productions of a block (SPARQL 1.1, section 19.8: TriplesBlock, TriplesSameSubject, PropertyListNotEmpty, ObjectList), each with its patterns.
use Rattle.std.specs.Prelude.{ℕ, ◌≡◌, ◌⊎◌, Bool, None, List, [], ◌∷◌, ◌++◌, if◌then◌else◌, ⊤}
use Rattle.bgp_core.specs.declared.pattern.Part.{Part}
use Rattle.pattern_parser.specs.declared.item.Item.{Item}
use Rattle.pattern_parser.specs.declared.item.Item.TheVariants as items
use Rattle.pattern_parser.specs.Triples.{Placed, placed, triples_after}

-- [79] ObjectList: object { "," object }
abbrev pub Objects : Part → Part → List Item → List Placed → Type 0
Objects s v (items.Part o at ∷ []) ts = ts ≡ placed s v o at ∷ []
Objects s v (items.Part o at ∷ items.Comma ∷ is) ts = (rest : List Placed) × Objects s v is rest × (ts ≡ placed s v o at ∷ rest)
Objects s v _ ts = ⊥

-- [78] Verb and [79] ObjectList: verb object { "," object }
abbrev pub VerbObjects : Part → List Item → List Placed → Type 0
VerbObjects s is ts = (v : Part) × (at : ℕ) × (rest : List Item) × (is ≡ items.Part v at ∷ rest) × Objects s v rest ts

-- the same, or nothing
abbrev pub MaybeVerbObjects : Part → List Item → List Placed → Type 0
MaybeVerbObjects s is ts = ((is ≡ []) × (ts ≡ [])) ⊎ VerbObjects s is ts

-- several of one kind, each with its triples
abbrev pub Each : (List Item → List Placed → Type 0) → List (List Item × List Placed) → Type 0
Each L [] = ⊤
Each L (p ∷ ps) = L p.0 p.1 × Each L ps

-- the items of these, each after a mark
abbrev pub after_marks : Item → List (List Item × List Placed) → List Item
after_marks mark [] = []
after_marks mark (p ∷ ps) = mark ∷ (p.0 ++ after_marks mark ps)

-- the patterns of these
abbrev pub triples_of : List (List Item × List Placed) → List Placed
triples_of [] = []
triples_of (p ∷ ps) = p.1 ++ triples_of ps

-- [75] TriplesSameSubject with [77] PropertyListNotEmpty: subject, verb and objects, and more of them after ';'
pub record Same (is : List Item) (ts : List Placed) : Type 0 where
  pub subject : Part
  pub place : ℕ
  pub first : List Item × List Placed
  pub more : List (List Item × List Placed)
  pub first_is : VerbObjects subject first.0 first.1
  pub more_are : Each (MaybeVerbObjects subject) more
  pub items_are : is ≡ items.Part subject place ∷ (first.0 ++ after_marks items.Semicolon more)
  pub triples_are : ts ≡ first.1 ++ triples_of more

-- [55] TriplesBlock: same { "." same } [ "." ]
pub record Block (is : List Item) (ts : List Placed) : Type 0 where
  pub first : List Item × List Placed
  pub more : List (List Item × List Placed)
  pub dot : Bool
  pub first_is : Same first.0 first.1
  pub more_are : Each Same more
  pub items_are : is ≡ first.0 ++ (after_marks items.Dot more ++ (if dot then items.Dot ∷ [] else []))
  pub triples_are : ts ≡ first.1 ++ triples_of more

-- what [54] GroupGraphPatternSub is without other patterns: [ block ]
abbrev pub Body : List Item → List Placed → Type 0
Body is ts = ((is ≡ []) × (ts ≡ [])) ⊎ Block is ts

-- what the productions say of a block's patterns is what is read
abbrev pub AsProduced : Type 0
AsProduced = (is : List Item) (ts : List Placed) → Body is ts → ts ≡ triples_after None None is
