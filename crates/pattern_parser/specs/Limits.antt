-- Where a block has one triple pattern too many, by its tokens alone. It serves the reader and the proofs alone.
use Rattle.std.specs.Prelude.{ℕ, ◌≡◌, ◌+◌, ◌-◌, ◌==◌, length, slice_get, option_map, Bool, true, false, ◌&&◌, List, [], ◌∷◌, Some, if◌then◌else◌, zero, suc}
use Rattle.query_words.specs.declared.word.Value.{Value}
use Rattle.query_words.specs.declared.word.Value.TheVariants as values
use Rattle.query_words.specs.declared.word.Word.{Word}
use Rattle.pattern_parser.specs.declared.limit.Next.{Next}
use Rattle.pattern_parser.specs.declared.limit.Next.TheVariants.{Subject, Verb, Object}
use Rattle.pattern_parser.specs.declared.limit.Role.{Role}
use Rattle.pattern_parser.specs.declared.limit.Role.TheVariants.{Part, Dot, Semicolon, Other}
use Rattle.pattern_parser.specs.declared.limit.PatternCount.{PatternCount}
use Rattle.pattern_parser.specs.declared.limit.PatternCount.TheVariants.{Over, Left}
use Rattle.pattern_parser.specs.Items.{more}
use Rattle.pattern_parser.specs.Triples.{Placed}

-- what a token is in a block
abbrev pub role_of : Value → Role
role_of (values.Iri t) = Part
role_of (values.Prefix n) = Part
role_of (values.Prefixed n l) = Part
role_of (values.Variable t) = Part
role_of (values.Label t) = Part
role_of values.Anonymous = Part
role_of (values.Str t) = Part
role_of (values.Integer t) = Part
role_of (values.Decimal t) = Part
role_of (values.Double t) = Part
role_of values.True = Part
role_of values.False = Part
role_of values.TypeWord = Part
role_of values.Dot = Dot
role_of values.Semicolon = Semicolon
role_of _ = Other

-- which part of a pattern comes next, after a token
abbrev pub next_after : Next → Role → Next
next_after Subject Part = Verb
next_after n Part = Object
next_after n Dot = Subject
next_after Subject Semicolon = Subject
next_after n Semicolon = Verb
next_after n Other = n

-- the token is an object
abbrev pub is_object : Next → Role → Bool
is_object Object Part = true
is_object n r = false

-- what a walk over a block counts, where so many more patterns may come, and so many tokens belong to one before
abbrev pub count_after : Next → ℕ → ℕ → List Word → PatternCount
count_after next left skip [] = Left left
count_after next left (suc n) (w ∷ ws) = count_after next left n ws
count_after next left zero (w ∷ ws) = if is_object next (role_of w.value) && (left == 0) then Over w.at else count_after (next_after next (role_of w.value)) (if is_object next (role_of w.value) then left - 1 else left) (more w.value ws) ws

-- Of these patterns, of which there may be so many, the one too many has its object at this place, or so many more may come.
abbrev pub Counts : ℕ → List Placed → PatternCount → Type 0
Counts most ts (Over at) = option_map (λ p. p.at) (slice_get ts most) ≡ Some at
Counts most ts (Left more) = length ts + more ≡ most
