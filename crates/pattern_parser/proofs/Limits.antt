-- The walk over the tokens of a block finds the place that the definition has.
use Rattle.std.proofs.Common.{ℕ, zero, suc, ◌≡◌, ◌-◌, ◌+◌, ◌==◌, length, Bool, ◌&&◌, if◌then◌else◌, List, [], ◌∷◌, ◌++◌, ◌⊎◌, inl, inr, Option, Some, None, refl, ap, sym, ◌∙◌, arith}
use Rattle.std.specs.Prelude.{slice_get, option_map}
use Rattle.std.proofs.Math.Dec.{eqb-suc-zero}
use Rattle.bgp_core.specs.declared.pattern.Part.{Part}
use Rattle.query_words.specs.declared.word.Value.{Value}
use Rattle.query_words.specs.declared.word.Value.TheVariants as values
use Rattle.query_words.specs.declared.word.Word.{Word}
use Rattle.pattern_parser.specs.declared.item.Item.{Item}
use Rattle.pattern_parser.specs.declared.item.Item.TheVariants as items
use Rattle.pattern_parser.specs.declared.limit.TheConstants.{MOST_PATTERNS}
use Rattle.pattern_parser.specs.declared.limit.Next.{Next}
use Rattle.pattern_parser.specs.declared.limit.Next.TheVariants.{Subject, Verb, Object}
use Rattle.pattern_parser.specs.declared.limit.Role.{Role}
use Rattle.pattern_parser.specs.declared.limit.Role.TheVariants as roles
use Rattle.pattern_parser.specs.Names.{with_name, name_text}
use Rattle.pattern_parser.specs.Items.{items_after, item_of, part_of, more}
use Rattle.pattern_parser.specs.Limits.{role_of, next_after, is_object, count_after, Counts}
use Rattle.pattern_parser.specs.declared.limit.PatternCount.{PatternCount}
use Rattle.pattern_parser.specs.declared.limit.PatternCount.TheVariants.{Over, Left}
use Rattle.pattern_parser.specs.Queries.{excess}
use Rattle.pattern_parser.specs.Triples.{Placed, placed, triples_after}

-- which part comes next, where this subject and this verb hold
abbrev next_of : Option Part → Option Part → Next
next_of None v = Subject
next_of (Some s) None = Verb
next_of (Some s) (Some v) = Object

-- the items of a token that is this in a block
abbrev IsRole : Role → ℕ → List Item → Type 0
IsRole roles.Part at is = (p : Part) × (is ≡ items.Part p at ∷ [])
IsRole roles.Dot at is = is ≡ items.Dot ∷ []
IsRole roles.Semicolon at is = is ≡ items.Semicolon ∷ []
IsRole roles.Other at is = (is ≡ []) ⊎ (is ≡ items.Comma ∷ [])

role_is : (iri : List ℕ → Option (List ℕ)) (names : List (List ℕ)) (v : Value) (ws : List Word) (at : ℕ) → IsRole (role_of v) at (item_of (part_of iri names v ws) at v)
role_is iri names (values.Iri t) ws at = (_, refl)
role_is iri names (values.Prefix n) ws at = (_, refl)
role_is iri names (values.Prefixed n l) ws at = (_, refl)
role_is iri names (values.Variable t) ws at = (_, refl)
role_is iri names (values.Label t) ws at = (_, refl)
role_is iri names values.Anonymous ws at = (_, refl)
role_is iri names (values.Str t) ws at = (_, refl)
role_is iri names (values.Integer t) ws at = (_, refl)
role_is iri names (values.Decimal t) ws at = (_, refl)
role_is iri names (values.Double t) ws at = (_, refl)
role_is iri names values.True ws at = (_, refl)
role_is iri names values.False ws at = (_, refl)
role_is iri names values.TypeWord ws at = (_, refl)
role_is iri names values.Dot ws at = refl
role_is iri names values.Semicolon ws at = refl
role_is iri names values.Comma ws at = inr refl
role_is iri names _ ws at = inl refl

one_less : (n : ℕ) → suc n - 1 ≡ n
one_less n = omega arith

-- with one pattern more, of which one more may come, a count is the same
one_more : (k : ℕ) (p : Placed) (ts : List Placed) (r : PatternCount) → Counts k ts r → Counts (suc k) (p ∷ ts) r
one_more k p ts (Over at) h = h
one_more k p ts (Left n) h = omega (arith, h)

-- more patterns may come: the walk goes on with one less
goes_on : (k at skip : ℕ) (ws : List Word) → (if suc k == 0 then Over at else count_after Object (suc k - 1) skip ws) ≡ count_after Object k skip ws
goes_on k at skip ws =
    ap (λ (b : Bool). if b then Over at else count_after Object (suc k - 1) skip ws) (eqb-suc-zero k) ∙
    ap (λ (n : ℕ). count_after Object n skip ws) (one_less k)

-- the walk goes on as the definition does, after the items of one token
step : (s v : Option Part) (left at : ℕ) (r : Role) (is rest : List Item) (skip : ℕ) (ws : List Word) → ((t u : Option Part) (k : ℕ) → Counts k (triples_after t u rest) (count_after (next_of t u) k skip ws)) → IsRole r at is → Counts left (triples_after s v (is ++ rest)) (if is_object (next_of s v) r && (left == 0) then Over at else count_after (next_after (next_of s v) r) (if is_object (next_of s v) r then left - 1 else left) skip ws)
step None v left at roles.Part is rest skip ws later m = rw m.1 (later (Some m.0) None left)
step (Some s) None left at roles.Part is rest skip ws later m = rw m.1 (later (Some s) (Some m.0) left)
step (Some s) (Some v) zero at roles.Part is rest skip ws later m = rw m.1 refl
step (Some s) (Some v) (suc k) at roles.Part is rest skip ws later m = rw m.1 (rw (goes_on k at skip ws) (one_more k (placed s v m.0 at) (triples_after (Some s) (Some v) rest) (count_after Object k skip ws) (later (Some s) (Some v) k)))
step None v left at roles.Dot is rest skip ws later m = rw m (later None None left)
step (Some s) None left at roles.Dot is rest skip ws later m = rw m (later None None left)
step (Some s) (Some v) left at roles.Dot is rest skip ws later m = rw m (later None None left)
step None v left at roles.Semicolon is rest skip ws later m = rw m (later None None left)
step (Some s) None left at roles.Semicolon is rest skip ws later m = rw m (later (Some s) None left)
step (Some s) (Some v) left at roles.Semicolon is rest skip ws later m = rw m (later (Some s) None left)
step None v left at roles.Other is rest skip ws later (inl m) = rw m (later None v left)
step None v left at roles.Other is rest skip ws later (inr m) = rw m (later None v left)
step (Some s) None left at roles.Other is rest skip ws later (inl m) = rw m (later (Some s) None left)
step (Some s) None left at roles.Other is rest skip ws later (inr m) = rw m (later (Some s) None left)
step (Some s) (Some v) left at roles.Other is rest skip ws later (inl m) = rw m (later (Some s) (Some v) left)
step (Some s) (Some v) left at roles.Other is rest skip ws later (inr m) = rw m (later (Some s) (Some v) left)

counts_after : (iri : List ℕ → Option (List ℕ)) (s v : Option Part) (names : List (List ℕ)) (left skip : ℕ) (ws : List Word) → Counts left (triples_after s v (items_after iri names skip ws)) (count_after (next_of s v) left skip ws)
counts_after iri s v names left skip [] = omega arith
counts_after iri s v names left (suc n) (w ∷ ws) = counts_after iri s v names left n ws
counts_after iri s v names left zero (w ∷ ws) =
    let new = with_name names (name_text w.value) in
    step s v left w.at (role_of w.value) (item_of (part_of iri names w.value ws) w.at w.value) (items_after iri new (more w.value ws) ws) (more w.value ws) ws (λ t u k. counts_after iri t u new k (more w.value ws) ws) (role_is iri names w.value ws w.at)

-- the walk counts the patterns that the definition has
pub counts_is : (iri : List ℕ → Option (List ℕ)) (names : List (List ℕ)) (left : ℕ) (ws : List Word) (r : PatternCount) → r ≡ count_after Subject left 0 ws → Counts left (triples_after None None (items_after iri names 0 ws)) r
counts_is iri names left ws r e = rw e (counts_after iri None None names left 0 ws)

-- behind all patterns there is none
past : (ts : List Placed) (n most : ℕ) → length ts + n ≡ most → option_map (λ p. p.at) (slice_get ts most) ≡ None
past [] n zero e = refl
past [] n (suc m) e = refl
past (t ∷ ts) n zero e = absurd (omega (arith, e))
past (t ∷ ts) n (suc m) e = past ts n m (omega (arith, e))

pub over_is : (ts : List Placed) (r : PatternCount) (at : ℕ) → r ≡ Over at → Counts MOST_PATTERNS ts r → Some at ≡ excess ts
over_is ts (Over at') at e h = cc
over_is ts (Left n) at e h = cc

pub left_is : (ts : List Placed) (r : PatternCount) (n : ℕ) → r ≡ Left n → Counts MOST_PATTERNS ts r → None ≡ excess ts
left_is ts (Over at) n e h = cc
left_is ts (Left m) n e h = sym (past ts m MOST_PATTERNS h)
