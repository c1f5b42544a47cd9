-- Regular expressions over numbers, the texts that match one, and what is left of one after a number.
use Rattle.std.specs.Prelude.{ℕ, ◌≡◌, ◌⊎◌, Bool, true, false, ◌&&◌, ◌||◌, nat_eq, List, [], ◌∷◌, ◌++◌, if◌then◌else◌, ⊤}

-- nothing at all, the empty text, one letter of a set, one after the other, one or the other, any number of one
pub data Regular : Type 0 where
  nothing : Regular
  nil : Regular
  one_of : List ℕ → Regular
  seq : Regular → Regular → Regular
  alt : Regular → Regular → Regular
  many : Regular → Regular

-- the letter is in the set
abbrev pub is_among : List ℕ → ℕ → Bool
is_among [] k = false
is_among (j ∷ js) k = nat_eq j k || is_among js k

-- the texts one after another
abbrev pub joined : List (List ℕ) → List ℕ
joined [] = []
joined (w ∷ ws) = w ++ joined ws

-- each of the texts is so
abbrev pub Each : (List ℕ → Type 0) → List (List ℕ) → Type 0
Each P [] = ⊤
Each P (w ∷ ws) = P w × Each P ws

-- the text matches
abbrev pub Matches : Regular → List ℕ → Type 0
Matches nothing w = ⊥
Matches nil w = w ≡ []
Matches (one_of ks) w = (k : ℕ) × (is_among ks k ≡ true) × (w ≡ k ∷ [])
Matches (seq r s) w = (u : List ℕ) × (v : List ℕ) × Matches r u × Matches s v × (w ≡ u ++ v)
Matches (alt r s) w = Matches r w ⊎ Matches s w
Matches (many r) w = (ws : List (List ℕ)) × Each (Matches r) ws × (w ≡ joined ws)

-- some text that begins so matches
abbrev pub Begins : Regular → List ℕ → Type 0
Begins r w = (more : List ℕ) × Matches r (w ++ more)

-- the empty text matches
abbrev pub nullable : Regular → Bool
nullable nothing = false
nullable nil = true
nullable (one_of ks) = false
nullable (seq r s) = nullable r && nullable s
nullable (alt r s) = nullable r || nullable s
nullable (many r) = true

-- one after the other, shorter where the first is nothing or empty
abbrev pub seq_of : Regular → Regular → Regular
seq_of nothing s = nothing
seq_of nil s = s
seq_of r s = seq r s

-- one or the other, shorter where one of them is nothing
abbrev pub alt_of : Regular → Regular → Regular
alt_of nothing s = s
alt_of r nothing = r
alt_of r s = alt r s

-- what is left after the letter k: the texts that match it are those that match after k
abbrev pub left : Regular → ℕ → Regular
left nothing k = nothing
left nil k = nothing
left (one_of ks) k = if is_among ks k then nil else nothing
left (seq r s) k = if nullable r then alt_of (seq_of (left r k) s) (left s k) else seq_of (left r k) s
left (alt r s) k = alt_of (left r k) (left s k)
left (many r) k = seq_of (left r k) (many r)

-- no part is nothing, so some text matches
abbrev pub is_alive : Regular → Bool
is_alive nothing = false
is_alive nil = true
is_alive (one_of []) = false
is_alive (one_of (k ∷ ks)) = true
is_alive (seq r s) = is_alive r && is_alive s
is_alive (alt r s) = is_alive r && is_alive s
is_alive (many r) = is_alive r

-- what is left after a text
abbrev pub lefts : Regular → List ℕ → Regular
lefts r [] = r
lefts r (k ∷ w) = lefts (left r k) w

-- what is left after a letter matches exactly what may follow the letter
abbrev pub LeftIsExact : Type 0
LeftIsExact = (r : Regular) (k : ℕ) (w : List ℕ) → (Matches (left r k) w → Matches r (k ∷ w)) × (Matches r (k ∷ w) → Matches (left r k) w)

-- `nullable` says exactly whether the empty text matches
abbrev pub NullableIsExact : Type 0
NullableIsExact = (r : Regular) → (nullable r ≡ true → Matches r []) × (Matches r [] → nullable r ≡ true)

-- what is alive is matched by some text
abbrev pub AliveBegins : Type 0
AliveBegins = (r : Regular) → is_alive r ≡ true → Begins r []

-- a text matches an expression or does not
abbrev pub MatchingIsDecided : Type 0
MatchingIsDecided = (r : Regular) (w : List ℕ) → Matches r w ⊎ (Matches r w → ⊥)

-- some text that begins so matches, or none does
abbrev pub BeginningIsDecided : Type 0
BeginningIsDecided = (r : Regular) (w : List ℕ) → Begins r w ⊎ (Begins r w → ⊥)
