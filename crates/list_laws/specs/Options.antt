-- What may be there or not, in `do` notation.
use Rattle.std.specs.Prelude.{Bool, Option, Some, None, if◌then◌else◌}

infixl 10 ◌>>=◌
-- f of the value, if there is one
abbrev pub ◌>>=◌ : {A B : Type 0} → Option A → (A → Option B) → Option B
None >>= f = None
(Some x) >>= f = f x

-- what passes a test, or nothing
abbrev pub when : {A : Type 0} → Bool → A → Option A
when b x = if b then Some x else None

-- the first that there is
abbrev pub first_of : {A : Type 0} → Option A → Option A → Option A
first_of None y = y
first_of (Some x) y = Some x
