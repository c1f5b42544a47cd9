-- What a value that is there tells of the steps that gave it.
use Rattle.std.proofs.Common.{ℕ, ◌≡◌, ◌≤◌, ◌⊎◌, inl, inr, Bool, true, false, cond, ltb, Option, Some, None, refl, sym, ◌∙◌, arith}
use Rattle.std.specs.Prelude.{unwrap_or}
use Rattle.std.specs.Option.{option_map}
use Rattle.std.proofs.lemmas.Grind.{common_steps}
use Rattle.list_laws.specs.Options.{◌>>=◌, when, first_of}

pub none_not_some : {A : Type 0} {x : A} → None ≡ Some x → ⊥
none_not_some e = cc

pub some_not_none : {A : Type 0} {x : A} → Some x ≡ None → ⊥
some_not_none e = cc

pub some_same : {A : Type 0} {x y : A} → Some x ≡ Some y → x ≡ y
some_same e = cc

-- one option is not both
pub not_some_and_none : {A : Type 0} (o : Option A) {x : A} → o ≡ Some x → o ≡ None → ⊥
not_some_and_none o e f = some_not_none (sym e ∙ f)

-- what an option has is one value
pub one_value : {A : Type 0} (o : Option A) {x y : A} → o ≡ Some x → o ≡ Some y → x ≡ y
one_value o e f = some_same (sym e ∙ f)

pub bind_some : {A B : Type 0} (o : Option A) (f : A → Option B) (y : B) → (o >>= f) ≡ Some y → (x : A) × (o ≡ Some x) × (f x ≡ Some y)
bind_some None f y e = absurd (none_not_some e)
bind_some (Some x) f y e = (x, refl, e)

pub bind_none : {A B : Type 0} (o : Option A) (f : A → Option B) → (o >>= f) ≡ None → (o ≡ None) ⊎ ((x : A) × (o ≡ Some x) × (f x ≡ None))
bind_none None f e = inl refl
bind_none (Some x) f e = inr (x, refl, e)

pub when_some : {A : Type 0} (b : Bool) (x y : A) → when b x ≡ Some y → (b ≡ true) × (x ≡ y)
when_some true x y e = (refl, cc)
when_some false x y e = cc

pub first_some : {A : Type 0} (x y : Option A) (z : A) → first_of x y ≡ Some z → (x ≡ Some z) ⊎ ((x ≡ None) × (y ≡ Some z))
first_some None y z e = inr (refl, e)
first_some (Some x) y z e = inl e

pub map_some : {A B : Type 0} (f : A → B) (o : Option A) (y : B) → option_map f o ≡ Some y → (x : A) × (o ≡ Some x) × (f x ≡ y)
map_some f None y e = cc
map_some f (Some x) y e = (x, refl, cc)

pub some_or_none : {A : Type 0} (o : Option A) → ((x : A) × (o ≡ Some x)) ⊎ (o ≡ None)
some_or_none None = inr refl
some_or_none (Some x) = inl (x, refl)

-- the place where there is one, and else the end
pub place_or_length : (place n : ℕ) → place ≤ n → unwrap_or (cond (ltb place n) (Some place) None) n ≡ place
place_or_length place n within = grind (arith, common_steps)
