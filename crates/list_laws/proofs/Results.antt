-- An answer is one of its two variants.
use Rattle.std.proofs.Common.{◌≡◌, Result, Ok, Err, sym, ◌∙◌}
use Rattle.std.specs.Prelude.{OnErr}

pub ok_not_err : {A B : Type 0} {x : A} {e : B} → ◌≡◌ {A = Result A B} (Ok x) (Err e) → ⊥
ok_not_err h = cc

pub err_not_ok : {A B : Type 0} {x : A} {e : B} → ◌≡◌ {A = Result A B} (Err e) (Ok x) → ⊥
err_not_ok h = cc

pub ok_same : {A B : Type 0} {x y : A} → ◌≡◌ {A = Result A B} (Ok x) (Ok y) → x ≡ y
ok_same h = cc

pub err_same : {A B : Type 0} {e f : B} → ◌≡◌ {A = Result A B} (Err e) (Err f) → e ≡ f
err_same h = cc

-- one answer is not both
pub not_ok_and_err : {A B : Type 0} (r : Result A B) {x : A} {e : B} → r ≡ Ok x → r ≡ Err e → ⊥
not_ok_and_err r h k = ok_not_err (sym h ∙ k)

pub any_err : {A E : Type 0} (r : Result A E) (P : Type 0) → P → OnErr r P
any_err (Ok x) P h = tt
any_err (Err x) P h = h
