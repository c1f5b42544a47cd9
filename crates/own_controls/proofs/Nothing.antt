-- What is said of a value, where there is none.
use Rattle.std.proofs.Common.{◌≡◌, Option, None, IfSome, sym, subst}

pub none_given : {X : Type 0} (o : Option X) (P : X → Type 0) → o ≡ None → IfSome o P
none_given {X} o P e = subst (λ (r : Option X). IfSome r P) (sym e) tt
