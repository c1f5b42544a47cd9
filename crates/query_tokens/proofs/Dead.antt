-- Where a name comes to no colon, no token goes on through it.
use Rattle.std.proofs.Common.{ℕ, zero, suc, ◌≡◌, ◌<◌, ◌≤◌, Bool, true, false, ◌&&◌, List, [], ◌∷◌, ◌++◌, if◌then◌else◌, Some, None, refl, sym, subst, ◌∙◌, take, drop, length, arith}
use Rattle.regular_expressions.specs.Regular.{Regular, Matches, left}
use Rattle.regular_expressions.proofs.Left.{matches-left, matches-nullable}
use Rattle.query_tokens.specs.declared.class.Class.TheVariants.{Colon, Dot}
use Rattle.query_tokens.specs.declared.kind.PieceKind.{PieceKind}
use Rattle.query_tokens.specs.declared.machine.State.{State}
use Rattle.query_tokens.specs.declared.machine.State.TheVariants.{Name, NameDots, Prefix}
use Rattle.query_tokens.specs.Classes.{class_of}
use Rattle.query_tokens.specs.Sets.{code, is_in, name_char}
use Rattle.query_tokens.specs.Machine.{next}
use Rattle.query_tokens.specs.Names.{leads, IsInName}
use Rattle.query_tokens.specs.Forms.{letters, IsToken}
use Rattle.query_tokens.proofs.Follows.{mark, rest_of, rest_after, follows, ends}
use Rattle.query_tokens.proofs.Ends.{At, left_over}

-- a state inside a name, by whether the last character was '.'
abbrev name : Bool → State
name true = NameDots
name false = Name

differ : {A : Type 0} → true ≡ false → A
differ e = cc

-- no token ends inside a name
no_end : (dot : Bool) (k : PieceKind) → Matches (rest_of (name dot)) (mark k ∷ []) → ⊥
no_end true k m = differ (sym (matches-nullable (left (rest_of NameDots) (mark k)) (matches-left (rest_of NameDots) (mark k) [] m)) ∙ ends NameDots k)
no_end false k m = differ (sym (matches-nullable (left (rest_of Name) (mark k)) (matches-left (rest_of Name) (mark k) [] m)) ∙ ends Name k)

-- what is left after one more character
one_on : (s : State) (c : ℕ) (w : List ℕ) → Matches (rest_of s) (code (class_of c) ∷ w) → Matches (rest_after (next s (class_of c))) w
one_on s c w m = subst (λ (r : Regular). Matches r w) (follows s (class_of c)) (matches-left (rest_of s) (code (class_of c)) w m)

inside : (cs w : List ℕ) (x y z : Bool) → (leads false cs ≡ false → Matches (rest_of Name) w → ⊥) → (leads true cs ≡ false → Matches (rest_of NameDots) w → ⊥) → (if x then leads false cs else (if y then leads true cs else (z && true))) ≡ false → Matches (rest_after (if x then Some Name else (if y then Some NameDots else (if z then Some Prefix else None)))) w → ⊥
inside cs w true y z f g e m = f e m
inside cs w false true z f g e m = g e m
inside cs w false false true f g e m = differ e
inside cs w false false false f g e m = m

inside_dots : (cs w : List ℕ) (x y z : Bool) → (leads false cs ≡ false → Matches (rest_of Name) w → ⊥) → (leads true cs ≡ false → Matches (rest_of NameDots) w → ⊥) → (if x then leads false cs else (if y then leads true cs else (z && false))) ≡ false → Matches (rest_after (if x then Some Name else (if y then Some NameDots else None))) w → ⊥
inside_dots cs w true y z f g e m = f e m
inside_dots cs w false true z f g e m = g e m
inside_dots cs w false false z f g e m = m

nowhere_from : (cs : List ℕ) (dot : Bool) (m : ℕ) (k : PieceKind) → leads dot cs ≡ false → Matches (rest_of (name dot)) (letters (take m cs) ++ mark k ∷ []) → ⊥
nowhere_from [] dot zero k e t = no_end dot k t
nowhere_from [] dot (suc m) k e t = no_end dot k t
nowhere_from (c ∷ cs) dot zero k e t = no_end dot k t
nowhere_from (c ∷ cs) true (suc m) k e t =
    let w = letters (take m cs) ++ mark k ∷ [] in
    let x = class_of c in
    inside_dots cs w (is_in name_char x) (is_in (Dot ∷ []) x) (is_in (Colon ∷ []) x) (nowhere_from cs false m k) (nowhere_from cs true m k) e (one_on NameDots c w t)
nowhere_from (c ∷ cs) false (suc m) k e t =
    let w = letters (take m cs) ++ mark k ∷ [] in
    let x = class_of c in
    inside cs w (is_in name_char x) (is_in (Dot ∷ []) x) (is_in (Colon ∷ []) x) (nowhere_from cs false m k) (nowhere_from cs true m k) e (one_on Name c w t)

-- with '.' last, a name comes to a colon in fewer cases
pub fewer : (cs : List ℕ) → leads false cs ≡ false → leads true cs ≡ false
fewer [] e = refl
fewer (c ∷ cs) e = pick (is_in name_char (class_of c)) (is_in (Dot ∷ []) (class_of c)) (is_in (Colon ∷ []) (class_of c)) e
  where
    pick : (x y z : Bool) → (if x then leads false cs else (if y then leads true cs else (z && true))) ≡ false → (if x then leads false cs else (if y then leads true cs else (z && false))) ≡ false
    pick true y z e = e
    pick false true z e = e
    pick false false true e = refl
    pick false false false e = refl

drop_take : (cs : List ℕ) (i m : ℕ) → (n : ℕ) × (drop i (take m cs) ≡ take n (drop i cs))
drop_take cs zero m = (m, refl)
drop_take [] (suc i) zero = (0, refl)
drop_take [] (suc i) (suc m) = (0, refl)
drop_take (c ∷ cs) (suc i) zero = (0, refl)
drop_take (c ∷ cs) (suc i) (suc m) = drop_take cs i m

pub nowhere : (cs : List ℕ) (i m : ℕ) (s : State) (k : PieceKind) → i ≤ length cs → IsInName s → leads false (drop i cs) ≡ false → At cs i (Some s) → i < m → IsToken k (take m cs) → ⊥
nowhere cs i m Name k within n e at l t =
    let p = drop_take cs i m in
    nowhere_from (drop i cs) false p.0 k e (subst (λ (w : List ℕ). Matches (rest_of Name) (letters w ++ mark k ∷ [])) p.1 (left_over cs i m (Some Name) k at (omega arith) t))
nowhere cs i m NameDots k within n e at l t =
    let p = drop_take cs i m in
    nowhere_from (drop i cs) true p.0 k (fewer (drop i cs) e) (subst (λ (w : List ℕ). Matches (rest_of NameDots) (letters w ++ mark k ∷ [])) p.1 (left_over cs i m (Some NameDots) k at (omega arith) t))
nowhere cs i m _ k within n e at l t = absurd n
