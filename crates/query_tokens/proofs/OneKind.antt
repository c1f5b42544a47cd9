-- No text is a token of two kinds.
use Rattle.std.proofs.Common.{ℕ, ◌≡◌, List, [], ◌∷◌, Option, Some, None, refl, sym, ap, subst, ◌∙◌, take, length, arith}
use Rattle.std.proofs.lemmas.List.{take_all}
use Rattle.regular_expressions.specs.Regular.{Regular, nothing, lefts}
use Rattle.query_tokens.specs.declared.kind.PieceKind.{PieceKind}
use Rattle.query_tokens.specs.declared.machine.State.{State}
use Rattle.query_tokens.specs.declared.machine.State.TheVariants.{Start}
use Rattle.query_tokens.specs.Classes.{class_of}
use Rattle.query_tokens.specs.Machine.{next, kind_at}
use Rattle.query_tokens.specs.Forms.{letters, IsToken}
use Rattle.query_tokens.proofs.Follows.{token, rest_after, follows, starts}
use Rattle.query_tokens.proofs.Ends.{At, token-ends, none_longer}

run : Option State → List ℕ → Option State
run o [] = o
run None (c ∷ cs) = None
run (Some s) (c ∷ cs) = run (next s (class_of c)) cs

nothing_left : (w : List ℕ) → lefts nothing w ≡ nothing
nothing_left [] = refl
nothing_left (k ∷ w) = nothing_left w

runs : (cs : List ℕ) (o : Option State) → lefts (rest_after o) (letters cs) ≡ rest_after (run o cs)
unfolding run
runs [] o = refl
runs (c ∷ cs) None = nothing_left (letters cs)
runs (c ∷ cs) (Some s) = ap (λ (r : Regular). lefts r (letters cs)) (follows s (class_of c)) ∙ runs cs (next s (class_of c))

whole : (cs : List ℕ) → At cs (length cs) (run (Some Start) cs)
whole cs = record { left_is = ap (λ (l : List ℕ). lefts token (letters l)) (take_all (length cs) cs (omega arith)) ∙ ap (λ (r : Regular). lefts r (letters cs)) (sym starts) ∙ runs cs (Some Start) }

pub one_kind : (cs : List ℕ) (j k : PieceKind) → IsToken j cs → IsToken k cs → j ≡ k
one_kind cs j k a b = pick (run (Some Start) cs) (whole cs)
  where
    all : take (length cs) cs ≡ cs
    all = take_all (length cs) cs (omega arith)

    again : (i : PieceKind) → IsToken i cs → IsToken i (take (length cs) cs)
    again i t = subst (λ (l : List ℕ). IsToken i l) (sym all) t

    pick : (o : Option State) → At cs (length cs) o → j ≡ k
    pick None at = absurd (none_longer cs (length cs) (length cs) j at (omega arith) (again j a))
    pick (Some s) at =
        let x : kind_at s ≡ Some j = token-ends cs (length cs) s j at (again j a) in
        let y : kind_at s ≡ Some k = token-ends cs (length cs) s k at (again k b) in
        cc
