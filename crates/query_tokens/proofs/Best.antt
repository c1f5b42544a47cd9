-- The longest token so far.
use Rattle.std.proofs.Common.{ℕ, MatchOption, ◌≡◌, ◌+◌, ◌<◌, ◌≤◌, ◌⊎◌, inl, inr, false, List, Option, Some, None, refl, sym, subst, take, drop, length, get_or, arith}
use Rattle.std.proofs.lemmas.Bool.{cases_lt}
use Rattle.query_tokens.specs.declared.kind.PieceKind.{PieceKind}
use Rattle.query_tokens.specs.declared.machine.State.{State}
use Rattle.query_tokens.specs.declared.machine.State.TheVariants.{Start}
use Rattle.query_tokens.specs.Classes.{class_of}
use Rattle.query_tokens.specs.Machine.{next, kind_at, better}
use Rattle.query_tokens.specs.Forms.{IsToken, IsLongest, NoToken}
use Rattle.query_tokens.proofs.Follows.{starts}
use Rattle.query_tokens.specs.Names.{leads, IsInName}
use Rattle.query_tokens.proofs.Ends.{At, one_more, ends-token, token-ends, none_longer}
use Rattle.query_tokens.proofs.Dead.{nowhere}

-- of the fronts of at most i characters this is the longest token
pub record Longest (cs : List ℕ) (i : ℕ) (k : PieceKind) (n : ℕ) : Type 0 where
  pub within : n ≤ i
  pub is : IsToken k (take n cs)
  pub longest : (j : PieceKind) (m : ℕ) → m ≤ i → IsToken j (take m cs) → m ≤ n

abbrev pub Best : List ℕ → ℕ → Option (PieceKind × ℕ) → Type 0
Best cs i None = (j : PieceKind) (m : ℕ) → m ≤ i → IsToken j (take m cs) → ⊥
Best cs i (Some p) = Longest cs i p.0 p.1

-- what the loop keeps
pub record Kept (cs : List ℕ) (i : ℕ) (s : State) (best : Option (PieceKind × ℕ)) : Type 0 where
  pub at : At cs i (Some s)
  pub so_far : Best cs i best

pub no_start : (cs : List ℕ) → At cs 0 (Some Start)
no_start cs = record { left_is = sym starts }

pub begins : (cs : List ℕ) → Kept cs 0 Start None
begins cs = record { at = no_start cs; so_far = λ j m h t. none j m h t }
  where
    none : (j : PieceKind) (m : ℕ) → m ≤ 0 → IsToken j (take m cs) → ⊥
    none j m h t =
        let zero_is : m ≡ 0 = omega arith in
        let e : kind_at Start ≡ Some j = token-ends cs 0 Start j (no_start cs) (subst (λ (n : ℕ). IsToken j (take n cs)) zero_is t) in
        differ j e
      where
        differ : (j : PieceKind) → None ≡ Some j → ⊥
        differ j e = cc

stays : (cs : List ℕ) (i : ℕ) (s : State) (best : Option (PieceKind × ℕ)) → At cs (i + 1) (Some s) → kind_at s ≡ None → Best cs i best → Best cs (i + 1) best
stays cs i s None at e b = λ j m h t. pick j m h t (cases_lt i m)
  where
    pick : (j : PieceKind) (m : ℕ) → m ≤ i + 1 → IsToken j (take m cs) → (i < m) ⊎ (m ≤ i) → ⊥
    pick j m h t (inr l) = b j m l t
    pick j m h t (inl l) =
        let same : m ≡ i + 1 = omega arith in
        let there : kind_at s ≡ Some j = token-ends cs (i + 1) s j at (subst (λ (n : ℕ). IsToken j (take n cs)) same t) in
        cc
stays cs i s (Some p) at e b = record { within = let w = b.within in omega arith; is = b.is; longest = λ j m h t. pick j m h t (cases_lt i m) }
  where
    pick : (j : PieceKind) (m : ℕ) → m ≤ i + 1 → IsToken j (take m cs) → (i < m) ⊎ (m ≤ i) → m ≤ p.1
    pick j m h t (inr l) = b.longest j m l t
    pick j m h t (inl l) =
        let same : m ≡ i + 1 = omega arith in
        let there : kind_at s ≡ Some j = token-ends cs (i + 1) s j at (subst (λ (n : ℕ). IsToken j (take n cs)) same t) in
        absurd (differ j there)
      where
        differ : (j : PieceKind) → kind_at s ≡ Some j → ⊥
        differ j x = cc

grown : (cs : List ℕ) (i : ℕ) (s : State) (best : Option (PieceKind × ℕ)) (o : Option PieceKind) → At cs (i + 1) (Some s) → kind_at s ≡ o → Best cs i best → Best cs (i + 1) (better best o (i + 1))
grown cs i s best None at e b = stays cs i s best at e b
grown cs i s best (Some k) at e b = record { within = omega arith; is = ends-token cs (i + 1) s k at e; longest = λ j m h t. h }

pub keeps : (cs : List ℕ) (i : ℕ) (s t : State) (d : ℕ) (best new : Option (PieceKind × ℕ)) → i < length cs → Kept cs i s best → next s (class_of (get_or cs i d)) ≡ Some t → new ≡ better best (kind_at t) (i + 1) → Kept cs (i + 1) t new
keeps cs i s t d best new below kept e n =
    let at = one_more cs i s d (Some t) below kept.at e in
    record { at = at; so_far = subst (Best cs (i + 1)) (sym n) (grown cs i t best (kind_at t) at refl kept.so_far) }

abbrev pub Found : List ℕ → Option (PieceKind × ℕ) → Type 0
Found cs None = NoToken cs
Found cs (Some p) = IsLongest cs p.0 p.1

-- past i no front is a token
over : (cs : List ℕ) (i : ℕ) (best : Option (PieceKind × ℕ)) → i ≤ length cs → ((k : PieceKind) (m : ℕ) → i < m → m ≤ length cs → IsToken k (take m cs) → ⊥) → Best cs i best → Found cs best
over cs i None within past b = λ j m h t. pick j m h t (cases_lt i m)
  where
    pick : (j : PieceKind) (m : ℕ) → m ≤ length cs → IsToken j (take m cs) → (i < m) ⊎ (m ≤ i) → ⊥
    pick j m h t (inr l) = b j m l t
    pick j m h t (inl l) = past j m l h t
over cs i (Some p) within past b = record { within = let w = b.within in omega arith; is = b.is; longest = λ j m h t. pick j m h t (cases_lt i m) }
  where
    pick : (j : PieceKind) (m : ℕ) → m ≤ length cs → IsToken j (take m cs) → (i < m) ⊎ (m ≤ i) → m ≤ p.1
    pick j m h t (inr l) = b.longest j m l t
    pick j m h t (inl l) = absurd (past j m l h t)

pub stopped : (cs : List ℕ) (i : ℕ) (s : State) (d : ℕ) (best : Option (PieceKind × ℕ)) → i < length cs → Kept cs i s best → next s (class_of (get_or cs i d)) ≡ None → Found cs best
stopped cs i s d best below kept e =
    let at = one_more cs i s d None below kept.at e in
    over cs i best (omega arith) (λ k m l h t. none_longer cs (i + 1) m k at (omega arith) t) kept.so_far

pub found_match : (cs : List ℕ) (o : Option (PieceKind × ℕ)) → Found cs o → MatchOption o (NoToken cs) (λ p. IsLongest cs p.0 p.1)
found_match cs None f = f
found_match cs (Some p) f = f

-- where a prefix that is no word goes on to no colon, no longer front is a token
pub dead : (cs : List ℕ) (i : ℕ) (s : State) (best : Option (PieceKind × ℕ)) → i ≤ length cs → IsInName s → leads false (drop i cs) ≡ false → Kept cs i s best → Found cs best
dead cs i s best within name none kept = over cs i best within (λ k m l h t. nowhere cs i m s k within name none kept.at l t) kept.so_far
