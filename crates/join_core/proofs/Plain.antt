-- The levels, and the lists of nodes that they stand for.
use Rattle.std.proofs.Common.{ℕ, zero, suc, ◌≡◌, ◌+◌, ◌<◌, nat_lt, Bool, true, false, if◌then◌else◌, List, [], ◌∷◌, ◌++◌, length, map, get_or, set, take, Option, Some, refl, ap, sym, subst, ◌∙◌, arith, append_assoc}
use Rattle.std.specs.List.{All, flat_map}
use Rattle.std.specs.Map.{lookup, values_of}
use Rattle.std.proofs.lemmas.List.{get_or_default, get_or_append_left, get_or-set_same, set-set, take_at}
use Rattle.std.proofs.lemmas.List.Elements.{All-nil}
use Rattle.std.proofs.lemmas.Bool.Decides.{nat_tests}
use Rattle.std.proofs.lemmas.Bool.{cond-true, cond-false}
use Rattle.bgp_core.specs.Solutions.{Places}
use Rattle.join_core.specs.Nodes.{NodeData}
use Rattle.join_core.specs.Joins.{nodes, Stands, IsAt, level_at, settled, levels_after}
use Rattle.join_core.specs.Levels.{Seed, seed_node, LevelData, level, nodes_of, plain, level_of, is_key, spot, found_at, index_at, made_levels, with_node_in, TakesMade}
use Rattle.join_core.proofs.Kept.{nodes-found}
use Rattle.join_core.proofs.Lists.{front}

pub plain-level : (ls : List LevelData) (d : ℕ) → level_at (plain ls) d ≡ nodes_of (level_of ls d)
plain-level [] d = refl
plain-level (l ∷ ls) zero = refl
plain-level (l ∷ ls) (suc d) = plain-level ls d

pub plain-set : (ls : List LevelData) (d : ℕ) (l : LevelData) → plain (set ls d l) ≡ set (plain ls) d (nodes_of l)
plain-set [] d l = refl
plain-set (x ∷ ls) zero l = refl
plain-set (x ∷ ls) (suc d) l = ap (λ (xs : List (List NodeData)). nodes_of x ∷ xs) (plain-set ls d l)

pub plain-long : (ls : List LevelData) → length (plain ls) ≡ length ls
plain-long [] = refl
plain-long (l ∷ ls) = ap suc (plain-long ls)

pub plain-push : (ls : List LevelData) (l : LevelData) → plain (ls ++ l ∷ []) ≡ plain ls ++ nodes_of l ∷ []
plain-push [] l = refl
plain-push (x ∷ ls) l = ap (λ (xs : List (List NodeData)). nodes_of x ∷ xs) (plain-push ls l)

-- the level that was looked up
pub level-is : (ls : List LevelData) (d : ℕ) (l : LevelData) → d < length ls → l ≡ get_or ls d l → level_of ls d ≡ l
level-is ls d l h e = get_or_default ls d (level [] []) l h ∙ sym e

pub nodes-is : (ls : List LevelData) (d : ℕ) (l : LevelData) → d < length ls → l ≡ get_or ls d l → level_at (plain ls) d ≡ nodes_of l
nodes-is ls d l h e = plain-level ls d ∙ ap nodes_of (level-is ls d l h e)

-- the list of nodes that was looked up
pub level-of-plain : (ls : List LevelData) (d : ℕ) (l : LevelData) → d < length ls → l ≡ get_or ls d l → nodes_of l ≡ get_or (plain ls) d (nodes_of l)
level-of-plain ls d l h e = sym (nodes-is ls d l h e) ∙ get_or_default (plain ls) d [] (nodes_of l) (subst (λ (n : ℕ). d < n) (sym (plain-long ls)) h)

pub place-stands : (ls : List LevelData) (d k : ℕ) (n : NodeData) → d < length ls → found_at ls d k ≡ Some n → Stands (plain ls) d (index_at ls d k) × IsAt (plain ls) d (index_at ls d k) n
place-stands ls d k n h e =
    let f = nodes-found (level_of ls d) k n e in (
      record {
        deep = subst (λ (m : ℕ). d < m) (sym (plain-long ls)) h;
        within = subst (λ (l : List NodeData). index_at ls d k < length l) (sym (plain-level ls d)) f.0;
      },
      f.1 ∙ ap (λ (l : List NodeData). get_or l (index_at ls d k) n) (sym (plain-level ls d)),
    )

-- one level is another one
pub node-set : (ls : List LevelData) (d i : ℕ) (l l' : LevelData) (n : NodeData) → d < length ls → l ≡ get_or ls d l → nodes_of l' ≡ set (nodes_of l) i n → plain (set ls d l') ≡ with_node_in (plain ls) d i n
node-set ls d i l l' n h at e = plain-set ls d l' ∙ ap (λ (x : List NodeData). set (plain ls) d x) (e ∙ ap (λ (x : List NodeData). set x i n) (sym (nodes-is ls d l h at)))

set-get : {X : Type 0} (l : List X) (i : ℕ) (x : X) → i < length l → x ≡ get_or l i x → set l i x ≡ l
set-get [] i x h e = refl
set-get (z ∷ zs) zero x h e = ap (λ (y : _). y ∷ zs) e
set-get (z ∷ zs) (suc i) x h e = ap (λ (l : List _). z ∷ l) (set-get zs i x (omega arith) e)

-- the nodes of one level are as they were
pub same-set : (ls : List LevelData) (d : ℕ) (l l' : LevelData) → d < length ls → l ≡ get_or ls d l → nodes_of l' ≡ nodes_of l → plain (set ls d l') ≡ plain ls
same-set ls d l l' h at e =
    let long : d < length (plain ls) = subst (λ (n : ℕ). d < n) (sym (plain-long ls)) h in
    plain-set ls d l' ∙ ap (λ (x : List NodeData). set (plain ls) d x) e ∙ set-get (plain ls) d (nodes_of l) long (level-of-plain ls d l h at)

-- ---- what was opened

seeds-append : (a b : List Seed) → map seed_node (a ++ b) ≡ map seed_node a ++ map seed_node b
seeds-append [] b = refl
seeds-append (s ∷ a) b = ap (λ (l : List NodeData). seed_node s ∷ l) (seeds-append a b)

pub more-nodes : (l : LevelData) (more : List Seed) → nodes_of (level l.started (l.unstarted ++ more)) ≡ nodes_of l ++ map seed_node more
more-nodes l more = ap (λ (x : List NodeData). values_of l.started ++ x) (seeds-append l.unstarted more) ∙ sym (append_assoc (values_of l.started) (map seed_node l.unstarted) (map seed_node more))

is-below : (a b : ℕ) → a < b → nat_lt a b ≡ true
is-below a b h = grind (arith, nat_tests)

not-below : (a b : ℕ) → a ≡ b → nat_lt a b ≡ false
not-below a b h = grind (arith, nat_tests)

get-set-other : {X : Type 0} (l : List X) (i j : ℕ) (x d : X) → (j ≡ i → ⊥) → get_or (set l i x) j d ≡ get_or l j d
get-set-other [] i j x d h = refl
get-set-other (z ∷ zs) zero zero x d h = absurd (h refl)
get-set-other (z ∷ zs) zero (suc j) x d h = refl
get-set-other (z ∷ zs) (suc i) zero x d h = refl
get-set-other (z ∷ zs) (suc i) (suc j) x d h = get-set-other zs i j x d (λ e. h (ap suc e))

pub made-above : (ls : List LevelData) (d i : ℕ) (b l l' : LevelData) (more : List Seed) (after : Option NodeData) → d + 1 < length ls → b ≡ get_or ls (d + 1) b → l ≡ get_or (set ls (d + 1) (level b.started (b.unstarted ++ more))) d l → nodes_of l' ≡ settled (nodes_of l) i after
    → plain (set (set ls (d + 1) (level b.started (b.unstarted ++ more))) d l') ≡ made_levels (plain ls) d i (map seed_node more) after
made-above ls d i b l l' more after h at here e =
    let b' = level b.started (b.unstarted ++ more) in
    let apart : d ≡ d + 1 → ⊥ = λ q. omega (arith, q) in
    let deep : d < length ls = omega arith in
    let at' : l ≡ get_or ls d l = here ∙ get-set-other ls (d + 1) d b' l apart in
    let below : nodes_of b' ≡ level_at (plain ls) (d + 1) ++ map seed_node more = more-nodes b more ∙ ap (λ (x : List NodeData). x ++ map seed_node more) (sym (nodes-is ls (d + 1) b h at)) in
    let one : plain (set ls (d + 1) b') ≡ levels_after (plain ls) (d + 1) (map seed_node more) =
    plain-set ls (d + 1) b' ∙ ap (λ (x : List NodeData). set (plain ls) (d + 1) x) below ∙ sym (cond-true (nat_lt (d + 1) (length (plain ls))) _ _ (is-below (d + 1) (length (plain ls)) (omega (arith, h, plain-long ls)))) in
    plain-set (set ls (d + 1) b') d l' ∙ ap (λ (x : List (List NodeData)). set x d (nodes_of l')) one ∙ ap (λ (x : List NodeData). set (levels_after (plain ls) (d + 1) (map seed_node more)) d x) (e ∙ ap (λ (x : List NodeData). settled x i after) (sym (nodes-is ls d l deep at')))

pub made-deepest : (ls : List LevelData) (d i : ℕ) (l l' : LevelData) (more : List Seed) (after : Option NodeData) → d + 1 ≡ length ls → l ≡ get_or (ls ++ level [] more ∷ []) d l → nodes_of l' ≡ settled (nodes_of l) i after
    → plain (set (ls ++ level [] more ∷ []) d l') ≡ made_levels (plain ls) d i (map seed_node more) after
made-deepest ls d i l l' more after h here e =
    let deep : d < length ls = omega arith in
    let at : l ≡ get_or ls d l = here ∙ get_or_append_left ls (level [] more ∷ []) l d deep in
    let one : plain (ls ++ level [] more ∷ []) ≡ levels_after (plain ls) (d + 1) (map seed_node more) =
    plain-push ls (level [] more) ∙ sym (cond-false (nat_lt (d + 1) (length (plain ls))) _ _ (not-below (d + 1) (length (plain ls)) (h ∙ sym (plain-long ls)))) in
    plain-set (ls ++ level [] more ∷ []) d l' ∙ ap (λ (x : List (List NodeData)). set x d (nodes_of l')) one ∙ ap (λ (x : List NodeData). set (levels_after (plain ls) (d + 1) (map seed_node more)) d x) (e ∙ ap (λ (x : List NodeData). settled x i after) (sym (nodes-is ls d l deep at)))

-- what was added is taken back

pub back-again : (ls : List LevelData) (d : ℕ) (b c l l' : LevelData) (more : List Seed) → d + 1 < length ls → b ≡ get_or ls (d + 1) b → l ≡ get_or (set ls (d + 1) (level b.started (b.unstarted ++ more))) d l → l' ≡ l
    → c ≡ get_or (set (set ls (d + 1) (level b.started (b.unstarted ++ more))) d l') (d + 1) c
    → plain (set (set (set ls (d + 1) (level b.started (b.unstarted ++ more))) d l') (d + 1) (level c.started (take (length b.unstarted) c.unstarted))) ≡ plain ls
back-again ls d b c l l' more h at here same there =
    let b' = level b.started (b.unstarted ++ more) in
    let ms = set ls (d + 1) b' in
    let long : length ms ≡ length ls = set-long ls (d + 1) b' in
    let deep : d < length ms = omega arith in
    let one : set ms d l' ≡ ms = ap (λ (x : LevelData). set ms d x) same ∙ set-get ms d l deep here in
    let c-is : c ≡ b' = there ∙ ap (λ (x : List LevelData). get_or x (d + 1) c) one ∙ get_or-set_same ls (d + 1) b' c h in
    let two : level c.started (take (length b.unstarted) c.unstarted) ≡ b =
    ap (λ (x : LevelData). level x.started (take (length b.unstarted) x.unstarted)) c-is ∙ ap (λ (u : List Seed). level b.started u) (take_at b.unstarted more (length b.unstarted) refl) in
    ap (λ (x : List LevelData). plain (set x (d + 1) (level c.started (take (length b.unstarted) c.unstarted)))) one ∙ ap (λ (x : LevelData). plain (set ms (d + 1) x)) two ∙ ap (λ (x : List LevelData). plain x) (set-set ls (d + 1) b' b ∙ set-get ls (d + 1) b h at) where
      set-long : (xs : List LevelData) (j : ℕ) (z : LevelData) → length (set xs j z) ≡ length xs
      set-long [] j z = refl
      set-long (x ∷ xs) zero z = refl
      set-long (x ∷ xs) (suc j) z = ap suc (set-long xs j z)

-- ---- the tickets of a node that is found

below-step : (P : ℕ → Type 0) (f : NodeData → List ℕ) (k : ℕ) (x : ℕ × NodeData) (es : List (ℕ × NodeData)) (n : NodeData) (b : Bool) → ◌≡◌ {A = Option NodeData} (if b then Some x.1 else lookup (is_key k) es) (Some n) → All P (f x.1) → (lookup (is_key k) es ≡ Some n → All P (f n)) → All P (f n)
below-step P f k x es n true e a more = let at : x.1 ≡ n = cc in subst (λ (m : NodeData). All P (f m)) at a
below-step P f k x es n false e a more = more e

found-all : (P : ℕ → Type 0) (f : NodeData → List ℕ) (k : ℕ) (es : List (ℕ × NodeData)) (n : NodeData) → lookup (is_key k) es ≡ Some n → All P (flat_map f (values_of es)) → All P (f n)
found-all P f k [] n e a = cc
found-all P f k (x ∷ es) n e a =
    let parts = front P (f x.1) (flat_map f (values_of es)) a in
    below-step P f k x es n (is_key k x.0) e parts.0 (λ h. found-all P f k es n h parts.1)

flat-append : (f : NodeData → List ℕ) (xs ys : List NodeData) → flat_map f (xs ++ ys) ≡ flat_map f xs ++ flat_map f ys
flat-append f [] ys = refl
flat-append f (x ∷ xs) ys = ap (λ (l : List ℕ). f x ++ l) (flat-append f xs ys) ∙ sym (append_assoc (f x) (flat_map f xs) (flat_map f ys))

level-all : (P : ℕ → Type 0) (f : NodeData → List ℕ) (ls : List LevelData) (d : ℕ) → All P (flat_map f (nodes (plain ls))) → All P (flat_map f (nodes_of (level_of ls d)))
level-all P f [] d a = All-nil P
level-all P f (l ∷ ls) zero a = (front P (flat_map f (nodes_of l)) (flat_map f (nodes (plain ls))) (subst (All P) (flat-append f (nodes_of l) (nodes (plain ls))) a)).0
level-all P f (l ∷ ls) (suc d) a = level-all P f ls d (front P (flat_map f (nodes_of l)) (flat_map f (nodes (plain ls))) (subst (All P) (flat-append f (nodes_of l) (nodes (plain ls))) a)).1

-- what is so of all tickets is so of those of a node that is found
pub found-tickets : (P : ℕ → Type 0) (f : NodeData → List ℕ) (ls : List LevelData) (d k : ℕ) (n : NodeData) → found_at ls d k ≡ Some n → All P (flat_map f (nodes (plain ls))) → All P (f n)
found-tickets P f ls d k n e a =
    let l = level_of ls d in
    found-all P f k l.started n e (front P (flat_map f (values_of l.started)) (flat_map f (map seed_node l.unstarted)) (subst (All P) (flat-append f (values_of l.started) (map seed_node l.unstarted)) (level-all P f ls d a))).0

-- ---- the same, as the calls have it

pub set-level : (ls : List LevelData) (d : ℕ) (x : LevelData) → d < length ls → level_of (set ls d x) d ≡ x
set-level ls d x h = get_or-set_same ls d x (level [] []) h

pub asked-level : (ls : List LevelData) (d k : ℕ) (l l' : LevelData) (n : NodeData) → d < length ls → l ≡ get_or ls d l → nodes_of l' ≡ set (nodes_of l) (spot k l.started) n → plain (set ls d l') ≡ with_node_in (plain ls) d (index_at ls d k) n
asked-level ls d k l l' n h at e =
    node-set ls d (spot k l.started) l l' n h at e ∙ ap (λ (y : LevelData). with_node_in (plain ls) d (spot k y.started) n) (sym (level-is ls d l h at))

-- the node that is found, in the level that was looked up
pub found-level : (ls : List LevelData) (d k : ℕ) (l : LevelData) (n : NodeData) → d < length ls → l ≡ get_or ls d l → found_at ls d k ≡ Some n → lookup (is_key k) l.started ≡ Some n
found-level ls d k l n h at e = subst (λ (y : LevelData). lookup (is_key k) y.started ≡ Some n) (level-is ls d l h at) e

pub settled-above : (ls : List LevelData) (d k : ℕ) (b b' l l' : LevelData) (more : List Seed) (after : Option NodeData) → d + 1 < length ls → b ≡ get_or ls (d + 1) b → b' ≡ level b.started (b.unstarted ++ more) → l ≡ get_or (set ls (d + 1) b') d l → nodes_of l' ≡ settled (nodes_of l) (spot k l.started) after
    → plain (set (set ls (d + 1) b') d l') ≡ made_levels (plain ls) d (index_at ls d k) (map seed_node more) after
settled-above ls d k b b' l l' more after h at eb here e =
    let there : l ≡ get_or (set ls (d + 1) (level b.started (b.unstarted ++ more))) d l = here ∙ ap (λ (x : LevelData). get_or (set ls (d + 1) x) d l) eb in
    let deep : d < length ls = omega arith in
    let at' : l ≡ get_or ls d l = here ∙ get-set-other ls (d + 1) d b' l (λ q. omega (arith, q)) in
    ap (λ (x : LevelData). plain (set (set ls (d + 1) x) d l')) eb ∙ made-above ls d (spot k l.started) b l l' more after h at there e
    ∙ ap (λ (y : LevelData). made_levels (plain ls) d (spot k y.started) (map seed_node more) after) (sym (level-is ls d l deep at'))

pub settled-deepest : (ls ms : List LevelData) (d k : ℕ) (x l l' : LevelData) (more : List Seed) (after : Option NodeData) → d + 1 ≡ length ls → ms ≡ ls ++ x ∷ [] → x ≡ level [] more → l ≡ get_or ms d l → nodes_of l' ≡ settled (nodes_of l) (spot k l.started) after
    → plain (set ms d l') ≡ made_levels (plain ls) d (index_at ls d k) (map seed_node more) after
settled-deepest ls ms d k x l l' more after h em ex here e =
    let whole : ms ≡ ls ++ level [] more ∷ [] = em ∙ ap (λ (y : LevelData). ls ++ y ∷ []) ex in
    let there : l ≡ get_or (ls ++ level [] more ∷ []) d l = here ∙ ap (λ (y : List LevelData). get_or y d l) whole in
    let deep : d < length ls = omega arith in
    let at' : l ≡ get_or ls d l = there ∙ get_or_append_left ls (level [] more ∷ []) l d deep in
    ap (λ (y : List LevelData). plain (set y d l')) whole ∙ made-deepest ls d (spot k l.started) l l' more after h there e
    ∙ ap (λ (y : LevelData). made_levels (plain ls) d (spot k y.started) (map seed_node more) after) (sym (level-is ls d l deep at'))

pub settled-back : (ls : List LevelData) (d below : ℕ) (a b b' l l' z z' : LevelData) (more : List Seed) → d + 1 < length ls → a ≡ get_or ls (d + 1) a → below ≡ length a.unstarted → b ≡ get_or ls (d + 1) b → b' ≡ level b.started (b.unstarted ++ more) → l ≡ get_or (set ls (d + 1) b') d l → l' ≡ l
    → z ≡ get_or (set (set ls (d + 1) b') d l') (d + 1) z → z' ≡ level z.started (take below z.unstarted) → plain (set (set (set ls (d + 1) b') d l') (d + 1) z') ≡ plain ls
settled-back ls d below a b b' l l' z z' more h ata eu at eb here same there ez =
    let b'' = level b.started (b.unstarted ++ more) in
    let same-level : a ≡ b = ata ∙ get_or_default ls (d + 1) a b h ∙ sym at in
    let count : below ≡ length b.unstarted = eu ∙ ap (λ (y : LevelData). length y.unstarted) same-level in
    let here' : l ≡ get_or (set ls (d + 1) b'') d l = here ∙ ap (λ (x : LevelData). get_or (set ls (d + 1) x) d l) eb in
    let there' : z ≡ get_or (set (set ls (d + 1) b'') d l') (d + 1) z = there ∙ ap (λ (x : LevelData). get_or (set (set ls (d + 1) x) d l') (d + 1) z) eb in
    ap (λ (x : LevelData). plain (set (set (set ls (d + 1) x) d l') (d + 1) z')) eb ∙ ap (λ (x : LevelData). plain (set (set (set ls (d + 1) b'') d l') (d + 1) x)) (ez ∙ ap (λ (n : ℕ). level z.started (take n z.unstarted)) count)
    ∙ back-again ls d b z l l' more h at here' same there'

-- what was taken is the same, whatever it is written as
pub takes-as : (old new : List (List NodeData)) (rows more : List Places) (d i : ℕ) (m n : List NodeData) (p q : List Places) (a b : Option NodeData) → m ≡ n → p ≡ q → a ≡ b → TakesMade old rows new more d i m p a → TakesMade old rows new more d i n q b
takes-as old new rows more d i m n p q a b e f g t = record {
  levels = t.levels ∙ (ap (λ (x : List NodeData). made_levels old d i x a) e ∙ ap (λ (x : Option NodeData). made_levels old d i n x) g);
  waiting = t.waiting ∙ ap (λ (x : List Places). rows ++ x) f;
}
