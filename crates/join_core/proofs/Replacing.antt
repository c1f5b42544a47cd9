-- Replacing a node among the nodes.
use Rattle.std.proofs.Common.{ℕ, suc, ◌≡◌, ◌<◌, List, [], ◌∷◌, ◌++◌, length, get_or, take, drop, set, sym, subst, append_assoc}
use Rattle.std.specs.List.{flat_map, remove, All}
use Rattle.std.specs.List.Sorted.{IsPermutation}
use Rattle.std.proofs.lemmas.List.{set_split}
use Rattle.std.proofs.lemmas.List.Concat.{flat_map-append}
use Rattle.std.proofs.lemmas.List.Elements.{All-head, All-tail, All-append}
use Rattle.std.proofs.lemmas.List.Sorted.{IsPermutation-trans, IsPermutation-sym, IsPermutation-append_left, IsPermutation-append_right, IsPermutation-remove, IsPermutation-middle, All-permutation}
use Rattle.list_laws.proofs.Orders.{same, flat_map_IsPermutation}
use Rattle.join_core.specs.Nodes.{NodeData, node}
use Rattle.join_core.specs.Joins.{nodes, Replaces}

pub set-IsPermutation : {X : Type 0} (xs : List X) (i : ℕ) (y : X) → i < length xs → IsPermutation (set xs i y) (y ∷ remove xs i)
set-IsPermutation xs i y h = subst (λ l. IsPermutation l (y ∷ remove xs i)) (sym (set_split xs i y h)) (IsPermutation-middle (take i xs) y (drop (suc i) xs))

-- what a multiset of the nodes was and is
pub before-after : {A : Type 0} (f : NodeData → List A) (old new : List (List NodeData)) (node : NodeData) (made : List NodeData) (extra : List A) → Replaces old new node made → IsPermutation (f node) (extra ++ flat_map f made) → IsPermutation (flat_map f (nodes old)) (extra ++ flat_map f (nodes new))
before-after f old new node made extra r h =
    let one = flat_map_IsPermutation f (nodes old) (node ∷ r.others) r.before in
    let two = IsPermutation-append_left (flat_map f r.others) (f node) (extra ++ flat_map f made) h in
    let three = same ((extra ++ flat_map f made) ++ flat_map f r.others) (extra ++ (flat_map f made ++ flat_map f r.others)) (append_assoc extra (flat_map f made) (flat_map f r.others)) in
    let four = same (flat_map f made ++ flat_map f r.others) (flat_map f (made ++ r.others)) (sym (flat_map-append f made r.others)) in
    let five = IsPermutation-sym _ _ (flat_map_IsPermutation f (nodes new) (made ++ r.others) r.after) in
    IsPermutation-trans _ _ _ one (IsPermutation-trans _ _ _ two (IsPermutation-trans _ _ _ three (IsPermutation-append_right extra _ _ (IsPermutation-trans _ _ _ four five))))

pub all-after : (P : NodeData → Type 0) (old new : List (List NodeData)) (node : NodeData) (made : List NodeData) → Replaces old new node made → All P (nodes old) → All P made → All P (nodes new)
all-after P old new node made r all more = All-permutation P (made ++ r.others) (nodes new) (IsPermutation-sym _ _ r.after) (All-append P made r.others more (All-tail P node r.others (All-permutation P (nodes old) (node ∷ r.others) r.before all)))

pub holds-before : (P : NodeData → Type 0) (old new : List (List NodeData)) (node : NodeData) (made : List NodeData) → Replaces old new node made → All P (nodes old) → P node
holds-before P old new node made r all = All-head P node r.others (All-permutation P (nodes old) (node ∷ r.others) r.before all)

pub level-replaced : (levels : List (List NodeData)) (d : ℕ) (l new : List NodeData) (n : NodeData) (made rest : List NodeData) → d < length levels → l ≡ get_or levels d l → IsPermutation l (n ∷ rest) → IsPermutation new (made ++ rest) → Replaces levels (set levels d new) n made
level-replaced levels d l new n made rest h e before after =
    let others = nodes (remove levels d) in
    record {
      others = rest ++ others;
      before = IsPermutation-trans _ _ _ (flat_map_IsPermutation (λ x. x) levels (l ∷ remove levels d) (IsPermutation-remove levels d l h e)) (IsPermutation-append_left others l (n ∷ rest) before);
      after = IsPermutation-trans _ _ _ (flat_map_IsPermutation (λ x. x) (set levels d new) (new ∷ remove levels d) (set-IsPermutation levels d new h)) (IsPermutation-trans _ _ _ (IsPermutation-append_left others new (made ++ rest) after) (same _ _ (append_assoc made rest others)));
    }

-- the node at a place is written over
pub written : (levels : List (List NodeData)) (d i : ℕ) (l : List NodeData) (n new : NodeData) → d < length levels → l ≡ get_or levels d l → i < length l → n ≡ get_or l i n → Replaces levels (set levels d (set l i new)) n (new ∷ [])
written levels d i l n new h e g k = level-replaced levels d l (set l i new) n (new ∷ []) (remove l i) h e (IsPermutation-remove l i n g k) (set-IsPermutation l i new g)
