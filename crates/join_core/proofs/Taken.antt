-- A page was taken, or a node was written over: one node stands in the place of another.
use Rattle.std.proofs.Common.{ℕ, ◌≡◌, ◌+◌, ◌<◌, ◌≤◌, Bool, true, false, if◌then◌else◌, nat_lt, List, [], ◌∷◌, ◌++◌, length, get_or, set, Option, Some, None, refl, ap, sym, subst, ◌∙◌, arith, append_assoc, append-nil, length-set, get_or-set_other}
use Rattle.std.specs.Prelude.{option_to_list}
use Rattle.std.specs.List.{remove}
use Rattle.std.specs.List.Sorted.{IsPermutation}
use Rattle.std.proofs.lemmas.List.{get_or_default, set_comm, set-append_left}
use Rattle.std.proofs.lemmas.List.Concat.{flat_map-append}
use Rattle.std.proofs.lemmas.List.Sorted.{IsPermutation-refl, IsPermutation-trans, IsPermutation-sym, IsPermutation-append_left, IsPermutation-append_right, IsPermutation-append_comm, IsPermutation-remove}
use Rattle.list_laws.proofs.Orders.{same, flat_map_IsPermutation}
use borrow.Author.Tests.{ltb-true}
use Rattle.join_core.specs.Nodes.{NodeData}
use Rattle.join_core.specs.Joins.{nodes, Replaces, Stands, IsAt, settled, levels_after}
use Rattle.join_core.proofs.Replacing.{level-replaced, set-IsPermutation, written}

more-in : (levels : List (List NodeData)) (d : ℕ) (made : List NodeData) (b : Bool) → nat_lt d (length levels) ≡ b → d ≤ length levels →
    IsPermutation (nodes (if b then set levels d (get_or levels d [] ++ made) else levels ++ made ∷ [])) (made ++ nodes levels)
more-in levels d made true e h =
    let below : d < length levels = ltb-true d (length levels) e in
    let l = get_or levels d [] in
    let at : l ≡ get_or levels d l = get_or_default levels d [] l below in
    let one = flat_map_IsPermutation (λ x. x) (set levels d (l ++ made)) ((l ++ made) ∷ remove levels d) (set-IsPermutation levels d (l ++ made) below) in
    let two = IsPermutation-append_left (nodes (remove levels d)) (l ++ made) (made ++ l) (IsPermutation-append_comm l made) in
    let three = same ((made ++ l) ++ nodes (remove levels d)) (made ++ (l ++ nodes (remove levels d))) (append_assoc made l (nodes (remove levels d))) in
    let four = IsPermutation-append_right made _ _ (IsPermutation-sym _ _ (flat_map_IsPermutation (λ x. x) levels (l ∷ remove levels d) (IsPermutation-remove levels d l below at))) in
    IsPermutation-trans _ _ _ one (IsPermutation-trans _ _ _ two (IsPermutation-trans _ _ _ three four))
more-in levels d made false e h =
    let one : nodes (levels ++ made ∷ []) ≡ nodes levels ++ (made ++ []) = flat_map-append (λ x. x) levels (made ∷ []) in
    IsPermutation-trans _ _ _ (same _ _ (one ∙ ap (λ l. nodes levels ++ l) (append-nil made))) (IsPermutation-append_comm (nodes levels) made)

pub levels-more : (levels : List (List NodeData)) (d : ℕ) (made : List NodeData) → d ≤ length levels → IsPermutation (nodes (levels_after levels d made)) (made ++ nodes levels)
levels-more levels d made h = more-in levels d made (nat_lt d (length levels)) refl h

if-at : {A B : Type 0} (f : A → B) (b : Bool) (x y : A) (u v : B) → f x ≡ u → f y ≡ v → f (if b then x else y) ≡ (if b then u else v)
if-at f true x y u v h k = h
if-at f false x y u v h k = k

pub levels-set : (levels : List (List NodeData)) (d : ℕ) (made new : List NodeData) → d < length levels → set (levels_after levels (d + 1) made) d new ≡ levels_after (set levels d new) (d + 1) made
levels-set levels d made new h =
    let apart : d + 1 ≡ d → ⊥ = λ e. omega (arith, e) in
    let long : length (set levels d new) ≡ length levels = length-set levels d new in
    let other : get_or (set levels d new) (d + 1) [] ≡ get_or levels (d + 1) [] = get_or-set_other levels d (d + 1) new [] apart in
    let one : set (set levels (d + 1) (get_or levels (d + 1) [] ++ made)) d new ≡ set (set levels d new) (d + 1) (get_or (set levels d new) (d + 1) [] ++ made) =
    set_comm levels (d + 1) d (get_or levels (d + 1) [] ++ made) new apart ∙ ap (λ (l : List NodeData). set (set levels d new) (d + 1) (l ++ made)) (sym other) in
    let two : set (levels ++ made ∷ []) d new ≡ set levels d new ++ made ∷ [] = set-append_left levels (made ∷ []) d new h in
    if-at (λ (ls : List (List NodeData)). set ls d new) (nat_lt (d + 1) (length levels)) _ _ _ _ one two ∙ ap (λ n. if nat_lt (d + 1) n then set (set levels d new) (d + 1) (get_or (set levels d new) (d + 1) [] ++ made) else set levels d new ++ made ∷ []) (sym long)

pub after-is : (l : List NodeData) (i : ℕ) (after : Option NodeData) → i < length l → IsPermutation (settled l i after) (option_to_list after ++ remove l i)
after-is l i None h = IsPermutation-refl (remove l i)
after-is l i (Some n) h = set-IsPermutation l i n h

pub taken-replaces : (old : List (List NodeData)) (d i : ℕ) (n : NodeData) (made : List NodeData) (after : Option NodeData) → Stands old d i → IsAt old d i n →
    Replaces old (set (levels_after old (d + 1) made) d (settled (get_or old d []) i after)) n (made ++ option_to_list after)
taken-replaces old d i n made after stands at =
    let l = get_or old d [] in
    let is : l ≡ get_or old d l = get_or_default old d [] l stands.deep in
    let r = level-replaced old d l (settled l i after) n (option_to_list after) (remove l i) stands.deep is (IsPermutation-remove l i n stands.within at) (after-is l i after stands.within) in
    let whole : set (levels_after old (d + 1) made) d (settled l i after) ≡ levels_after (set old d (settled l i after)) (d + 1) made = levels-set old d made (settled l i after) stands.deep in
    let fits : d + 1 ≤ length (set old d (settled l i after)) = omega (arith, length-set old d (settled l i after), stands.deep) in
    record {
      others = r.others;
      before = r.before;
      after = subst (λ (ls : List (List NodeData)). IsPermutation (nodes ls) ((made ++ option_to_list after) ++ r.others)) (sym whole)
          (IsPermutation-trans _ _ _ (levels-more (set old d (settled l i after)) (d + 1) made fits)
          (IsPermutation-trans _ _ _ (IsPermutation-append_right made _ _ r.after) (same _ _ (sym (append_assoc made (option_to_list after) r.others)))));
    }

-- the node at a place is written over
pub set-replaces : (old : List (List NodeData)) (d i : ℕ) (n new : NodeData) → Stands old d i → IsAt old d i n → Replaces old (set old d (set (get_or old d []) i new)) n (new ∷ [])
set-replaces old d i n new stands at =
    let l = get_or old d [] in
    let is : l ≡ get_or old d l = get_or_default old d [] l stands.deep in
    written old d i l n new stands.deep is stands.within at
