-- Places in values, and targets that are text.
use Rattle.std.proofs.Common.{◌≡◌, ℕ, ◌<◌, ◌≤◌, ◌==◌, Bool, true, false, List, [], ◌∷◌, length, drop, refl, arith}
use Rattle.std.specs.Str.{IsAscii}
use Rattle.std.proofs.lemmas.Str.{IsUtf8-from_ascii}
use Rattle.std.specs.Prelude.{◌||◌}
use Rattle.std.specs.List.{position_or_len}
use Rattle.std.proofs.lemmas.Grind.{common_steps}
use Rattle.tpf_base.specs.HttpHeads.{are_visible, from_path, is_target}
use Rattle.std.specs.Prelude.{◌&&◌, nat_le, not, if◌then◌else◌}
use Rattle.std.proofs.Common.{suc, zero}
use Rattle.list_laws.proofs.Tests.{and_first, and_second}

pub place_within : (test : ℕ → Bool) (xs : List ℕ) → position_or_len test xs ≤ length xs
place_within test [] = omega arith
place_within test (x ∷ xs) = grind (arith, common_steps, place_within test xs)

-- ASCII bytes are text
pub ruleset ascii_text = (IsUtf8-from_ascii)

visible_byte : (b : ℕ) → (nat_le 33 b && (nat_le b 126 && not (b == 35))) ≡ true → b < 128
visible_byte b h = grind (arith, common_steps)

visible_ascii : (bs : List ℕ) → are_visible bs ≡ true → IsAscii bs
unfolding are_visible
visible_ascii [] h i = grind (arith, common_steps)
visible_ascii (b ∷ bs) h zero = visible_byte b (and_first _ _ h)
visible_ascii (b ∷ bs) h (suc i) = visible_ascii bs (and_second _ _ h) i

visible_drop : (n : ℕ) (bs : List ℕ) → are_visible bs ≡ true → are_visible (drop n bs) ≡ true
unfolding are_visible
visible_drop zero bs h = h
visible_drop (suc n) [] h = refl
visible_drop (suc n) (b ∷ bs) h = visible_drop n bs (and_second _ _ h)

visible_path : (bs : List ℕ) → are_visible bs ≡ true → are_visible (from_path bs) ≡ true
unfolding are_visible from_path
visible_path [] h = refl
visible_path (b ∷ bs) h = path_case (b == 47 || b == 63) (visible_path bs (and_second _ _ h))
  where
    path_case : (v : Bool) → are_visible (from_path bs) ≡ true → are_visible (if v then b ∷ bs else from_path bs) ≡ true
    path_case true rest = h
    path_case false rest = rest

target_visible : (target : List ℕ) → is_target target ≡ true → are_visible target ≡ true
unfolding is_target
target_visible target h = and_first _ _ h

pub target_is_ascii : (target : List ℕ) → is_target target ≡ true → IsAscii target
target_is_ascii target h = visible_ascii target (target_visible target h)

pub path_is_ascii : (target : List ℕ) → is_target target ≡ true → IsAscii (from_path (drop 7 target))
path_is_ascii target h = visible_ascii _ (visible_path _ (visible_drop 7 target (target_visible target h)))
