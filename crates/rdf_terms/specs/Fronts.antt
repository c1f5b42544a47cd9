-- Whether one text is a front of the other (serves the comparison of IRIs alone).
use Rattle.std.specs.Prelude.{ℕ, Bool, true, false, ◌&&◌, ◌==◌, List, [], ◌∷◌}

-- the first text is a front of the second, which is longer
abbrev pub is_front : List ℕ → List ℕ → Bool
is_front xs [] = false
is_front [] (y ∷ ys) = true
is_front (x ∷ xs) (y ∷ ys) = (x == y) && is_front xs ys

-- the byte of the second behind a front
abbrev pub byte_behind : List ℕ → List ℕ → ℕ
byte_behind xs [] = 0
byte_behind [] (y ∷ ys) = y
byte_behind (x ∷ xs) (y ∷ ys) = byte_behind xs ys
