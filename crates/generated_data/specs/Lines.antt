-- The parts of a generated line.
use Rattle.std.specs.Prelude.{ℕ, List, ◌++◌, codes, decimal}

-- a text and a number after it
unfoldable pub numbered : List ℕ → ℕ → List ℕ
numbered before number = before ++ decimal number

-- person i, what stands before another number, that number, and what stands after it
unfoldable pub line_with : ℕ → List ℕ → ℕ → List ℕ → List ℕ
line_with i before number after = numbered (codes "<http://example.org/person/") i ++ (numbered before number ++ after)
