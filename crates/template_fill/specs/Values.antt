-- A value as a template writes it (RFC 6570, 3.2.1): unreserved characters stay, each other byte is % and two digits.
use Rattle.std.specs.Prelude.{ℕ, ◌/◌, ◌%◌, Bool, true, ◌||◌, ◌==◌, List, [], ◌∷◌, if◌then◌else◌}
use Rattle.std.specs.List.{flat_map}
use Rattle.std.specs.Char.{is_ascii_alphanumeric}
use Rattle.std.specs.Fmt.{digit_glyph}

-- ALPHA / DIGIT / "-" / "." / "_" / "~" (RFC 3986, 2.3)
abbrev pub is_unreserved : ℕ → Bool
is_unreserved b = is_ascii_alphanumeric b || ((b == 45) || ((b == 46) || ((b == 95) || (b == 126))))

abbrev pub encoded_byte : ℕ → List ℕ
encoded_byte b = if is_unreserved b then b ∷ [] else 37 ∷ digit_glyph true (b / 16 % 16) ∷ digit_glyph true (b % 16) ∷ []

unfoldable pub encoded_value : List ℕ → List ℕ
encoded_value bytes = flat_map encoded_byte bytes
