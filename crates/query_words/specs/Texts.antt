-- The texts inside the tokens of a query.
use Rattle.std.specs.Prelude.{ℕ, ◌+◌, ◌-◌, Bool, not, ◌==◌, List, [], ◌∷◌, map, take, drop, length, filter, suc, if◌then◌else◌}
use Rattle.std.specs.Char.{to_ascii_lowercase}
use Rattle.std.specs.Str.{bytes_eq, encode_utf8_all}
use Rattle.query_tokens.specs.Escapes.{resolved}

-- the text is this word, in any case; the word is in lower case
unfoldable pub same_word : List ℕ → List ℕ → Bool
same_word word text = bytes_eq (map to_ascii_lowercase text) word

-- without the first and the last character
abbrev pub inside : List ℕ → List ℕ
inside cs = take (length cs - 2) (drop 1 cs)

-- how many characters stand before the first ':'
abbrev pub colon : List ℕ → ℕ
colon [] = 0
colon (c ∷ cs) = if c == 58 then 0 else suc (colon cs)

-- without backslashes: each escape of a local part stands for its second character
abbrev pub unescaped : List ℕ → List ℕ
unescaped cs = filter (λ c. not (c == 92)) cs

-- the text of an IRI or a string, its escapes resolved, as bytes of UTF-8
abbrev pub resolved_text : List ℕ → List ℕ
resolved_text cs = encode_utf8_all (resolved (inside cs))

-- the name of a prefix, as bytes
abbrev pub prefix_text : List ℕ → List ℕ
prefix_text cs = encode_utf8_all (take (colon cs) cs)

-- the local part of a prefixed name, as bytes
abbrev pub local_text : List ℕ → List ℕ
local_text cs = encode_utf8_all (unescaped (drop (colon cs + 1) cs))
