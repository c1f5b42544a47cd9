-- The bytes of requests and of the heads of answers (RFC 9112, sections 3, 4 and 5).
use Rattle.std.specs.Prelude.{ℕ, List, [], ◌∷◌, ◌++◌, codes}
use Rattle.std.specs.List.{flat_map}

abbrev pub line_end : List ℕ
line_end = 13 ∷ 10 ∷ []

-- a field line of a name and a value
abbrev pub field_line : List ℕ × List ℕ → List ℕ
field_line field = field.0 ++ codes ": " ++ field.1 ++ line_end

-- a status line: the three digits of the status and its phrase
abbrev pub status_line : List ℕ → List ℕ → List ℕ
status_line digits phrase = codes "HTTP/1.1 " ++ digits ++ codes " " ++ phrase ++ line_end

-- the head of an answer
abbrev pub answer_head : List ℕ → List ℕ → List (List ℕ × List ℕ) → List ℕ
answer_head digits phrase fields = status_line digits phrase ++ flat_map field_line fields ++ line_end

-- the request for a target of an authority
abbrev pub request_text : List ℕ → List ℕ → List ℕ
request_text authority target =
    codes "GET " ++ target ++ codes " HTTP/1.1" ++ line_end
    ++ codes "Host: " ++ authority ++ line_end
    ++ codes "Accept: application/n-quads" ++ line_end
    ++ line_end
