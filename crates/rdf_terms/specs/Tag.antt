-- Language tags (RDF 1.1 N-Quads, LANGTAG after its `@`), and the form in lower case that a term keeps (RDF 1.1 Concepts 3.3).
use Rattle.std.specs.Prelude.{ℕ, Bool, true, false, not, ◌==◌, ◌&&◌, ◌||◌, List, [], ◌∷◌, map, if◌then◌else◌}
use Rattle.std.specs.List.{list_all}
use Rattle.std.specs.Char.{to_ascii_lowercase}
use Rattle.rdf_terms.specs.Iri.{is_between, is_letter, is_digit}

abbrev pub is_letter_or_digit : ℕ → Bool
is_letter_or_digit b = is_letter b || is_digit b

-- b in front of the first and the later groups, where a hyphen begins a new group
abbrev pub put_first : Bool → ℕ → List ℕ × List (List ℕ) → List ℕ × List (List ℕ)
put_first true b p = ([], p.0 ∷ p.1)
put_first false b p = (b ∷ p.0, p.1)

-- the group before the first hyphen, and the groups after each hyphen
abbrev pub groups : List ℕ → List ℕ × List (List ℕ)
groups [] = ([], [])
groups (b ∷ bs) = put_first (b == 45) b (groups bs)

-- one or more bytes that all pass the test
abbrev pub is_group : (ℕ → Bool) → List ℕ → Bool
is_group test [] = false
is_group test (b ∷ bs) = test b && list_all test bs

-- [a-zA-Z]+ ('-' [a-zA-Z0-9]+)*: the first group is of letters, the others of letters and digits
unfoldable pub is_tag : List ℕ → Bool
is_tag bytes = is_group is_letter (groups bytes).0 && list_all (is_group is_letter_or_digit) (groups bytes).1

-- what may stand in the first group, and in a later one
abbrev pub may_stand : Bool → ℕ → Bool
may_stand true = is_letter
may_stand false = is_letter_or_digit

-- a tag from left to right: inside the first group or a later one, which has a byte yet or none
abbrev pub runs_tag : Bool → Bool → List ℕ → Bool
runs_tag in_first has_byte [] = has_byte
runs_tag in_first has_byte (b ∷ bs) = if b == 45 then has_byte && runs_tag false false bs else (may_stand in_first b && runs_tag in_first true bs)

-- A to Z
abbrev pub is_upper : ℕ → Bool
is_upper b = is_between 65 90 b

-- A to Z turned to a to z
abbrev pub lower : List ℕ → List ℕ
lower bytes = map to_ascii_lowercase bytes

-- a tag without a letter A to Z
unfoldable pub is_lower_tag : List ℕ → Bool
is_lower_tag bytes = is_tag bytes && list_all (λ b. not (is_upper b)) bytes
