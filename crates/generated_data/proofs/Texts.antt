-- The canonical text of the generated quads.
use Rattle.std.proofs.Common.{ℕ, ◌≡◌, ◌+◌, ◌^◌, ◌≤◌, ◌<◌, ◌%◌, ◌*◌, List, [], ◌∷◌, ◌++◌, Bool, true, false, ◌==◌, if◌then◌else◌, refl, ap, sym, ◌∙◌, append_assoc, append-nil, arith, codes}
use Rattle.std.specs.Fmt.{decimal}
use Rattle.std.proofs.lemmas.Fmt.{decimal_by_steps}
use Rattle.rdf_terms.specs.Canon.{is_marked, canonical_byte, canonical_form, canonical_line, canon}
use Rattle.rdf_terms.specs.declared.term.Quad.{Quad}
use Rattle.rdf_terms.specs.declared.term.Term.TheVariants.{Iri}
use Rattle.rdf_terms.proofs.Canonical.{canon_of_both}
use Rattle.generated_data.specs.Generated.{statement, person, name, city, knows, names, cities, about}
use Rattle.generated_data.specs.Lines.{numbered, line_with}

-- the quad of a name, and that of a city
abbrev named : ℕ → Quad
named i = statement (person i) (Iri (codes "http://example.org/name")) (name i)

abbrev lives : ℕ → Quad
lives i = statement (person i) (Iri (codes "http://example.org/city")) (city (i % 7))

unmarked : (b : ℕ) → 48 ≤ b → b ≤ 57 → is_marked b ≡ false
unmarked b low high = grind arith

digit_text : (b : ℕ) → 48 ≤ b → b ≤ 57 → canonical_byte b ≡ b ∷ []
digit_text b low high = rw (unmarked b low high) refl

form_of_both : (xs ys : List ℕ) → canonical_form (xs ++ ys) ≡ canonical_form xs ++ canonical_form ys
form_of_both [] ys = refl
form_of_both (x ∷ xs) ys = ap (λ l. canonical_byte x ++ l) (form_of_both xs ys) ∙ sym (append_assoc (canonical_byte x) (canonical_form xs) (canonical_form ys))

one_digit : (n : ℕ) → n < 10 → canonical_form ((48 + n) ∷ []) ≡ (48 + n) ∷ []
one_digit n small = append-nil (canonical_byte (48 + n)) ∙ digit_text (48 + n) (omega arith) (omega arith)

pub number_text : (n : ℕ) → n < 2 ^ 64 → canonical_form (decimal n) ≡ decimal n
number_text = decimal_by_steps (λ n ds. canonical_form ds ≡ ds) one_digit
    (λ n ds large before. form_of_both ds ((48 + n % 10) ∷ []) ∙ ap (λ l. l ++ canonical_form ((48 + n % 10) ∷ [])) before ∙ ap (λ l. ds ++ l) (one_digit (n % 10) (omega arith)))

-- a line whose first term and last term end in a mark
line_parts : (i before d : List ℕ) (mark : ℕ) → (i ++ 62 ∷ []) ++ (before ++ (((d ++ mark ∷ []) ++ []) ++ 32 ∷ 46 ∷ 10 ∷ [])) ≡ i ++ 62 ∷ (before ++ (d ++ mark ∷ 32 ∷ 46 ∷ 10 ∷ []))
line_parts i before d mark =
    let last : ((d ++ mark ∷ []) ++ []) ++ 32 ∷ 46 ∷ 10 ∷ [] ≡ d ++ mark ∷ 32 ∷ 46 ∷ 10 ∷ [] = ap (λ l. l ++ 32 ∷ 46 ∷ 10 ∷ []) (append-nil (d ++ mark ∷ [])) ∙ append_assoc d (mark ∷ []) (32 ∷ 46 ∷ 10 ∷ []) in
    append_assoc i (62 ∷ []) (before ++ (((d ++ mark ∷ []) ++ []) ++ 32 ∷ 46 ∷ 10 ∷ [])) ∙ ap (λ l. i ++ 62 ∷ (before ++ l)) last

pub knows_text : (n i : ℕ) → canonical_line (knows n i) ≡ line_with i (codes "> <http://example.org/knows> <http://example.org/person/") ((7 * i + 1) % n) (codes "> .\n")
unfolding knows line_with numbered
knows_text n i = ap (λ l. codes "<http://example.org/person/" ++ l) (line_parts (decimal i) (codes " <http://example.org/knows> <http://example.org/person/") (decimal ((7 * i + 1) % n)) 62)

city_line : (i : ℕ) → canonical_line (lives i) ≡ line_with i (codes "> <http://example.org/city> <http://example.org/city/") (i % 7) (codes "> .\n")
unfolding line_with numbered
city_line i = ap (λ l. codes "<http://example.org/person/" ++ l) (line_parts (decimal i) (codes " <http://example.org/city> <http://example.org/city/") (decimal (i % 7)) 62)

name_line : (i : ℕ) → i < 2 ^ 64 → canonical_line (named i) ≡ line_with i (codes "> <http://example.org/name> \"Person ") i (codes "\" .\n")
unfolding line_with numbered
name_line i small =
    ap (λ l. codes "<http://example.org/person/" ++ l) (line_parts (decimal i) (codes " <http://example.org/name> \"Person ") (canonical_form (decimal i)) 34
    ∙ ap (λ d. decimal i ++ 62 ∷ (codes " <http://example.org/name> \"Person " ++ (d ++ 34 ∷ 32 ∷ 46 ∷ 10 ∷ []))) (number_text i small))

text_if_true : (b : Bool) (q : Quad) (text : List ℕ) → b ≡ true → canonical_line q ≡ text → canon (if b then q ∷ [] else []) ≡ text
text_if_true b q text it e = rw it (append-nil (canonical_line q) ∙ e)

text_if_false : (b : Bool) (q : Quad) → b ≡ false → canon (if b then q ∷ [] else []) ≡ []
text_if_false b q it = rw it refl

pub name_text : (i : ℕ) → i < 2 ^ 64 → (i % 3 == 0) ≡ true → canon (names i) ≡ line_with i (codes "> <http://example.org/name> \"Person ") i (codes "\" .\n")
unfolding names
name_text i small third = text_if_true (i % 3 == 0) (named i) _ third (name_line i small)

pub no_name_text : (i : ℕ) → (i % 3 == 0) ≡ false → canon (names i) ≡ []
unfolding names
no_name_text i other = text_if_false (i % 3 == 0) (named i) other

pub city_text : (i : ℕ) → (i % 10 == 0) ≡ true → canon (cities i) ≡ line_with i (codes "> <http://example.org/city> <http://example.org/city/") (i % 7) (codes "> .\n")
unfolding cities
city_text i tenth = text_if_true (i % 10 == 0) (lives i) _ tenth (city_line i)

pub no_city_text : (i : ℕ) → (i % 10 == 0) ≡ false → canon (cities i) ≡ []
unfolding cities
no_city_text i other = text_if_false (i % 10 == 0) (lives i) other

pub about_text : (n i : ℕ) (old : List ℕ) → ((old ++ canonical_line (knows n i)) ++ canon (names i)) ++ canon (cities i) ≡ old ++ canon (about n i)
unfolding about
about_text n i old =
    let both : canon (about n i) ≡ canonical_line (knows n i) ++ (canon (names i) ++ canon (cities i)) = ap (λ l. canonical_line (knows n i) ++ l) (canon_of_both (names i) (cities i)) in
    append_assoc (old ++ canonical_line (knows n i)) (canon (names i)) (canon (cities i)) ∙ append_assoc old (canonical_line (knows n i)) (canon (names i) ++ canon (cities i)) ∙ ap (λ l. old ++ l) (sym both)

pub line_of_parts : (old before after : List ℕ) (i number : ℕ) → ((old ++ numbered (codes "<http://example.org/person/") i) ++ numbered before number) ++ after ≡ old ++ line_with i before number after
unfolding line_with
line_of_parts old before after i number = append_assoc (old ++ numbered (codes "<http://example.org/person/") i) (numbered before number) after ∙ append_assoc old (numbered (codes "<http://example.org/person/") i) (numbered before number ++ after)
