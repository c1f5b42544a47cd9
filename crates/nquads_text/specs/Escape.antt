-- The text that stands between two marks, its escapes resolved byte by byte.
use Rattle.std.specs.Prelude.{ℕ, ◌≡◌, ◌≤◌, ◌+◌, ◌*◌, ◌-◌, Bool, ◌==◌, min, List, [], ◌∷◌, ◌++◌, Option, Some, None, MatchOption, if◌then◌else◌}
use Rattle.std.specs.Char.{encode_utf8, digit_value}
use Rattle.list_laws.specs.Options.{when, ◌>>=◌}
use Rattle.nquads_text.specs.declared.escape.Place.{Place}
use Rattle.nquads_text.specs.declared.scan.Awaits.{Awaits}
use Rattle.nquads_text.specs.declared.scan.Awaits.TheVariants.{Item, Escape, Digits}
use Rattle.nquads_text.specs.Scan.{digits_left}
use Rattle.nquads_text.specs.Meaning.{short_value, is_nameable}

-- the value of digits with one more behind them; all above U+10FFFF are one
abbrev pub more_digits : ℕ → ℕ → ℕ
more_digits v b = min (v * 16 + digit_value b) 0x110000

-- what is written so far, what is awaited, and the value of the digits so far
abbrev pub Resolving : Type 0
Resolving = List ℕ × Awaits × ℕ

-- with the character that an escape names behind it, if the escape may name it
abbrev pub with_named : Bool → List ℕ → ℕ → Option Resolving
with_named iri out c = when (is_nameable iri c) (out ++ encode_utf8 c, Item, 0)

-- after a digit with so many more behind it, where the digits have this value
abbrev pub after_digit : Bool → List ℕ → ℕ → ℕ → Option Resolving
after_digit iri out more v = if more == 0 then with_named iri out v else Some (out, Digits (more - 1), v)

abbrev pub resolve_step : Bool → List ℕ → Awaits → ℕ → ℕ → Option Resolving
resolve_step iri out Item v b = if b == 92 then Some (out, Escape, 0) else Some (out ++ b ∷ [], Item, 0)
resolve_step iri out Escape v b = if b == 117 then Some (out, digits_left 4, 0) else (if b == 85 then Some (out, digits_left 8, 0) else Some (out ++ short_value b ∷ [], Item, 0))
resolve_step iri out (Digits more) v b = after_digit iri out more (more_digits v b)

-- a step comes to this: what is written now and the place answered, whose digits have at most the value that stands for
-- all above U+10FFFF; or nothing is answered, since an escape names what it may not
abbrev pub ComesTo : Option Resolving → List ℕ → Option Place → Type 0
ComesTo step out answer = MatchOption answer (step ≡ None) (λ p. (step ≡ Some (out, p.awaits, p.value)) × (p.value ≤ 0x110000))

abbrev pub resolve_from : Bool → List ℕ → Awaits → ℕ → List ℕ → Option (List ℕ)
resolve_from iri out s v [] = Some out
resolve_from iri out s v (b ∷ bs) = resolve_step iri out s v b >>= λ t. resolve_from iri t.0 t.1 t.2 bs

-- the text, or nothing where an escape names what it may not
unfoldable pub resolved : Bool → List ℕ → Option (List ℕ)
resolved iri bytes = resolve_from iri [] Item 0 bytes
