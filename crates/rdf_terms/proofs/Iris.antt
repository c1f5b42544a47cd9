-- The bytes of IRIs, and IRIs with more behind them.
use Rattle.std.proofs.Common.{ℕ, ◌≡◌, ◌≤◌, ◌==◌, Bool, true, false, ◌&&◌, ◌||◌, List, [], ◌∷◌, ◌++◌, refl, arith}
use Rattle.std.specs.List.{list_all}
use Rattle.std.specs.Char.{is_ascii_digit}
use Rattle.std.proofs.lemmas.Bool.{and_from}
use Rattle.std.proofs.lemmas.Bool.Decides.{nat_tests}
use Rattle.list_laws.proofs.Each.{all_joined}
use Rattle.list_laws.proofs.Tests.{and_first, and_second}
use Rattle.rdf_terms.specs.Iri.{is_letter, is_iri_byte, is_scheme_byte, has_colon, has_scheme, is_iri}

pub digit_iri : (b : ℕ) → is_ascii_digit b ≡ true → is_iri_byte b ≡ true
digit_iri b h = grind (arith, nat_tests)

pub high_byte : (b : ℕ) → 128 ≤ b → is_iri_byte b ≡ true
high_byte b h = grind arith

pub has_colon_append : (a b : List ℕ) → has_colon a ≡ true → has_colon (a ++ b) ≡ true
has_colon_append [] b h = absurd (cc)
has_colon_append (x ∷ a) b h = pick (x == 58) (is_scheme_byte x) (has_colon_append a b) h
  where
    pick : (p q : Bool) → (has_colon a ≡ true → has_colon (a ++ b) ≡ true) → (p || (q && has_colon a)) ≡ true → (p || (q && has_colon (a ++ b))) ≡ true
    pick true q f h = refl
    pick false true f h = f h
    pick false false f h = h

pub has_scheme_append : (a b : List ℕ) → has_scheme a ≡ true → has_scheme (a ++ b) ≡ true
has_scheme_append [] b h = absurd (cc)
has_scheme_append (x ∷ a) b h = and_from (is_letter x) (has_colon (a ++ b)) (and_first (is_letter x) (has_colon a) h) (has_colon_append a b (and_second (is_letter x) (has_colon a) h))

pub is_iri_append : (a b : List ℕ) → is_iri a ≡ true → list_all is_iri_byte b ≡ true → is_iri (a ++ b) ≡ true
is_iri_append a b h all =
    let own = and_first (list_all is_iri_byte a) (has_scheme a) h in
    let scheme = has_scheme_append a b (and_second (list_all is_iri_byte a) (has_scheme a) h) in
    and_from (list_all is_iri_byte (a ++ b)) (has_scheme (a ++ b)) (all_joined is_iri_byte a b own all) scheme
