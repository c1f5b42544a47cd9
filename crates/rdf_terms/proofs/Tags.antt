-- A tag read from left to right, and tags in lower case.
use Rattle.std.proofs.Common.{ℕ, ◌≡◌, ◌==◌, Bool, true, false, not, ◌&&◌, if◌then◌else◌, List, [], ◌∷◌, refl, ap, sym, ◌∙◌, arith}
use Rattle.std.specs.List.{list_all}
use Rattle.std.specs.Char.{to_ascii_lowercase}
use Rattle.std.proofs.lemmas.Bool.{and_parts, not-true}
use Rattle.list_laws.proofs.Tests.{assoc}
use Rattle.rdf_terms.specs.Tag.{is_letter_or_digit, put_first, groups, is_group, may_stand, is_tag, runs_tag, is_upper, lower, is_lower_tag}

-- what `runs_tag` says of the groups that are left, of which the first is begun
abbrev goes_on : Bool → Bool → List ℕ × List (List ℕ) → Bool
goes_on in_first true p = list_all (may_stand in_first) p.0 && list_all (is_group is_letter_or_digit) p.1
goes_on in_first false p = is_group (may_stand in_first) p.0 && list_all (is_group is_letter_or_digit) p.1

step : (hyphen in_first has_byte : Bool) (b : ℕ) (p : List ℕ × List (List ℕ)) →
    (if hyphen then has_byte && goes_on false false p else (may_stand in_first b && goes_on in_first true p)) ≡ goes_on in_first has_byte (put_first hyphen b p)
step true f true b p = refl
step true f false b p = refl
step false f true b p = assoc (may_stand f b) (list_all (may_stand f) p.0) (list_all (is_group is_letter_or_digit) p.1)
step false f false b p = assoc (may_stand f b) (list_all (may_stand f) p.0) (list_all (is_group is_letter_or_digit) p.1)

runs_is : (in_first has_byte : Bool) (bs : List ℕ) → runs_tag in_first has_byte bs ≡ goes_on in_first has_byte (groups bs)
runs_is f true [] = refl
runs_is f false [] = refl
runs_is f h (b ∷ bs) =
    ap (λ (x : Bool). if b == 45 then h && x else (may_stand f b && runs_tag f true bs)) (runs_is false false bs)
    ∙ ap (λ (x : Bool). if b == 45 then h && goes_on false false (groups bs) else (may_stand f b && x)) (runs_is f true bs)
    ∙ step (b == 45) f h b (groups bs)

pub runs_is_tag : (bs : List ℕ) → runs_tag true false bs ≡ is_tag bs
unfolding is_tag
runs_is_tag bs = runs_is true false bs

-- ---- lower case

same_hyphen : (b : ℕ) → (to_ascii_lowercase b == 45) ≡ (b == 45)
same_hyphen b = grind arith

same_stand : (in_first : Bool) (b : ℕ) → may_stand in_first (to_ascii_lowercase b) ≡ may_stand in_first b
same_stand true b = grind arith
same_stand false b = grind arith

not_upper : (b : ℕ) → not (is_upper (to_ascii_lowercase b)) ≡ true
not_upper b = grind arith

runs_lower : (in_first has_byte : Bool) (bs : List ℕ) → runs_tag in_first has_byte (lower bs) ≡ runs_tag in_first has_byte bs
runs_lower f h [] = refl
runs_lower f h (b ∷ bs) = rw (same_hyphen b, same_stand f b, runs_lower false false bs, runs_lower f true bs) refl

none_upper : (bs : List ℕ) → list_all (λ b. not (is_upper b)) (lower bs) ≡ true
none_upper [] = refl
none_upper (b ∷ bs) = rw (not_upper b, none_upper bs) refl

and_true : (s t : Bool) → t ≡ true → (s && t) ≡ s
and_true true t e = e
and_true false t e = refl

pub lower_is_kept : (bs : List ℕ) → is_lower_tag (lower bs) ≡ is_tag bs
unfolding is_lower_tag
lower_is_kept bs =
    and_true (is_tag (lower bs)) (list_all (λ b. not (is_upper b)) (lower bs)) (none_upper bs)
    ∙ sym (runs_is_tag (lower bs)) ∙ runs_lower true false bs ∙ runs_is_tag bs

lower_same : (b : ℕ) → is_upper b ≡ false → to_ascii_lowercase b ≡ b
lower_same b h = grind (arith, h)

-- what has no letter in upper case stays
pub lower_all : (tag : List ℕ) → list_all (λ b. not (is_upper b)) tag ≡ true → lower tag ≡ tag
lower_all [] h = refl
lower_all (b ∷ tag) h =
    let p = and_parts (not (is_upper b)) (list_all (λ b. not (is_upper b)) tag) h in
    rw (lower_same b (not-true (is_upper b) p.0), lower_all tag p.1) refl
