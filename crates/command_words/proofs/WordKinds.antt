-- What clap sees in a word of each kind.
use Rattle.std.proofs.Common.{ℕ, ◌≡◌, ap, subst, refl, cond, ◌==◌, ◌||◌, Bool, true, false, [], ◌∷◌, Option, Some, None, arith}
use Rattle.std.specs.List.{list_any, before_first, after_first}
use Rattle.std.specs.Str.{bytes_eq}
use Rattle.std.proofs.lemmas.Bool.Decides.{nat_tests}
use Rattle.std.proofs.Math.Numerals.{one-add}
use Rattle.clap.specs.Lexer.{long_of, short_of}
use Rattle.command_words.specs.Words.{Text, Kind, ends, option, refused, plain, kind_of, after_dash, after_dashes, is_equals}

abbrev pub two_dashes : Text
two_dashes = 45 ∷ 45 ∷ []

-- the word is no --, and clap sees these in it: an option by its name and value, or letters behind one -
pub record Sees (word : Text) (named : Option (Text × Option Text)) (letters : Option Text) : Type 0 where
  pub no_end : bytes_eq word two_dashes ≡ false
  pub long : long_of word ≡ named
  pub short : short_of word ≡ letters

-- a word that begins with one - and has more characters
pub record HasLetters (word : Text) : Type 0 where
  pub first : ℕ
  pub more : Text
  pub is_word : word ≡ 45 ∷ first ∷ more
  pub sees : Sees word None (Some (first ∷ more))

abbrev pub Seen : Text → Kind → Type 0
Seen word ends = word ≡ two_dashes
Seen word (option name value) = Sees word (Some (name, value)) None
Seen word refused = HasLetters word
Seen word plain = Sees word None None

whole_before : (xs : Text) → list_any is_equals xs ≡ false → before_first is_equals xs ≡ xs
whole_before [] e = refl
whole_before (x ∷ xs) e = go (x == 61) refl e (λ h. whole_before xs h)
  where
    go : (b : Bool) → (x == 61) ≡ b → (b || list_any is_equals xs) ≡ false → (list_any is_equals xs ≡ false → before_first is_equals xs ≡ xs) → before_first is_equals (x ∷ xs) ≡ x ∷ xs
    go true t h more = absurd (cc)
    go false f h more = rw (f, one-add) (ap (λ (ys : Text). x ∷ ys) (more h))

long_seen : (z : ℕ) (zs : Text) → Seen (45 ∷ 45 ∷ z ∷ zs) (after_dashes (z ∷ zs))
long_seen z zs = go (list_any is_equals (z ∷ zs)) refl
  where
    go : (b : Bool) → list_any is_equals (z ∷ zs) ≡ b → Seen (45 ∷ 45 ∷ z ∷ zs) (cond b (option (before_first is_equals (z ∷ zs)) (Some (after_first is_equals (z ∷ zs)))) (option (z ∷ zs) None))
    go true e = record { no_end = refl; long = rw e refl; short = refl }
    go false e = record { no_end = refl; long = rw (e, whole_before (z ∷ zs) e) refl; short = refl }

dash_seen : (rest : Text) → Seen (45 ∷ rest) (after_dash rest)
dash_seen [] = record { no_end = refl; long = refl; short = refl }
dash_seen (y ∷ rest) = go (y == 45) refl
  where
    dashes : (more : Text) → Seen (45 ∷ 45 ∷ more) (after_dashes more)
    dashes [] = refl
    dashes (z ∷ zs) = long_seen z zs

    go : (b : Bool) → (y == 45) ≡ b → Seen (45 ∷ y ∷ rest) (cond b (after_dashes rest) refused)
    go true e = let same : 45 ≡ y = grind (arith, nat_tests) in subst (λ (n : ℕ). Seen (45 ∷ n ∷ rest) (after_dashes rest)) same (dashes rest)
    go false e = record { first = y; more = rest; is_word = refl; sees = record { no_end = rw e refl; long = rw e refl; short = rw e refl } }

pub seen : (word : Text) → Seen word (kind_of word)
seen [] = record { no_end = refl; long = refl; short = refl }
seen (x ∷ rest) = go (x == 45) refl
  where
    go : (b : Bool) → (x == 45) ≡ b → Seen (x ∷ rest) (cond b (after_dash rest) plain)
    go true e = let same : 45 ≡ x = grind (arith, nat_tests) in subst (λ (n : ℕ). Seen (n ∷ rest) (after_dash rest)) same (dash_seen rest)
    go false e = record { no_end = rw e refl; long = rw e refl; short = rw e refl }
