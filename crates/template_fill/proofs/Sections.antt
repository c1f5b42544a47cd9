-- Texts cut at each of one byte.
use Rattle.std.proofs.Common.{◌≡◌, ℕ, ◌+◌, ◌<◌, List, [], ◌∷◌, ◌++◌, Bool, true, false, not, ◌||◌, ◌==◌, ◌&&◌, cond, Some, None, Option, length, refl, sym, ◌∙◌, ap, arith, append_assoc}
use Rattle.std.specs.List.{list_all, slice_split, onto_first}
use Rattle.std.specs.Option.{option_map}
use Rattle.std.proofs.lemmas.List.Folds.{list_all-append}
use Rattle.std.proofs.lemmas.Bool.Decides.{nat_tests}
use Rattle.std.proofs.lemmas.Bool.{agree_below_at, and_from}
use Rattle.list_laws.proofs.Options.{when_some}
use Rattle.tpf_base.specs.Addresses.{is_address_byte}
use Rattle.template_fill.specs.ReadAddress.{◌>>=◌}
use Rattle.template_fill.specs.Templates.{before, after, sections_after, is_name_byte, is_word, is_name, names_of, Part, is_part, shape_of, part_of, parts_of}
use Rattle.template_fill.specs.declared.part.Operator.{Operator}
use Rattle.template_fill.proofs.Passing.{list_all-wider}
use Rattle.template_fill.proofs.Addresses.{is_ascii-address}
use Rattle.std.specs.Char.{is_ascii}
use Rattle.list_laws.proofs.Tests.{implied, and_first, and_second}

pub sections-cut : (x : ℕ) (bytes : List ℕ) → slice_split (λ b. b == x) bytes ≡ before x bytes ∷ sections_after x (after x bytes)
sections-cut x [] = refl
sections-cut x (b ∷ bytes) =
    rw (sections-cut x bytes) (elim (b == x) as (λ v. cond v ([] ∷ (before x bytes ∷ sections_after x (after x bytes))) ((b ∷ before x bytes) ∷ sections_after x (after x bytes)) ≡ cond v [] (b ∷ before x bytes) ∷ sections_after x (cond v (Some bytes) (after x bytes))) [
      | true ↦ sym (ap (λ more. [] ∷ more) (sections-cut x bytes))
      | false ↦ refl
    ])

-- how much is left to cut
abbrev pub left_over : Option (List ℕ) → ℕ
left_over None = 0
left_over (Some bytes) = length bytes + 1

pub left_over-after : (x : ℕ) (bytes : List ℕ) → left_over (after x bytes) < left_over (Some bytes)
left_over-after x [] = omega arith
left_over-after x (b ∷ bytes) =
    let more = left_over-after x bytes in
    elim (b == x) as (λ v. left_over (cond v (Some bytes) (after x bytes)) < length (b ∷ bytes) + 1) [
      | true ↦ omega arith
      | false ↦ omega arith
    ]

-- a test of each section, one section on
pub all-step : (p : List ℕ → Bool) (x : ℕ) (bytes section : List ℕ) (more : Option (List ℕ)) → section ≡ before x bytes → more ≡ after x bytes → p section ≡ true → list_all p (slice_split (λ b. b == x) bytes) ≡ list_all p (sections_after x more)
all-step p x bytes section more is rest passes = rw (sections-cut x bytes, ← is, passes, rest) refl

pub all-stop : (p : List ℕ → Bool) (x : ℕ) (bytes section : List ℕ) → section ≡ before x bytes → p section ≡ false → list_all p (slice_split (λ b. b == x) bytes) ≡ false
all-stop p x bytes section is fails = rw (sections-cut x bytes, ← is, fails) refl

-- ---- names

name_byte-below : (b : ℕ) → is_name_byte b ≡ true → b < 128
name_byte-below b h = grind (arith, nat_tests)

name_byte-address : (b : ℕ) → is_name_byte b ≡ true → is_address_byte b ≡ true
name_byte-address b h = implied (is_name_byte b) (is_address_byte b) (agree_below_at (λ x. not (is_name_byte x) || is_address_byte x) (λ _. true) 128 b refl (name_byte-below b h)) h

word_bytes : (word : List ℕ) → is_word word ≡ true → list_all is_name_byte word ≡ true
word_bytes [] h = refl
word_bytes (b ∷ word) h = h

onto-first : (p : ℕ → Bool) (b : ℕ) (sections : List (List ℕ)) → list_all (list_all p) (onto_first b sections) ≡ true → (p b ≡ true) × (list_all (list_all p) sections ≡ true)
onto-first p b [] h = (and_first (p b) _ (and_first (p b && true) _ h), refl)
onto-first p b (section ∷ sections) h =
    let own = and_first (p b && list_all p section) _ h in
    (and_first (p b) _ own, and_from (list_all p section) _ (and_second (p b) _ own) (and_second (p b && list_all p section) _ h))

-- bytes of sections that pass, with the mark between them, pass
joined : (p q : ℕ → Bool) (x : ℕ) → ((b : ℕ) → p b ≡ true → q b ≡ true) → q x ≡ true → (bytes : List ℕ) → list_all (list_all p) (slice_split (λ b. b == x) bytes) ≡ true → list_all q bytes ≡ true
joined p q x wider mark [] h = refl
joined p q x wider mark (b ∷ bytes) h =
    let go : (t : Bool) → (b == x) ≡ t → list_all (list_all p) (cond t ([] ∷ slice_split (λ b. b == x) bytes) (onto_first b (slice_split (λ b. b == x) bytes))) ≡ true → q b && list_all q bytes ≡ true =
    λ t. elim t as (λ v. (b == x) ≡ v → list_all (list_all p) (cond v ([] ∷ slice_split (λ b. b == x) bytes) (onto_first b (slice_split (λ b. b == x) bytes))) ≡ true → q b && list_all q bytes ≡ true) [
      | true ↦ λ yes all. let is : b ≡ x = grind (arith, nat_tests) in and_from (q b) _ (ap q is ∙ mark) (joined p q x wider mark bytes all)
      | false ↦ λ no all. let parts = onto-first p b (slice_split (λ b. b == x) bytes) all in and_from (q b) _ (wider b parts.0) (joined p q x wider mark bytes parts.1)
    ] in
    go (b == x) refl h

pub name_bytes : (name : List ℕ) → is_name name ≡ true → list_all is_address_byte name ≡ true
unfolding is_name
name_bytes name h = joined is_name_byte is_address_byte 46 name_byte-address refl name (list_all-wider is_word (list_all is_name_byte) word_bytes (slice_split (λ b. b == 46) name) h)

pub name_ascii : (name : List ℕ) → is_name name ≡ true → list_all is_ascii name ≡ true
name_ascii name h = list_all-wider is_address_byte is_ascii is_ascii-address name (name_bytes name h)

pub names_of-bytes : (text : List ℕ) (names : List (List ℕ)) → names_of text ≡ Some names → list_all (list_all is_address_byte) names ≡ true
unfolding names_of
names_of-bytes text names h =
    let is = when_some (list_all is_name (slice_split (λ b. b == 44) text)) (slice_split (λ b. b == 44) text) names h in
    rw (← is.1) (list_all-wider is_name (list_all is_address_byte) name_bytes (slice_split (λ b. b == 44) text) is.0)

and_false : (b : Bool) → b && false ≡ false
and_false true = refl
and_false false = refl

-- one name on
pub name-step : (all names : List (List ℕ)) (bytes name : List ℕ) (more : Option (List ℕ)) → all ≡ names ++ slice_split (λ b. b == 44) bytes → name ≡ before 44 bytes → more ≡ after 44 bytes → all ≡ (names ++ name ∷ []) ++ sections_after 44 more
name-step all names bytes name more sections is rest = sections ∙ ap (λ tail. names ++ tail) (sections-cut 44 bytes) ∙ sym (append_assoc names (name ∷ []) (sections_after 44 more) ∙ rw (is, rest) refl)

-- a name that is none spoils all
pub name-stop : (text : List ℕ) (names : List (List ℕ)) (bytes name : List ℕ) → slice_split (λ b. b == 44) text ≡ names ++ slice_split (λ b. b == 44) bytes → name ≡ before 44 bytes → is_name name ≡ false → names_of text ≡ None
unfolding names_of
name-stop text names bytes name sections is fails =
    let none : list_all is_name (slice_split (λ b. b == 44) text) ≡ false =
    rw (sections, list_all-append is_name names (slice_split (λ b. b == 44) bytes), all-stop is_name 44 bytes name is fails) (and_false (list_all is_name names)) in
    rw none refl

pub all-push : (names : List (List ℕ)) (name : List ℕ) → list_all is_name names ≡ true → is_name name ≡ true → list_all is_name (names ++ name ∷ []) ≡ true
all-push names name all own = rw (list_all-append is_name names (name ∷ []), all, own) refl

-- ---- parts

tail : (parts : List Part) (part : Part) (more : Option (List Part)) → option_map (λ rest. parts ++ rest) (more >>= (λ rest. Some (part ∷ rest))) ≡ option_map (λ rest. (parts ++ part ∷ []) ++ rest) more
tail parts part None = refl
tail parts part (Some more) = ap Some (sym (append_assoc parts (part ∷ []) more))

pub part-step : (all : Option (List Part)) (parts : List Part) (bytes section : List ℕ) (more : Option (List ℕ)) (part : Part) → all ≡ option_map (λ rest. parts ++ rest) (parts_of (slice_split (λ b. b == 123) bytes)) → section ≡ before 123 bytes → more ≡ after 123 bytes → part_of section ≡ Some part → all ≡ option_map (λ rest. (parts ++ part ∷ []) ++ rest) (parts_of (sections_after 123 more))
part-step all parts bytes section more part is cut rest own =
    is ∙ rw (sections-cut 123 bytes, ← cut, own, rest) (tail parts part (parts_of (sections_after 123 (after 123 bytes))))

pub part-stop : (all : Option (List Part)) (parts : List Part) (bytes section : List ℕ) → all ≡ option_map (λ rest. parts ++ rest) (parts_of (slice_split (λ b. b == 123) bytes)) → section ≡ before 123 bytes → part_of section ≡ None → all ≡ None
part-stop all parts bytes section is cut own = is ∙ rw (sections-cut 123 bytes, ← cut, own) refl

pub part-none : (bytes : List ℕ) → shape_of bytes ≡ None → part_of bytes ≡ None
unfolding part_of
part-none bytes none = rw none refl

pub part-no_names : (bytes names literal : List ℕ) (operator : Operator) → shape_of bytes ≡ Some (operator, names, literal) → names_of names ≡ None → part_of bytes ≡ None
unfolding part_of
part-no_names bytes names literal operator shape none = rw (shape, none) refl

pub part-is : (bytes text literal kept : List ℕ) (names : List (List ℕ)) (operator : Operator) → shape_of bytes ≡ Some (operator, text, literal) → names_of text ≡ Some names → kept ≡ literal → part_of bytes ≡ Some (record { operator = operator; names = names; literal = kept })
unfolding part_of
part-is bytes text literal kept names operator shape own same = rw (shape, own, same) refl

pub part-kept : (text literal kept : List ℕ) (names : List (List ℕ)) → names_of text ≡ Some names → list_all is_address_byte literal ≡ true → kept ≡ literal → is_part names kept ≡ true
part-kept text literal kept names own all same = rw same (and_from (list_all (list_all is_address_byte) names) _ (names_of-bytes text names own) all)

pub literal_ascii : (literal : List ℕ) → list_all is_address_byte literal ≡ true → list_all is_ascii literal ≡ true
literal_ascii literal all = list_all-wider is_address_byte is_ascii is_ascii-address literal all
