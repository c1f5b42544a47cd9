-- Rows are cut into blocks.
use Rattle.std.proofs.Common.{ℕ, zero, suc, ◌≡◌, ◌<◌, ◌≤◌, min, Bool, true, false, if◌then◌else◌, List, [], ◌∷◌, ◌++◌, length, map, take, drop, refl, ap, ◌∙◌, arith, take-append-drop, length-take, length-drop}
use Rattle.std.specs.List.{All, flat_map}
use Rattle.std.proofs.lemmas.List.Elements.{All-nil, All-cons}
use Rattle.bgp_core.specs.declared.pattern.Pattern.{Pattern}
use Rattle.bgp_core.specs.Solutions.{Places}
use Rattle.request_plan.specs.Blocks.{Cut, all_fit, longest_front, block_length, blocks_for}
use Rattle.request_plan.specs.BlockLaws.{BlocksAreCut, BlocksOfOne}

-- ---- the front

some_if : (b : Bool) (m k : ℕ) → 0 < k → 0 < (if b then suc m else k)
some_if true m k h = omega arith
some_if false m k h = h

most_if : (b : Bool) (m k : ℕ) → k ≤ suc m → (if b then suc (suc m) else k) ≤ suc (suc m)
most_if true m k h = omega arith
most_if false m k h = omega arith

pub front-some : (cut : Cut) (ps : List Pattern) (rows : List Places) (n : ℕ) → 0 < longest_front cut ps rows n
front-some cut ps rows zero = omega arith
front-some cut ps rows (suc zero) = omega arith
front-some cut ps rows (suc (suc n)) = some_if (all_fit cut ps (take (suc (suc n)) rows)) (suc n) (longest_front cut ps rows (suc n)) (front-some cut ps rows (suc n))

front-most : (cut : Cut) (ps : List Pattern) (rows : List Places) (n : ℕ) → longest_front cut ps rows (suc n) ≤ suc n
front-most cut ps rows zero = omega arith
front-most cut ps rows (suc n) = most_if (all_fit cut ps (take (suc (suc n)) rows)) n (longest_front cut ps rows (suc n)) (front-most cut ps rows n)

pub front-below : (cut : Cut) (ps : List Pattern) (rows : List Places) (n m : ℕ) → n ≤ m → 0 < m → longest_front cut ps rows n ≤ m
front-below cut ps rows zero m h some = omega arith
front-below cut ps rows (suc n) m h some = let most = front-most cut ps rows n in omega arith

pub length-some : (cut : Cut) (ps : List Pattern) (rows : List Places) → 0 < block_length cut ps rows
length-some cut ps rows = front-some cut ps rows (min cut.most (length rows))

length-few : (cut : Cut) (ps : List Pattern) (rows : List Places) → 0 < cut.most → block_length cut ps rows ≤ cut.most
length-few cut ps rows some = front-below cut ps rows (min cut.most (length rows)) cut.most (omega arith) some

pub length-within : (cut : Cut) (ps : List Pattern) (rows : List Places) → 0 < length rows → block_length cut ps rows ≤ length rows
length-within cut ps rows some = front-below cut ps rows (min cut.most (length rows)) (length rows) (omega arith) some

-- ---- the blocks

pub shorter : (cut : Cut) (ps : List Pattern) (row : Places) (rows : List Places) (n : ℕ) → length (row ∷ rows) ≤ suc n → length (drop (block_length cut ps (row ∷ rows)) (row ∷ rows)) ≤ n
shorter cut ps row rows n h = let some = length-some cut ps (row ∷ rows) in omega (arith, length-drop (block_length cut ps (row ∷ rows)) (row ∷ rows))

all-for : (cut : Cut) (ps : List Pattern) (n : ℕ) (rows : List Places) → length rows ≤ n → flat_map (λ block. block) (blocks_for cut ps n rows) ≡ rows
all-for cut ps zero [] h = refl
all-for cut ps zero (row ∷ rows) h = absurd (omega arith)
all-for cut ps (suc n) [] h = refl
all-for cut ps (suc n) (row ∷ rows) h =
    let l = block_length cut ps (row ∷ rows) in
    ap (λ x. take l (row ∷ rows) ++ x) (all-for cut ps n (drop l (row ∷ rows)) (shorter cut ps row rows n h)) ∙ take-append-drop l (row ∷ rows)

some-for : (cut : Cut) (ps : List Pattern) (n : ℕ) (rows : List Places) → All (λ block. 0 < length block) (blocks_for cut ps n rows)
some-for cut ps zero rows = All-nil (λ block. 0 < length block)
some-for cut ps (suc n) [] = All-nil (λ block. 0 < length block)
some-for cut ps (suc n) (row ∷ rows) =
    let l = block_length cut ps (row ∷ rows) in
    let some = length-some cut ps (row ∷ rows) in
    All-cons (λ block. 0 < length block) (take l (row ∷ rows)) _ (omega (arith, length-take l (row ∷ rows))) (some-for cut ps n (drop l (row ∷ rows)))

few-for : (cut : Cut) (ps : List Pattern) (n : ℕ) (rows : List Places) → 0 < cut.most → All (λ block. length block ≤ cut.most) (blocks_for cut ps n rows)
few-for cut ps zero rows h = All-nil (λ block. length block ≤ cut.most)
few-for cut ps (suc n) [] h = All-nil (λ block. length block ≤ cut.most)
few-for cut ps (suc n) (row ∷ rows) h =
    let l = block_length cut ps (row ∷ rows) in
    let few = length-few cut ps (row ∷ rows) h in
    All-cons (λ block. length block ≤ cut.most) (take l (row ∷ rows)) _ (omega (arith, length-take l (row ∷ rows))) (few-for cut ps n (drop l (row ∷ rows)) h)

Fits : Cut → List Pattern → List Places → Type 0
Fits cut ps block = 1 < length block → all_fit cut ps block ≡ true

fits_if : (cut : Cut) (ps : List Pattern) (rows : List Places) (n m : ℕ) (b : Bool) → all_fit cut ps (take n rows) ≡ b → Fits cut ps (take m rows) → Fits cut ps (take (if b then n else m) rows)
unfolding Fits
fits_if cut ps rows n m true e h = λ several. e
fits_if cut ps rows n m false e h = h

front-fits : (cut : Cut) (ps : List Pattern) (rows : List Places) (n : ℕ) → Fits cut ps (take (longest_front cut ps rows n) rows)
unfolding Fits
front-fits cut ps rows zero = λ several. absurd (omega (arith, several, length-take 1 rows))
front-fits cut ps rows (suc zero) = λ several. absurd (omega (arith, several, length-take 1 rows))
front-fits cut ps rows (suc (suc n)) = fits_if cut ps rows (suc (suc n)) (longest_front cut ps rows (suc n)) (all_fit cut ps (take (suc (suc n)) rows)) refl (front-fits cut ps rows (suc n))

short-for : (cut : Cut) (ps : List Pattern) (n : ℕ) (rows : List Places) → All (λ block. 1 < length block → all_fit cut ps block ≡ true) (blocks_for cut ps n rows)
unfolding Fits
short-for cut ps zero rows = All-nil (λ block. 1 < length block → all_fit cut ps block ≡ true)
short-for cut ps (suc n) [] = All-nil (λ block. 1 < length block → all_fit cut ps block ≡ true)
short-for cut ps (suc n) (row ∷ rows) =
    let l = block_length cut ps (row ∷ rows) in
    All-cons (λ block. 1 < length block → all_fit cut ps block ≡ true) (take l (row ∷ rows)) _ (front-fits cut ps (row ∷ rows) (min cut.most (length (row ∷ rows)))) (short-for cut ps n (drop l (row ∷ rows)))

pub are-cut : BlocksAreCut
are-cut cut ps rows = record {
  all = all-for cut ps (length rows) rows (omega arith);
  some = some-for cut ps (length rows) rows;
  few = few-for cut ps (length rows) rows;
  short = short-for cut ps (length rows) rows;
}

-- ---- blocks of one row

one-long : (cut : Cut) (ps : List Pattern) (row : Places) (rows : List Places) → cut.most ≡ 1 → block_length cut ps (row ∷ rows) ≡ 1
one-long cut ps row rows h = let some = length-some cut ps (row ∷ rows) in let few = length-few cut ps (row ∷ rows) (omega (arith, h)) in omega (arith, h)

ones-for : (cut : Cut) (ps : List Pattern) (n : ℕ) (rows : List Places) → cut.most ≡ 1 → length rows ≤ n → blocks_for cut ps n rows ≡ map (λ row. row ∷ []) rows
ones-for cut ps zero [] h few = refl
ones-for cut ps zero (row ∷ rows) h few = absurd (omega arith)
ones-for cut ps (suc n) [] h few = refl
ones-for cut ps (suc n) (row ∷ rows) h few =
    ap (λ l. take l (row ∷ rows) ∷ blocks_for cut ps n (drop l (row ∷ rows))) (one-long cut ps row rows h)
    ∙ ap (λ x. (row ∷ []) ∷ x) (ones-for cut ps n rows h (omega arith))

pub of-one : BlocksOfOne
of-one cut ps rows h = ones-for cut ps (length rows) rows h (omega arith)
