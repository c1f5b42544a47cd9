-- Lists that loops make, step by step.
use Rattle.std.proofs.Common.{ℕ, zero, suc, ◌≡◌, ◌+◌, ◌-◌, ◌*◌, ◌^◌, ◌<◌, ◌≤◌, ◌++◌, cond, List, [], ◌∷◌, map, take, drop, length, get_or, min, Some, None, refl, sym, ap, ◌∙◌, append_assoc, append-nil, length-append, arith}
use Rattle.std.specs.List.{filter}
use Rattle.std.proofs.Math.Seq.{drop-cons}
use Rattle.std.proofs.lemmas.Grind.{flat_map-append}
use Rattle.std.proofs.lemmas.List.{take_more}
use Rattle.list_laws.proofs.Lists.{map_snoc}
use Rattle.rdf_terms.specs.declared.term.Term.{Term}
use Rattle.rdf_terms.specs.declared.term.Triple.{Triple}
use Rattle.rdf_terms.specs.Fragments.{IsFragment, fragment}
use Rattle.rdf_terms.proofs.FragmentLaws.{fragment_only}
use Rattle.triple_table.specs.declared.ids.IdTriple.{IdTriple}
use Rattle.triple_table.specs.declared.ids.IdPattern.{IdPattern}
use Rattle.triple_table.specs.declared.ids.Range.{Range}
use Rattle.triple_table.specs.Stored.{Stored, listed, slots_at, triple_at, triples_in}
use Rattle.restricted_pages.specs.Patterns.{IsMatchAt, gathered, matches_pattern}

-- ---- pattern by pattern

module _ (s : Stored) (ps : List IdPattern) (i : ℕ) (d : IdPattern) (within : i < length ps) (range : Range) (lists : IsFragment (triples_in s) (slots_at s (get_or ps i d)) (listed s range)) where
  pub gathered_more : gathered s (take (i + 1) ps) ≡ gathered s (take i ps) ++ listed s range
  gathered_more =
      ap (gathered s) (take_more ps i d within) ∙ flat_map-append (λ (p : IdPattern). fragment (triples_in s) (slots_at s p)) (take i ps) (get_or ps i d ∷ [])
      ∙ ap (λ l. gathered s (take i ps) ++ l) (append-nil _ ∙ sym (fragment_only (triples_in s) (slots_at s (get_or ps i d)) (listed s range) lists))

  sum_more : (most a b n total new : ℕ) → total ≡ min a most → n ≡ b → new ≡ min (total + n) most → new ≡ min (a + b) most
  sum_more most a b n total new e f g = omega (arith, e, f, g)

  pub total_more : (most total count new : ℕ) → total ≡ min (length (gathered s (take i ps))) most → count ≡ length (listed s range) → new ≡ min (total + count) most → new ≡ min (length (gathered s (take (i + 1) ps))) most
  total_more most total count new e f g =
      sum_more most (length (gathered s (take i ps))) (length (listed s range)) count total new e f g
      ∙ ap (λ n. min n most) (sym (ap length gathered_more ∙ length-append (gathered s (take i ps)) (listed s range)))

-- ---- triple by triple

pub pushed_more : (s : Stored) (start : List Triple) (xs : List Triple) (i : ℕ) (old new : List IdTriple) (t : IdTriple) → i < length xs → ((d : Triple) → get_or xs i d ≡ triple_at s.terms t) → new ≡ old ++ t ∷ [] →
    map (triple_at s.terms) old ≡ start ++ take i xs → map (triple_at s.terms) new ≡ start ++ take (i + 1) xs
pushed_more s start xs i old new t l at e h =
    let x = triple_at s.terms t in
    ap (map (triple_at s.terms)) e ∙ map_snoc (triple_at s.terms) old t ∙ ap (λ ys. ys ++ x ∷ []) h ∙ append_assoc start (take i xs) (x ∷ [])
    ∙ ap (λ ys. start ++ ys) (sym (take_more xs i x l ∙ ap (λ y. take i xs ++ y ∷ []) (at x)))

-- a part passes over the next triple where it stands before it
pub passed : (terms : List Term) (before room : ℕ) (old : List IdTriple) (t : IdTriple) (next : List Triple) → 0 < before →
    map (triple_at terms) old ++ take room (drop (before - 1) next) ≡ map (triple_at terms) old ++ take room (drop before (triple_at terms t ∷ next))
passed terms zero room old t next b = absurd (omega arith)
passed terms (suc before) room old t next b = let one : suc before - 1 ≡ before = omega arith in ap (λ n. map (triple_at terms) old ++ take room (drop n next)) one

-- and takes it where none does
pub taken : (terms : List Term) (before room : ℕ) (old new : List IdTriple) (t : IdTriple) (next : List Triple) → before ≤ 0 → 0 < room → new ≡ old ++ t ∷ [] →
    map (triple_at terms) new ++ take (room - 1) (drop before next) ≡ map (triple_at terms) old ++ take room (drop before (triple_at terms t ∷ next))
taken terms zero zero old new t next b r e = absurd (omega arith)
taken terms zero (suc room) old new t next b r e =
    let x = triple_at terms t in let one : suc room - 1 ≡ room = omega arith in
    ap (λ n. map (triple_at terms) new ++ take n next) one ∙ ap (λ ys. map (triple_at terms) ys ++ take room next) e ∙ ap (λ ys. ys ++ take room next) (map_snoc (triple_at terms) old t)
    ∙ append_assoc (map (triple_at terms) old) (x ∷ []) (take room next)
taken terms (suc before) room old new t next b r e = absurd (omega arith)

-- nothing is taken of nothing
none_left : {X : Type 0} (room before : ℕ) → ◌≡◌ {A = List X} (take room (drop before [])) []
none_left zero zero = refl
none_left zero (suc before) = refl
none_left (suc room) zero = refl
none_left (suc room) (suc before) = refl

pub all_taken : (taken : List Triple) (room before : ℕ) (next : List Triple) → next ≡ [] → taken ++ take room (drop before next) ≡ taken
all_taken taken room before next e = ap (λ ys. taken ++ take room (drop before ys)) e ∙ ap (λ ys. taken ++ ys) (none_left room before) ∙ append-nil taken

pub none_taken : (taken : List Triple) (room : ℕ) (next : List Triple) → room ≡ 0 → taken ++ take room next ≡ taken
none_taken taken room next e = ap (λ n. taken ++ take n next) e ∙ append-nil taken

pub some_room : (room : ℕ) → (room ≡ 0 → ⊥) → 0 < room
some_room zero h = absurd (h refl)
some_room (suc room) h = omega arith

-- and passes over it where it is full
pub full : (terms : List Term) (before room : ℕ) (old : List IdTriple) (t : IdTriple) (next : List Triple) → room ≡ 0 →
    map (triple_at terms) old ++ take room (drop before next) ≡ map (triple_at terms) old ++ take room (drop before (triple_at terms t ∷ next))
full terms before zero old t next e = refl
full terms before (suc room) old t next e = absurd (omega (arith, e))

-- the place of a page's first triple is below their number, so the product does not stop at its type's end
pub place_is : (k size start count before : ℕ) → start ≡ (k - 1) * size → start ≤ count → count ≤ 2 ^ 64 - 1 → before ≡ min ((k - 1) * size) (2 ^ 64 - 1) → before ≡ (k - 1) * size
place_is k size start count before e l m f = go ((k - 1) * size) e f
  where
    go : (n : ℕ) → start ≡ n → before ≡ min n (2 ^ 64 - 1) → before ≡ n
    go n e f = omega (arith, e, l, m, f)

-- ---- what a scan finds

module _ (s : Stored) (ps : List IdPattern) (xs : List Triple) (i : ℕ) (within : i < length xs) where
  rest : (d : Triple) → filter (matches_pattern s ps) (drop i xs) ≡ cond (matches_pattern s ps (get_or xs i d)) (get_or xs i d ∷ filter (matches_pattern s ps) (drop (i + 1) xs)) (filter (matches_pattern s ps) (drop (i + 1) xs))
  rest d = ap (filter (matches_pattern s ps)) (drop-cons xs i d within ∙ ap (λ n. get_or xs i d ∷ drop n xs) (sym add_one))
    where
      add_one : i + 1 ≡ suc i
      add_one = omega arith

  pub none_here : IsMatchAt s ps xs i None → (d : Triple) → filter (matches_pattern s ps) (drop (i + 1) xs) ≡ filter (matches_pattern s ps) (drop i xs)
  none_here h d = sym (rest d ∙ ap (λ b. cond b (get_or xs i d ∷ filter (matches_pattern s ps) (drop (i + 1) xs)) (filter (matches_pattern s ps) (drop (i + 1) xs))) (h d))

  pub one_here : (t : IdTriple) → IsMatchAt s ps xs i (Some t) → triple_at s.terms t ∷ filter (matches_pattern s ps) (drop (i + 1) xs) ≡ filter (matches_pattern s ps) (drop i xs)
  one_here t h =
      let x = triple_at s.terms t in
      sym (rest x ∙ ap (λ y. cond (matches_pattern s ps y) (y ∷ filter (matches_pattern s ps) (drop (i + 1) xs)) (filter (matches_pattern s ps) (drop (i + 1) xs))) (h.1 x)
      ∙ ap (λ b. cond b (x ∷ filter (matches_pattern s ps) (drop (i + 1) xs)) (filter (matches_pattern s ps) (drop (i + 1) xs))) h.2)

  -- so many were counted, and so many come still
  pub one_counted : (t : IdTriple) → IsMatchAt s ps xs i (Some t) → (all count new : ℕ) → count + length (filter (matches_pattern s ps) (drop i xs)) ≡ all → new ≡ count + 1 → new + length (filter (matches_pattern s ps) (drop (i + 1) xs)) ≡ all
  one_counted t h all count new e f = let here : length (filter (matches_pattern s ps) (drop i xs)) ≡ suc (length (filter (matches_pattern s ps) (drop (i + 1) xs))) = ap length (sym (one_here t h)) in omega (arith, e, f, here)

  pub none_counted : IsMatchAt s ps xs i None → (d : Triple) (all count new : ℕ) → count + length (filter (matches_pattern s ps) (drop i xs)) ≡ all → new ≡ count → new + length (filter (matches_pattern s ps) (drop (i + 1) xs)) ≡ all
  none_counted h d all count new e f = let here : length (filter (matches_pattern s ps) (drop i xs)) ≡ length (filter (matches_pattern s ps) (drop (i + 1) xs)) = ap length (sym (none_here h d)) in omega (arith, e, f, here)
