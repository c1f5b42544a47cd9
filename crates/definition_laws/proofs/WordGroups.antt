-- The words of a block are terms, names and marks one after another.
use Rattle.std.proofs.Common.{ℕ, ◌≡◌, inl, inr, Bool, true, false, List, [], ◌∷◌, ◌++◌, refl, sym, ap, subst, ◌∙◌, append_assoc}
use Rattle.std.proofs.lemmas.List.{append-nil}
use Rattle.regular_expressions.specs.Regular.{Regular, many, joined, Matches, Each}
use Rattle.regular_expressions.specs.Combinators.{◌·◌, ◌∣◌, maybe}
use Rattle.query_grammar.specs.declared.kind.Kind.{Kind}
use Rattle.query_grammar.specs.declared.kind.Kind.TheVariants as kinds
use Rattle.query_grammar.specs.Grammar.{codes, a, iri, literal, subject, verb, block}
use Rattle.query_words.specs.declared.word.Word.{Word}
use Rattle.query_words.specs.Words.{kind_of, kinds_of}
use Rattle.pattern_parser.proofs.Splits.{Is, Are, flat, many_split, marked, leaf, iri_leaf}
use Rattle.pattern_parser.proofs.Blocks.{is_one, one_stays, kind_more, Stops, stops_at, verb_word}
use Rattle.pattern_parser.proofs.Closed.{block_keeps}

-- a term, a name or a mark
abbrev pub group : Regular
group = subject ∣ verb ∣ a kinds.Dot ∣ a kinds.Semicolon ∣ a kinds.Comma

-- the kinds of the marks between terms
abbrev pub is_point : Kind → Bool
is_point kinds.Dot = true
is_point kinds.Semicolon = true
is_point kinds.Comma = true
is_point _ = false

-- ---- a block is groups

joined_both : (us vs : List (List ℕ)) → joined (us ++ vs) ≡ joined us ++ joined vs
joined_both [] vs = refl
joined_both (u ∷ us) vs = ap (λ (l : List ℕ). u ++ l) (joined_both us vs) ∙ sym (append_assoc u (joined us) (joined vs))

each_both : (P : List ℕ → Type 0) (us vs : List (List ℕ)) → Each P us → Each P vs → Each P (us ++ vs)
each_both P [] vs a b = b
each_both P (u ∷ us) vs a b = (a.0, each_both P us vs a.1 b)

abbrev AreGroups : List ℕ → Type 0
AreGroups w = Matches (many group) w

groups_both : (u v : List ℕ) → AreGroups u → AreGroups v → AreGroups (u ++ v)
groups_both u v m n =
    let front : u ++ v ≡ joined m.0 ++ v = ap (λ (l : List ℕ). l ++ v) m.2 in
    let back : joined m.0 ++ v ≡ joined m.0 ++ joined n.0 = ap (λ (l : List ℕ). joined m.0 ++ l) n.2 in
    (m.0 ++ n.0, each_both (Matches group) m.0 n.0 m.1 n.1, front ∙ back ∙ sym (joined_both m.0 n.0))

groups_one : (w : List ℕ) → Matches group w → AreGroups w
groups_one w m = (w ∷ [], (m, tt), sym (append-nil w))

-- the words of a block in their groups
pub groups_of : (ws : List Word) → Is (maybe block) ws → (xs : List (List Word)) × Are group xs × (ws ≡ flat xs)
groups_of ws m =
    many_split group ws
    (block_keeps AreGroups ([], tt, refl) groups_both
    (λ w s. groups_one w (inl (inl (inl (inl s)))))
    (λ w s. groups_one w (inl (inl (inl (inr s)))))
    (λ w s. groups_one w (inr s))
    (λ w s. groups_one w (inl (inr s)))
    (λ w s. groups_one w (inl (inl (inr s))))
    (codes (kinds_of ws)) m)

-- ---- no group begins with a tag or with '^^'

point_stays : (k : Kind) → is_point k ≡ true → kind_more k ≡ 0
point_stays kinds.Tag e = absurd (differ e)
  where
    differ : false ≡ true → ⊥
    differ e = cc
point_stays kinds.Carets e = absurd (differ e)
  where
    differ : false ≡ true → ⊥
    differ e = cc
point_stays _ e = refl

word_stops : (test : Kind → Bool) → ((k : Kind) → test k ≡ true → kind_more k ≡ 0) → (xs rest : List Word) → (w : Word) × (xs ≡ w ∷ []) × (test (kind_of w.value) ≡ true) → Stops (xs ++ rest)
word_stops test f xs rest o =
    subst (λ (l : List Word). Stops (l ++ rest)) (sym o.1) (stops_at (kind_of o.0.value) (f (kind_of o.0.value) o.2) o.0 rest refl)

string_stops : (xs rest : List Word) → Is (a kinds.Str · maybe (a kinds.Tag ∣ a kinds.Carets · iri)) xs → Stops (xs ++ rest)
string_stops xs rest m =
    let c = marked kinds.Str (maybe (a kinds.Tag ∣ a kinds.Carets · iri)) xs m in
    subst (λ (l : List Word). Stops (l ++ rest)) (sym c.2) (stops_at kinds.Str refl c.0 (c.1 ++ rest) c.3)

literal_stops : (xs rest : List Word) → Is literal xs → Stops (xs ++ rest)
literal_stops xs rest (inl (inl (inl m))) = string_stops xs rest m
literal_stops xs rest (inl (inl (inr m))) = word_stops is_one one_stays xs rest (leaf is_one kinds.Number refl xs m)
literal_stops xs rest (inl (inr m)) = word_stops is_one one_stays xs rest (leaf is_one kinds.TrueWord refl xs m)
literal_stops xs rest (inr m) = word_stops is_one one_stays xs rest (leaf is_one kinds.FalseWord refl xs m)

subject_stops : (xs rest : List Word) → Is subject xs → Stops (xs ++ rest)
subject_stops xs rest (inl (inl (inl (inl m)))) = word_stops is_one one_stays xs rest (leaf is_one kinds.Variable refl xs m)
subject_stops xs rest (inl (inl (inl (inr m)))) = word_stops is_one one_stays xs rest (iri_leaf is_one refl refl refl xs m)
subject_stops xs rest (inl (inl (inr m))) = literal_stops xs rest m
subject_stops xs rest (inl (inr m)) = word_stops is_one one_stays xs rest (leaf is_one kinds.Blank refl xs m)
subject_stops xs rest (inr m) = word_stops is_one one_stays xs rest (leaf is_one kinds.Anonymous refl xs m)

group_stops : (xs rest : List Word) → Is group xs → Stops (xs ++ rest)
group_stops xs rest (inl (inl (inl (inl m)))) = subject_stops xs rest m
group_stops xs rest (inl (inl (inl (inr m)))) = word_stops is_one one_stays xs rest (verb_word xs m)
group_stops xs rest (inl (inl (inr m))) = word_stops is_point point_stays xs rest (leaf is_point kinds.Dot refl xs m)
group_stops xs rest (inl (inr m)) = word_stops is_point point_stays xs rest (leaf is_point kinds.Semicolon refl xs m)
group_stops xs rest (inr m) = word_stops is_point point_stays xs rest (leaf is_point kinds.Comma refl xs m)

pub groups_stop : (xs : List (List Word)) → Are group xs → (close : Word) → kind_of close.value ≡ kinds.CloseBrace → Stops (flat xs ++ close ∷ [])
groups_stop [] h close k = stops_at kinds.CloseBrace refl close [] k
groups_stop (x ∷ xs) h close k = subst Stops (sym (append_assoc x (flat xs) (close ∷ []))) (group_stops x (flat xs ++ close ∷ []) h.0)
