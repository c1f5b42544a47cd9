-- In what the grammar reads an IRI or a prefixed name follows each '^^'.
use Rattle.std.proofs.Common.{ℕ, ◌≡◌, inl, inr, Bool, true, not, ◌==◌, List, [], ◌∷◌, ◌++◌, refl, sym, ap, subst, ◌∙◌, arith}
use Rattle.std.specs.List.{list_all}
use Rattle.std.proofs.lemmas.Bool.{and_parts}
use Rattle.regular_expressions.specs.Regular.{Regular, nil, is_among, Matches}
use Rattle.regular_expressions.specs.Combinators.{◌·◌, ◌∣◌, maybe}
use Rattle.query_grammar.specs.declared.kind.Kind.TheVariants as kinds
use Rattle.query_grammar.specs.Grammar.{a, iri, literal, subject, verb, block, query}
use Rattle.pattern_parser.proofs.Splits.{only, only_all, among_passes}
use Rattle.pattern_parser.proofs.Outline.{selection}
use Rattle.pattern_parser.proofs.Closed.{Keeps, seq_keeps, alt_keeps, block_keeps}

-- the letter of an IRI or of a prefixed name
abbrev pub is_iri_letter : ℕ → Bool
is_iri_letter j = is_among (0 ∷ 1 ∷ 2 ∷ []) j

abbrev pub FirstIri : List ℕ → Type 0
FirstIri [] = ⊥
FirstIri (j ∷ w) = is_iri_letter j ≡ true

-- after each letter of '^^' comes one of an IRI
abbrev pub Nexts : List ℕ → Type 0
Nexts [] = Unit {0}
Nexts (k ∷ w) = (k ≡ 22 → FirstIri w) × Nexts w

first_both : (u v : List ℕ) → FirstIri u → FirstIri (u ++ v)
first_both [] v f = absurd f
first_both (j ∷ u) v f = f

nexts_both : (u v : List ℕ) → Nexts u → Nexts v → Nexts (u ++ v)
nexts_both [] v p q = q
nexts_both (k ∷ u) v p q = (λ e. first_both u v (p.0 e), nexts_both u v p.1 q)

abbrev is_other : ℕ → Bool
is_other j = not (j == 22)

other : (k : ℕ) → is_other k ≡ true → k ≡ 22 → ⊥
other k h e = grind (arith, h, e)

nexts_other : (w : List ℕ) → list_all is_other w ≡ true → Nexts w
nexts_other [] h = tt
nexts_other (k ∷ w) h = let p = and_parts (is_other k) (list_all is_other w) h in (λ e. absurd (other k p.0 e), nexts_other w p.1)

-- an expression without '^^'
plain : (r : Regular) → only is_other r ≡ true → Keeps Nexts r
plain r o w m = nexts_other w (only_all is_other r o w m)

iri_first : (v : List ℕ) → Matches iri v → FirstIri v
iri_first v (inl (inl m)) = subst FirstIri (sym m.2) (among_passes is_iri_letter (0 ∷ []) m.0 refl m.1)
iri_first v (inl (inr m)) = subst FirstIri (sym m.2) (among_passes is_iri_letter (2 ∷ []) m.0 refl m.1)
iri_first v (inr m) = subst FirstIri (sym m.2) (among_passes is_iri_letter (1 ∷ []) m.0 refl m.1)

keeps_type : Keeps Nexts (a kinds.Carets · iri)
keeps_type w m =
    let there : w ≡ m.2.0 ∷ m.1 = m.4 ∙ ap (λ (l : List ℕ). l ++ m.1) m.2.2 in
    subst Nexts (sym there) (λ e. iri_first m.1 m.3, plain iri refl m.1 m.3)

either_keeps : (r s : Regular) → Keeps Nexts r → Keeps Nexts s → Keeps Nexts (r ∣ s)
either_keeps r s f g = alt_keeps Nexts tt nexts_both r s f g

keeps_after : Keeps Nexts (maybe (a kinds.Tag ∣ a kinds.Carets · iri))
keeps_after =
    either_keeps (a kinds.Tag ∣ a kinds.Carets · iri) nil (either_keeps (a kinds.Tag) (a kinds.Carets · iri) (plain (a kinds.Tag) refl) keeps_type) (plain nil refl)

abbrev string : Regular
string = a kinds.Str · maybe (a kinds.Tag ∣ a kinds.Carets · iri)

keeps_string : Keeps Nexts string
keeps_string = seq_keeps Nexts tt nexts_both (a kinds.Str) (maybe (a kinds.Tag ∣ a kinds.Carets · iri)) (plain (a kinds.Str) refl) keeps_after

keeps_literal : Keeps Nexts literal
keeps_literal =
    either_keeps (string ∣ a kinds.Number ∣ a kinds.TrueWord) (a kinds.FalseWord)
    (either_keeps (string ∣ a kinds.Number) (a kinds.TrueWord) (either_keeps string (a kinds.Number) keeps_string (plain (a kinds.Number) refl)) (plain (a kinds.TrueWord) refl))
    (plain (a kinds.FalseWord) refl)

keeps_subject : Keeps Nexts subject
keeps_subject =
    either_keeps (a kinds.Variable ∣ iri ∣ literal ∣ a kinds.Blank) (a kinds.Anonymous)
    (either_keeps (a kinds.Variable ∣ iri ∣ literal) (a kinds.Blank) (either_keeps (a kinds.Variable ∣ iri) literal (plain (a kinds.Variable ∣ iri) refl) keeps_literal) (plain (a kinds.Blank) refl))
    (plain (a kinds.Anonymous) refl)

pub keeps_block : Keeps Nexts (maybe block)
keeps_block = block_keeps Nexts tt nexts_both keeps_subject (plain verb refl) (plain (a kinds.Comma) refl) (plain (a kinds.Semicolon) refl) (plain (a kinds.Dot) refl)

pub keeps_query : Keeps Nexts query
unfolding query
keeps_query =
    seq_keeps Nexts tt nexts_both (selection · a kinds.OpenBrace · maybe block) (a kinds.CloseBrace)
    (seq_keeps Nexts tt nexts_both (selection · a kinds.OpenBrace) (maybe block) (plain (selection · a kinds.OpenBrace) refl) keeps_block)
    (plain (a kinds.CloseBrace) refl)
