-- Copies of terms, and the lengths of their texts, where one more is added.
use Rattle.std.proofs.Common.{ℕ, ◌≡◌, ◌+◌, ◌<◌, List, [], ◌∷◌, ◌++◌, sym, ap, subst, ◌∙◌, length, get_or, take, map, All}
use Rattle.std.specs.Borrow.{Bor}
use Rattle.std.proofs.lemmas.List.{map-append}
use Rattle.std.proofs.lemmas.List.Elements.{All-push}
use Rattle.rdf_terms.specs.declared.term.Term.{Term}
use Rattle.rdf_terms.specs.Valid.{IsValidTerm}
use Rattle.triple_table.specs.Lengths.{kept_length}
use Rattle.triple_table.specs.Ranking.{borrowed_terms}
use Rattle.triple_table.proofs.Gathered.{borrowed_more}

pub copies_more : (terms : List (Bor Term)) (i : ℕ) (b : Bor Term) (old new : List Term) → i < length terms → b ≡ get_or terms i b → new ≡ old ++ b.now ∷ [] → old ≡ borrowed_terms (take i terms) → new ≡ borrowed_terms (take (i + 1) terms)
copies_more terms i b old new l e n o = n ∙ ap (λ ts. ts ++ b.now ∷ []) o ∙ sym (borrowed_more terms i b l e)

pub valid_more : (old new : List Term) (x : Term) → new ≡ old ++ x ∷ [] → IsValidTerm x → All IsValidTerm old → All IsValidTerm new
valid_more old new x n v a = subst (All IsValidTerm) (sym n) (All-push IsValidTerm old x a v)

pub lengths_more : (old new : List Term) (x : Term) (before after : List ℕ) → new ≡ old ++ x ∷ [] → after ≡ before ++ kept_length x ∷ [] → before ≡ map kept_length old → after ≡ map kept_length new
lengths_more old new x before after n m h = m ∙ ap (λ ls. ls ++ kept_length x ∷ []) h ∙ sym (ap (map kept_length) n ∙ map-append kept_length old (x ∷ []))
