-- One more triple of the distinct ones.
use Rattle.std.proofs.Common.{ℕ, suc, ◌≡◌, ◌+◌, ◌<◌, Bool, true, false, cond, ◌||◌, List, [], ◌∷◌, ◌++◌, length, take, drop, get_or, refl, ap, sym, ◌∙◌, append_assoc, add-one}
use Rattle.std.proofs.Math.Seq.{drop-cons, take-suc}
use Rattle.std.specs.List.{list_any}
use Rattle.std.specs.Ordering.{is_eq}
use Rattle.list_laws.proofs.Lists.{any_snoc}
use Rattle.rdf_terms.specs.Same.{triple_eq}
use Rattle.rdf_terms.specs.Order.{triple_order}
use Rattle.rdf_terms.specs.OrderLaws.{triple_ties}
use Rattle.rdf_terms.specs.declared.term.Triple.{Triple}
use Rattle.bgp_core.specs.Solutions.{distinct_after}
use Rattle.plain_answers.specs.Seen.{once_more}

-- a set with one key more has that key and those it had
pub key_added : (new old : Bool) (key q : Triple) → new ≡ cond (is_eq (triple_order key q)) true old → new ≡ (triple_eq key q || old)
key_added new old key q e = e ∙ ap (λ b. cond b true old) (sym (triple_ties key q)) ∙ either (triple_eq key q) old
  where
    either : (a b : Bool) → cond a true b ≡ (a || b)
    either true b = refl
    either false b = refl

-- what was seen, after one triple more
pub seen_step : (all : List Triple) (i : ℕ) (t q : Triple) (new old : Bool) → i < length all → t ≡ get_or all i t → old ≡ list_any (λ s. triple_eq s q) (take i all) → new ≡ (triple_eq t q || old) → new ≡ list_any (λ s. triple_eq s q) (take (i + 1) all)
seen_step all i t q new old below at before e =
    let front : take (suc i) all ≡ take i all ++ t ∷ [] = take-suc all i t below ∙ ap (λ (x : Triple). take i all ++ x ∷ []) (sym at) in
    e ∙ ap (λ b. triple_eq t q || b) before ∙ sym (any_snoc (λ s. triple_eq s q) (take i all) t) ∙ ap (λ (l : List Triple). list_any (λ s. triple_eq s q) l) (sym (rw add-one front))

pub distinct_after_step : (all once once' : List Triple) (i : ℕ) (t : Triple) (stands : Bool) → i < length all → t ≡ get_or all i t → stands ≡ list_any (λ s. triple_eq s t) (take i all) → once' ≡ once ++ once_more stands t → (whole : List Triple) → whole ≡ once ++ distinct_after (take i all) (drop i all) → whole ≡ once' ++ distinct_after (take (i + 1) all) (drop (i + 1) all)
distinct_after_step all once once' i t stands below at known added whole e =
    let rest : drop i all ≡ t ∷ drop (suc i) all = drop-cons all i t below ∙ ap (λ (x : Triple). x ∷ drop (suc i) all) (sym at) in
    let front : take (suc i) all ≡ take i all ++ t ∷ [] = take-suc all i t below ∙ ap (λ (x : Triple). take i all ++ x ∷ []) (sym at) in
    rw (add-one, front, added, known, append_assoc) (e ∙ ap (λ (l : List Triple). once ++ distinct_after (take i all) l) rest)
