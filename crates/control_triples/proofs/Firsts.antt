-- The quads that are marked have the triples of the page.
use Rattle.std.proofs.Common.{ℕ, suc, ◌≡◌, ◌+◌, ◌<◌, ◌≤◌, Bool, true, false, cond, not, ◌&&◌, ◌||◌, List, [], ◌∷◌, ◌++◌, length, take, drop, get_or, map, refl, ap, sym, ◌∙◌, append_assoc, append-nil, add-one, Option, Some, None}
use Rattle.std.proofs.Math.Seq.{drop-cons}
use Rattle.std.proofs.lemmas.List.Folds.{list_any-append}
use Rattle.std.specs.Prelude.{is_none, is_some}
use Rattle.std.proofs.Math.ListN.{drop_of_length-le}
use Rattle.std.specs.List.{list_any, filter, zip}
use Rattle.std.specs.Ordering.{is_eq}
use Rattle.std.proofs.lemmas.List.Elements.{filter-append}
use Rattle.std.proofs.lemmas.List.{map-append}
use Rattle.list_laws.proofs.Lists.{any_snoc}
use Rattle.rdf_terms.specs.Same.{triple_eq}
use Rattle.rdf_terms.specs.declared.term.Term.{Term}
use Rattle.rdf_terms.specs.declared.term.Triple.{Triple}
use Rattle.rdf_terms.specs.declared.term.Quad.{Quad}
use Rattle.control_triples.specs.Contents.{firsts, default_triples, page_triples}
use Rattle.control_triples.specs.Seen.{once_more, is_new}
use Rattle.control_triples.specs.Ranges.{length_triple_order}
use Rattle.control_triples.specs.LengthLaws.{length_triple_ties}
use Rattle.control_triples.specs.Marks.{is_first, is_data, marked}
use Rattle.control_triples.proofs.Steps.{taken_more}

not_not : (b : Bool) → not (not b) ≡ b
not_not true = refl
not_not false = refl

-- a set with one key more has that key and those it had
key_added : (new old : Bool) (key q : Triple) → new ≡ cond (is_eq (length_triple_order key q)) true old → new ≡ (triple_eq key q || old)
key_added new old key q e = e ∙ ap (λ b. cond b true old) (sym (length_triple_ties key q)) ∙ either (triple_eq key q) old
  where
    either : (a b : Bool) → cond a true b ≡ (a || b)
    either true b = refl
    either false b = refl

-- the set of the triples seen, after a quad of the default graph
pub data_added : (new old : Bool) (graph : Option Term) (key q : Triple) → is_some graph ≡ false → new ≡ cond (is_eq (length_triple_order key q)) true old → new ≡ ((is_none graph && triple_eq key q) || old)
data_added new old None key q none e = key_added new old key q e
data_added new old (Some g) key q none e = absurd (cc)

filter-filter : (p q : Triple → Bool) (xs : List Triple) → filter p (filter q xs) ≡ filter (λ x. q x && p x) xs
filter-filter p q [] = refl
filter-filter p q (x ∷ xs) = by (q x) (p x) refl refl (filter-filter p q xs)
  where
    by : (a b : Bool) → q x ≡ a → p x ≡ b → filter p (filter q xs) ≡ filter (λ x. q x && p x) xs → filter p (cond (q x) (x ∷ filter q xs) (filter q xs)) ≡ cond (q x && p x) (x ∷ filter (λ x. q x && p x) xs) (filter (λ x. q x && p x) xs)
    by false b e f ih = rw e ih
    by true true e f ih = rw e (rw f (ap (λ l. x ∷ l) ih))
    by true false e f ih = rw e (rw f ih)

filter_same : (p q : Triple → Bool) → ((x : Triple) → p x ≡ q x) → (xs : List Triple) → filter p xs ≡ filter q xs
filter_same p q e [] = refl
filter_same p q e (x ∷ xs) = ap (λ (b : Bool). cond b (x ∷ filter p xs) (filter p xs)) (e x) ∙ ap (λ (l : List Triple). cond (q x) (x ∷ l) l) (filter_same p q e xs)

filter_all : (p : Triple → Bool) → ((x : Triple) → p x ≡ true) → (xs : List Triple) → filter p xs ≡ xs
filter_all p e [] = refl
filter_all p e (x ∷ xs) = ap (λ (b : Bool). cond b (x ∷ filter p xs) (filter p xs)) (e x) ∙ ap (λ (l : List Triple). x ∷ l) (filter_all p e xs)

-- before any triple was seen all are new
pub firsts_start : (ts : List Triple) → firsts ts ≡ filter (is_new []) (firsts ts)
firsts_start ts = sym (filter_all (is_new []) (λ x. refl) (firsts ts))

new_step : (before : List Triple) (t s : Triple) → (not (triple_eq t s) && is_new before s) ≡ is_new (before ++ t ∷ []) s
new_step before t s = by (triple_eq t s) (list_any (λ u. triple_eq u s) before) ∙ ap not (sym (any_snoc (λ u. triple_eq u s) before t))
  where
    by : (a b : Bool) → (not a && not b) ≡ not (a || b)
    by true b = refl
    by false b = refl

after : (before ts : List Triple) (t : Triple) (stands : Bool) → stands ≡ list_any (λ s. triple_eq s t) before →
    filter (is_new before) (firsts (t ∷ ts)) ≡ once_more stands t ++ filter (is_new (before ++ t ∷ [])) (firsts ts)
after before ts t stands e =
    ap (λ (b : Bool). cond (not b) (t ∷ filter (is_new before) (filter (λ s. not (triple_eq t s)) (firsts ts))) (filter (is_new before) (filter (λ s. not (triple_eq t s)) (firsts ts)))) (sym e)
    ∙ ap (λ (l : List Triple). cond (not stands) (t ∷ l) l) (filter-filter (is_new before) (λ s. not (triple_eq t s)) (firsts ts) ∙ filter_same (λ s. not (triple_eq t s) && is_new before s) (is_new (before ++ t ∷ [])) (new_step before t) (firsts ts))
    ∙ by stands (filter (is_new (before ++ t ∷ [])) (firsts ts))
  where
    by : (b : Bool) (l : List Triple) → cond (not b) (t ∷ l) l ≡ once_more b t ++ l
    by true l = refl
    by false l = refl

-- ---- marks

-- the marks of quads behind these triples
pub marks_after : List Triple → List Quad → List Bool
marks_after before [] = []
marks_after before (q ∷ qs) = is_first (list_any (λ s. triple_eq s q.triple) before) q ∷ marks_after (before ++ default_triples (q ∷ [])) qs

marked_step : (before : List Triple) (qs : List Quad) → ((l : List Triple) → marked qs (marks_after l qs) ≡ filter (is_new l) (firsts (default_triples qs))) → (t : Triple) (g : Option Term) →
    marked (record { triple = t; graph = g } ∷ qs) (marks_after before (record { triple = t; graph = g } ∷ qs)) ≡ filter (is_new before) (firsts (default_triples (record { triple = t; graph = g } ∷ qs)))
unfolding marks_after
marked_step before qs ih t (Some g) = ap (λ (l : List Triple). marked qs (marks_after l qs)) (append-nil before) ∙ ih before
marked_step before qs ih t None =
    choose (not stands) (zip qs (marks_after (before ++ t ∷ []) qs)) ∙ ap (λ (b : Bool). once_more b t ++ marked qs (marks_after (before ++ t ∷ []) qs)) (not_not stands)
    ∙ ap (λ (l : List Triple). once_more stands t ++ l) (ih (before ++ t ∷ [])) ∙ sym (after before (default_triples qs) t stands refl)
  where
    stands : Bool
    stands = list_any (λ s. triple_eq s t) before

    choose : (b : Bool) (l : List (Quad × Bool)) → map (λ (p : Quad × Bool). p.0.triple) (filter (λ (p : Quad × Bool). p.1) ((record { triple = t; graph = None }, b) ∷ l)) ≡ once_more (not b) t ++ map (λ (p : Quad × Bool). p.0.triple) (filter (λ (p : Quad × Bool). p.1) l)
    choose true l = refl
    choose false l = refl

-- they stand at the triples that are new
marked_after : (before : List Triple) (quads : List Quad) → marked quads (marks_after before quads) ≡ filter (is_new before) (firsts (default_triples quads))
unfolding marks_after
marked_after before [] = refl
marked_after before (q ∷ qs) = marked_step before qs (λ l. marked_after l qs) q.triple q.graph

marked_are : (quads : List Quad) (marks : List Bool) → marks_after [] quads ≡ marks → marked quads marks ≡ page_triples quads
marked_are quads marks e = ap (λ (l : List Bool). marked quads l) (sym e) ∙ marked_after [] quads ∙ sym (firsts_start (default_triples quads))

-- the marks of all quads, when there are no more
pub marked_all : (quads : List Quad) (i : ℕ) (marks : List Bool) → length quads ≤ i → marks_after [] quads ≡ marks ++ marks_after (default_triples (take i quads)) (drop i quads) → marked quads marks ≡ page_triples quads
unfolding marks_after
marked_all quads i marks past e =
    marked_are quads marks (e ∙ ap (λ (l : List Quad). marks ++ marks_after (default_triples (take i quads)) l) (drop_of_length-le quads past) ∙ append-nil marks)

-- ---- one quad more

module _ (all : List Quad) (i : ℕ) (q : Quad) (below : i < length all) (at : q ≡ get_or all i q) where
  before : List Triple
  before = default_triples (take i all)

  front : before ++ default_triples (q ∷ []) ≡ default_triples (take (i + 1) all)
  unfolding before
  front =
      sym (ap default_triples (taken_more all i q below at)
      ∙ ap (map (λ (x : Quad). x.triple)) (filter-append (λ (x : Quad). is_none x.graph) (take i all) (q ∷ []))
      ∙ map-append (λ (x : Quad). x.triple) (filter (λ (x : Quad). is_none x.graph) (take i all)) (filter (λ (x : Quad). is_none x.graph) (q ∷ [])))

  rest : drop i all ≡ q ∷ drop (i + 1) all
  rest = rw add-one (drop-cons all i q below ∙ ap (λ (x : Quad). x ∷ drop (suc i) all) (sym at))

  pub marks_step : (marks marks' : List Bool) (stands : Bool) → stands ≡ list_any (λ s. triple_eq s q.triple) (default_triples (take i all)) → marks' ≡ marks ++ is_first stands q ∷ [] → (whole : List Bool) →
      whole ≡ marks ++ marks_after (default_triples (take i all)) (drop i all) → whole ≡ marks' ++ marks_after (default_triples (take (i + 1) all)) (drop (i + 1) all)
  unfolding before marks_after
  marks_step marks marks' stands known added whole e =
      e ∙ ap (λ (l : List Quad). marks ++ marks_after before l) rest
      ∙ ap (λ (l : List Triple). marks ++ is_first (list_any (λ s. triple_eq s q.triple) before) q ∷ marks_after l (drop (i + 1) all)) front
      ∙ ap (λ (b : Bool). marks ++ is_first b q ∷ marks_after (default_triples (take (i + 1) all)) (drop (i + 1) all)) (sym known)
      ∙ sym (append_assoc marks (is_first stands q ∷ []) (marks_after (default_triples (take (i + 1) all)) (drop (i + 1) all)))
      ∙ ap (λ (l : List Bool). l ++ marks_after (default_triples (take (i + 1) all)) (drop (i + 1) all)) (sym added)

  pub seen_step : (t : Triple) (new old : Bool) → old ≡ list_any (λ s. triple_eq s t) (default_triples (take i all)) → new ≡ (is_data t q || old) → new ≡ list_any (λ s. triple_eq s t) (default_triples (take (i + 1) all))
  unfolding before
  seen_step t new old known added =
      added ∙ ap (λ (b : Bool). is_data t q || b) known ∙ either (is_data t q) (list_any (λ s. triple_eq s t) before)
      ∙ ap (λ (b : Bool). list_any (λ s. triple_eq s t) before || b) (sym (one q.graph refl))
      ∙ sym (list_any-append (λ s. triple_eq s t) before (default_triples (q ∷ [])))
      ∙ ap (λ (l : List Triple). list_any (λ s. triple_eq s t) l) front
    where
      either : (a b : Bool) → (a || b) ≡ (b || a)
      either true true = refl
      either true false = refl
      either false true = refl
      either false false = refl

      alone : (b : Bool) → (b || false) ≡ b
      alone true = refl
      alone false = refl

      one : (o : Option Term) → q.graph ≡ o → list_any (λ s. triple_eq s t) (default_triples (q ∷ [])) ≡ is_data t q
      one (Some g) e = rw e refl
      one None e = rw e (alone (triple_eq q.triple t))
