-- Pages that were taken one after another make the page of the round.
use Rattle.std.proofs.Common.{ℕ, ◌≡◌, ◌+◌, Bool, true, if◌then◌else◌, List, [], ◌∷◌, ◌++◌, refl, ap, sym, ◌∙◌, append-nil, append_assoc, arith, Ok, Err}
use Rattle.std.specs.Prelude.{option_to_list, Result, IfOk}
use Rattle.std.proofs.lemmas.List.Sums.{sum_by-cons}
use Rattle.rdf_terms.specs.declared.term.Triple.{Triple}
use Rattle.bgp_core.specs.Solutions.{unless_before, distinct_after}
use Rattle.tpf_base.specs.Addresses.{Address}
use Rattle.fragment_page.specs.declared.page.Page.{Page}
use Rattle.request_plan.specs.declared.joint_page.JointPage.{JointPage}
use Rattle.joint_pages.specs.Joined.{added, all_triples, count_of, nexts_of, next_round, joined}
use Rattle.joint_pages.specs.Joining.{JoiningData, with_page, with_pages, page_made, joining_behind}
use Rattle.joint_pages.proofs.News.{Stands, added-append, new-one, new-append}

-- ---- triples, one after another

pub new-step : (set had : List Triple) (t : Triple) (rest : List Triple) → (had ++ unless_before set t) ++ distinct_after (added set (unless_before set t)) rest ≡ had ++ distinct_after set (t ∷ rest)
new-step set had t rest = append_assoc had (unless_before set t) (distinct_after (added set (unless_before set t)) rest) ∙ ap (λ (l : List Triple). had ++ l) (sym (new-one set t rest))

pub set-step : (set : List Triple) (t : Triple) (rest : List Triple) → added (added set (unless_before set t)) (distinct_after (added set (unless_before set t)) rest) ≡ added set (distinct_after set (t ∷ rest))
set-step set t rest = sym (added-append set (unless_before set t) (distinct_after (added set (unless_before set t)) rest)) ∙ ap (λ (l : List Triple). added set l) (sym (new-one set t rest))

-- one that stands in the set changes nothing
pub had-none : (set had : List Triple) (t : Triple) → Stands set t ≡ true → had ≡ had ++ unless_before set t
had-none set had t e = sym (append-nil had) ∙ ap (λ (b : Bool). had ++ (if b then [] else t ∷ [])) (sym e)

pub set-none : (set : List Triple) (t : Triple) → Stands set t ≡ true → set ≡ added set (unless_before set t)
set-none set t e = ap (λ (b : Bool). added set (if b then [] else t ∷ [])) (sym e)

-- ---- pages, one after another

pub pages-append : (j : JoiningData) (xs ys : List Page) → with_pages j (xs ++ ys) ≡ with_pages (with_pages j xs) ys
pages-append j [] ys = refl
pages-append j (x ∷ xs) ys = pages-append (with_page j x) xs ys

taken-of : (j : JoiningData) (pages : List Page) → (with_pages j pages).taken ≡ added j.taken (distinct_after j.taken (all_triples pages))
taken-of j [] = refl
taken-of j (page ∷ pages) =
    let new = distinct_after j.taken page.triples in
    taken-of (with_page j page) pages ∙ sym (added-append j.taken new (distinct_after (added j.taken new) (all_triples pages))) ∙ ap (λ (l : List Triple). added j.taken l) (sym (new-append j.taken page.triples (all_triples pages)))

triples-of : (j : JoiningData) (pages : List Page) → (with_pages j pages).triples ≡ j.triples ++ distinct_after j.taken (all_triples pages)
triples-of j [] = sym (append-nil j.triples)
triples-of j (page ∷ pages) =
    let new = distinct_after j.taken page.triples in
    triples-of (with_page j page) pages ∙ append_assoc j.triples new (distinct_after (added j.taken new) (all_triples pages)) ∙ ap (λ (l : List Triple). j.triples ++ l) (sym (new-append j.taken page.triples (all_triples pages)))

counts-of : (j : JoiningData) (pages : List Page) → (with_pages j pages).count ≡ j.count + count_of pages
counts-of j [] = omega arith
counts-of j (page ∷ pages) = let more = counts-of (with_page j page) pages in let sum : count_of (page ∷ pages) ≡ page.count + count_of pages = sum_by-cons (λ (p : Page). p.count) page pages in omega (arith, more, sum)

further-of : (j : JoiningData) (pages : List Page) → (with_pages j pages).nexts ≡ j.nexts ++ nexts_of pages
further-of j [] = sym (append-nil j.nexts)
further-of j (page ∷ pages) = further-of (with_page j page) pages ∙ append_assoc j.nexts (option_to_list page.next) (nexts_of pages)

made : List Triple → ℕ → List Address → List Triple → JointPage
made triples count nexts taken = record { triples = triples; count = count; next = next_round nexts taken }

made-is : (a b : List Triple) (m n : ℕ) (c d : List Address) (e f : List Triple) → a ≡ b → m ≡ n → c ≡ d → e ≡ f → made a m c e ≡ made b n d f
made-is a b m n c d e f p q r s = ap (λ (x : List Triple). made x m c e) p ∙ ap (λ (x : ℕ). made b x c e) q ∙ ap (λ (x : List Address). made b n x e) r ∙ ap (λ (x : List Triple). made b n d x) s

pub page-is : (taken : List Triple) (pages : List Page) → page_made (with_pages (joining_behind taken) pages) ≡ joined taken pages
unfolding made
page-is taken pages =
    let j = joining_behind taken in
    let count : (with_pages j pages).count ≡ count_of pages = let e : (with_pages j pages).count ≡ 0 + count_of pages = counts-of j pages in omega (arith, e) in
    made-is _ _ _ _ _ _ _ _ (triples-of j pages) count (further-of j pages) (taken-of j pages)

-- what was taken makes the joint page
pub made-joined : {E : Type 0} (j : JoiningData) (taken : List Triple) (pages : List Page) (result : Result JointPage E) → j ≡ with_pages (joining_behind taken) pages → IfOk result (λ page. page ≡ page_made j) → IfOk result (λ page. page ≡ joined taken pages)
made-joined j taken pages (Ok page) e h = h ∙ ap page_made e ∙ page-is taken pages
made-joined j taken pages (Err x) e h = tt

-- one more part
pub part-step : (j j' : JoiningData) (own rest : List Page) → j' ≡ with_pages j own → with_pages j' rest ≡ with_pages j (own ++ rest)
part-step j j' own rest e = ap (λ (x : JoiningData). with_pages x rest) e ∙ sym (pages-append j own rest)
