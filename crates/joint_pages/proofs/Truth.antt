-- Of pages that are true, the joint page is that of the servers together.
use Rattle.std.proofs.Common.{ℕ, suc, ◌≡◌, ◌-◌, ◌<◌, ◌≤◌, Bool, true, false, if◌then◌else◌, nat_lt, List, [], ◌∷◌, ◌++◌, length, map, Some, None, refl, ap, sym, subst, ◌∙◌, append-nil, arith, Ok, Err}
use Rattle.std.specs.Prelude.{◌==◌, Result, IfOk}
use Rattle.std.specs.List.{flat_map, Contains}
use Rattle.std.proofs.lemmas.Bool.Decides.{nat_tests}
use Rattle.std.proofs.lemmas.List.Elements.{All-head}
use Rattle.std.proofs.lemmas.List.Sorted.{IsPermutation-middle, IsPermutation-sym, Contains-permutation}
use Rattle.list_laws.proofs.Told.{one_list}
use Rattle.list_laws.proofs.Lists.{none_wanted}
use Rattle.rdf_terms.specs.declared.term.Triple.{Triple}
use Rattle.rdf_terms.specs.Fragments.{sorted}
use Rattle.rdf_terms.specs.Selections.{Selection}
use Rattle.rdf_terms.specs.Order.{triple_order}
use Rattle.rdf_terms.specs.OrderLaws.{triple_total}
use Rattle.rdf_terms.proofs.Selected.{ascends}
use Rattle.bgp_core.specs.Solutions.{distinct_after}
use Rattle.tpf_base.specs.Addresses.{Address}
use Rattle.fragment_page.specs.declared.page.Page.{Page}
use Rattle.request_plan.specs.Rounds.{RoundData}
use Rattle.request_plan.specs.declared.joint_page.JointPage.{JointPage}
use Rattle.request_plan.specs.JointPages.{joint_page}
use Rattle.request_plan.specs.Worlds.{World, IsOneServer, IsPageAt, IsPageAfter, IsRoundPageAt}
use Rattle.plan_laws.specs.JointWorlds.{joint_last, all_items, taken_before, joint_items, addresses_at, joint_round, several_world}
use Rattle.plan_laws.proofs.JointWorlds.{from-sorted, in-sorted}
use Rattle.joint_pages.specs.Parts.{PartData, pages_in, are_there}
use Rattle.joint_pages.specs.Gatherings.{GatheringData, round_of, is_whole}
use Rattle.joint_pages.specs.Joined.{added, nexts_of, next_round, new_triples, joined, joined_as}
use Rattle.joint_pages.specs.Truths.{AreServers, is_one, HoldsTrue, IsJointPageOf}
use Rattle.joint_pages.proofs.News.{Stands, any-sorted, distinct-same}
use Rattle.joint_pages.proofs.Matching.{AreJoint, Matched, parts-matched, pages-joint, none-far, some-near}

-- ---- sets in their order

-- of lists with the same triples
same-sorted : (xs ys : List Triple) → ((t : Triple) → Contains xs t → Contains ys t) → ((t : Triple) → Contains ys t → Contains xs t) → sorted triple_order xs ≡ sorted triple_order ys
same-sorted xs ys f g = one_list triple_total (sorted triple_order xs) (sorted triple_order ys) (ascends xs) (ascends ys) (λ t m. in-sorted ys t (f t (from-sorted xs t m))) (λ t m. in-sorted xs t (g t (from-sorted ys t m)))

front-or-middle : (xs : List Triple) (y : Triple) (ys : List Triple) → sorted triple_order (y ∷ (xs ++ ys)) ≡ sorted triple_order (xs ++ y ∷ ys)
front-or-middle xs y ys =
    let turned = IsPermutation-middle xs y ys in
    same-sorted (y ∷ (xs ++ ys)) (xs ++ y ∷ ys) (λ t m. Contains-permutation (y ∷ (xs ++ ys)) (xs ++ y ∷ ys) t (IsPermutation-sym (xs ++ y ∷ ys) (y ∷ (xs ++ ys)) turned) m) (λ t m. Contains-permutation (xs ++ y ∷ ys) (y ∷ (xs ++ ys)) t turned m)

added-sorted : (xs ys : List Triple) → added (sorted triple_order xs) ys ≡ sorted triple_order (xs ++ ys)
added-sorted xs [] = ap (λ (l : List Triple). sorted triple_order l) (sym (append-nil xs))
added-sorted xs (y ∷ ys) = added-sorted (y ∷ xs) ys ∙ front-or-middle xs y ys

-- ---- the page

next-some : (addresses : List Address) (taken : List Triple) (first : Address) (rest : List Address) → addresses ≡ first ∷ rest → next_round addresses taken ≡ Some (record { addresses = addresses; taken = taken })
next-some addresses taken first rest e = subst (λ (l : List Address). next_round l taken ≡ Some (record { addresses = l; taken = taken })) (sym e) refl

module _ (worlds : List World) (s : Selection) (k : ℕ) (taken : List Triple) (pages : List Page) (servers : AreServers worlds) (before : taken ≡ sorted triple_order (taken_before worlds s k)) (are : AreJoint worlds s k pages) where
  stands-same : (u : Triple) → Stands taken u ≡ Stands (taken_before worlds s k) u
  stands-same u = ap (λ (l : List Triple). Stands l u) before ∙ any-sorted (taken_before worlds s k) u

  new-are : new_triples taken pages ≡ joint_items worlds s k
  new-are = ap (λ (l : List Triple). distinct_after taken l) are.triples ∙ distinct-same taken (taken_before worlds s k) (all_items worlds s k) stands-same

  taken-then : added taken (new_triples taken pages) ≡ sorted triple_order (taken_before worlds s (suc k))
  taken-then = ap (λ (l : List Triple). added taken l) new-are ∙ ap (λ (l : List Triple). added l (joint_items worlds s k)) before ∙ added-sorted (taken_before worlds s k) (joint_items worlds s k)

  less : suc (suc k) - 1 ≡ suc k
  less = omega arith

  goes-on : (b : Bool) → nat_lt (suc k) (joint_last worlds s) ≡ b → next_round (nexts_of pages) (added taken (new_triples taken pages)) ≡ (if b then Some (joint_round worlds s (suc (suc k))) else None)
  goes-on true e =
      let near : suc k < joint_last worlds s = grind (arith, nat_tests) in
      let some = some-near worlds s (suc k) servers.are_one near in
      ap (λ (l : List Address). next_round l (added taken (new_triples taken pages))) are.nexts
      ∙ next-some (flat_map (addresses_at s (suc (suc k))) worlds) (added taken (new_triples taken pages)) some.0 some.1 some.2
      ∙ ap (λ (l : List Triple). Some (record { addresses = flat_map (addresses_at s (suc (suc k))) worlds; taken = l })) (taken-then ∙ ap (λ (n : ℕ). sorted triple_order (taken_before worlds s n)) (sym less))
  goes-on false e =
      let high : joint_last worlds s ≤ suc k = grind (arith, nat_tests) in
      ap (λ (l : List Address). next_round l (added taken (new_triples taken pages))) (are.nexts ∙ none-far worlds s (suc k) high)

  joint-after : IsPageAfter (several_world worlds) s k (joined taken pages)
  joint-after = record { triples = new-are; count = are.count; next = goes-on (nat_lt (suc k) (joint_last worlds s)) refl }

-- ---- the round

all-asked : (parts : List PartData) (wanted : List Address) → wanted ≡ [] → map (λ p. p.address) parts ++ wanted ≡ map (λ p. p.address) parts
all-asked parts wanted e = ap (λ (l : List Address). map (λ (p : PartData). p.address) parts ++ l) e ∙ append-nil (map (λ (p : PartData). p.address) parts)

several-true : (worlds : List World) (g : GatheringData) → AreServers worlds → HoldsTrue worlds g → is_whole g ≡ true → IsRoundPageAt (several_world worlds) (round_of g) (joined g.taken (pages_in g.parts))
several-true worlds g servers told whole = record {
  stands = λ s k valid asked is h.
      let ends = none_wanted g.wanted (are_there g.parts) whole in
      let one : suc k - 1 ≡ k = omega arith in
      let addresses : map (λ p. p.address) g.parts ≡ flat_map (addresses_at s (suc k)) worlds = sym (all-asked g.parts g.wanted ends.0) ∙ ap (λ (r : RoundData). r.addresses) is in
      let before : g.taken ≡ sorted triple_order (taken_before worlds s k) = ap (λ (r : RoundData). r.taken) is ∙ ap (λ (n : ℕ). sorted triple_order (taken_before worlds s n)) one in
      let are = pages-joint worlds s k valid asked worlds (λ w m. m) servers.are_worlds servers.are_one (map (λ p. p.address) g.parts) (pages_in g.parts) addresses (parts-matched worlds g.parts ends.1 told) in
      joint-after worlds s k g.taken (pages_in g.parts) servers before are;
}

-- of one server alone it is the page of the one address
only-page : (w : World) (s : Selection) (k : ℕ) (address : Address) (taken : List Triple) (pages : List Page) → ((page : Page) → IsPageAt w address page → IsPageAfter w s k (joint_page page)) → Matched (w ∷ []) (address ∷ []) pages → IsPageAfter w s k (joined_as true taken pages)
only-page w s k address taken [] after m = absurd m
only-page w s k address taken (page ∷ pages) after m = after page (All-head (λ v. IsPageAt v address page) w [] m.0)

alone-true : (w : World) (g : GatheringData) → IsOneServer w → HoldsTrue (w ∷ []) g → is_whole g ≡ true → IsRoundPageAt w (round_of g) (joined_as true g.taken (pages_in g.parts))
alone-true w g one told whole = record {
  stands = λ s k valid asked is h.
      let ends = none_wanted g.wanted (are_there g.parts) whole in
      let a = one s (suc k) in
      let addresses : map (λ p. p.address) g.parts ≡ a.0 ∷ [] = sym (all-asked g.parts g.wanted ends.0) ∙ ap (λ (r : RoundData). r.addresses) (is ∙ a.1) in
      only-page w s k a.0 g.taken (pages_in g.parts) (λ page at. at.stands s k valid asked (sym a.1) h)
      (subst (λ (l : List Address). Matched (w ∷ []) l (pages_in g.parts)) addresses (parts-matched (w ∷ []) g.parts ends.1 told));
}

not-one : (n : ℕ) → (suc (suc n) == 1) ≡ false
not-one n = grind (arith, nat_tests)

pub joint-true : (worlds : List World) (g : GatheringData) (alone : Bool) → AreServers worlds → alone ≡ is_one worlds → HoldsTrue worlds g → is_whole g ≡ true → IsJointPageOf worlds g (joined_as alone g.taken (pages_in g.parts))
joint-true [] g alone servers e told whole = let some = servers.some in absurd (omega (arith, some))
joint-true (w ∷ []) g alone servers e told whole =
    subst (λ (b : Bool). IsRoundPageAt w (round_of g) (joined_as b g.taken (pages_in g.parts))) (sym e) (alone-true w g (All-head IsOneServer w [] servers.are_one) told whole)
joint-true (w ∷ v ∷ worlds) g alone servers e told whole =
    subst (λ (b : Bool). IsRoundPageAt (several_world (w ∷ v ∷ worlds)) (round_of g) (joined_as b g.taken (pages_in g.parts))) (sym (e ∙ not-one (length worlds))) (several-true (w ∷ v ∷ worlds) g servers told whole)

-- the page that a call gives
pub together : {E : Type 0} (worlds : List World) (g : GatheringData) (alone : Bool) (result : Result JointPage E) → IfOk result (λ page. page ≡ joined_as alone g.taken (pages_in g.parts)) → AreServers worlds → alone ≡ is_one worlds → HoldsTrue worlds g → is_whole g ≡ true → IfOk result (IsJointPageOf worlds g)
together worlds g alone (Ok page) e servers one told whole = subst (λ (p : JointPage). IsJointPageOf worlds g p) (sym e) (joint-true worlds g alone servers one told whole)
together worlds g alone (Err x) e servers one told whole = tt
