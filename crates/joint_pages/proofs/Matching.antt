-- The pages of a round, server by server.
use Rattle.std.proofs.Common.{ℕ, suc, ◌≡◌, ◌+◌, ◌<◌, ◌≤◌, inl, inr, Bool, true, false, if◌then◌else◌, nat_lt, nat_le, List, [], ◌∷◌, ◌++◌, map, Option, Some, None, refl, ap, sym, subst, ◌∙◌, arith}
use Rattle.std.specs.Prelude.{option_to_list, is_some, ⊤}
use Rattle.std.specs.Option.{option_map}
use Rattle.std.specs.List.{flat_map, All, Contains}
use Rattle.std.proofs.lemmas.Bool.{cases_lt, lt-ltb, le-ltb, le-leb, lt-leb, and_parts}
use Rattle.std.proofs.lemmas.Bool.Decides.{nat_tests}
use Rattle.std.proofs.lemmas.List.Elements.{All-head, All-tail, All-contains}
use Rattle.std.proofs.lemmas.List.Sums.{sum_by-cons}
use Rattle.list_laws.proofs.Members.{at_head, in_tail}
use Rattle.list_laws.proofs.Options.{some_same, none_not_some, some_not_none}
use Rattle.rdf_terms.specs.declared.term.Triple.{Triple}
use Rattle.rdf_terms.specs.Selections.{Selection, IsValidSelection}
use Rattle.tpf_base.specs.Addresses.{Address}
use Rattle.fragment_page.specs.declared.page.Page.{Page}
use Rattle.request_plan.specs.Rounds.{RoundData, round_of_one}
use Rattle.request_plan.specs.Blocks.{is_askable}
use Rattle.request_plan.specs.JointPages.{joint_page}
use Rattle.request_plan.specs.Worlds.{World, IsWorld, IsOneServer, IsPageAt, IsPageAfter}
use Rattle.plan_laws.specs.JointWorlds.{joint_count, joint_last, all_items, addresses_at}
use Rattle.joint_pages.specs.Parts.{PartData, page_of, pages_in, are_there}
use Rattle.joint_pages.specs.Joined.{all_triples, count_of, nexts_of}
use Rattle.joint_pages.specs.Truths.{IsPageOfAll, IsTrueWhere, IsTruePart}

-- ---- addresses with their pages

-- a page for each address, which is true
abbrev pub Matched : List World → List Address → List Page → Type 0
Matched worlds [] [] = ⊤
Matched worlds [] (page ∷ pages) = ⊥
Matched worlds (address ∷ addresses) [] = ⊥
Matched worlds (address ∷ addresses) (page ∷ pages) = IsPageOfAll worlds address page × Matched worlds addresses pages

one-matched : (worlds : List World) (address : Address) (page : Option Page) (addresses : List Address) (pages : List Page) → is_some page ≡ true → IsTrueWhere worlds address page → Matched worlds addresses pages → Matched worlds (address ∷ addresses) (page_of page ++ pages)
one-matched worlds address None addresses pages e is more = cc
one-matched worlds address (Some page) addresses pages e is more = (is, more)

pub parts-matched : (worlds : List World) (parts : List PartData) → are_there parts ≡ true → All (IsTruePart worlds) parts → Matched worlds (map (λ p. p.address) parts) (pages_in parts)
parts-matched worlds [] e is = tt
parts-matched worlds (p ∷ parts) e is =
    let both = and_parts (is_some p.page) (are_there parts) e in
    one-matched worlds p.address p.page (map (λ q. q.address) parts) (pages_in parts) both.0 (All-head (IsTruePart worlds) p parts is) (parts-matched worlds parts both.1 (All-tail (IsTruePart worlds) p parts is))

-- ---- the pages of some servers

-- what stands on them, where they go on, and how many triples the first of them tell of
pub record AreJoint (servers : List World) (s : Selection) (k : ℕ) (pages : List Page) : Type 0 where
  pub triples : all_triples pages ≡ all_items servers s k
  pub nexts : nexts_of pages ≡ flat_map (addresses_at s (suc (suc k))) servers
  pub count : k ≡ 0 → count_of pages ≡ joint_count servers s

le-is-lt : (k n : ℕ) → nat_le (suc k) n ≡ nat_lt k n
le-is-lt k n = elim (cases_lt k n) [
  | inl h ↦ le-leb (suc k) n (omega (arith, h)) ∙ sym (lt-ltb k n h)
  | inr h ↦ lt-leb (suc k) n (omega (arith, h)) ∙ sym (le-ltb k n h)
]

next-is : (next : Option Address) (round : RoundData) (b : Bool) → option_map round_of_one next ≡ (if b then Some round else None) → option_to_list next ≡ (if b then round.addresses else [])
next-is None round true e = absurd (none_not_some e)
next-is None round false e = refl
next-is (Some address) round true e = ap (λ (r : RoundData). r.addresses) (some_same e)
next-is (Some address) round false e = absurd (some_not_none e)

no-page : (s : Selection) (k : ℕ) (pages : List Page) (worlds : List World) → Matched worlds [] pages → AreJoint [] s k pages
no-page s k [] worlds m = record { triples = refl; nexts = refl; count = λ e. refl }
no-page s k (page ∷ pages) worlds m = absurd m

module _ (worlds : List World) (s : Selection) (k : ℕ) (valid : IsValidSelection s) (asked : is_askable s ≡ true) where
  -- one more server, which has no page of this number
  past : (w : World) (servers : List World) (pages : List Page) → IsWorld w → w.last s ≤ k → AreJoint servers s k pages → AreJoint (w ∷ servers) s k pages
  past w servers pages is h j = record {
    triples = j.triples ∙ ap (λ (b : Bool). (if b then w.items s k else []) ++ all_items servers s k) (sym (le-ltb k (w.last s) h));
    nexts = let b : nat_le (suc (suc k)) (w.last s) ≡ false = lt-leb (suc (suc k)) (w.last s) (omega (arith, h)) in
        j.nexts ∙ ap (λ (x : Bool). (if x then (w.round s (suc (suc k))).addresses else []) ++ flat_map (addresses_at s (suc (suc k))) servers) (sym b);
    count = λ e. let some = is.some s in absurd (omega (arith, some, h, e));
  }

  -- one more server, with its page
  here : (w : World) (servers : List World) (address : Address) (page : Page) (pages : List Page) → w.round s (suc k) ≡ round_of_one address → k < w.last s → Contains worlds w → IsPageOfAll worlds address page → AreJoint servers s k pages → AreJoint (w ∷ servers) s k (page ∷ pages)
  here w servers address page pages at h m told j =
      let is : IsPageAfter w s k (joint_page page) = (All-contains (λ v. IsPageAt v address page) worlds w told m).stands s k valid asked (sym at) h in
      let more : option_to_list page.next ≡ addresses_at s (suc (suc k)) w =
      next-is page.next (w.round s (suc (suc k))) (nat_lt (suc k) (w.last s)) is.next ∙ ap (λ (x : Bool). if x then (w.round s (suc (suc k))).addresses else []) (sym (le-is-lt (suc k) (w.last s))) in
      record {
        triples = ap (λ (l : List Triple). l ++ all_triples pages) is.triples ∙ ap (λ (l : List Triple). w.items s k ++ l) j.triples ∙ ap (λ (b : Bool). (if b then w.items s k else []) ++ all_items servers s k) (sym (lt-ltb k (w.last s) h));
        nexts = ap (λ (l : List Address). l ++ nexts_of pages) more ∙ ap (λ (l : List Address). addresses_at s (suc (suc k)) w ++ l) j.nexts;
        count = λ e. let sum : count_of (page ∷ pages) ≡ page.count + count_of pages = sum_by-cons (λ (p : Page). p.count) page pages in
            let own : page.count ≡ w.count s = is.count e in
            let others = j.count e in
            omega (arith, sum, own, others);
      }

  abbrev Gives : List World → Type 0
  Gives servers = (addresses : List Address) (pages : List Page) → addresses ≡ flat_map (addresses_at s (suc k)) servers → Matched worlds addresses pages → AreJoint servers s k pages

  taken-one : (w : World) (servers : List World) (address : Address) (rest : List Address) (pages : List Page) → w.round s (suc k) ≡ round_of_one address → k < w.last s → Contains worlds w → rest ≡ flat_map (addresses_at s (suc k)) servers → Gives servers → Matched worlds (address ∷ rest) pages → AreJoint (w ∷ servers) s k pages
  taken-one w servers address rest [] at h m e more told = absurd told
  taken-one w servers address rest (page ∷ pages) at h m e more told = here w servers address page pages at h m told.0 (more rest pages e told.1)

  by-server : (w : World) (servers : List World) → IsWorld w → IsOneServer w → Contains worlds w → Gives servers → (b : Bool) → nat_le (suc k) (w.last s) ≡ b → (addresses : List Address) (pages : List Page)
      → addresses ≡ (if b then (w.round s (suc k)).addresses else []) ++ flat_map (addresses_at s (suc k)) servers → Matched worlds addresses pages → AreJoint (w ∷ servers) s k pages
  by-server w servers is one m more false t addresses pages e told = past w servers pages is (grind (arith, nat_tests)) (more addresses pages e told)
  by-server w servers is one m more true t addresses pages e told =
      let a = one s (suc k) in
      let all : addresses ≡ a.0 ∷ flat_map (addresses_at s (suc k)) servers = e ∙ ap (λ (r : RoundData). r.addresses ++ flat_map (addresses_at s (suc k)) servers) a.1 in
      let low : k < w.last s = grind (arith, nat_tests) in
      taken-one w servers a.0 (flat_map (addresses_at s (suc k)) servers) pages a.1 low m refl more (subst (λ (l : List Address). Matched worlds l pages) all told)

  pub pages-joint : (servers : List World) → ((w : World) → Contains servers w → Contains worlds w) → All IsWorld servers → All IsOneServer servers → Gives servers
  pages-joint [] among are one addresses pages e told = no-page s k pages worlds (subst (λ (l : List Address). Matched worlds l pages) e told)
  pages-joint (w ∷ servers) among are one addresses pages e told =
      by-server w servers (All-head IsWorld w servers are) (All-head IsOneServer w servers one) (among w (at_head w servers)) (pages-joint servers (λ v m. among v (in_tail w v servers m)) (All-tail IsWorld w servers are) (All-tail IsOneServer w servers one))
      (nat_le (suc k) (w.last s)) refl addresses pages e told

-- ---- whether there is a further round

far : (w : World) (s : Selection) (k : ℕ) → w.last s ≤ k → addresses_at s (suc k) w ≡ []
far w s k h = ap (λ (b : Bool). if b then (w.round s (suc k)).addresses else []) (lt-leb (suc k) (w.last s) (omega (arith, h)))

pub none-far : (worlds : List World) (s : Selection) (k : ℕ) → joint_last worlds s ≤ k → flat_map (addresses_at s (suc k)) worlds ≡ []
none-far [] s k h = refl
none-far (w ∷ worlds) s k h = ap (λ (l : List Address). l ++ flat_map (addresses_at s (suc k)) worlds) (far w s k (omega (arith, h))) ∙ none-far worlds s k (omega (arith, h))

abbrev HasFirst : List Address → Type 0
HasFirst addresses = (first : Address) × (rest : List Address) × (addresses ≡ first ∷ rest)

pub some-near : (worlds : List World) (s : Selection) (k : ℕ) → All IsOneServer worlds → k < joint_last worlds s → HasFirst (flat_map (addresses_at s (suc k)) worlds)
some-near [] s k one h = absurd (omega (arith, h))
some-near (w ∷ worlds) s k one h = by (nat_le (suc k) (w.last s)) refl (some-near worlds s k (All-tail IsOneServer w worlds one)) where
  by : (b : Bool) → nat_le (suc k) (w.last s) ≡ b → (k < joint_last worlds s → HasFirst (flat_map (addresses_at s (suc k)) worlds)) → HasFirst ((if b then (w.round s (suc k)).addresses else []) ++ flat_map (addresses_at s (suc k)) worlds)
  by true e later = let a = All-head IsOneServer w worlds one s (suc k) in (a.0, flat_map (addresses_at s (suc k)) worlds, ap (λ (r : RoundData). r.addresses ++ flat_map (addresses_at s (suc k)) worlds) a.1)
  by false e later = let high : w.last s ≤ k = grind (arith, nat_tests) in later (omega (arith, h, high))
