-- Each address of a plan over several servers is one of a page of one of them, which is read.
use Rattle.std.proofs.Common.{ℕ, ◌≡◌, ◌<◌, ◌≤◌, max, Bool, true, false, if◌then◌else◌, nat_lt, nat_le, List, [], ◌∷◌, length, map, replicate, None, refl, arith}
use Rattle.std.specs.List.{AllByRecursion, flat_map}
use Rattle.std.proofs.lemmas.Bool.Decides.{nat_tests}
use Rattle.list_laws.proofs.Members.{at_head, in_tail, all_from}
use Rattle.list_laws.proofs.Each.{all_append}
use Rattle.list_laws.proofs.Told.{all_in}
use Rattle.tpf_base.specs.Addresses.{Address}
use Rattle.tpf_base.specs.Marks.{version_at}
use Rattle.rdf_terms.specs.declared.term.Triple.{Triple}
use Rattle.rdf_terms.specs.Askable.{AskableAreKept}
use Rattle.rdf_terms.specs.Selections.{Selection, selected}
use Rattle.template_fill.specs.Answers.{read_as}
use Rattle.template_fill.specs.Explicit.{FormsAreShort}
use Rattle.template_fill.specs.Authorities.{PagesAreAddresses, PagesShareAuthority}
use Rattle.template_fill.specs.Configurations.{VersionsAreValid}
use Rattle.template_fill.specs.Bodies.{version_of}
use Rattle.template_fill.specs.Answered.{PagesAreGiven, AnsweredGivePages}
use Rattle.control_laws.specs.Law.{ControlsReadBack, PagesAreThere}
use Rattle.bgp_core.specs.declared.pattern.Pattern.{Pattern}
use Rattle.request_plan.specs.Plans.{plan}
use Rattle.request_plan.specs.Worlds.{World}
use Rattle.plan_laws.specs.Fitting.{IsAskable}
use Rattle.plan_laws.specs.JointWorlds.{joint_last, items_at, all_items, taken_before, joint_items, addresses_at, several_world, joint_world}
use Rattle.plan_laws.specs.JointFitting.{ServerData, world_at, IsWithin, IsReadByOne}
use Rattle.plan_laws.proofs.JointWorlds.{from-after}
use Rattle.plan_laws.proofs.Slots.{HasTerms}
use Rattle.plan_laws.proofs.Selections.{IsGood, IsGoodSelection, good_alone, good_passed}
use Rattle.plan_laws.proofs.Plans.{low_last, items_all, page_planned, addresses_planned}
use Rattle.plan_laws.proofs.Reading.{good_triples, patterns_good, binds_none, read_planned, own_authority}

is_within : (k n : ℕ) → nat_le k n ≡ true → k ≤ n
is_within k n e = grind (arith, nat_tests)

least_of : (a b : ℕ) → 1 ≤ a → 1 ≤ max a b
least_of a b h = omega (arith, h)

-- one more server changes nothing of what is read by one
pub wider : (server : ServerData) (servers : List ServerData) (list : List Address) → AllByRecursion (IsReadByOne servers) list → AllByRecursion (IsReadByOne (server ∷ servers)) list
wider server servers [] h = tt
wider server servers (address ∷ list) h =
    let r = h.0 in
    (record { server = r.server; is_one = in_tail server r.server servers r.is_one; own = r.own; read = r.read }, wider server servers list h.1)

module _ (forms : FormsAreShort) (given : PagesAreGiven) (answered : AnsweredGivePages) (addresses : PagesAreAddresses) (authorities : PagesShareAuthority) (kept : AskableAreKept)
    (reads : ControlsReadBack) (there : PagesAreThere) (versions : VersionsAreValid) where
  abbrev data_of : ServerData → List Triple
  data_of server = version_of server.history (version_at server.mark)

  abbrev HasGood : Triple → Type 0
  HasGood = HasTerms IsGood

  good_data : (server : ServerData) → IsWithin server → AllByRecursion HasGood (data_of server)
  good_data server s = good_triples forms (data_of server) (versions server.history (version_at server.mark) s.is_history).terms s.triples

  abbrev worlds_at : List ServerData → List World
  worlds_at servers = map world_at servers

  some_last : (servers : List ServerData) (u : Selection) → 0 < length servers → 1 ≤ joint_last (worlds_at servers) u
  some_last [] u h = absurd (omega (arith, h))
  some_last (server ∷ servers) u h = least_of ((world_at server).last u) (joint_last (worlds_at servers) u) (low_last (length (selected (data_of server) (read_as server.config.rows u))) server.config.page_size)

  -- ---- the addresses of a round

  page_read : (server : ServerData) (servers : List ServerData) (u : Selection) (k : ℕ) → IsWithin server → IsGoodSelection u → 1 ≤ k → k ≤ (world_at server).last u
      → AllByRecursion (IsReadByOne (server ∷ servers)) ((world_at server).round u k).addresses
  page_read server servers u k s own low high =
      let p = page_planned IsGoodSelection (data_of server) server.config (good_passed server.config.rows) u k own low high in (
        record {
          server = server;
          is_one = at_head server servers;
          own = own_authority forms given answered addresses authorities kept reads there versions server.history server.mark server.config s _ p;
          read = read_planned forms given answered addresses authorities kept reads there versions server.history server.mark server.config s _ p;
        },
        tt,
      )

  own_read : (server : ServerData) (servers : List ServerData) (u : Selection) (k : ℕ) → IsWithin server → IsGoodSelection u → 1 ≤ k
      → (b : Bool) → nat_le k ((world_at server).last u) ≡ b → AllByRecursion (IsReadByOne (server ∷ servers)) (if b then ((world_at server).round u k).addresses else [])
  own_read server servers u k s own low false e = tt
  own_read server servers u k s own low true e = page_read server servers u k s own low (is_within k ((world_at server).last u) e)

  round_read : (servers : List ServerData) (u : Selection) (k : ℕ) → AllByRecursion IsWithin servers → IsGoodSelection u → 1 ≤ k
      → AllByRecursion (IsReadByOne servers) (flat_map (addresses_at u k) (worlds_at servers))
  round_read [] u k all own low = tt
  round_read (server ∷ servers) u k all own low =
      all_append (IsReadByOne (server ∷ servers)) (addresses_at u k (world_at server)) (flat_map (addresses_at u k) (worlds_at servers))
      (own_read server servers u k all.0 own low (nat_le k ((world_at server).last u)) refl)
      (wider server servers (flat_map (addresses_at u k) (worlds_at servers)) (round_read servers u k all.1 own low))

  -- ---- what stands on its pages

  own_items : (server : ServerData) (u : Selection) (k : ℕ) → IsWithin server → (b : Bool) → AllByRecursion HasGood (if b then (world_at server).items u k else [])
  own_items server u k s true = items_all IsGoodSelection (data_of server) server.config 1 HasGood u k (good_data server s)
  own_items server u k s false = tt

  all_good : (servers : List ServerData) (u : Selection) (k : ℕ) → AllByRecursion IsWithin servers → AllByRecursion HasGood (all_items (worlds_at servers) u k)
  all_good [] u k all = tt
  all_good (server ∷ servers) u k all =
      all_append HasGood (items_at u k (world_at server)) (all_items (worlds_at servers) u k) (own_items server u k all.0 (nat_lt k ((world_at server).last u))) (all_good servers u k all.1)

  joint_good : (servers : List ServerData) (u : Selection) (k : ℕ) → AllByRecursion IsWithin servers → AllByRecursion HasGood (joint_items (worlds_at servers) u k)
  joint_good servers u k all =
      all_from HasGood (joint_items (worlds_at servers) u k)
      (λ t h. all_in HasGood (all_items (worlds_at servers) u k) t (all_good servers u k all) (from-after (taken_before (worlds_at servers) u k) (all_items (worlds_at servers) u k) t h))

  several_read : (servers : List ServerData) (patterns : List Pattern) (names : ℕ) → 0 < length servers → AllByRecursion IsWithin servers → AllByRecursion IsAskable patterns
      → AllByRecursion (IsReadByOne servers) (plan (several_world (worlds_at servers)) patterns (replicate names None))
  several_read servers patterns names some all h =
      addresses_planned IsGood (IsReadByOne servers) IsGoodSelection (several_world (worlds_at servers)) (λ u. some_last servers u some) (omega arith) (λ p rows h some binds asked few short. good_alone kept p rows h some binds asked few)
      (λ u k own low high. round_read servers u k all own low) (λ u k. joint_good servers u k all)
      (length patterns) patterns (replicate names None) (patterns_good forms patterns h) (binds_none IsGood names)

  -- one server alone
  alone_read : (server : ServerData) (patterns : List Pattern) (names : ℕ) → IsWithin server → AllByRecursion IsAskable patterns → AllByRecursion (IsReadByOne (server ∷ [])) (plan (world_at server) patterns (replicate names None))
  alone_read server patterns names s h =
      addresses_planned IsGood (IsReadByOne (server ∷ [])) IsGoodSelection (world_at server) (λ u. low_last (length (selected (data_of server) (read_as server.config.rows u))) server.config.page_size) (omega arith) (λ p rows h some binds asked few short. good_alone kept p rows h some binds asked few)
      (λ u k own low high. page_read server [] u k s own low high) (λ u k. items_all IsGoodSelection (data_of server) server.config 1 HasGood u k (good_data server s))
      (length patterns) patterns (replicate names None) (patterns_good forms patterns h) (binds_none IsGood names)

  pub joint_plan_read : (servers : List ServerData) (patterns : List Pattern) (names : ℕ) → 0 < length servers → AllByRecursion IsWithin servers → AllByRecursion IsAskable patterns
      → AllByRecursion (IsReadByOne servers) (plan (joint_world (worlds_at servers)) patterns (replicate names None))
  joint_plan_read [] patterns names some all h = several_read [] patterns names some all h
  joint_plan_read (server ∷ []) patterns names some all h = alone_read server patterns names all.0 h
  joint_plan_read (server ∷ other ∷ servers) patterns names some all h = several_read (server ∷ other ∷ servers) patterns names some all h
