-- Why the call of a query with groups ended with a fault.
use Rattle.std.proofs.Common.{ℕ, ◌≡◌, ◌≢◌, ◌-◌, ◌++◌, List, [], ◌∷◌, Option, Some, refl, sym, ap, subst, ◌∙◌, arith}
use Rattle.std.specs.List.{AllByRecursion, Contains}
use Rattle.std.proofs.lemmas.List.Elements.{Contains-append_right}
use Rattle.list_laws.proofs.Members.{at_head, all_from, in_flat_map}
use Rattle.list_laws.proofs.Told.{all_in}
use Rattle.rdf_terms.specs.declared.term.Triple.{Triple}
use Rattle.tpf_base.specs.Addresses.{Address}
use Rattle.tpf_base.specs.Causes.{Rose}
use Rattle.tpf_base.specs.Links.{WireState, Nature}
use Rattle.template_fill.specs.Metadata.{Config}
use Rattle.http_wire.specs.declared.message.ReplyFault.{ReplyFault}
use Rattle.bgp_core.specs.declared.pattern.Pattern.{Pattern}
use Rattle.request_pool.specs.Pools.{Pooled}
use Rattle.group_query.specs.Trees.{GroupData, group_tree, blocks_of, block_query}
use Rattle.tpf_client.specs.declared.options.Options.{Options}
use Rattle.tpf_client.specs.declared.fault.ClientFault.{ClientFault}
use Rattle.tpf_client.specs.declared.fault.ClientFault.TheVariants as faults
use Rattle.tpf_client.specs.Traffic.{PoolEvent}
use Rattle.tpf_client.specs.Calls.{IsReceived, IsCause}
use Rattle.tpf_client.specs.Honest.{IsHonestWire}
use Rattle.tpf_client.specs.Offers.{Publisher, publisher, IsVersionOf, server_offer, addresses_of}
use Rattle.tpf_client.specs.Requests.{MovesOn}
use Rattle.tpf_client.specs.Plans.{AtEach, IsAnswerable, IsReadByAll, RefusesLong, MissesPage, TellsVersions, ChangesVersion, IsHonestCause}
use Rattle.group_patterns.specs.Acts.{IsReceivedIn, IsGroupCause}
use Rattle.group_patterns.specs.Blocks.{BlockRows, requests_of, with_budget, GivesAll, of_block, Stops, InBlock, IsSpent, Differs, IsLacking, IsUnwritten, AsksSome}
use Rattle.group_patterns.specs.Plans.{group_plan, group_offer, OverOne, RefusesOf, MissesOf, IsHonestGroupCause}
use Rattle.group_patterns.proofs.LinkCounts.{rose-later}
use Rattle.group_patterns.proofs.Wires.{Onward, chain-onward, honest-then}

-- ---- what the fault of a block's call shows of the whole call

module _ (allows : List ℕ → ℕ → List ℕ → List ℕ → Type 0) (options : Options) (start : Address) (since between now : WireState) (moves : MovesOn since between) (left : ℕ) where
  abbrev own-options : Options
  own-options = with_budget options left

  abbrev received-in : (events : List PoolEvent) (received : List ℕ) → IsReceived own-options events between now received → IsReceivedIn options.max_body since now received
  received-in events received r = record { address = r.ask.address; on = r.on; fresh = let a = moves.given in let b = r.fresh in omega (arith, a, b); below = r.below }

  own-cause : (events : List PoolEvent) (pool : Pooled) (own : ClientFault) (before after : ℕ) → own ≢ faults.Sink → IsCause own-options events pool between now own → IsGroupCause options since now before after (of_block options.budget own)
  own-cause events pool faults.Exchange before after s c = rose-later 1 since.faults between.faults now.faults moves.faults c
  own-cause events pool faults.Stalled before after s c = (c.0, λ alive. c.1 (ap (λ (x : Nature). x.lively) moves.nature ∙ alive))
  own-cause events pool (faults.Cut received) before after s c = record { is_received = received-in events received c.is_received; ended = c.ended; more = c.more }
  own-cause events pool (faults.Reply fault received) before after s c = record { is_received = received-in events received c.is_received; why = c.why; is_fault = c.is_fault; bad = c.bad }
  own-cause events pool (faults.Page fault body) before after s c = let r = c.replied in record {
    received = r.received;
    is_received = received-in events r.received r.is_received;
    at_end = r.at_end;
    n = r.n;
    keeps = r.keeps;
    whole = r.whole;
    ended = r.ended;
    why = c.why;
  }
  own-cause events pool (faults.Changed first other) before after s c = c.differs
  own-cause events pool (faults.Budget n) before after s c = refl
  own-cause events pool faults.Sink before after s c = absurd (s refl)
  own-cause events pool faults.OutOfMemory before after s c = tt

pub cause-of : (allows : List ℕ → ℕ → List ℕ → List ℕ → Type 0) (options : Options) (start : Address) (names : List (List ℕ)) (blocks : List (List Pattern)) (fault : ClientFault) (since now : WireState) (before after : ℕ)
    → (fault ≡ faults.Sink → Rose before after) → AsksSome allows options start names blocks fault since now → IsGroupCause options since now before after fault
cause-of allows options start names blocks fault since now before after sunk s = by s.stops
  where
    moves : MovesOn since s.between
    moves = (chain-onward allows options start names options.budget s.asked s.done since s.between s.gives).moves

    by : Stops allows options start names s.done s.rest fault s.between now → IsGroupCause options since now before after fault
    by (InBlock ps more own r e ends) =
        subst (IsGroupCause options since now before after) (sym e)
        (own-cause allows options start since s.between now moves (options.budget - requests_of s.done) ends.acts.happened.events ends.acts.happened.pool own before after ends.no_sink ends.acts.cause)
    by (IsSpent ps more r spent e is) = subst (IsGroupCause options since now before after) (sym e) refl
    by (Differs ps more first later b r d ne e gives) = subst (IsGroupCause options since now before after) (sym e) ne
    by (IsLacking e is) = subst (IsGroupCause options since now before after) (sym e) tt
    by (IsUnwritten r e is) = subst (IsGroupCause options since now before after) (sym e) (sunk e)

-- ---- over an honest wire

module _ (p : Publisher) (options : Options) (g : GroupData) (start : Address) (ps : List Pattern) (is : Contains (blocks_of (group_tree g)) ps) where
  abbrev own-plan : ℕ → List Pattern → List Address
  own-plan version qs = addresses_of p (block_query g.names qs) start version

  all-own : (P : Address → Type 0) (version : ℕ) → AllByRecursion P (group_plan p g start version) → AllByRecursion P (own-plan version ps)
  all-own P version all = all_from P (own-plan version ps) (λ x c. all_in P (group_plan p g start version) x all (in_flat_map (own-plan version) (blocks_of (group_tree g)) ps x is c))

  module _ (left : ℕ) where
    own-refuses : (fault : ReplyFault) (received : List ℕ) → RefusesLong (server_offer p (block_query g.names ps) start) (with_budget options left) fault received → OverOne p g start (RefusesOf (group_offer p g start) options fault received)
    own-refuses fault received h = record {
      version = h.choice;
      is_version = h.is_choice;
      holds = record {
        too_long = λ all. h.too_long (all-own (AtEach (group_offer p g start) IsAnswerable) h.choice all);
        long = λ all.
            let k = h.long (all-own (AtEach (group_offer p g start) IsAnswerable) h.choice all) in
            record {
              address = k.address;
              is_asked = in_flat_map (own-plan h.choice) (blocks_of (group_tree g)) ps k.address is k.is_asked;
              server = k.server;
              stands = k.stands;
              long = k.long;
            };
      };
    }

    own-misses : MissesPage (server_offer p (block_query g.names ps) start) → OverOne p g start (MissesOf (group_offer p g start))
    own-misses h = record { version = h.choice; is_version = h.is_choice; holds = λ all. h.unread (all-own (AtEach (group_offer p g start) IsReadByAll) h.choice all) }

    -- two versions of the server that stands there
    own-versions : (first other : Option ℕ) → ChangesVersion (server_offer p (block_query g.names ps) start) first other → TellsVersions p.history first other
    own-versions first other h = subst (λ (s : Publisher). TellsVersions s.history first other) h.stands h.versions

    own-honest : (own : ClientFault) → IsHonestCause (server_offer p (block_query g.names ps) start) (with_budget options left) own → IsHonestGroupCause p options g start (of_block options.budget own)
    own-honest faults.Exchange h = tt
    own-honest faults.Stalled h = tt
    own-honest (faults.Cut received) h = tt
    own-honest (faults.Reply fault received) h = own-refuses fault received h
    own-honest (faults.Page fault body) h = own-misses h
    own-honest (faults.Changed first other) h = own-versions first other h
    own-honest (faults.Budget n) h = tt
    own-honest faults.Sink h = tt
    own-honest faults.OutOfMemory h = tt

-- the first block told one of the versions
first-told : (allows : List ℕ → ℕ → List ℕ → List ℕ → Type 0) (options : Options) (start : Address) (names : List (List ℕ)) (history : List (List Triple)) (config : Config) (left : ℕ) (pss : List (List Pattern)) (bs : List BlockRows) (first : BlockRows) (later : List BlockRows) (u w : WireState)
    → IsHonestWire allows start history config u → GivesAll allows options start names left pss bs u w → bs ≡ first ∷ later → (version : ℕ) × IsVersionOf history version × (first.report.version ≡ Some version)
first-told allows options start names history config left [] [] first later u w honest g e = cc
first-told allows options start names history config left [] (b ∷ bs) first later u w honest g e = absurd g
first-told allows options start names history config left (ps ∷ pss) [] first later u w honest g e = absurd g
first-told allows options start names history config left (ps ∷ pss) (b ∷ bs) first later u w honest g e =
    let s = g.1.solutions history config honest in
    let same : b ≡ first = cc in
    (s.choice, s.is_choice, subst (λ (x : BlockRows). x.report.version ≡ Some s.choice) same s.is_reported)

pub honest-cause-of : (allows : List ℕ → ℕ → List ℕ → List ℕ → Type 0) (options : Options) (start : Address) (g : GroupData) (fault : ClientFault) (since now : WireState) (history : List (List Triple)) (config : Config)
    → IsHonestWire allows start history config since → AsksSome allows options start g.names (blocks_of (group_tree g)) fault since now → IsHonestGroupCause (publisher history config) options g start fault
honest-cause-of allows options start g fault since now history config honest s = by s.stops
  where
    on : Onward start (requests_of s.done) since s.between
    on = chain-onward allows options start g.names options.budget s.asked s.done since s.between s.gives

    by : Stops allows options start g.names s.done s.rest fault s.between now → IsHonestGroupCause (publisher history config) options g start fault
    by (InBlock ps more own r e ends) =
        let is : Contains (blocks_of (group_tree g)) ps = subst (λ (l : List (List Pattern)). Contains l ps) (sym (s.blocks_are ∙ ap (λ (l : List (List Pattern)). s.asked ++ l) r)) (Contains-append_right s.asked (ps ∷ more) ps (at_head ps more)) in
        subst (IsHonestGroupCause (publisher history config) options g start) (sym e)
        (own-honest (publisher history config) options g start ps is (options.budget - requests_of s.done) own (ends.acts.plan.honest_cause (publisher history config) (honest-then allows start history config since s.between on.moves honest)))
    by (IsSpent ps more r spent e is) = subst (IsHonestGroupCause (publisher history config) options g start) (sym e) tt
    by (Differs ps more first later b r d ne e gives) =
        let one = first-told allows options start g.names history config options.budget s.asked s.done first later since s.between honest s.gives d in
        let two = gives.solutions history config (honest-then allows start history config since s.between on.moves honest) in
        subst (IsHonestGroupCause (publisher history config) options g start) (sym e) (record {
          one = one.0;
          two = two.choice;
          is_first = one.2;
          is_other = two.is_reported;
          is_one = one.1;
          is_two = two.is_choice;
          differ = λ same. ne (one.2 ∙ (ap (λ (n : ℕ). let o : Option ℕ = Some n in o) same ∙ sym two.is_reported));
        })
    by (IsLacking e is) = subst (IsHonestGroupCause (publisher history config) options g start) (sym e) tt
    by (IsUnwritten r e is) = subst (IsHonestGroupCause (publisher history config) options g start) (sym e) tt
