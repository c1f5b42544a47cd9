-- What the call of a query with groups did on its wire.
use Rattle.std.proofs.Common.{ℕ, ◌≡◌, ◌≤◌, ◌+◌, ◌-◌, ◌++◌, true, List, [], ◌∷◌, None, refl, sym, ap, subst, ◌∙◌, arith}
use Rattle.std.specs.Prelude.{Result, Ok, Err, IfOk, IfErr, IsErrOf}
use Rattle.list_laws.proofs.Each.{all_so}
use Rattle.rdf_terms.specs.declared.term.Triple.{Triple}
use Rattle.tpf_base.specs.Addresses.{Address}
use Rattle.tpf_base.specs.Causes.{Rose}
use Rattle.tpf_base.specs.Links.{WireState, Nature}
use Rattle.tpf_base.specs.Wrote.{SinkState}
use Rattle.template_fill.specs.Metadata.{Config}
use Rattle.bgp_core.specs.declared.pattern.Pattern.{Pattern}
use Rattle.pool_laws.specs.Provoking.{SparesWire}
use Rattle.group_query.specs.Trees.{GroupData, group_tree, blocks_of}
use Rattle.tpf_client.specs.declared.options.Options.{Options}
use Rattle.tpf_client.specs.declared.options.Report.{Report}
use Rattle.tpf_client.specs.declared.fault.ClientFault.{ClientFault}
use Rattle.tpf_client.specs.declared.fault.ClientFault.TheVariants as faults
use Rattle.tpf_client.specs.Honest.{IsHonestWire}
use Rattle.tpf_client.specs.Offers.{Publisher, publisher}
use Rattle.tpf_client.specs.Requests.{DialsAtMost, GivesAtMost}
use Rattle.tpf_client.specs.Plans.{StaysUnprovoked}
use Rattle.tpf_client.specs.Failing.{IsFailedOften, ForBudget, Spends, SpendsRequests}
use Rattle.tpf_client.specs.Acts.{ActsByPlan}
use Rattle.group_patterns.specs.Acts.{ActsOnGroups}
use Rattle.group_patterns.specs.Blocks.{BlockRows, requests_of, version_told, left_by, GivesAll, of_block, Stops, InBlock, IsSpent, Differs, IsLacking, IsUnwritten, started_last, AsksAll, AsksSome}
use Rattle.group_patterns.specs.Plans.{plan_over, AreVersions, IsToldByAll, group_ends}
use Rattle.group_patterns.specs.Ended.{EndsGroups}
use Rattle.group_patterns.specs.Asking.{AsksAndWrites, AsksAndStops}
use Rattle.group_patterns.proofs.Wires.{Onward, onward-then, onward-more, chain-onward, chain-within, honest-then, spares-none, spares-then, Spared, chain-spares}
use Rattle.group_patterns.proofs.Parts.{AnsweredFor, spends-both, fails-later}
use Rattle.group_patterns.proofs.Planned.{TellEach, told-by-all, ChainDone, chain-done, chain-paid}
use Rattle.group_patterns.proofs.Stopped.{for-block, stops-onward, CountedOver, EndDone, end-done}
use Rattle.group_patterns.proofs.Causes.{cause-of, honest-cause-of}

module _ (allows : List ℕ → ℕ → List ℕ → List ℕ → Type 0) (options : Options) (start : Address) (names : List (List ℕ)) where
  some-onward : (blocks : List (List Pattern)) (fault : ClientFault) (u w : WireState) → AsksSome allows options start names blocks fault u w → Onward start options.budget u w
  some-onward blocks fault u w s =
      let within = chain-within allows options start names options.budget s.asked s.done u s.between s.gives in
      onward-more start (requests_of s.done + (options.budget - requests_of s.done)) options.budget u w (omega (arith, within))
      (onward-then start (requests_of s.done) (options.budget - requests_of s.done) u s.between w (chain-onward allows options start names options.budget s.asked s.done u s.between s.gives) (stops-onward allows options start names s.done s.rest fault s.between w s.stops))

  -- ---- no block

  chain-nothing : (left : ℕ) (pss : List (List Pattern)) (bs : List BlockRows) (u w : WireState) → pss ≡ [] → GivesAll allows options start names left pss bs u w → w ≡ u
  chain-nothing left [] [] u w e g = g
  chain-nothing left [] (b ∷ bs) u w e g = absurd g
  chain-nothing left (ps ∷ pss) bs u w e g = cc

  stops-nothing : (done : List BlockRows) (rest : List (List Pattern)) (fault : ClientFault) (u w : WireState) → rest ≡ [] → Stops allows options start names done rest fault u w → w ≡ u
  stops-nothing done rest fault u w none (InBlock ps more own r e ends) = cc
  stops-nothing done rest fault u w none (IsSpent ps more r spent e is) = is
  stops-nothing done rest fault u w none (Differs ps more first later b r d ne e gives) = cc
  stops-nothing done rest fault u w none (IsLacking e is) = is
  stops-nothing done rest fault u w none (IsUnwritten r e is) = is

  front-none : (xs ys : List (List Pattern)) → xs ++ ys ≡ [] → xs ≡ []
  front-none [] ys e = refl
  front-none (x ∷ xs) ys e = cc

  back-none : (xs ys : List (List Pattern)) → xs ++ ys ≡ [] → ys ≡ []
  back-none [] ys e = e
  back-none (x ∷ xs) ys e = cc

  some-nothing : (blocks : List (List Pattern)) (fault : ClientFault) (u w : WireState) → AsksSome allows options start names blocks fault u w → blocks ≡ [] → w ≡ u
  some-nothing blocks fault u w s none =
      let e = sym s.blocks_are ∙ none in
      stops-nothing s.done s.rest fault s.between w (back-none s.asked s.rest e) s.stops ∙ chain-nothing options.budget s.asked s.done u s.between (front-none s.asked s.rest e) s.gives

  -- ---- a steady wire

  module _ (history : List (List Triple)) (config : Config) where
    stops-spares : (done : List BlockRows) (rest : List (List Pattern)) (fault : ClientFault) (u v w : WireState) → IsHonestWire allows start history config v → v.nature.steady ≡ true → Spared allows options start names history config u v (options.budget - requests_of done)
        → Stops allows options start names done rest fault v w → SparesWire v w
    stops-spares done rest fault u v w honest steady s (InBlock ps more own r e ends) = ends.acts.plan.unprovoked (publisher history config) honest steady s.none s.few
    stops-spares done rest fault u v w honest steady s (IsSpent ps more r spent e is) = subst (SparesWire v) (sym is) (spares-none v)
    stops-spares done rest fault u v w honest steady s (Differs ps more first later b r d ne e gives) = gives.acts.plan.unprovoked (publisher history config) honest steady s.none s.few
    stops-spares done rest fault u v w honest steady s (IsLacking e is) = subst (SparesWire v) (sym is) (spares-none v)
    stops-spares done rest fault u v w honest steady s (IsUnwritten r e is) = subst (SparesWire v) (sym is) (spares-none v)

    all-spares : (blocks : List (List Pattern)) (done : List BlockRows) (u w : WireState) → GivesAll allows options start names options.budget blocks done u w → IsHonestWire allows start history config u → StaysUnprovoked options u w
    all-spares blocks done u w g honest steady none few = (chain-spares allows options start names history config options.budget blocks done u w g honest steady none few).spares

    some-spares : (blocks : List (List Pattern)) (fault : ClientFault) (u w : WireState) → AsksSome allows options start names blocks fault u w → IsHonestWire allows start history config u → StaysUnprovoked options u w
    some-spares blocks fault u w s honest steady none few =
        let before = chain-spares allows options start names history config options.budget s.asked s.done u s.between s.gives honest steady none few in
        let on = chain-onward allows options start names options.budget s.asked s.done u s.between s.gives in
        spares-then u s.between w on.moves before.spares
        (stops-spares s.done s.rest fault u s.between w (honest-then allows start history config u s.between on.moves honest) (ap (λ (x : Nature). x.steady) on.moves.nature ∙ steady) before s.stops)

-- ---- whatever the other ends answer, at a fault

module _ (allows : List ℕ → ℕ → List ℕ → List ℕ → Type 0) (options : Options) (start : Address) (names : List (List ℕ)) (blocks : List (List Pattern)) (fault : ClientFault) (since now : WireState) (s : AsksSome allows options start names blocks fault since now) where
  abbrev front : Onward start (requests_of s.done) since s.between
  front = chain-onward allows options start names options.budget s.asked s.done since s.between s.gives

  abbrev back : Onward start (options.budget - requests_of s.done) s.between now
  back = stops-onward allows options start names s.done s.rest fault s.between now s.stops

  -- the failures of the block at which it stopped
  block-failed : (own : ClientFault) → IsFailedOften (left_by options s.done) s.between now own → IsFailedOften options since now (of_block options.budget own)
  block-failed faults.Exchange h = fails-later start (requests_of s.done) (options.budget - requests_of s.done) since s.between now front back (options.retries + 1) h
  block-failed faults.Stalled h = h
  block-failed (faults.Cut received) h = fails-later start (requests_of s.done) (options.budget - requests_of s.done) since s.between now front back (options.retries + 1) h
  block-failed (faults.Reply why received) h = tt
  block-failed (faults.Page why body) h = tt
  block-failed (faults.Changed first other) h = tt
  block-failed (faults.Budget n) h = tt
  block-failed faults.Sink h = tt
  block-failed faults.OutOfMemory h = tt

  some-failed : since.nature.lively ≡ true → IsFailedOften options since now fault
  some-failed alive = by s.stops
    where
      by : Stops allows options start names s.done s.rest fault s.between now → IsFailedOften options since now fault
      by (InBlock ps more own r e ends) = subst (IsFailedOften options since now) (sym e) (block-failed own (ends.acts.failed_often (ap (λ (x : Nature). x.lively) front.moves.nature ∙ alive)))
      by (IsSpent ps more r spent e is) = subst (IsFailedOften options since now) (sym e) tt
      by (Differs ps more first later b r d ne e gives) = subst (IsFailedOften options since now) (sym e) tt
      by (IsLacking e is) = subst (IsFailedOften options since now) (sym e) tt
      by (IsUnwritten r e is) = subst (IsFailedOften options since now) (sym e) tt

  paid-before : Spends options.max_body (requests_of s.done) since s.between
  paid-before = chain-paid allows options start names options.budget s.asked s.done since s.between s.gives

  -- what the blocks before it and the rest of the budget paid for
  all-spent : Spends options.max_body (options.budget - requests_of s.done) s.between now → SpendsRequests options since now
  all-spent more =
      let within = chain-within allows options start names options.budget s.asked s.done since s.between s.gives in
      let whole : requests_of s.done + (options.budget - requests_of s.done) ≡ options.budget = omega (arith, within) in
      subst (λ (n : ℕ). Spends options.max_body n since now) whole
      (spends-both start (requests_of s.done) (options.budget - requests_of s.done) since s.between now front back options.max_body (requests_of s.done) (options.budget - requests_of s.done) paid-before more)

  some-spent : ForBudget (SpendsRequests options since now) fault
  some-spent = by s.stops
    where
      by : Stops allows options start names s.done s.rest fault s.between now → ForBudget (SpendsRequests options since now) fault
      by (InBlock ps more own r e ends) =
          subst (ForBudget (SpendsRequests options since now)) (sym e)
          (for-block (SpendsRequests (left_by options s.done) s.between now) (SpendsRequests options since now) options.budget own (λ h. all-spent h) ends.acts.spent_requests)
      by (IsSpent ps more r spent e is) =
          subst (ForBudget (SpendsRequests options since now)) (sym e)
          (subst (λ (n : ℕ). Spends options.max_body n since now) spent (subst (λ (x : WireState). Spends options.max_body (requests_of s.done) since x) (sym is) paid-before))
      by (Differs ps more first later b r d ne e gives) = subst (ForBudget (SpendsRequests options since now)) (sym e) tt
      by (IsLacking e is) = subst (ForBudget (SpendsRequests options since now)) (sym e) tt
      by (IsUnwritten r e is) = subst (ForBudget (SpendsRequests options since now)) (sym e) tt

-- ---- all of it

none-told : (bs : List BlockRows) (vs : List ℕ) → TellEach bs vs → vs ≡ [] → version_told bs ≡ None
none-told [] vs t e = refl
none-told (b ∷ bs) [] t e = absurd t
none-told (b ∷ bs) (v ∷ vs) t e = cc

module _ (allows : List ℕ → ℕ → List ℕ → List ℕ → Type 0) (options : Options) (start : Address) (g : GroupData) (since now : WireState) where
  module _ (report : Report) (a : AsksAll allows options start g.names (blocks_of (group_tree g)) report since now) where
    abbrev spent-by : Onward start (requests_of a.done) since now
    spent-by = chain-onward allows options start g.names options.budget (blocks_of (group_tree g)) a.done since now a.gives

    module _ (p : Publisher) (honest : IsHonestWire allows start p.history p.config since) where
      abbrev chain : ChainDone p allows options start g.names (blocks_of (group_tree g)) a.done since now
      chain = chain-done p allows options start g.names options.budget (blocks_of (group_tree g)) a.done since now a.gives honest

      abbrev are-versions : AreVersions p.history g chain.versions
      are-versions = record { each = chain.each; count = chain.count }

      told-all : IsToldByAll chain.versions report.version
      told-all = record {
        each = told-by-all report.version a.done chain.versions chain.told
            (all_so (λ (b : BlockRows). b.report.version ≡ version_told a.done) (λ (b : BlockRows). b.report.version ≡ report.version) (λ b e. e ∙ sym a.version) a.done a.one_version);
        none = λ e. a.version ∙ none-told a.done chain.versions chain.told e;
      }

      answered-all : AnsweredFor options (plan_over p g start chain.versions) report.requests since now
      answered-all = subst (λ (n : ℕ). AnsweredFor options (plan_over p g start chain.versions) n since now) (sym a.requests) chain.answered

      counted-all : since.nature.lively ≡ true → CountedOver p allows options start g chain.versions (requests_of a.done) since now
      counted-all alive =
          let k = chain.answered.paced alive in
          let f = k.few in
          let d = spent-by.dials in
          let h = spent-by.given in
          record {
            rises = k.rises;
            rose = k.rose;
            few = f;
            dials = omega (arith, f, d);
            given = omega (arith, f, h);
          }

    plan-ok : ActsByPlan allows (group_ends g start) (λ started. started ≡ requests_of a.done) options (Ok report) (λ told. told) since now
    plan-ok = record {
      requests = λ p honest.
          let k = answered-all p honest in
          record { choice = (chain p honest).versions; is_choice = are-versions p honest; is_reported = told-all p honest; each = k.each; few = k.most };
      planned = λ p honest. record { choice = (chain p honest).versions; is_choice = are-versions p honest; few = (chain p honest).done.tries };
      asked = λ p honest.
          let d = (chain p honest).done in
          record { choice = (chain p honest).versions; is_choice = are-versions p honest; asked = d.asked; rest = d.rest; plan_is = d.plan_is; sent = d.sent };
      requested = λ p honest.
          let r = (chain p honest).done.requested in
          record { choice = (chain p honest).versions; is_choice = are-versions p honest; requests = record { on = r.on; told = r.told; few = r.few }; rises = r.rises };
      replied = λ p honest.
          let r = (answered-all p honest).replied in
          record {
            choice = (chain p honest).versions;
            is_choice = are-versions p honest;
            is_reported = told-all p honest;
            requests = record { on = r.on; told = r.told; few = r.few };
            answered = r.answered;
            exact = r.exact;
          };
      honest_cause = λ p honest. tt;
      counted = λ p honest alive.
          let k = counted-all p honest alive in
          record {
            choice = (chain p honest).versions;
            is_choice = are-versions p honest;
            rises = k.rises;
            rose = k.rose;
            started = requests_of a.done;
            is_started = refl;
            few = k.few;
            dials = k.dials;
            given = k.given;
          };
      paced = λ p honest alive.
          let k = answered-all p honest in
          let r = k.paced alive in
          record { choice = (chain p honest).versions; is_choice = are-versions p honest; is_reported = told-all p honest; each = k.each; rises = r.rises; rose = r.rose; few = r.few; exact = r.exact };
      lively_cause = λ p honest alive. tt;
      one_plan = λ p honest. record { requested_is = refl; planned_is = refl };
      one_count = λ p honest alive. refl;
      one_cause = λ p honest. tt;
      one_lively_cause = λ p honest alive. tt;
      is_told = λ p honest. told-all p honest;
      spent_plan = λ p honest. tt;
      one_spent = λ p honest. tt;
      unprovoked = λ p honest. all-spares allows options start g.names p.history p.config (blocks_of (group_tree g)) a.done since now a.gives honest;
    }

  module _ (fault : ClientFault) (a : AsksSome allows options start g.names (blocks_of (group_tree g)) fault since now) where
    abbrev all-started : ℕ
    all-started = requests_of a.done + started_last allows options start g.names a.done a.rest fault a.between now a.stops

    ended : (p : Publisher) → IsHonestWire allows start p.history p.config since → EndDone p allows options start g a.done all-started fault since now
    ended p honest = end-done p allows options start g fault since now honest a (chain-done p allows options start g.names options.budget a.asked a.done since a.between a.gives honest)

    abbrev plan-err : ActsByPlan allows (group_ends g start) (λ started. started ≡ all-started) options (Err fault) (λ (told : Report). told) since now
    plan-err = record {
      requests = λ p honest. tt;
      planned = λ p honest. record { choice = (ended p honest).versions; is_choice = (ended p honest).are_versions; few = (ended p honest).done.tries };
      asked = λ p honest.
          let d = (ended p honest).done in
          record { choice = (ended p honest).versions; is_choice = (ended p honest).are_versions; asked = d.asked; rest = d.rest; plan_is = d.plan_is; sent = d.sent };
      requested = λ p honest.
          let r = (ended p honest).done.requested in
          record { choice = (ended p honest).versions; is_choice = (ended p honest).are_versions; requests = record { on = r.on; told = r.told; few = r.few }; rises = r.rises };
      replied = λ p honest. tt;
      honest_cause = λ p honest. (ended p honest).cause.0;
      counted = λ p honest alive.
          let k = (ended p honest).counted alive in
          record {
            choice = (ended p honest).versions;
            is_choice = (ended p honest).are_versions;
            rises = k.rises;
            rose = k.rose;
            started = all-started;
            is_started = refl;
            few = k.few;
            dials = k.dials;
            given = k.given;
          };
      paced = λ p honest alive. tt;
      lively_cause = λ p honest alive. ((ended p honest).lively alive).0;
      one_plan = λ p honest. record { requested_is = refl; planned_is = refl };
      one_count = λ p honest alive. refl;
      one_cause = λ p honest. (ended p honest).cause.1;
      one_lively_cause = λ p honest alive. ((ended p honest).lively alive).1;
      is_told = λ p honest. tt;
      spent_plan = λ p honest. (ended p honest).spent.0;
      one_spent = λ p honest. (ended p honest).spent.1;
      unprovoked = λ p honest. some-spares allows options start g.names p.history p.config (blocks_of (group_tree g)) fault since now a honest;
    }

module _ (allows : List ℕ → ℕ → List ℕ → List ℕ → Type 0) (options : Options) (start : Address) (g : GroupData) (since now : WireState) (before after : ℕ) where
  abbrev acts-ok : (report : Report) → AsksAll allows options start g.names (blocks_of (group_tree g)) report since now → ActsOnGroups allows options start g (Ok report) since now before after
  acts-ok report a =
      let spent = requests_of a.done in
      let on = chain-onward allows options start g.names options.budget (blocks_of (group_tree g)) a.done since now a.gives in
      let within = chain-within allows options start g.names options.budget (blocks_of (group_tree g)) a.done since now a.gives in
      let all = onward-more start spent options.budget since now within on in
      record {
        closed = on.closed;
        peers = on.peers;
        others = on.others;
        moves = on.moves;
        dials = all.dials;
        given = all.given;
        within = subst (λ (n : ℕ). n ≤ options.budget) (sym a.requests) within;
        dialled = subst (λ (n : ℕ). DialsAtMost n since now) (sym a.requests) on.dials;
        linked = subst (λ (n : ℕ). GivesAtMost n since now) (sym a.requests) on.given;
        paid = subst (λ (n : ℕ). Spends options.max_body n since now) (sym a.requests) (chain-paid allows options start g.names options.budget (blocks_of (group_tree g)) a.done since now a.gives);
        blocks = a;
        stops = tt;
        no_block = λ none. chain-nothing allows options start g.names options.budget (blocks_of (group_tree g)) a.done since now none a.gives;
        plan = plan-ok allows options start g since now report a;
        one_told = λ p honest. tt;
        cause = tt;
        honest_cause = λ history config honest. tt;
        failed_often = λ alive. tt;
        spent_requests = tt;
      }

  abbrev acts-err : (fault : ClientFault) → (fault ≡ faults.Sink → Rose before after) → AsksSome allows options start g.names (blocks_of (group_tree g)) fault since now → ActsOnGroups allows options start g (Err fault) since now before after
  acts-err fault sunk a =
      let on = some-onward allows options start g.names (blocks_of (group_tree g)) fault since now a in
      record {
        closed = on.closed;
        peers = on.peers;
        others = on.others;
        moves = on.moves;
        dials = on.dials;
        given = on.given;
        within = tt;
        dialled = tt;
        linked = tt;
        paid = tt;
        blocks = tt;
        stops = a;
        no_block = λ none. some-nothing allows options start g.names (blocks_of (group_tree g)) fault since now a none;
        plan = plan-err allows options start g since now fault a;
        one_told = λ p honest. (ended allows options start g since now fault a p honest).told;
        cause = cause-of allows options start g.names (blocks_of (group_tree g)) fault since now before after sunk a;
        honest_cause = λ history config honest. honest-cause-of allows options start g fault since now history config honest a;
        failed_often = λ alive. some-failed allows options start g.names (blocks_of (group_tree g)) fault since now a alive;
        spent_requests = some-spent allows options start g.names (blocks_of (group_tree g)) fault since now a;
      }

-- ---- how it ended

module _ (allows : List ℕ → ℕ → List ℕ → List ℕ → Type 0) (options : Options) (start : Address) (g : GroupData) (since now : WireState) (out out' : SinkState) where
  pub ends-groups : (result : Result Report ClientFault) → (IsErrOf result faults.Sink → Rose out.faults out'.faults) → IfOk result (λ report. AsksAndWrites allows options start g report since now out.taken out'.taken)
      → IfErr result (λ fault. AsksAndStops allows options start g fault since now out.taken out'.taken) → EndsGroups allows options start g result since now out out'
  ends-groups (Ok report) sunk ok err = record { acts = acts-ok allows options start g since now out.faults out'.faults report ok.asks; ok = ok.writes; err = tt }
  ends-groups (Err fault) sunk ok err = record {
    acts = acts-err allows options start g since now out.faults out'.faults fault (λ e. sunk (let r : ◌≡◌ {A = Result Report ClientFault} (Err fault) (Err faults.Sink) = ap (λ (f : ClientFault). let x : Result Report ClientFault = Err f in x) e in r)) err.asks;
    ok = tt;
    err = err.front;
  }
