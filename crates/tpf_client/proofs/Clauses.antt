-- What holds at the exit of a call, whatever it answers with its report.
use Rattle.std.proofs.Common.{ℕ, ◌≡◌, ◌≤◌, ◌<◌, ◌*◌, ◌^◌, max, List, [], ◌∷◌, length, Option, None, true, sym, ap, subst, arith}
use Rattle.std.specs.Prelude.{Result, IfOk, IfErr}
use Rattle.tpf_base.specs.Addresses.{Address}
use Rattle.tpf_base.specs.Links.{WireState}
use Rattle.tpf_base.specs.Wrote.{SinkState}
use Rattle.bgp_core.specs.Queries.{QueryData}
use Rattle.bgp_core.specs.Solutions.{Places}
use Rattle.tpf_client.specs.declared.options.Options.{Options}
use Rattle.tpf_client.specs.declared.options.Report.{Report}
use Rattle.tpf_client.specs.declared.fault.ClientFault.{ClientFault}
use Rattle.tpf_client.specs.Traffic.{IsLawful}
use Rattle.tpf_client.specs.Turns.{WaitFew}
use Rattle.tpf_client.specs.Sources.{Sources}
use Rattle.tpf_client.specs.Offers.{Offer}
use Rattle.tpf_client.specs.Ends.{Ends}
use Rattle.tpf_client.specs.Plans.{AsksPlan, CountsRises, IsHonestCause, IsLivelyCause}
use Rattle.tpf_client.specs.WireActs.{ActsAt}
use Rattle.tpf_client.specs.Ended.{WritesEnded, GivesEnded, WritesOverEnds, GivesOverEnds}
use Rattle.tpf_client.specs.Acts.{IsOnePlan, WithCause, IsHonestCauseOf, IsLivelyCauseOf, IsSpentOf, ActsByPlan, ActsOnWire}
use Rattle.tpf_client.specs.Calls.{most_asked, most_over, Happened, AreThese, Returns, WritesAll, WritesSome}
use Rattle.tpf_client.specs.Failing.{ForBudget, Spends, SpendsPlan}
use Rattle.tpf_client.specs.Honest.{Laws}
use Rattle.tpf_client.specs.Requests.{TrafficLaws}
use Rattle.tpf_client.proofs.Few.{few-more}
use Rattle.tpf_client.proofs.Shutting.{if-ok-from, if-err-from}
use Rattle.tpf_client.proofs.Caused.{fault-caused}
use Rattle.tpf_client.proofs.Failing.{fault-failed}
use Rattle.tpf_client.proofs.Spending.{rows-paid, fault-requests, fault-tries, plan-spent, plan-spent-of}
use Rattle.tpf_client.proofs.Covered.{Covered}
use Rattle.tpf_client.proofs.Planned.{RunOf, PlannedRun, ExplainedRun, WholeRun}
use Rattle.tpf_client.proofs.HonestCauses.{honest-cause, honest-cause-of}
use Rattle.tpf_client.proofs.LivelyCauses.{counts-as, counts-so, counts-choice, paces-so, lively-cause, lively-cause-of}
use Rattle.tpf_client.proofs.Requested.{requests-plan, requests-choice, answers-plan}
use Rattle.tpf_client.proofs.Choices.{over-one}
use Rattle.tpf_client.proofs.Exits.{AnyExit, RowsExit, any-exit, rows-exit, dials-so, dials-choice, asks-plan, requests-so, unprovoked-so, at-whole, at-explained, at-planned, planned-run, told-planned, explained-planned}

module _ (laws : Laws) (traffic : TrafficLaws) (allows : List ℕ → ℕ → List ℕ → List ℕ → Type 0) (options : Options) (since now : WireState) (lawful : IsLawful allows since) (starts : List Address) (sources : Sources) (q : QueryData) where
  module _ {A : Type 0} (h : Happened allows options starts since now) (result : Result A ClientFault) (told : A → Report) (P : A → Type 0) (t u : Option (List ℕ)) (ok : IfOk result P)
      (err : IfErr result (λ fault. WritesSome (AreThese h.events h.pool) sources q starts options.budget fault t u)) (returns : (x : A) → P x → (rows : List Places) × Returns (AreThese h.events h.pool) sources q starts (told x) rows) where
    pub some-rows : IfOk result (λ x. RowsExit options (told x) h.events h.pool since now)
    some-rows = if-ok-from result P (λ x. RowsExit options (told x) h.events h.pool since now) ok (λ x p. let r = returns x p in rows-exit laws traffic allows options since now lawful starts h sources q (told x) r.0 r.1)

    pub some-paid : IfOk result (λ x. Spends options.max_body (told x).requests since now)
    some-paid = if-ok-from result P (λ x. Spends options.max_body (told x).requests since now) ok (λ x p. let r = returns x p in rows-paid laws traffic allows options since now lawful starts h sources q (told x) r.0 r.1)

    pub at-exit : AnyExit options starts h.events h.pool since now
    at-exit = any-exit laws traffic allows options since now lawful starts h

    -- whatever the other ends answer
    abbrev pub acts-at : WaitFew (most_over options q (length starts)) 0 h.events → ActsAt allows options starts q result told since now
    acts-at few = record {
      happened = h;
      closed = at-exit.closed;
      peers = at-exit.peers;
      others = at-exit.others;
      moves = at-exit.moves;
      dials = at-exit.dials;
      given = at-exit.given;
      started = at-exit.started;
      waiting = few;
      sent = at-exit.sent;
      cause = if-err-from result _ _ err (λ fault w. fault-caused laws traffic allows options since now lawful starts h sources q fault t u w);
      answered = if-ok-from result _ _ some-rows (λ x e. e.answers);
      within = if-ok-from result _ _ some-rows (λ x e. e.within);
      dialled = if-ok-from result _ _ some-rows (λ x e. e.dials);
      linked = if-ok-from result _ _ some-rows (λ x e. e.given);
      paid = some-paid;
      failed_often = λ alive. if-err-from result _ _ err (λ fault w. fault-failed laws traffic allows options since lawful starts alive now h sources q fault t u w);
      spent_requests = if-err-from result _ _ err (λ fault w. fault-requests laws traffic allows options since now lawful starts h sources q fault t u w);
      spent_tries = if-err-from result _ _ err (λ fault w. fault-tries laws traffic allows options since now lawful starts h sources q fault t u w);
    }

    module _ (limit : options.max_body < 2 ^ 64) (some : 1 ≤ options.links) where
      module _ (offer : Offer) (covered : Covered sources offer allows options since now starts q) where
        plan : PlannedRun allows offer options since now starts
        plan = at-planned allows options since now starts sources q h offer covered result P t u ok err (λ x p. let r = returns x p in (told x, r.0, r.1))

        whole : IfOk result (λ x. WholeRun allows offer options since now starts (told x))
        whole = if-ok-from result P (λ x. WholeRun allows offer options since now starts (told x)) ok (λ x p. let r = returns x p in at-whole allows options since now starts sources q h offer covered (told x) r.0 r.1)

        explained : IfErr result (λ fault. ExplainedRun allows offer options since now starts fault)
        explained = if-err-from result (λ fault. WritesSome (AreThese h.events h.pool) sources q starts options.budget fault t u) (λ fault. ExplainedRun allows offer options since now starts fault) err (λ fault w. at-explained allows options since now starts sources q h offer covered fault t u w)

      -- what is said of a plan is said of one choice
      module _ (offer : Offer) (covered : Covered sources offer allows options since now starts q) where
        abbrev asked-of : AsksPlan offer since now
        asked-of = asks-plan laws traffic allows options since now lawful starts sources offer q covered (plan offer covered)

        same-plan : IsOnePlan asked-of (requests-plan laws traffic allows options since now lawful starts limit sources offer q covered (plan offer covered)) (dials-so laws traffic allows options since now lawful starts sources offer q covered (plan offer covered))
        unfolding asks-plan
        same-plan = record {
          requested_is = requests-choice laws traffic allows options since now lawful starts limit sources offer q covered (plan offer covered);
          planned_is = dials-choice laws traffic allows options since now lawful starts sources offer q covered (plan offer covered);
        }

        -- the run is what happened
        plan-run : (plan offer covered).run ≡ h
        unfolding plan
        plan-run = planned-run allows options since now starts sources q h offer covered result P t u ok err (λ x p. let r = returns x p in (told x, r.0, r.1))

        -- so many requests were started in what happened
        abbrev counted-of : (alive : since.nature.lively ≡ true) → CountsRises (λ started. started ≡ h.pool.started) offer since now
        counted-of alive =
            counts-as offer since now (plan offer covered).run.pool.started h.pool.started
            (ap (λ (r : RunOf allows options starts since now). r.pool.started) plan-run)
            (counts-so laws traffic allows options since now lawful limit starts sources offer q covered alive (plan offer covered))

        same-count : (alive : since.nature.lively ≡ true) → (counted-of alive).choice ≡ asked-of.choice
        unfolding asks-plan
        same-count alive = counts-choice laws traffic allows options since now lawful limit starts sources offer q covered alive (plan offer covered)

        cause-is : WithCause result (IsHonestCause offer options)
            (if-err-from result (λ fault. ExplainedRun allows offer options since now starts fault) (IsHonestCause offer options) (explained offer covered) (λ fault w. honest-cause laws traffic allows options since now lawful limit starts sources offer q covered fault w))
            (IsHonestCauseOf offer options asked-of.choice)
        unfolding asks-plan plan explained
        cause-is =
            explained-planned allows options since now starts sources q h offer covered result P t u ok err (λ x p. let r = returns x p in (told x, r.0, r.1))
            (IsHonestCause offer options) (λ fault w. honest-cause laws traffic allows options since now lawful limit starts sources offer q covered fault w) (IsHonestCauseOf offer options)
            (λ fault x. honest-cause-of laws traffic allows options since now lawful limit starts sources offer q covered fault x)

        lively-cause-is : (alive : since.nature.lively ≡ true) → WithCause result (IsLivelyCause offer options since now)
            (if-err-from result (λ fault. ExplainedRun allows offer options since now starts fault) (IsLivelyCause offer options since now) (explained offer covered) (λ fault w. lively-cause laws traffic allows options since now lawful limit starts sources offer q covered alive fault w))
            (IsLivelyCauseOf offer options since now asked-of.choice)
        unfolding asks-plan plan explained
        lively-cause-is alive =
            explained-planned allows options since now starts sources q h offer covered result P t u ok err (λ x p. let r = returns x p in (told x, r.0, r.1))
            (IsLivelyCause offer options since now) (λ fault w. lively-cause laws traffic allows options since now lawful limit starts sources offer q covered alive fault w) (IsLivelyCauseOf offer options since now)
            (λ fault x. lively-cause-of laws traffic allows options since now lawful limit starts sources offer q covered alive fault x)

        spent-is : WithCause result (ForBudget (SpendsPlan offer options))
            (if-err-from result (λ fault. ExplainedRun allows offer options since now starts fault) (ForBudget (SpendsPlan offer options)) (explained offer covered) (λ fault w. plan-spent laws traffic allows options since now lawful starts offer fault w))
            (IsSpentOf offer options asked-of.choice)
        unfolding asks-plan plan explained
        spent-is =
            explained-planned allows options since now starts sources q h offer covered result P t u ok err (λ x p. let r = returns x p in (told x, r.0, r.1))
            (ForBudget (SpendsPlan offer options)) (λ fault w. plan-spent laws traffic allows options since now lawful starts offer fault w) (IsSpentOf offer options)
            (λ fault x. plan-spent-of laws traffic allows options since now lawful starts offer fault x)

        told-plan : IfOk result (λ x. offer.IsReported asked-of.choice (told x).version)
        unfolding asks-plan plan
        told-plan = told-planned allows options since now starts sources q h offer covered result P told t u ok err returns

      -- over whoever may hold what is offered, where the call is covered by that
      module _ (ends : Ends) (covers : (holder : ends.Holder) → ends.AreHonest allows holder since → Covered sources (ends.offer holder) allows options since now starts q) where
        pub acts-by-plan : ActsByPlan allows ends (λ started. started ≡ h.pool.started) options result told since now
        acts-by-plan = record {
          requests = λ holder honest. if-ok-from result _ _ (whole (ends.offer holder) (covers holder honest)) (λ x w. requests-so laws traffic allows options since now lawful starts sources (ends.offer holder) q (covers holder honest) (told x) w);
          planned = λ holder honest. dials-so laws traffic allows options since now lawful starts sources (ends.offer holder) q (covers holder honest) (plan (ends.offer holder) (covers holder honest));
          asked = λ holder honest. asks-plan laws traffic allows options since now lawful starts sources (ends.offer holder) q (covers holder honest) (plan (ends.offer holder) (covers holder honest));
          requested = λ holder honest. requests-plan laws traffic allows options since now lawful starts limit sources (ends.offer holder) q (covers holder honest) (plan (ends.offer holder) (covers holder honest));
          replied = λ holder honest. if-ok-from result _ _ (whole (ends.offer holder) (covers holder honest)) (λ x w. answers-plan laws traffic allows options since now lawful starts limit sources (ends.offer holder) q (covers holder honest) (told x) w);
          honest_cause = λ holder honest. if-err-from result (λ fault. ExplainedRun allows (ends.offer holder) options since now starts fault) (IsHonestCause (ends.offer holder) options) (explained (ends.offer holder) (covers holder honest))
              (λ fault w. honest-cause laws traffic allows options since now lawful limit starts sources (ends.offer holder) q (covers holder honest) fault w);
          counted = λ holder honest alive. counted-of (ends.offer holder) (covers holder honest) alive;
          paced = λ holder honest alive. if-ok-from result _ _ (whole (ends.offer holder) (covers holder honest)) (λ x w. paces-so laws traffic allows options since now lawful limit starts sources (ends.offer holder) q (covers holder honest) alive (told x) w);
          lively_cause = λ holder honest alive. if-err-from result (λ fault. ExplainedRun allows (ends.offer holder) options since now starts fault) (IsLivelyCause (ends.offer holder) options since now) (explained (ends.offer holder) (covers holder honest))
              (λ fault w. lively-cause laws traffic allows options since now lawful limit starts sources (ends.offer holder) q (covers holder honest) alive fault w);
          one_plan = λ holder honest. same-plan (ends.offer holder) (covers holder honest);
          one_count = λ holder honest alive. same-count (ends.offer holder) (covers holder honest) alive;
          one_cause = λ holder honest. cause-is (ends.offer holder) (covers holder honest);
          one_lively_cause = λ holder honest alive. lively-cause-is (ends.offer holder) (covers holder honest) alive;
          is_told = λ holder honest. told-plan (ends.offer holder) (covers holder honest);
          spent_plan = λ holder honest. if-err-from result (λ fault. ExplainedRun allows (ends.offer holder) options since now starts fault) (ForBudget (SpendsPlan (ends.offer holder) options)) (explained (ends.offer holder) (covers holder honest))
              (λ fault w. plan-spent laws traffic allows options since now lawful starts (ends.offer holder) fault w);
          one_spent = λ holder honest. spent-is (ends.offer holder) (covers holder honest);
          unprovoked = λ holder honest. unprovoked-so laws traffic allows options since now lawful starts sources (ends.offer holder) q (covers holder honest) limit some (plan (ends.offer holder) (covers holder honest));
        }

-- what a call did on its wire, and by the plan
abbrev pub acts-on-wire : {A : Type 0} (allows : List ℕ → ℕ → List ℕ → List ℕ → Type 0) (ends : Ends) (options : Options) (starts : List Address) (most : ℕ) (q : QueryData) (result : Result A ClientFault) (told : A → Report) (since now : WireState) → most_over options q (length starts) ≤ most
    → (a : ActsAt allows options starts q result told since now) → ActsByPlan allows ends (λ started. started ≡ a.happened.pool.started) options result told since now → ActsOnWire allows ends options starts most result told since now
acts-on-wire allows ends options starts most q result told since now few a plan = record {
  happened = a.happened;
  closed = a.closed;
  peers = a.peers;
  others = a.others;
  moves = a.moves;
  dials = a.dials;
  given = a.given;
  started = a.started;
  waiting = few-more (most_over options q (length starts)) most 0 a.happened.events few a.waiting;
  sent = a.sent;
  cause = a.cause;
  answered = a.answered;
  within = a.within;
  dialled = a.dialled;
  linked = a.linked;
  paid = a.paid;
  plan = plan;
  failed_often = a.failed_often;
  spent_requests = a.spent_requests;
  spent_tries = a.spent_tries;
}

-- ---- how a call ended, over whoever may hold what is offered, where the call is covered by that

module _ (laws : Laws) (traffic : TrafficLaws) (allows : List ℕ → ℕ → List ℕ → List ℕ → Type 0) (options : Options) (since now : WireState) (lawful : IsLawful allows since) (starts : List Address) (sources : Sources) (q : QueryData) (limit : options.max_body < 2 ^ 64) (some : 1 ≤ options.links) (ends : Ends)
    (covers : (holder : ends.Holder) → ends.AreHonest allows holder since → Covered sources (ends.offer holder) allows options since now starts q) (most : ℕ) (few : most_over options q (length starts) ≤ most) where
  pub writes-over : (result : Result Report ClientFault) (out out' : SinkState) → WritesEnded allows sources q starts options result since now out out' → WritesOverEnds allows ends sources q starts options most result since now out out'
  writes-over result out out' w = record {
    acts =
        acts-on-wire allows ends options starts most q result (λ report. report) since now few w.acts
        (acts-by-plan laws traffic allows options since now lawful starts sources q w.acts.happened result (λ report. report) (λ report. WritesAll (AreThese w.acts.happened.events w.acts.happened.pool) sources q starts report out.taken out'.taken) out.taken out'.taken
        w.ok (if-err-from result _ _ w.err (λ fault x. x.some)) (λ report x. (x.rows, x.returns)) limit some ends covers);
    ok = w.ok;
    err = if-err-from result _ _ w.err (λ fault x. record { fails = over-one laws traffic allows options since now lawful limit starts sources q w.acts.happened ends covers fault out.taken out'.taken x.some; shown = x.shown });
  }

  pub gives-over : {A : Type 0} (result : Result A ClientFault) (told : A → Report) (rows : A → List Places) → GivesEnded allows sources q starts options result told rows since now → GivesOverEnds allows ends sources q starts options most result told rows since now
  gives-over result told rows w = record {
    acts =
        acts-on-wire allows ends options starts most q result told since now few w.acts
        (acts-by-plan laws traffic allows options since now lawful starts sources q w.acts.happened result told (λ x. Returns (AreThese w.acts.happened.events w.acts.happened.pool) sources q starts (told x) (rows x)) None None
        w.ok w.err (λ x r. (rows x, r)) limit some ends covers);
    ok = w.ok;
    err = if-err-from result _ _ w.err (λ fault x. over-one laws traffic allows options since now lawful limit starts sources q w.acts.happened ends covers fault None None x);
  }

once : (n : ℕ) → n * 1 ≡ n
once n = omega arith

-- of one server no more asks wait than these
pub most-one : (options : Options) (q : QueryData) (start : Address) → most_over options q (length (start ∷ [])) ≤ most_asked options q
most-one options q start = subst (λ (n : ℕ). max 1 (length q.patterns * n) ≤ most_asked options q) (sym (once options.window)) (let same : most_asked options q ≤ most_asked options q = omega arith in same)
