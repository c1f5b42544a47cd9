-- A call that ended with a fault is said of the choice that its start pages told, and of each where these were not read.
use Rattle.std.proofs.Common.{ℕ, ◌≡◌, ◌<◌, ◌^◌, ◌++◌, List, Option, true, refl, sym, ap, subst, ◌∙◌}
use Rattle.tpf_base.specs.Addresses.{Address}
use Rattle.tpf_base.specs.Links.{WireState}
use Rattle.bgp_core.specs.Queries.{QueryData}
use Rattle.fragment_page.specs.declared.page.Page.{Page}
use Rattle.request_pool.specs.Pools.{Pooled}
use Rattle.tpf_client.specs.declared.options.Options.{Options}
use Rattle.tpf_client.specs.declared.fault.ClientFault.{ClientFault}
use Rattle.tpf_client.specs.Traffic.{PoolEvent, IsLawful}
use Rattle.tpf_client.specs.Starts.{ReadsStarts, versions_of}
use Rattle.tpf_client.specs.Sources.{Sources}
use Rattle.tpf_client.specs.Offers.{Offer}
use Rattle.tpf_client.specs.Ends.{Ends}
use Rattle.tpf_client.specs.Honest.{Laws, WritesSolutionsFront}
use Rattle.tpf_client.specs.Requests.{TrafficLaws, DialsAtMost, tries_of}
use Rattle.tpf_client.specs.Calls.{RunsPool, Happened, AreThese, WritesSome, Before, Behind, AtEnd}
use Rattle.tpf_client.specs.Choices.{HasTold, OfToldChoice, FailsAlive, FailsByChoice, FailsOverOne}
use Rattle.tpf_client.proofs.Covered.{Covered, ChoiceBehind, nothing-over, front-written}
use Rattle.tpf_client.proofs.Planned.{PlannedRun, ExplainedRun, these-run, before-explained, before-choice, before-run, some-explained, explained-run, behind-choice, end-choice}
use Rattle.tpf_client.proofs.Exits.{dials-so, dials-choice, asks-plan}
use Rattle.tpf_client.proofs.Requested.{requests-plan, requests-choice}
use Rattle.tpf_client.proofs.HonestCauses.{honest-cause, honest-cause-of}
use Rattle.tpf_client.proofs.LivelyCauses.{counts-as, counts-so, counts-choice, lively-cause, lively-cause-of}
use Rattle.tpf_client.proofs.Spending.{spent-over}

module _ (laws : Laws) (traffic : TrafficLaws) (allows : List ℕ → ℕ → List ℕ → List ℕ → Type 0) (options : Options) (since now : WireState) (lawful : IsLawful allows since) (limit : options.max_body < 2 ^ 64) (starts : List Address) (sources : Sources) (q : QueryData) (h : Happened allows options starts since now) where
  abbrev Call : List PoolEvent → Pooled → Type 0
  Call events pool = AreThese h.events h.pool events pool

  -- so many requests were started in what happened
  abbrev Started : ℕ → Type 0
  Started n = n ≡ h.pool.started

  -- they are a run of the pool
  abbrev goes : (events : List PoolEvent) (pool : Pooled) → Call events pool → RunsPool allows options since now events pool
  goes events pool is = these-run allows options since now starts h events pool is

  module _ (offer : Offer) (covered : Covered sources offer allows options since now starts q) where
    -- a run that explains the fault, and a front of a text, of this choice
    record KnownBy (fault : ClientFault) (t u : Option (List ℕ)) (choice : offer.Choice) : Type 0 where
      run : ExplainedRun allows offer options since now starts fault
      run_over : run.planned.choice ≡ choice
      run_is : run.planned.run ≡ h
      front : WritesSolutionsFront offer q t u
      front_over : front.choice ≡ choice

    asked-choice : (x : PlannedRun allows offer options since now starts) → (asks-plan laws traffic allows options since now lawful starts sources offer q covered x).choice ≡ x.choice
    unfolding asks-plan
    asked-choice x = refl

    alive-by : (fault : ClientFault) (x : ExplainedRun allows offer options since now starts fault) → x.planned.run ≡ h → since.nature.lively ≡ true → FailsAlive Started offer options fault since now x.planned.choice
    alive-by fault x is alive = record {
      counted = counts-as offer since now x.planned.run.pool.started h.pool.started (ap (λ (r : Happened allows options starts since now). r.pool.started) is) (counts-so laws traffic allows options since now lawful limit starts sources offer q covered alive x.planned);
      counted_over = counts-choice laws traffic allows options since now lawful limit starts sources offer q covered alive x.planned;
      cause = lively-cause laws traffic allows options since now lawful limit starts sources offer q covered alive fault x;
      cause_over = lively-cause-of laws traffic allows options since now lawful limit starts sources offer q covered alive fault x;
    }

    dials-by : (x : PlannedRun allows offer options since now starts) → DialsAtMost (tries_of options (offer.addresses x.choice)) since now
    dials-by x =
        subst (λ (c : offer.Choice). DialsAtMost (tries_of options (offer.addresses c)) since now) (dials-choice laws traffic allows options since now lawful starts sources offer q covered x)
        (dials-so laws traffic allows options since now lawful starts sources offer q covered x).few

    fails-by : (fault : ClientFault) (t u : Option (List ℕ)) (x : ExplainedRun allows offer options since now starts fault) (front : WritesSolutionsFront offer q t u) → front.choice ≡ x.planned.choice → x.planned.run ≡ h
        → FailsByChoice Started offer options q fault since now t u x.planned.choice
    fails-by fault t u x front over is = record {
      prefix = front;
      prefix_over = over;
      asked = asks-plan laws traffic allows options since now lawful starts sources offer q covered x.planned;
      asked_over = asked-choice x.planned;
      requested = requests-plan laws traffic allows options since now lawful starts limit sources offer q covered x.planned;
      requested_over = requests-choice laws traffic allows options since now lawful starts limit sources offer q covered x.planned;
      dials = dials-by x.planned;
      cause = honest-cause laws traffic allows options since now lawful limit starts sources offer q covered fault x;
      cause_over = honest-cause-of laws traffic allows options since now lawful limit starts sources offer q covered fault x;
      spent = spent-over laws traffic allows options since now lawful starts offer fault x;
      alive = λ alive. alive-by fault x is alive;
    }

    by-known : (fault : ClientFault) (t u : Option (List ℕ)) (choice : offer.Choice) → KnownBy fault t u choice → FailsByChoice Started offer options q fault since now t u choice
    by-known fault t u choice k =
        subst (λ (c : offer.Choice). FailsByChoice Started offer options q fault since now t u c) k.run_over
        (fails-by fault t u k.run k.front (k.front_over ∙ sym k.run_over) k.run_is)

    -- behind the start pages it is the choice that these told
    of-later : (fault : ClientFault) (t u : Option (List ℕ)) (w : WritesSome Call sources q starts options.budget fault t u) (first later : List PoolEvent) (told : List Page) (reads : ReadsStarts starts told first) (c : ChoiceBehind sources offer q starts first later told reads)
        → (some-explained allows sources offer options since now starts q covered h fault t u w).planned.choice ≡ c.choice → (front-written sources offer allows options since now starts q covered Call goes laws.pieces laws.goes_on options.budget fault t u w).choice ≡ c.choice
        → (choice : offer.Choice) × HasTold offer starts (versions_of told) choice × FailsByChoice Started offer options q fault since now t u choice
    of-later fault t u w first later told reads c run front = (
      c.choice,
      record { is_choice = c.is_choice; versions = c.versions; tells = c.tells; has = c.has },
      by-known fault t u c.choice (record {
        run = some-explained allows sources offer options since now starts q covered h fault t u w;
        run_over = run;
        run_is = explained-run allows sources offer options since now starts q covered h fault t u w;
        front = front-written sources offer allows options since now starts q covered Call goes laws.pieces laws.goes_on options.budget fault t u w;
        front_over = front;
      }),
    )

    pub of-choice : (fault : ClientFault) (t u : Option (List ℕ)) (w : WritesSome Call sources q starts options.budget fault t u)
        → OfToldChoice Call sources q starts options.budget fault t u offer w (FailsByChoice Started offer options q fault since now t u)
    unfolding front-written
    of-choice fault t u (Before b) = λ choice is.
        by-known fault t u choice (record {
          run = before-explained allows sources offer options since now starts q covered h fault t u b choice is;
          run_over = before-choice allows sources offer options since now starts q covered h fault t u b choice is;
          run_is = before-run allows sources offer options since now starts q covered h fault t u b choice is;
          front = nothing-over sources offer allows options since now starts q covered Call goes choice is t u b.nothing;
          front_over = refl;
        })
    of-choice fault t u (Behind b) =
        of-later fault t u (Behind b) b.first b.later b.told b.reads (covered.behind b.first b.later b.pool (goes (b.first ++ b.later) b.pool b.runs) b.asks b.told b.reads)
        (behind-choice allows sources offer options since now starts q covered h fault t u b) refl
    of-choice fault t u (AtEnd b) =
        of-later fault t u (AtEnd b) b.first b.later b.told b.reads (covered.behind b.first b.later b.pool (goes (b.first ++ b.later) b.pool b.runs) b.asks b.told b.reads)
        (end-choice allows sources offer options since now starts q covered h fault t u b) refl

  -- whoever may hold what is offered
  abbrev pub over-one : (ends : Ends) → ((holder : ends.Holder) → ends.AreHonest allows holder since → Covered sources (ends.offer holder) allows options since now starts q)
      → (fault : ClientFault) (t u : Option (List ℕ)) → WritesSome Call sources q starts options.budget fault t u → FailsOverOne Call h.pool.started allows ends options sources q starts fault since now t u
  over-one ends covers fault t u w = record { some = w; over = λ holder honest. of-choice (ends.offer holder) (covers holder honest) fault t u w }
