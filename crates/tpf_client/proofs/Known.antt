-- What is known of a call's pool and its wire, as asks at the hosts and ports of some addresses are put and steps follow.
use Rattle.std.proofs.Common.{ℕ, ◌≡◌, ◌≤◌, ◌+◌, ◌*◌, ◌++◌, List, [], ◌∷◌, length, suc, None, refl, sym, ap, subst, ◌∙◌, arith}
use Rattle.std.proofs.Math.Nat.{mul-suc}
use Rattle.std.specs.Prelude.{Result, Ok, Err}
use Rattle.tpf_base.specs.Addresses.{Address}
use Rattle.tpf_base.specs.Links.{WireState, OpensGiven}
use Rattle.request_plan.specs.Evaluations.{HasHome}
use Rattle.request_pool.specs.declared.fault.PoolFault.{PoolFault}
use Rattle.request_pool.specs.declared.fault.Stepped.{Stepped}
use Rattle.request_pool.specs.Pools.{Pooled, Ask, empty_pool}
use Rattle.request_pool.specs.Owned.{SuitsWire}
use Rattle.request_pool.specs.Steps.{StepsTo}
use Rattle.pool_laws.specs.Following.{AnswersSoFar, IsWebAddress}
use Rattle.pool_laws.specs.Hosts.{OwnsAtHosts}
use Rattle.pool_laws.specs.Counting.{FewDials, FewFailed}
use Rattle.pool_laws.proofs.Dialling.{Linked, linked_is_kept}
use Rattle.pool_laws.proofs.KeptBySteps.{by_step}
use Rattle.tpf_client.specs.declared.options.Options.{Options}
use Rattle.tpf_client.specs.Traffic.{PoolEvent, Travels, IsLawful, without_fault}
use Rattle.tpf_client.specs.Turns.{AsksAt, asked_in}
use Rattle.tpf_client.specs.Calls.{RunsPool}
use Rattle.tpf_client.specs.Honest.{Laws}
use Rattle.tpf_client.specs.Requests.{TrafficLaws, AreClosed, AreDialledFor, OthersStay, DialsAtMost, GivesAtMost}
use Rattle.tpf_client.proofs.Keeping.{IsKeptBy, Between, by-events}
use Rattle.tpf_client.proofs.Most.{Most, most_is_kept, most_put, most_started}

times-more : (k n : ℕ) → k * n + k ≡ k * (n + 1)
times-more k n = let e : suc n ≡ n + 1 = omega arith in sym (mul-suc k n) ∙ ap (λ (m : ℕ). k * m) e

-- after so many asks, each of which may be tried k times
pub record Knows (homes : List Address) (since : WireState) (k n : ℕ) (p : Pooled) (v : WireState) : Type 0 where
  pub answers : AnswersSoFar p v
  pub owns : OwnsAtHosts homes since p v
  pub dials : FewDials since.dials p v
  pub few : FewFailed p
  pub linked : Linked since.given p v
  pub most : Most k (k * n) p

-- the pool with which a call begins
abbrev pub begun : Options → Pooled
begun options = empty_pool options.links options.retries options.budget options.max_body

module _ (laws : Laws) (traffic : TrafficLaws) (homes : List Address) (since : WireState) (k : ℕ) (low : 1 ≤ k) where
  abbrev I : ℕ → Pooled → WireState → Type 0
  I n p v = Knows homes since k n p v

  pub knows-put : (n : ℕ) (ask : Ask) (p : Pooled) (v : WireState) → HasHome homes ask.address → IsWebAddress ask.address → I n p v → I (n + 1) (record p { waiting = p.waiting ++ (record { ticket = ask.ticket; address = ask.address; failed = 0 }) ∷ [] }) v
  knows-put n ask p v s a i = record {
    answers = laws.puts ask.ticket ask.address p v a i.answers;
    owns = traffic.puts_own homes since ask.ticket ask.address p v (record { home = s.0; is_home = s.1; same_host = s.2.host; same_port = s.2.port }) i.owns;
    dials = traffic.puts_dial since.dials ask.ticket ask.address p v i.dials;
    few = traffic.puts_few ask.ticket ask.address p i.few;
    linked = record { polled = i.linked.polled; due = i.linked.due; few = i.linked.few; within = i.linked.within };
    most = subst (λ (m : ℕ). Most k m (record p { waiting = p.waiting ++ (record { ticket = ask.ticket; address = ask.address; failed = 0 }) ∷ [] })) (times-more k n) (most_put k (k * n) ask.ticket ask.address p low i.most);
  }

  pub knows-step : (n : ℕ) (result : Result Stepped PoolFault) (p q : Pooled) (v w : WireState) → OpensGiven v → SuitsWire p v → I n p v → StepsTo result p q v w → I n q w
  knows-step n result p q v w g s i t = record {
    answers = laws.steps result p q v w g s i.answers t;
    owns = traffic.steps_own homes since result p q v w g s i.owns t;
    dials = traffic.steps_dial since.dials result p q v w g s i.dials t;
    few = traffic.steps_few result p q v w g s i.few t;
    linked = by_step (Linked since.given) (linked_is_kept since.given) result p q v w g s i.linked t;
    most = by_step (λ x a. Most k (k * n) x) (most_is_kept k (k * n)) result p q v w g s i.most t;
  }

  pub knows-fault : (n : ℕ) (p : Pooled) (v : WireState) → I n (record p { fault = None }) v → I n p v
  knows-fault n p v i = record {
    answers = laws.faults p v i.answers;
    owns = traffic.faults_own homes since p v i.owns;
    dials = traffic.faults_dial since.dials p v i.dials;
    few = record { waiting = i.few.waiting; flying = i.few.flying };
    linked = record { polled = i.linked.polled; due = i.linked.due; few = i.linked.few; within = i.linked.within };
    most = record { is = i.most.is; waiting = i.most.waiting; polled = i.most.polled; due = i.most.due; few = i.most.few };
  }

  knows-kept : (allows : List ℕ → ℕ → List ℕ → List ℕ → Type 0) (base : Pooled) → IsKeptBy allows base (λ ask. HasHome homes ask.address) (Knows homes since k)
  knows-kept allows base = record {
    puts = knows-put;
    steps = λ n answer p q v w at i t. knows-step n (Ok answer) p q v w at.given at.suits i t;
    breaks = λ n fault p q v w at i t kept. knows-fault n q w (knows-step n (Err fault) p (without_fault q) v w at.given at.suits i t);
  }

-- what stands at the exit of a call in which so many requests were started
pub record Exit (homes : List Address) (options : Options) (since now : WireState) (asked started : ℕ) : Type 0 where
  pub closed : AreClosed since now
  pub peers : AreDialledFor homes since now
  pub others : OthersStay since now
  pub dials : DialsAtMost started since now
  pub given : GivesAtMost started since now
  pub few : started ≤ (options.retries + 1) * asked
  pub within : started ≤ options.budget

module _ (laws : Laws) (traffic : TrafficLaws) (homes : List Address) (options : Options) (allows : List ℕ → ℕ → List ℕ → List ℕ → Type 0) (since : WireState) (lawful : IsLawful allows since) where
  pub begun-knows : Knows homes since (options.retries + 1) 0 (begun options) since
  begun-knows = record {
    answers = laws.empty options.links options.retries options.budget options.max_body since;
    owns = traffic.empty_own homes options.links options.retries options.budget options.max_body since;
    dials = traffic.empty_dial options.links options.retries options.budget options.max_body since;
    few = traffic.empty_few options.links options.retries options.budget options.max_body;
    linked = record { polled = tt; due = tt; few = omega arith; within = omega arith };
    most = record { is = refl; waiting = tt; polled = tt; due = tt; few = omega arith };
  }

  -- nothing is held at first, whatever the asks are to be
  pub begun-between : (P : Ask → Type 0) → Between allows (begun options) P (begun options) since
  begun-between P = record { given = lawful.given; suits = record { polled = tt; due = tt; owned = λ k. omega arith }; are = λ none. tt; bounds = refl }

  -- at each moment
  pub knows-so : (events : List PoolEvent) (p : Pooled) (v : WireState) → AsksAt homes events → Travels allows events (begun options) p since v → Knows homes since (options.retries + 1) (length (asked_in events)) p v
  knows-so events p v a t =
      by-events allows (begun options) (λ ask. HasHome homes ask.address) (Knows homes since (options.retries + 1)) (knows-kept laws traffic homes since (options.retries + 1) (omega arith) allows (begun options)) events (begun options) p since v
      (begun-between (λ ask. HasHome homes ask.address)) a begun-knows t

  same-budget : (n m b : ℕ) → n ≤ m → m ≡ b → n ≤ b
  same-budget n m b l e = omega (arith, l, e)

  pub exit-of : (now : WireState) (events : List PoolEvent) (p : Pooled) → AsksAt homes events → RunsPool allows options since now events p → p.budget ≡ options.budget → Exit homes options since now (length (asked_in events)) p.started
  exit-of now events p a r b =
      let i = knows-so events p r.between a r.travels in
      let c = traffic.closing homes since p (record p { waiting = []; polled = []; due = []; spare = [] }) r.between now i.owns refl r.closes in
      let d = r.closes.dials in
      let g = r.closes.given in
      let l = i.linked.few in
      let f = i.dials.dials in
      record {
        closed = c.closed.closed;
        peers = c.closed.gives.peers;
        others = c.closed.gives.before;
        dials = omega (arith, d, f);
        given = omega (arith, g, l);
        few = most_started (options.retries + 1) ((options.retries + 1) * length (asked_in events)) p i.most;
        within = same-budget p.started p.budget options.budget i.linked.within b;
      }
