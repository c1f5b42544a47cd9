-- What was sent in a call: whole requests for what was asked, and then a front of one at most.
use Rattle.std.proofs.Common.{ℕ, List, [], map, refl}
use Rattle.std.specs.Prelude.{Ok, Err}
use Rattle.std.specs.List.{AllByRecursion, Contains}
use Rattle.list_laws.proofs.Members.{all_from, Contains-map}
use Rattle.tpf_base.specs.Addresses.{Address}
use Rattle.tpf_base.specs.Links.{WireState}
use Rattle.request_pool.specs.Pools.{Pooled}
use Rattle.pool_laws.specs.Sending.{SentSince}
use Rattle.tpf_client.specs.declared.options.Options.{Options}
use Rattle.tpf_client.specs.Traffic.{PoolEvent, IsLawful, without_fault}
use Rattle.tpf_client.specs.Turns.{asked_in, address_of}
use Rattle.tpf_client.specs.Calls.{RunsPool}
use Rattle.tpf_client.specs.Honest.{Laws}
use Rattle.tpf_client.specs.Requests.{TrafficLaws}
use Rattle.tpf_client.specs.Plans.{SendsOnly}
use Rattle.tpf_client.proofs.Keeping.{IsKeptBy, by-events}
use Rattle.tpf_client.proofs.Known.{begun, begun-between}
use Rattle.tpf_client.proofs.Planned.{RunOf}

module _ (laws : Laws) (traffic : TrafficLaws) (allows : List ℕ → ℕ → List ℕ → List ℕ → Type 0) (options : Options) (since : WireState) (lawful : IsLawful allows since) (starts : List Address) (asked : List Address) where
  sent-kept : IsKeptBy allows (begun options) (λ ask. Contains asked ask.address) (λ n p v. SentSince (Contains asked) since p v)
  sent-kept = record {
    puts = λ n ask p v c web i. traffic.puts_sent asked since ask.ticket ask.address p v c i;
    steps = λ n answer p q v w at i t. traffic.steps_sent asked since (Ok answer) p q v w at.given at.suits i t;
    breaks = λ n fault p q v w at i t kept. traffic.faults_sent asked since q w (traffic.steps_sent asked since (Err fault) p (without_fault q) v w at.given at.suits i t);
  }

  sends-only : (now : WireState) (events : List PoolEvent) (p : Pooled) → AllByRecursion (λ ask. Contains asked ask.address) (asked_in events) → RunsPool allows options since now events p → SendsOnly asked since now
  sends-only now events p a r =
      let i = by-events allows (begun options) (λ ask. Contains asked ask.address) (λ n x v. SentSince (Contains asked) since x v) sent-kept events (begun options) p since r.between
      (begun-between laws traffic starts options allows since lawful (λ ask. Contains asked ask.address)) a (traffic.empty_sent asked options.links options.retries options.budget options.max_body since) r.travels in
      let c = traffic.closing_sent asked since p (record p { waiting = []; polled = []; due = []; spare = [] }) r.between now i refl r.closes in
      λ k low high. c.given k low high

module _ (laws : Laws) (traffic : TrafficLaws) (allows : List ℕ → ℕ → List ℕ → List ℕ → Type 0) (options : Options) (since now : WireState) (lawful : IsLawful allows since) (starts : List Address) where
  pub sends-asked : (run : RunOf allows options starts since now) → SendsOnly (map address_of (asked_in run.events)) since now
  sends-asked run =
      let addresses = map address_of (asked_in run.events) in
      sends-only laws traffic allows options since lawful starts addresses now run.events run.pool (all_from (λ ask. Contains addresses ask.address) (asked_in run.events) (λ ask c. Contains-map address_of (asked_in run.events) ask c)) run.runs
