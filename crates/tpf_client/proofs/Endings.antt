-- The last event of a call, and what is known before it.
use Rattle.std.proofs.Common.{ℕ, ◌≡◌, ◌+◌, ◌++◌, List, [], ◌∷◌, length, None, refl, sym, ap, subst}
use Rattle.std.specs.Prelude.{Ok, Err}
use Rattle.std.specs.List.{Contains}
use Rattle.std.specs.List.Sorted.{IsPermutation}
use Rattle.tpf_base.specs.Addresses.{Address}
use Rattle.tpf_base.specs.Links.{WireState, OpensGiven}
use Rattle.request_plan.specs.Evaluations.{HasHome}
use Rattle.request_pool.specs.Owned.{SuitsWire}
use Rattle.request_pool.specs.declared.fault.Stepped.TheVariants as stepped
use Rattle.request_pool.specs.Pools.{Pooled, Ask, held, bounds_of}
use Rattle.tpf_client.specs.declared.options.Options.{Options}
use Rattle.tpf_client.specs.Traffic.{PoolEvent, Asked, Came, Waited, Broke, Moves, Travels, EndsWith, IsLawful, without_fault, Comes, StepWaits, StepBreaks}
use Rattle.tpf_client.specs.Turns.{AsksAt, asked_in}
use Rattle.tpf_client.specs.Calls.{RunsPool}
use Rattle.tpf_client.specs.Honest.{Laws}
use Rattle.tpf_client.specs.Requests.{TrafficLaws}
use Rattle.tpf_client.proofs.Homes.{asks-front}
use Rattle.tpf_client.proofs.Keeping.{between-after}
use Rattle.tpf_client.proofs.Known.{Knows, begun, begun-between, knows-so}
use Rattle.tpf_client.proofs.Received.{IsToldAlike, closes-told, lost-asked}
use Rattle.tpf_client.proofs.Onward.{Onward, onward_same, onward_then, onward_step}

-- events, and the last of them
record Split (allows : List ℕ → ℕ → List ℕ → List ℕ → Type 0) (before : List PoolEvent) (event : PoolEvent) (p q : Pooled) (v w : WireState) : Type 0 where
  mid : Pooled
  between : WireState
  first : Travels allows before p mid v between
  last : Moves allows event mid q between w

split : (allows : List ℕ → ℕ → List ℕ → List ℕ → Type 0) (before : List PoolEvent) (event : PoolEvent) (p q : Pooled) (v w : WireState) → Travels allows (before ++ event ∷ []) p q v w → Split allows before event p q v w
split allows [] event p q v w t = record {
  mid = p;
  between = v;
  first = (refl, refl);
  last = subst (λ (x : Pooled). Moves allows event p x v w) (sym t.2.0) (subst (λ (y : WireState). Moves allows event p t.0.pool v y) (sym t.2.1) t.1);
}
split allows (e ∷ before) event p q v w t =
    let s = split allows before event t.0.pool q t.0.wire w t.2 in
    record { mid = s.mid; between = s.between; first = (t.0, t.1, s.first); last = s.last }

-- ---- what no event undoes

moves-onward : (allows : List ℕ → ℕ → List ℕ → List ℕ → Type 0) (event : PoolEvent) (p q : Pooled) (v w : WireState) → Moves allows event p q v w → Onward v w
moves-onward allows (Asked ask) p q v w m = onward_same v w m.happens.1
moves-onward allows (Came ask reply) p q v w m = let h : Comes ask reply p q v w = m.happens in onward_step (Ok (stepped.Came ask.ticket ask.address reply)) p q v w h.steps
moves-onward allows Waited p q v w m = let h : StepWaits p q v w = m.happens in onward_step (Ok stepped.Waited) p q v w h.steps
moves-onward allows (Broke fault) p q v w m = let h : StepBreaks fault p q v w = m.happens in onward_step (Err fault) p (without_fault q) v w h.steps

pub travels-onward : (allows : List ℕ → ℕ → List ℕ → List ℕ → Type 0) (events : List PoolEvent) (p q : Pooled) (v w : WireState) → Travels allows events p q v w → Onward v w
travels-onward allows [] p q v w t = onward_same v w t.1
travels-onward allows (event ∷ events) p q v w t = onward_then v t.0.wire w (moves-onward allows event p t.0.pool v t.0.wire t.1) (travels-onward allows events t.0.pool q t.0.wire w t.2)

-- ---- the last event

module _ (laws : Laws) (traffic : TrafficLaws) (allows : List ℕ → ℕ → List ℕ → List ℕ → Type 0) (options : Options) (since now : WireState) (lawful : IsLawful allows since) (starts : List Address) where
  -- The pool and the wire before the last event of a call. What is told of each link after it is told at the exit.
  pub record Ending (events : List PoolEvent) (event : PoolEvent) (p : Pooled) (r : RunsPool allows options since now events p) : Type 0 where
    pub before : List PoolEvent
    pub is_last : events ≡ before ++ event ∷ []
    pub mid : Pooled
    pub between : WireState
    pub first : Travels allows before (begun options) mid since between
    pub last : Moves allows event mid p between r.between
    pub given : OpensGiven between
    pub suits : SuitsWire mid between
    pub knows : Knows starts since (options.retries + 1) (length (asked_in before)) mid between
    pub limit : mid.limit ≡ options.max_body
    pub told : (k : ℕ) → IsToldAlike (r.between.links k) (now.links k)

  pub ending : (events : List PoolEvent) (event : PoolEvent) (p : Pooled) → EndsWith event events → (r : RunsPool allows options since now events p) → AsksAt starts events → Ending events event p r
  ending events event p e r a =
      let s = split allows e.before event (begun options) p since r.between (subst (λ (l : List PoolEvent). Travels allows l (begun options) p since r.between) e.is_last r.travels) in
      let front = asks-front (λ ask. HasHome starts ask.address) e.before (event ∷ []) (subst (λ (l : List PoolEvent). AsksAt starts l) e.is_last a) in
      let b = between-after allows (begun options) (λ ask. HasHome starts ask.address) e.before (begun options) s.mid since s.between front (begun-between laws traffic starts options allows since lawful (λ ask. HasHome starts ask.address)) s.first in
      record {
        before = e.before;
        is_last = e.is_last;
        mid = s.mid;
        between = s.between;
        first = s.first;
        last = s.last;
        given = b.given;
        suits = b.suits;
        knows = knows-so laws traffic starts options allows since lawful e.before s.mid s.between front s.first;
        limit = ap (λ (x : Pooled). x.limit) b.bounds;
        told = closes-told p r.between now r.closes;
      }

  -- an ask that was lost at the last event was asked
  pub lost-in : (events : List PoolEvent) (event : PoolEvent) (p : Pooled) (r : RunsPool allows options since now events p) (x : Ending events event p r) (q : Pooled) (ask : Ask) → x.mid.fault ≡ None → IsPermutation (held x.mid) (ask ∷ held q) → Contains (asked_in events) ask
  lost-in events event p r x q ask none h =
      subst (λ (l : List PoolEvent). Contains (asked_in l) ask) (sym x.is_last) (lost-asked allows x.before (event ∷ []) (begun options) x.mid q since x.between x.first refl none ask h)

  -- the bounds are the same at the exit
  pub same-pool : (events : List PoolEvent) (p : Pooled) → AsksAt starts events → RunsPool allows options since now events p → bounds_of (without_fault p) ≡ begun options
  same-pool events p a r =
      let b = between-after allows (begun options) (λ ask. HasHome starts ask.address) events (begun options) p since r.between a (begun-between laws traffic starts options allows since lawful (λ ask. HasHome starts ask.address)) r.travels in
      b.bounds

  pub same-bounds : (events : List PoolEvent) (p : Pooled) → AsksAt starts events → RunsPool allows options since now events p → p.budget ≡ options.budget
  same-bounds events p a r = ap (λ (x : Pooled). x.budget) (same-pool events p a r)
