-- The tickets of the asks differ, as asks are put and replies come.
use Rattle.std.proofs.Common.{ℕ, ◌≡◌, ◌≢◌, List, [], ◌∷◌, ◌++◌, inl, Option, Some, None, refl, sym, ap, subst, ◌∙◌}
use Rattle.std.specs.Prelude.{Result, Ok, Err, IfOk, IfErr, OnOk, OnErr}
use Rattle.text_base.specs.declared.memory.OutOfMemory.{OutOfMemory}
use Rattle.std.specs.List.{AllByRecursion}
use Rattle.std.specs.List.Sorted.{IsPermutation}
use Rattle.std.proofs.lemmas.List.Sorted.{IsPermutation-sym}
use Rattle.tpf_base.specs.Addresses.{Address, IsAddress, address_text}
use Rattle.tpf_base.specs.Links.{WireState}
use Rattle.http_wire.specs.declared.message.Reply.{Reply}
use Rattle.request_pool.specs.declared.fault.PoolFault.{PoolFault}
use Rattle.request_pool.specs.declared.fault.Stepped.TheVariants as stepped
use Rattle.request_pool.specs.Faults.{kept_of}
use Rattle.request_pool.specs.Pools.{Pooled, Ask, held, bounds_of}
use Rattle.request_pool.specs.Owned.{SuitsWire}
use Rattle.request_pool.specs.declared.fault.Stepped.{Stepped}
use Rattle.request_pool.specs.Steps.{StepsTo, HoldsOn, EndsPool, HandsOut}
use Rattle.tpf_client.specs.Traffic.{Came, Waited, Broke, Puts, Moves, IsLawful, without_fault}
use Rattle.tpf_client.specs.Asking.{TicketsDiffer, PutsOne, StepsOn, next_of}
use Rattle.tpf_client.proofs.Distinct.{fresh-distinct, distinct-permuted, rest-distinct, put-held}

-- ---- a put

pub put-one : (ask : Ask) (p q : Pooled) (r : Result (Unit {0}) OutOfMemory) → IsAddress (address_text ask.address) ask.address → OnOk r (q ≡ record p { waiting = p.waiting ++ (record { ticket = ask.ticket; address = ask.address; failed = 0 }) ∷ [] })
    → ((wire : WireState) → SuitsWire p wire → SuitsWire q wire) → AllByRecursion (λ a. a.ticket ≢ ask.ticket) (held p) → TicketsDiffer p → OnOk r (PutsOne ask p q)
put-one ask p q (Ok u) a ok suits fresh differ =
    let puts : Puts ask p q = record { is_address = a; fresh = fresh; put = ok } in
    let same : q.fault ≡ p.fault = ap (λ (x : Pooled). x.fault) ok in
    record {
      puts = puts;
      suits = suits;
      distinct = λ none. distinct-permuted (ask ∷ held p) (held q) (IsPermutation-sym _ _ (put-held ask p q puts)) (fresh-distinct ask (held p) fresh (differ (sym same ∙ none)));
      bounds = ap (λ (x : Pooled). bounds_of (without_fault x)) ok;
      no_fault = same;
    }
put-one ask p q (Err e) a ok suits fresh differ = tt

differ-kept : (ask : Ask) (p q : Pooled) (r : Result (Unit {0}) OutOfMemory) → OnOk r (PutsOne ask p q) → OnErr r (q ≡ p) → TicketsDiffer p → TicketsDiffer q
differ-kept ask p q (Ok u) ok err differ = ok.distinct
differ-kept ask p q (Err e) ok err differ = subst TicketsDiffer (sym err) differ

pub put-differ : (ask : Ask) (p q : Pooled) (r : Result (Unit {0}) OutOfMemory) → IsAddress (address_text ask.address) ask.address → OnOk r (q ≡ record p { waiting = p.waiting ++ (record { ticket = ask.ticket; address = ask.address; failed = 0 }) ∷ [] }) → OnErr r (q ≡ p)
    → ((wire : WireState) → SuitsWire p wire → SuitsWire q wire) → AllByRecursion (λ a. a.ticket ≢ ask.ticket) (held p) → TicketsDiffer p → TicketsDiffer q
put-differ ask p q r a ok err suits fresh differ = differ-kept ask p q r (put-one ask p q r a ok suits fresh differ) err differ

-- ---- what a step of the pool makes of the asks

-- the ask that is handed out
came-ask : (ticket : ℕ) (address : Address) (pool pool' : Pooled) → HandsOut ticket address pool pool' → IsPermutation (held pool) ((record { ticket = ticket; address = address }) ∷ held pool')
came-ask ticket address pool pool' h =
    let ask : Ask = record { ticket = ticket; address = address } in
    let is : h.ask ≡ ask = ap (λ (t : ℕ). let r : Ask = record { ticket = t; address = h.ask.address } in r) h.is_ticket ∙ ap (λ (x : Address). let r : Ask = record { ticket = ticket; address = x } in r) h.is_address in
    subst (λ (x : Ask). IsPermutation (held pool) (x ∷ held pool')) is h.others

module _ (allows : List ℕ → ℕ → List ℕ → List ℕ → Type 0) (pool pool' : Pooled) (wire wire' : WireState) where
  came-others : (s : Stepped) (ticket : ℕ) (address : Address) (reply : Reply) → s ≡ stepped.Came ticket address reply → HoldsOn s pool pool' → IsPermutation (held pool) ((record { ticket = ticket; address = address }) ∷ held pool')
  came-others s ticket address reply e holds = came-ask ticket address pool pool' (subst (λ (x : Stepped). HoldsOn x pool pool') e holds)

  came-differ : (s : Stepped) (ticket : ℕ) (address : Address) (reply : Reply) → s ≡ stepped.Came ticket address reply → HoldsOn s pool pool' → pool.fault ≡ None → TicketsDiffer pool → TicketsDiffer pool'
  came-differ s ticket address reply e holds had differ = λ none. rest-distinct _ (held pool') (distinct-permuted (held pool) _ (came-others s ticket address reply e holds) (differ had))

  came-moves : (s : Stepped) (ticket : ℕ) (address : Address) (reply : Reply) → s ≡ stepped.Came ticket address reply
      → StepsTo (Ok s) pool pool' wire wire' → HoldsOn s pool pool' → TicketsDiffer pool
      → pool.fault ≡ None → pool'.fault ≡ None → SuitsWire pool' wire' → bounds_of (without_fault pool') ≡ bounds_of (without_fault pool) → IsLawful allows wire'
      → Moves allows (Came (record { ticket = ticket; address = address }) reply) pool pool' wire wire'
  came-moves s ticket address reply e steps holds differ had f suits bounds lawful = record {
    happens = record { steps = subst (λ (x : Stepped). StepsTo (Ok x) pool pool' wire wire') e steps; others = came-others s ticket address reply e holds; had_none = had; no_fault = f };
    suits = suits;
    distinct = came-differ s ticket address reply e holds had differ;
    bounds = bounds;
    lawful = lawful;
  }

  waits-differ : (s : Stepped) → s ≡ stepped.Waited → HoldsOn s pool pool' → pool.fault ≡ None → TicketsDiffer pool → TicketsDiffer pool'
  waits-differ s e holds had differ = λ none. distinct-permuted (held pool) (held pool') (subst (λ (x : Stepped). HoldsOn x pool pool') e holds) (differ had)

  waits-move : (s : Stepped) → s ≡ stepped.Waited → held pool ≢ [] → StepsTo (Ok s) pool pool' wire wire' → HoldsOn s pool pool' → TicketsDiffer pool
      → pool.fault ≡ None → pool'.fault ≡ None → SuitsWire pool' wire' → bounds_of (without_fault pool') ≡ bounds_of (without_fault pool) → IsLawful allows wire' → Moves allows Waited pool pool' wire wire'
  waits-move s e some steps holds differ had f suits bounds lawful =
      let others : IsPermutation (held pool) (held pool') = subst (λ (x : Stepped). HoldsOn x pool pool') e holds in
      record {
        happens = record { some = some; steps = subst (λ (x : Stepped). StepsTo (Ok x) pool pool' wire wire') e steps; others = others; had_none = had; no_fault = f };
        suits = suits;
        distinct = waits-differ s e holds had differ;
        bounds = bounds;
        lawful = lawful;
      }

  -- a step that waits, and one that ends with a fault, has asks
  waits-some : (s : Stepped) → s ≡ stepped.Waited → (held pool ≡ [] → ◌≡◌ {A = Result Stepped PoolFault} (Ok s) (Ok stepped.Idle)) → held pool ≢ []
  waits-some s e idle none = let f : ◌≡◌ {A = Result Stepped PoolFault} (Ok stepped.Waited) (Ok stepped.Idle) = subst (λ (x : Stepped). ◌≡◌ {A = Result Stepped PoolFault} (Ok x) (Ok stepped.Idle)) e (idle none) in cc

  breaks-some : (shown : PoolFault) → (held pool ≡ [] → ◌≡◌ {A = Result Stepped PoolFault} (Err shown) (Ok stepped.Idle)) → held pool ≢ []
  breaks-some shown idle none = let f : ◌≡◌ {A = Result Stepped PoolFault} (Err shown) (Ok stepped.Idle) = idle none in cc

  some-none : (fault : PoolFault) → pool'.fault ≡ Some fault → pool'.fault ≡ None → ⊥
  some-none fault e f = let g : ◌≡◌ {A = Option PoolFault} (Some fault) None = sym e ∙ f in cc

  break-moves : (fault : PoolFault) → held pool ≢ [] → StepsTo (Err fault) pool (without_fault pool') wire wire' → pool.fault ≡ None → pool'.fault ≡ Some (kept_of fault) → SuitsWire pool' wire'
      → bounds_of (without_fault pool') ≡ bounds_of (without_fault pool) → IsLawful allows wire' → Moves allows (Broke fault) pool pool' wire wire'
  break-moves fault some steps had kept suits bounds lawful = record {
    happens = record { some = some; steps = steps; had_none = had; kept = kept };
    suits = suits;
    distinct = λ none. absurd (some-none (kept_of fault) kept none);
    bounds = bounds;
    lawful = lawful;
  }

  -- ---- whatever the step comes to

  pub step-differs : (r : Result Stepped PoolFault) → IfOk r (λ s. HoldsOn s pool pool') → IfErr r (λ fault. EndsPool fault pool pool' wire wire') → pool.fault ≡ None → TicketsDiffer pool → TicketsDiffer pool'
  step-differs (Ok (stepped.Came ticket address reply)) holds err had differ = came-differ (stepped.Came ticket address reply) ticket address reply refl holds had differ
  step-differs (Ok stepped.Waited) holds err had differ = waits-differ stepped.Waited refl holds had differ
  step-differs (Ok stepped.Idle) holds err had differ = subst TicketsDiffer (sym holds) differ
  step-differs (Err fault) holds err had differ = λ none. absurd (some-none (kept_of fault) err.kept none)

  pub steps-on : (r : Result Stepped PoolFault) → IfOk r (λ s. StepsTo (Ok s) pool pool' wire wire') → IfOk r (λ s. HoldsOn s pool pool') → IfErr r (λ fault. EndsPool fault pool pool' wire wire') → OnOk r (pool'.fault ≡ None) → (held pool ≡ [] → r ≡ Ok stepped.Idle)
      → pool.fault ≡ None → TicketsDiffer pool → SuitsWire pool' wire' → bounds_of (without_fault pool') ≡ bounds_of (without_fault pool) → IsLawful allows wire' → StepsOn allows (next_of r) pool pool' wire wire'
  steps-on (Ok (stepped.Came ticket address reply)) ok holds err f idle had differ suits bounds lawful = came-moves (stepped.Came ticket address reply) ticket address reply refl ok holds differ had f suits bounds lawful
  steps-on (Ok stepped.Waited) ok holds err f idle had differ suits bounds lawful = waits-move stepped.Waited refl (waits-some stepped.Waited refl idle) ok holds differ had f suits bounds lawful
  steps-on (Ok stepped.Idle) ok holds err f idle had differ suits bounds lawful = ok
  steps-on (Err fault) ok holds err f idle had differ suits bounds lawful = (fault, break-moves fault (breaks-some fault idle) err.steps had err.kept suits bounds lawful, inl refl)
