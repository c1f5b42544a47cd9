-- A pool that goes on holds the same asks.
use Rattle.std.proofs.Common.{ℕ, ◌≡◌, ◌+◌, ◌++◌, List, [], ◌∷◌, map, Option, Result, Ok, Err, true, false, refl, sym, ◌∙◌, ap, subst, append_assoc, append-nil}
use Rattle.std.proofs.lemmas.List.{map-append}
use Rattle.std.specs.List.Sorted.{IsPermutation}
use Rattle.std.proofs.lemmas.List.Sorted.{IsPermutation-refl, IsPermutation-sym, IsPermutation-trans, IsPermutation-middle, IsPermutation-append_right}
use Rattle.tpf_base.specs.Addresses.{Address}
use Rattle.tpf_base.specs.Links.{WireState}
use Rattle.exchange.specs.Exchanges.{left_link}
use Rattle.http_wire.specs.declared.message.Reply.{Reply}
use Rattle.exchange.specs.declared.fault.ExchangeFault.{ExchangeFault}
use Rattle.request_pool.specs.declared.asks.Waiting.{Waiting}
use Rattle.request_pool.specs.declared.asks.Flight.{Flight}
use Rattle.request_pool.specs.declared.fault.Polled.{Polled}
use Rattle.request_pool.specs.declared.fault.Polled.TheVariants as polls
use Rattle.request_pool.specs.declared.fault.PoolFault.{PoolFault}
use Rattle.request_pool.specs.declared.fault.PoolFault.TheVariants as faults
use Rattle.request_pool.specs.Pools.{Pooled, Ask, ask_waiting, ask_flying, held, in_flight}
use Rattle.request_pool.specs.Polls.{Polls, FlightTo, Settles, NoLink, Kept, Shut}
use Rattle.request_pool.specs.Runs.{Begins, Starts, Overruns, Flies, Starves, PollsNext, Turn, Start, Next, Round, Moment, Runs, Running, Last, OfStart, OfPoll, is_end}
use Rattle.request_pool.specs.declared.fault.Stepped.{Stepped}
use Rattle.request_pool.specs.declared.fault.Stepped.TheVariants.{Came, Waited, Idle}
use Rattle.request_pool.specs.Steps.{StepsTo, HoldsOn, HandsOut, GivesUp, WaitsTo, Passes, Stalls, Misses, Lacks, Lines, InLine, AsLeft, EndsInWait, EndsInRun}

-- the asks of a pool and of an exchange that was taken out of it
abbrev pub held_with : Flight → Pooled → List Ask
held_with f p = map ask_waiting p.waiting ++ map ask_flying (p.polled ++ f ∷ p.due)

-- one of the asks first
taken_out : (w p d : List Ask) (x : Ask) → IsPermutation (w ++ (p ++ x ∷ d)) (x ∷ (w ++ (p ++ d)))
taken_out w p d x = IsPermutation-trans _ _ _ (IsPermutation-append_right w (p ++ x ∷ d) (x ∷ (p ++ d)) (IsPermutation-middle p x d)) (IsPermutation-middle w x (p ++ d))

permuted : (xs ys us vs : List Ask) → xs ≡ us → ys ≡ vs → IsPermutation us vs → IsPermutation xs ys
permuted xs ys us vs e f h = subst (λ (l : List Ask). IsPermutation l ys) (sym e) (subst (λ (l : List Ask). IsPermutation us l) (sym f) h)

with_mapped : (f : Flight) (p : Pooled) → held_with f p ≡ map ask_waiting p.waiting ++ (map ask_flying p.polled ++ ask_flying f ∷ map ask_flying p.due)
with_mapped f p = ap (λ (l : List Ask). map ask_waiting p.waiting ++ l) (map-append ask_flying p.polled (f ∷ p.due))

held_mapped : (p : Pooled) → held p ≡ map ask_waiting p.waiting ++ (map ask_flying p.polled ++ map ask_flying p.due)
held_mapped p = ap (λ (l : List Ask). map ask_waiting p.waiting ++ l) (map-append ask_flying p.polled p.due)

pub held_out : (f : Flight) (p : Pooled) → IsPermutation (held_with f p) (ask_flying f ∷ held p)
held_out f p = permuted _ _ _ _ (with_mapped f p) (ap (λ (l : List Ask). ask_flying f ∷ l) (held_mapped p)) (taken_out (map ask_waiting p.waiting) (map ask_flying p.polled) (map ask_flying p.due) (ask_flying f))

-- a poll leaves the ask
pub same_ask : (answer : Option (Result Reply ExchangeFault)) (f : Flight) (a b : WireState) (h : Polls answer f a b) → ask_flying (record f { exchange = h.now }) ≡ ask_flying f
same_ask answer f a b h = ap (λ x. record { ticket = f.ticket; address = x }) h.touches.address

pub flight_holds : (result : Result Polled PoolFault) (f : Flight) (p q : Pooled) (a b : WireState) → is_end result ≡ false → FlightTo result f p q a b → IsPermutation (held_with f p) (held q)
flight_holds (Ok polls.Pending) f p q a b e h =
    let g : Flight = record f { exchange = h.0.now } in
    let same : held q ≡ held_with f p = ap held h.1 ∙ (ap (λ (l : List Flight). map ask_waiting p.waiting ++ map ask_flying l) (append_assoc p.polled (g ∷ []) p.due)
    ∙ (with_mapped g p ∙ (ap (λ (x : Ask). map ask_waiting p.waiting ++ (map ask_flying p.polled ++ x ∷ map ask_flying p.due)) (same_ask _ f a b h.0) ∙ sym (with_mapped f p)))) in
    subst (λ (l : List Ask). IsPermutation (held_with f p) l) (sym same) (IsPermutation-refl (held_with f p))
flight_holds (Ok polls.Failed) f p q a b e h =
    let same : held q ≡ ask_flying f ∷ held p = ap held h.4 ∙ ap (λ (x : Ask). x ∷ held p) (same_ask _ f a b h.1) in
    subst (λ (l : List Ask). IsPermutation (held_with f p) l) (sym same) (held_out f p)
flight_holds (Ok (polls.Came ticket address answer)) f p q a b e h = cc
flight_holds (Err fault) f p q a b e h = cc

pub begun_holds : (p q : Pooled) (f : Flight) → Begins p q f → IsPermutation (held p) (held_with f q)
begun_holds p q f b =
    let r : Pooled = record p { waiting = b.rest; spare = b.spare; started = p.started + 1 } in
    let first : held p ≡ ask_waiting b.first ∷ held r = ap (λ (l : List Waiting). map ask_waiting l ++ map ask_flying (in_flight p)) b.is_first in
    let same : ask_flying f ≡ ask_waiting b.first = ap ask_flying b.flight in
    IsPermutation-sym _ _ (permuted (held_with f q) (held p) (held_with f r) (ask_flying f ∷ held r) (ap (held_with f) b.is_new) (first ∙ ap (λ (x : Ask). x ∷ held r) (sym same)) (held_out f r))

pub end_of : (result : Result Polled PoolFault) (fault : PoolFault) → result ≡ Err fault → is_end result ≡ false → ⊥
end_of result fault e f = let g : true ≡ false = sym (ap is_end e) ∙ f in cc

starts_holds : (result : Result Polled PoolFault) (p q : Pooled) (a b : WireState) → is_end result ≡ false → Starts result p q a b → IsPermutation (held p) (held q)
starts_holds result p q a b e (Overruns r budget f h) = absurd (end_of result faults.Budget r e)
starts_holds result p q a b e (Starves r mid f begins is shuts) = absurd (end_of result faults.OutOfMemory r e)
starts_holds result p q a b e (Flies mid f budget begins to) = IsPermutation-trans _ _ _ (begun_holds p mid f begins) (flight_holds result f mid q a b e to)

next_holds : (result : Result Polled PoolFault) (p q : Pooled) (a b : WireState) → is_end result ≡ false → PollsNext result p q a b → IsPermutation (held p) (held q)
next_holds result p q a b e h =
    subst (λ (l : List Flight). IsPermutation (map ask_waiting p.waiting ++ map ask_flying (p.polled ++ l)) (held q)) (sym h.is_next) (flight_holds result h.f (record p { due = h.rest }) q a b e h.to)

pub turn_holds : (p q : Pooled) (a b : WireState) → Turn p q a b → IsPermutation (held p) (held q)
turn_holds p q a b (Start result e s) = starts_holds result p q a b e s
turn_holds p q a b (Next result e s) = next_holds result p q a b e s
turn_holds p q a b (Round e f) = subst (λ (l : List Ask). IsPermutation (held p) l) (sym (ap held e)) (IsPermutation-refl (held p))

runs_hold : (ms : List Moment) (p q : Pooled) (a b : WireState) → Runs ms p q a b → IsPermutation (held p) (held q)
runs_hold [] p q a b h = subst (λ (l : List Ask). IsPermutation (held p) l) (sym (ap held h.0)) (IsPermutation-refl (held p))
runs_hold (m ∷ ms) p q a b h = IsPermutation-trans _ _ _ (turn_holds p m.pool a m.wire h.0) (runs_hold ms m.pool q m.wire b h.1)

pub running_holds : (p q : Pooled) (a b : WireState) → Running p q a b → IsPermutation (held p) (held q)
running_holds p q a b h = runs_hold h.moments p q a b h.runs

-- ---- at the end of a run

pub settles_held : (o : Option ℕ) (address : Address) (p q : Pooled) (a b : WireState) → Settles o address p q a b → held q ≡ held p
settles_held o address p q a b (NoLink e f h) = ap held f
settles_held o address p q a b (Kept k e room f h) = ap held f
settles_held o address p q a b (Shut k e full f c) = ap held f

flight_came : (ticket : ℕ) (address : Address) (answer : Reply) (f : Flight) (p q : Pooled) (a b : WireState) → FlightTo (Ok (polls.Came ticket address answer)) f p q a b → IsPermutation (held_with f p) (ask_flying f ∷ held q)
flight_came ticket address answer f p q a b h =
    subst (λ (l : List Ask). IsPermutation (held_with f p) (ask_flying f ∷ l)) (sym (settles_held (left_link h.1.now) h.1.now.address p q h.0 b h.3)) (held_out f p)

pub no_came : (ticket : ℕ) (address : Address) (answer : Reply) (fault : PoolFault) → ◌≡◌ {A = Result Polled PoolFault} (Ok (polls.Came ticket address answer)) (Err fault) → ⊥
no_came ticket address answer fault e = cc

starts_came : (ticket : ℕ) (address : Address) (answer : Reply) (p q : Pooled) (a b : WireState) → Starts (Ok (polls.Came ticket address answer)) p q a b → HandsOut ticket address p q
starts_came ticket address answer p q a b (Overruns r budget f h) = absurd (no_came ticket address answer faults.Budget r)
starts_came ticket address answer p q a b (Starves r mid f begins is shuts) = absurd (no_came ticket address answer faults.OutOfMemory r)
starts_came ticket address answer p q a b (Flies mid f budget begins to) = record {
  ask = ask_flying f;
  is_ticket = sym to.2;
  is_address = sym (to.4 ∙ to.1.touches.address);
  others = IsPermutation-trans _ _ _ (begun_holds p mid f begins) (flight_came ticket address answer f mid q a b to);
}

next_came : (ticket : ℕ) (address : Address) (answer : Reply) (p q : Pooled) (a b : WireState) → PollsNext (Ok (polls.Came ticket address answer)) p q a b → HandsOut ticket address p q
next_came ticket address answer p q a b h = record {
  ask = ask_flying h.f;
  is_ticket = sym h.to.2;
  is_address = sym (h.to.4 ∙ h.to.1.touches.address);
  others = subst (λ (l : List Flight). IsPermutation (map ask_waiting p.waiting ++ map ask_flying (p.polled ++ l)) (ask_flying h.f ∷ held q)) (sym h.is_next) (flight_came ticket address answer h.f (record p { due = h.rest }) q a b h.to);
}

last_came : (ticket : ℕ) (address : Address) (answer : Reply) (p q : Pooled) (a b : WireState) → Last (Ok (polls.Came ticket address answer)) p q a b → HandsOut ticket address p q
last_came ticket address answer p q a b (OfStart h) = starts_came ticket address answer p q a b h
last_came ticket address answer p q a b (OfPoll h) = next_came ticket address answer p q a b h

gathered_held : (p : Pooled) → held (record p { polled = in_flight p; due = [] }) ≡ held p
gathered_held p = ap (λ (l : List Flight). map ask_waiting p.waiting ++ map ask_flying l) (append-nil (in_flight p))

pub lined_held : (p r : Pooled) → Lines p r → held r ≡ held p
lined_held p r (InLine e) = ap held e ∙ gathered_held p
lined_held p r (AsLeft e) = ap held e

pub step_came : (ticket : ℕ) (address : Address) (answer : Reply) (p q : Pooled) (a b : WireState) → EndsInRun (Ok (polls.Came ticket address answer)) p q a b → HandsOut ticket address p q
step_came ticket address answer p q a b h =
    let c = last_came ticket address answer h.mid q h.between b h.last in
    record {
      ask = c.ask;
      is_ticket = c.is_ticket;
      is_address = c.is_address;
      others = subst (λ (l : List Ask). IsPermutation l (c.ask ∷ held q)) (lined_held p h.line h.lines) (IsPermutation-trans _ _ _ (running_holds h.line h.mid a h.between h.running) c.others);
    }

-- the oldest exchange is given up, and its ask waits again
gives_up_held : (fault : PoolFault) (s : Stepped) (p q : Pooled) (a b : WireState) → GivesUp fault (Ok s) p q a b → IsPermutation (held p) (held q)
gives_up_held fault s p q a b h =
    let r : Pooled = record p { polled = h.rest; due = [] } in
    let all : held p ≡ map ask_waiting p.waiting ++ (ask_flying h.f ∷ map ask_flying h.rest) = ap (λ (l : List Flight). map ask_waiting p.waiting ++ map ask_flying l) h.is_oldest in
    let left : held q ≡ ask_flying h.f ∷ (map ask_waiting p.waiting ++ map ask_flying h.rest) = ap held h.to.1 ∙ ap (λ (l : List Flight). ask_flying h.f ∷ (map ask_waiting p.waiting ++ map ask_flying l)) (append-nil h.rest) in
    permuted (held p) (held q) _ _ all left (IsPermutation-middle (map ask_waiting p.waiting) (ask_flying h.f) (map ask_flying h.rest))

waits_held : (result : Result Stepped PoolFault) (s : Stepped) (p q : Pooled) (a b : WireState) → result ≡ Ok s → WaitsTo result p q a b → IsPermutation (held p) (held q)
waits_held result s p q a b e (Passes ready f w i h) = subst (λ (l : List Ask). IsPermutation (held p) l) (sym (ap held h)) (IsPermutation-refl (held p))
waits_held result s p q a b e (Stalls ready mid w i h) = gives_up_held faults.Stalled s p q mid b (subst (λ (x : Result Stepped PoolFault). GivesUp faults.Stalled x p q mid b) e h)
waits_held result s p q a b e (Misses mid w h) = gives_up_held faults.Exchange s p q mid b (subst (λ (x : Result Stepped PoolFault). GivesUp faults.Exchange x p q mid b) e h)
waits_held result s p q a b e (Lacks w f h) = absurd (let i : ◌≡◌ {A = Result Stepped PoolFault} (Err faults.OutOfMemory) (Ok s) = sym f ∙ e in cc)

pub step_waited : (s : Stepped) (p q : Pooled) (a b : WireState) → EndsInWait (Ok s) p q a b → IsPermutation (held p) (held q)
step_waited s p q a b h =
    subst (λ (l : List Ask). IsPermutation l (held q)) (lined_held p h.line h.lines) (IsPermutation-trans _ _ _ (running_holds h.line h.mid a h.between h.running) (waits_held (Ok s) s h.mid q h.between b refl h.waits))

pub step_holds : (s : Stepped) (p q : Pooled) (a b : WireState) → StepsTo (Ok s) p q a b → HoldsOn s p q
step_holds (Came ticket address answer) p q a b h = step_came ticket address answer p q a b h
step_holds Waited p q a b h = step_waited Waited p q a b h
step_holds Idle p q a b h = h.1
