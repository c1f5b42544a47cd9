-- What the calls of a step ask for, and what they make of what was before.
use Rattle.std.proofs.Common.{ℕ, ◌≡◌, ◌≢◌, ◌+◌, ◌-◌, ◌<◌, ◌≤◌, inl, inr, ◌++◌, List, [], ◌∷◌, map, length, min, Option, true, false, Result, Ok, Err, IfOk, refl, sym, ◌∙◌, ap, subst, arith, append-nil, ◌^◌}
use Rattle.std.specs.List.Sorted.{IsPermutation}
use Rattle.std.proofs.lemmas.List.Sorted.{length_permutation}
use Rattle.std.proofs.Math.ListN.{length-map, length-append}
use Rattle.std.proofs.lemmas.Bool.{cases_lt}
use Rattle.tpf_base.specs.Addresses.{Address}
use Rattle.tpf_base.specs.Links.{WireState, OpensGiven}
use Rattle.exchange.specs.Exchanges.{IsLinked, starting}
use Rattle.request_pool.specs.declared.asks.Waiting.{Waiting}
use Rattle.request_pool.specs.declared.asks.Flight.{Flight}
use Rattle.request_pool.specs.declared.asks.Spare.{Spare}
use Rattle.request_pool.specs.declared.fault.Polled.{Polled}
use Rattle.request_pool.specs.declared.fault.Polled.TheVariants as polls
use Rattle.request_pool.specs.declared.fault.PoolFault.{PoolFault}
use Rattle.request_pool.specs.declared.fault.PoolFault.TheVariants as faults
use Rattle.request_pool.specs.Pools.{Pooled, Ask, IsOverBudget, ask_waiting, ask_flying, held, in_flight}
use Rattle.request_pool.specs.Owned.{flights_on, spare_on, held_on, SuitsWire}
use Rattle.request_pool.specs.Polls.{Shuts, TakesLink, Settles, NoLink, Kept, Shut, FlightTo}
use Rattle.request_pool.specs.Runs.{Begins, Starts, Overruns, Flies, Starves, PollsNext, Turn, Round, Running, OfStart, RunsTo, GoesOn, Ends, is_end}
use Rattle.request_pool.specs.Steps.{MayWait, WaitsTo, Lines, InLine, AsLeft, EndsInWait, EndsInRun, InRun, InWait, StepsTo}
use Rattle.request_pool.specs.declared.fault.Stepped.{Stepped}
use Rattle.request_pool.specs.declared.fault.Stepped.TheVariants.{Came, Waited}
use Rattle.http_wire.specs.declared.message.Reply.{Reply}
use Rattle.request_pool.proofs.Owned.{linked_open, flights_on-append}
use Rattle.request_pool.proofs.Suits.{owns_begun, owns_next, starts_suits, next_suits, underway-append, suits_as}
use Rattle.request_pool.proofs.Running.{to_then, runs_more, runs_none, went_on, ended}
use Rattle.request_pool.proofs.Holding.{running_holds, lined_held}
use Rattle.request_pool.proofs.Risen.{Fares, AreRisen, AreAsleep, all_earlier, running_fares, fares_first}

pub linked_as : (o p : Option ℕ) (a : WireState) → o ≡ p → IsLinked p a → IsLinked o a
linked_as o p a e h = subst (λ (x : Option ℕ). IsLinked x a) (sym e) h

pub oldest_linked : (p : Pooled) (f : Flight) (rest : List Flight) (a : WireState) → SuitsWire p a → p.polled ≡ f ∷ rest → IsLinked f.exchange.link a
oldest_linked p f rest a s e = linked_open f.exchange.link (λ k. flights_on rest k + flights_on p.due k + spare_on p.spare k) a (λ k. omega (arith, s.owned k, ap (λ (x : List Flight). flights_on x k) e))

pub next_linked : (p : Pooled) (f : Flight) (rest : List Flight) (a : WireState) → SuitsWire p a → p.due ≡ f ∷ rest → IsLinked f.exchange.link a
next_linked p f rest a s e = linked_open f.exchange.link (held_on (record p { due = rest })) a (owns_next p f rest a s e).owned

pub begun_linked : (p q : Pooled) (f : Flight) (a : WireState) → SuitsWire p a → Begins p q f → IsLinked f.exchange.link a
begun_linked p q f a s b = linked_open f.exchange.link (held_on q) a (owns_begun p q f a s b).owned

-- ---- what a turn leaves

-- the bounds, and what is still to be polled
pub record Keeps (p q : Pooled) : Type 0 where
  pub links : q.links ≡ p.links
  pub budget : q.budget ≡ p.budget
  pub started : q.started ≡ p.started
  pub due : q.due ≡ p.due

keeps_as : (p q r : Pooled) → r ≡ q → Keeps p q → Keeps p r
keeps_as p q r e h = subst (λ (x : Pooled). Keeps p x) (sym e) h

keeps_same : (p r : Pooled) → r ≡ p → Keeps p r
keeps_same p r e = keeps_as p p r e (record { links = refl; budget = refl; started = refl; due = refl })

settles_keeps : (o : Option ℕ) (address : Address) (p q : Pooled) (a b : WireState) → Settles o address p q a b → Keeps p q
settles_keeps o address p q a b (NoLink e f h) = keeps_same p q f
settles_keeps o address p q a b (Kept k e room f h) = keeps_as p _ q f (record { links = refl; budget = refl; started = refl; due = refl })
settles_keeps o address p q a b (Shut k e full f c) = keeps_same p q f

flight_keeps : (result : Result Polled PoolFault) (f : Flight) (p q : Pooled) (a b : WireState) → FlightTo result f p q a b → Keeps p q
flight_keeps (Ok polls.Pending) f p q a b h = keeps_as p _ q h.1 (record { links = refl; budget = refl; started = refl; due = refl })
flight_keeps (Ok (polls.Came ticket address answer)) f p q a b h = settles_keeps _ _ p q h.0 b h.3
flight_keeps (Ok polls.Failed) f p q a b h = keeps_as p _ q h.4 (record { links = refl; budget = refl; started = refl; due = refl })
flight_keeps (Err faults.Exchange) f p q a b h = keeps_same p q h.2
flight_keeps (Err (faults.Cut received)) f p q a b h = keeps_same p q h.2
flight_keeps (Err (faults.Reply fault received)) f p q a b h = keeps_same p q h.1
flight_keeps (Err faults.OutOfMemory) f p q a b h = keeps_same p q h.3
flight_keeps (Err faults.Stalled) f p q a b h = absurd h
flight_keeps (Err faults.Budget) f p q a b h = absurd h

pub starts_due : (result : Result Polled PoolFault) (p q : Pooled) (a b : WireState) → Starts result p q a b → q.due ≡ p.due
starts_due result p q a b (Overruns e budget f h) = ap (λ (x : Pooled). x.due) f
starts_due result p q a b (Flies mid f budget begins to) = (flight_keeps result f mid q a b to).due ∙ ap (λ (x : Pooled). x.due) begins.is_new
starts_due result p q a b (Starves e mid f begins is shuts) = ap (λ (x : Pooled). x.due) is ∙ ap (λ (x : Pooled). x.due) begins.is_new

-- ---- before a wait

full_by : (w : List Waiting) (n links all : ℕ) → all ≡ length w + n → n ≤ links → (((n < links) × (w ≢ [])) → ⊥) → n ≡ min links all
full_by [] n links all e few full = omega (arith, e, few)
full_by (w ∷ ws) n links all e few full = elim (cases_lt n links) [ inl l ↦ absurd (full (l, λ x. cc x)) | inr l ↦ omega (arith, e, few, l) ]

held_length : (p : Pooled) → length (held p) ≡ length p.waiting + length (in_flight p)
held_length p = omega (arith, length-append (map ask_waiting p.waiting) (map ask_flying (in_flight p)), length-map p.waiting ask_waiting, length-map (in_flight p) ask_flying)

-- each exchange was polled, and as many are in flight as may be
pub may_wait : (since : WireState) (p : Pooled) (a : WireState) → Fares true since p a → p.due ≡ [] → length (in_flight p) ≤ p.links → (((length (in_flight p) < p.links) × (p.waiting ≢ [])) → ⊥) → MayWait since p a
may_wait since p a f e few full =
    let all : length p.polled ≡ length (in_flight p) = sym (ap (λ (l : List Flight). length (p.polled ++ l)) e ∙ ap (λ (l : List Flight). length l) (append-nil p.polled)) in
    record {
      none_due = e;
      full = all ∙ full_by p.waiting (length (in_flight p)) p.links (length (held p)) (held_length p) few full;
      risen = f.risen refl;
      asleep = f.asleep refl;
    }

empty_of : (l : List Ask) → length l ≡ 0 → l ≡ []
empty_of [] e = refl
empty_of (x ∷ l) e = absurd (omega (arith, e))

pub still_held : (xs ys : List Ask) → IsPermutation xs ys → xs ≢ [] → ys ≢ []
still_held xs ys p n = λ e. n (empty_of xs (sym (length_permutation xs ys p) ∙ ap (λ (l : List Ask). length l) e))

pub none_held : (l : List Ask) (n : ℕ) → n ≡ min (length l) (2 ^ 64 - 1) → n ≡ 0 → l ≡ []
none_held l n e z = empty_of l (omega (arith, e, z))

pub none_counted : (l : List Ask) (n : ℕ) → n ≡ min (length l) (2 ^ 64 - 1) → l ≡ [] → n ≡ 0
none_counted l n e z = omega (arith, e, ap (λ (x : List Ask). length x) z)

-- an exchange is in flight before a wait
pub some_polled : (since : WireState) (p : Pooled) (a : WireState) → MayWait since p a → 0 < p.links → held p ≢ [] → p.polled ≢ []
some_polled since p a m links some = λ e. some (empty_of (held p) (omega (arith, m.full, ap (λ (l : List Flight). length l) e, links)))

-- ---- a round

pub round_turn : (p r : Pooled) (a : WireState) → p.due ≡ [] → r ≡ record p { polled = []; due = p.polled } → Turn p r a a
round_turn p r a e h =
    let all : p.polled ≡ p.polled ++ p.due = sym (ap (λ (l : List Flight). p.polled ++ l) e ∙ append-nil p.polled) in
    Round (h ∙ ap (λ (l : List Flight). record p { polled = []; due = l }) all) refl

pub suits_round : (p r : Pooled) (a : WireState) → r ≡ record p { polled = []; due = p.polled } → SuitsWire p a → SuitsWire r a
suits_round p r a e s = subst (λ (x : Pooled). SuitsWire x a) (sym e) (record { polled = tt; due = s.polled; owned = λ k. omega (arith, s.owned k) })

pub fares_round : (since : WireState) (p r : Pooled) (a : WireState) → r ≡ record p { polled = []; due = p.polled } → Fares false since p a → Fares true since r a
fares_round since p r a e f = record {
  suits = suits_round p r a e f.suits;
  given = f.given;
  later = f.later;
  risen = λ k. subst (λ (x : Pooled). AreRisen since a x.polled) (sym e) tt;
  asleep = λ k. subst (λ (x : Pooled). AreAsleep a x.polled) (sym e) tt;
}

-- a run that is not at its end, up to a round, and then another
pub then_round : (first result : Result Polled PoolFault) (p q r s : Pooled) (a b c : WireState) → is_end first ≡ false → RunsTo first p q a b → q.due ≡ [] → r ≡ record q { polled = []; due = q.polled } → RunsTo result r s b c → RunsTo result p s a c
then_round first result p q r s a b c e h due is i = to_then result p r s a b c (runs_more p q r a b b (went_on first p q a b e h) (round_turn q r b due is)) i

pub then_runs : (first result : Result Polled PoolFault) (p q r : Pooled) (a b c : WireState) → is_end first ≡ false → RunsTo first p q a b → RunsTo result q r b c → RunsTo result p r a c
then_runs first result p q r a b c e h i = to_then result p q r a b c (went_on first p q a b e h) i

pub pending_of : (result : Result Polled PoolFault) (p q : Pooled) (a b : WireState) → is_end result ≡ false → RunsTo result p q a b → result ≡ Ok polls.Pending
pending_of result p q a b e (GoesOn f h) = f
pending_of result p q a b e (Ends f h) = absurd (let g : false ≡ true = sym e ∙ f in cc)

pub pending_runs : (result : Result Polled PoolFault) (p q : Pooled) (a b : WireState) → result ≡ Ok polls.Pending → RunsTo result p q a b → Running p q a b
pending_runs result p q a b e h = went_on result p q a b (ap is_end e) h

pub no_failed : (p q : Pooled) (a b : WireState) → RunsTo (Ok polls.Failed) p q a b → ⊥
no_failed p q a b (GoesOn f h) = cc
no_failed p q a b (Ends f h) = cc

-- after starts, a round of polls and starts again nothing is left but to wait
pub run_waits : (first second third : Result Polled PoolFault) (p q r s t : Pooled) (a b c d : WireState) → SuitsWire p a → OpensGiven a → is_end first ≡ false → RunsTo first p q a b → r ≡ record q { polled = []; due = q.polled }
    → is_end second ≡ false → RunsTo second r s b c → s.due ≡ [] → third ≡ Ok polls.Pending → RunsTo third s t c d → t.due ≡ s.due → length (in_flight t) ≤ t.links → (((length (in_flight t) < t.links) × (t.waiting ≢ [])) → ⊥) → MayWait a t d
run_waits first second third p q r s t a b c d suits given e1 h1 is e2 h2 none e3 h3 due few full =
    let f1 = running_fares false a p q a b (fares_first p a suits given) (went_on first p q a b e1 h1) in
    let f2 = running_fares true a r s b c (fares_round a q r b is f1) (went_on second r s b c e2 h2) in
    let f3 = running_fares true a s t c d f2 (pending_runs third s t c d e3 h3) in
    may_wait a t d f3 (due ∙ none) few full

-- where those were polled first that the step before left, nothing is left but to wait
pub waits_earlier : (first : Result Polled PoolFault) (p q r : Pooled) (a b c : WireState) → SuitsWire p a → OpensGiven a → is_end first ≡ false → RunsTo first p q a b → MayWait b r c → MayWait a r c
waits_earlier first p q r a b c suits given e h m =
    let f = running_fares false a p q a b (fares_first p a suits given) (went_on first p q a b e h) in
    record { none_due = m.none_due; full = m.full; risen = all_earlier a b c r.polled f.later m.risen; asleep = m.asleep }

-- ---- loops

pub runs_suit : (p q : Pooled) (a b : WireState) → SuitsWire p a → OpensGiven a → Running p q a b → SuitsWire q b
runs_suit p q a b s g r = (running_fares false a p q a b (fares_first p a s g) r).suits

pub start_suits : (result : Result Polled PoolFault) (p q r : Pooled) (a b c : WireState) → SuitsWire p a → OpensGiven a → Running p q a b → Starts result q r b c → SuitsWire r c
start_suits result p q r a b c s g h i = let f = running_fares false a p q a b (fares_first p a s g) h in starts_suits result q r b c f.given f.suits i

pub poll_suits : (result : Result Polled PoolFault) (p q r : Pooled) (a b c : WireState) → SuitsWire p a → OpensGiven a → Running p q a b → PollsNext result q r b c → SuitsWire r c
poll_suits result p q r a b c s g h i = let f = running_fares false a p q a b (fares_first p a s g) h in next_suits result q r b c f.given f.suits i

-- ---- a whole step

pub suits_gathered : (p q : Pooled) (a : WireState) → q ≡ record p { polled = in_flight p; due = [] } → SuitsWire p a → SuitsWire q a
suits_gathered p q a e s = subst (λ (x : Pooled). SuitsWire x a) (sym e) (record {
  polled = underway-append p.polled p.due s.polled s.due;
  due = tt;
  owned = λ k. omega (arith, s.owned k, flights_on-append p.polled p.due k);
})

-- what is so of those in one line and of those as they were left is so where a step begins
pub in_line : (X : Pooled → Type 0) (p line : Pooled) → Lines p line → X (record p { polled = in_flight p; due = [] }) → X p → X line
in_line X p line (InLine e) one left = subst X (sym e) one
in_line X p line (AsLeft e) one left = subst X (sym e) left

pub suits_lined : (p q : Pooled) (a : WireState) → Lines p q → SuitsWire p a → SuitsWire q a
suits_lined p q a (InLine e) s = suits_gathered p q a e s
suits_lined p q a (AsLeft e) s = suits_as p q a a e refl s

pub over_gathered : (p q : Pooled) → q ≡ record p { polled = in_flight p; due = [] } → IsOverBudget p → IsOverBudget q
over_gathered p q e o = subst IsOverBudget (sym e) (record { waits = o.waits; free = subst (λ (l : List Flight). length l < p.links) (sym (append-nil (in_flight p))) o.free; spent = o.spent })

pub over_lined : (p q : Pooled) → Lines p q → IsOverBudget p → IsOverBudget q
over_lined p q (InLine e) o = over_gathered p q e o
over_lined p q (AsLeft e) o = subst IsOverBudget (sym e) o

pub held_after : (p q r : Pooled) (a b : WireState) → Lines p q → Running q r a b → held p ≢ [] → held r ≢ []
held_after p q r a b l h n = still_held (held q) (held r) (running_holds q r a b h) (λ x. n (sym (lined_held p q l) ∙ x))

-- a run that ends with a reply or a fault ends the step
ended_at : (result : Result Polled PoolFault) (p q r : Pooled) (a b : WireState) → Lines p q → is_end result ≡ true → RunsTo result q r a b → EndsInRun result p r a b
ended_at result p q r a b l end h = let e = ended result q r a b end h in record { line = q; lines = l; mid = e.mid; between = e.between; running = e.running; last = e.last }

pub came_steps : (ticket : ℕ) (address : Address) (answer : Reply) (p q r : Pooled) (a b : WireState) → Lines p q → RunsTo (Ok (polls.Came ticket address answer)) q r a b → StepsTo (Ok (Came ticket address answer)) p r a b
came_steps ticket address answer p q r a b e h = ended_at (Ok (polls.Came ticket address answer)) p q r a b e refl h

pub fault_steps : (fault : PoolFault) (p q r : Pooled) (a b : WireState) → Lines p q → RunsTo (Err fault) q r a b → StepsTo (Err fault) p r a b
fault_steps fault p q r a b e h = InRun (ended_at (Err fault) p q r a b e refl h)

pub over_steps : (p q : Pooled) (a : WireState) → Lines p q → IsOverBudget q → StepsTo (Err faults.Budget) p q a a
over_steps p q a l o = InRun (record { line = q; lines = l; mid = q; between = a; running = runs_none q a; last = OfStart (Overruns refl o refl refl) })

stepped : (result : Result Stepped PoolFault) (p q : Pooled) (a b : WireState) → IfOk result (λ s. s ≡ Waited) → EndsInWait result p q a b → StepsTo result p q a b
stepped (Ok s) p q a b e h = subst (λ (x : Stepped). StepsTo (Ok x) p q a b) (sym e) (subst (λ (x : Stepped). EndsInWait (Ok x) p q a b) e h)
stepped (Err fault) p q a b e h = InWait h

pub wait_steps : (result : Result Stepped PoolFault) (p q r s : Pooled) (a b c : WireState) → Lines p q → RunsTo (Ok polls.Pending) q r a b → MayWait a r b → WaitsTo result r s b c → IfOk result (λ x. x ≡ Waited)
    → StepsTo result p s a c
wait_steps result p q r s a b c l h m w i = stepped result p s a c i (record { line = q; lines = l; mid = r; between = b; running = pending_runs (Ok polls.Pending) q r a b refl h; may_wait = m; waits = w })

-- ---- a start

pub begun : (v p q : Pooled) (f : Flight) → v ≡ p → Begins v q f → Begins p q f
begun v p q f e b = subst (λ (x : Pooled). Begins x q f) e b

pub room_as : (v p : Pooled) → v ≡ p → length (in_flight p) < p.links → length (in_flight v) < v.links
room_as v p e h = subst (λ (x : Pooled). length (in_flight x) < x.links) (sym e) h

pub begun_err : (v p q : Pooled) (first : Waiting) (rest : List Waiting) (link : Option ℕ) (spare : List Spare) → v ≡ p → length (in_flight p) < p.links → v.waiting ≡ first ∷ rest → TakesLink first v.spare spare link → q ≡ record v { waiting = rest; spare = spare }
    → (x : Pooled) × (y : Flight) × Begins p x y × (q ≡ record x { started = p.started }) × (y.exchange.link ≡ link)
begun_err v p q first rest link spare e room w t h = subst (λ (z : Pooled). (x : Pooled) × (y : Flight) × Begins z x y × (q ≡ record x { started = z.started }) × (y.exchange.link ≡ link)) e (
  record v { waiting = rest; spare = spare; started = v.started + 1 },
  record { ticket = first.ticket; failed = first.failed; exchange = starting first.address v.limit link },
  record { first = first; rest = rest; link = link; spare = spare; room = room_as v p e room; is_first = w; takes = t; is_new = refl; flight = refl },
  h,
  refl,
)

pub over_now : (v p : Pooled) → v ≡ p → p.waiting ≢ [] → length (in_flight p) < p.links → v.budget ≤ v.started → IsOverBudget p
over_now v p e some room h = record { waits = some; free = room; spent = subst (λ (x : Pooled). x.budget ≤ x.started) e h }

pub below_budget : (v p : Pooled) → v ≡ p → v.started < v.budget → p.started < p.budget
below_budget v p e h = subst (λ (x : Pooled). x.started < x.budget) e h

pub shuts_as : (o o' : Option ℕ) (a b : WireState) → o ≡ o' → Shuts o' a b → Shuts o a b
shuts_as o o' a b e h = subst (λ (x : Option ℕ). Shuts x a b) (sym e) h

-- ---- the calls around it

none_waiting : (w : List Waiting) (l : List Ask) → map ask_waiting w ++ l ≡ [] → w ≡ []
none_waiting [] l e = refl
none_waiting (x ∷ w) l e = cc

pub over_held : (p : Pooled) → IsOverBudget p → held p ≢ []
over_held p o = λ e. o.waits (none_waiting p.waiting (map ask_flying (in_flight p)) e)

pub steps_as : (result : Result Stepped PoolFault) (p p' q q' : Pooled) (a b : WireState) → p' ≡ p → q' ≡ q → StepsTo result p' q a b → StepsTo result p q' a b
steps_as result p p' q q' a b e f h = subst (λ (x : Pooled). StepsTo result x q' a b) e (subst (λ (x : Pooled). StepsTo result p' x a b) (sym f) h)
