-- A relation of a pool and its wire that each start, poll and wait keeps is kept by each step.
use Rattle.std.proofs.Common.{◌≡◌, ◌++◌, List, [], ◌∷◌, false, Result, Ok, Err, sym, subst}
use Rattle.tpf_base.specs.declared.fault.Fault.{Fault}
use Rattle.tpf_base.specs.declared.wire.Ready.{Ready}
use Rattle.tpf_base.specs.Links.{WireState, OpensGiven}
use Rattle.request_pool.specs.declared.fault.Polled.{Polled}
use Rattle.request_pool.specs.declared.fault.PoolFault.{PoolFault}
use Rattle.request_pool.specs.declared.fault.PoolFault.TheVariants as faults
use Rattle.request_pool.specs.declared.fault.Stepped.{Stepped}
use Rattle.request_pool.specs.declared.fault.Stepped.TheVariants.{Came, Waited, Idle}
use Rattle.request_pool.specs.Pools.{Pooled, in_flight}
use Rattle.request_pool.specs.Owned.{SuitsWire}
use Rattle.request_pool.specs.Runs.{Starts, PollsNext, Turn, Start, Next, Round, Moment, Runs, Running, Last, OfStart, OfPoll, Ended, RunsTo, GoesOn, Ends, is_end}
use Rattle.request_pool.specs.Steps.{IsWait, GivesUp, WaitsTo, Passes, Stalls, Misses, Lacks, Lines, EndsInWait, EndsInRun, EndsInFault, AtOnce, InRun, InWait, StepsTo}
use Rattle.request_pool.proofs.Suits.{waits_suits}
use Rattle.request_pool.proofs.Risen.{Fares, fares_first, turn_fares, running_fares}
use Rattle.request_pool.proofs.Steps.{in_line, suits_lined}

-- each part of a step keeps the relation
pub record IsKept (holds : Pooled → WireState → Type 0) : Type 0 where
  pub starts : (result : Result Polled PoolFault) (p q : Pooled) (a b : WireState) → OpensGiven a → SuitsWire p a → holds p a → Starts result p q a b → holds q b
  pub polls : (result : Result Polled PoolFault) (p q : Pooled) (a b : WireState) → OpensGiven a → SuitsWire p a → holds p a → PollsNext result p q a b → holds q b
  pub rounds : (p : Pooled) (a : WireState) → holds p a → holds (record p { polled = []; due = p.polled ++ p.due }) a
  pub gathers : (p : Pooled) (a : WireState) → holds p a → holds (record p { polled = in_flight p; due = [] }) a
  pub waits : (answer : Result Ready Fault) (p : Pooled) (a b : WireState) → SuitsWire p a → holds p a → IsWait answer a b → holds p b
  pub gives_up : (fault : PoolFault) (result : Result Stepped PoolFault) (p q : Pooled) (a b : WireState) → SuitsWire p a → holds p a → GivesUp fault result p q a b → holds q b

-- each turn of a run keeps the relation
pub record IsKeptByTurns (holds : Pooled → WireState → Type 0) : Type 0 where
  pub starts : (result : Result Polled PoolFault) (p q : Pooled) (a b : WireState) → OpensGiven a → SuitsWire p a → holds p a → Starts result p q a b → holds q b
  pub polls : (result : Result Polled PoolFault) (p q : Pooled) (a b : WireState) → OpensGiven a → SuitsWire p a → holds p a → PollsNext result p q a b → holds q b
  pub rounds : (p : Pooled) (a : WireState) → holds p a → holds (record p { polled = []; due = p.polled ++ p.due }) a

-- each turn keeps it that is no end
pub record IsKeptWhileOn (holds : Pooled → WireState → Type 0) : Type 0 where
  pub starts : (result : Result Polled PoolFault) (p q : Pooled) (a b : WireState) → is_end result ≡ false → OpensGiven a → SuitsWire p a → holds p a → Starts result p q a b → holds q b
  pub polls : (result : Result Polled PoolFault) (p q : Pooled) (a b : WireState) → is_end result ≡ false → OpensGiven a → SuitsWire p a → holds p a → PollsNext result p q a b → holds q b
  pub rounds : (p : Pooled) (a : WireState) → holds p a → holds (record p { polled = []; due = p.polled ++ p.due }) a

module _ (holds : Pooled → WireState → Type 0) (kept : IsKeptWhileOn holds) where
  pub same_now : (p q : Pooled) (a b : WireState) → q ≡ p → b ≡ a → holds p a → holds q b
  same_now p q a b e f h = subst (λ (x : Pooled). holds x b) (sym e) (subst (λ (x : WireState). holds p x) (sym f) h)

  turn_goes : (p q : Pooled) (a b : WireState) → OpensGiven a → SuitsWire p a → holds p a → Turn p q a b → holds q b
  turn_goes p q a b g s h (Start result e t) = kept.starts result p q a b e g s h t
  turn_goes p q a b g s h (Next result e t) = kept.polls result p q a b e g s h t
  turn_goes p q a b g s h (Round e f) = same_now (record p { polled = []; due = p.polled ++ p.due }) q a b e f (kept.rounds p a h)

  runs_go : (ms : List Moment) (since : WireState) (p q : Pooled) (a b : WireState) → Fares false since p a → holds p a → Runs ms p q a b → holds q b
  runs_go [] since p q a b f h r = same_now p q a b r.0 r.1 h
  runs_go (m ∷ ms) since p q a b f h r = runs_go ms since m.pool q m.wire b (turn_fares false since p m.pool a m.wire f r.0) (turn_goes p m.pool a m.wire f.given f.suits h r.0) r.1

  pub running_goes : (p q : Pooled) (a b : WireState) → OpensGiven a → SuitsWire p a → holds p a → Running p q a b → holds q b
  running_goes p q a b g s h r = runs_go r.moments a p q a b (fares_first p a s g) h r.runs

while_on : (holds : Pooled → WireState → Type 0) → IsKeptByTurns holds → IsKeptWhileOn holds
while_on holds kept = record { starts = λ result p q a b e. kept.starts result p q a b; polls = λ result p q a b e. kept.polls result p q a b; rounds = kept.rounds }

module _ (holds : Pooled → WireState → Type 0) (kept : IsKeptByTurns holds) where
  pub turn_keeps : (p q : Pooled) (a b : WireState) → OpensGiven a → SuitsWire p a → holds p a → Turn p q a b → holds q b
  turn_keeps = turn_goes holds (while_on holds kept)

  pub running_keeps : (p q : Pooled) (a b : WireState) → OpensGiven a → SuitsWire p a → holds p a → Running p q a b → holds q b
  running_keeps = running_goes holds (while_on holds kept)

  pub last_keeps : (result : Result Polled PoolFault) (p q : Pooled) (a b : WireState) → OpensGiven a → SuitsWire p a → holds p a → Last result p q a b → holds q b
  last_keeps result p q a b g s h (OfStart t) = kept.starts result p q a b g s h t
  last_keeps result p q a b g s h (OfPoll t) = kept.polls result p q a b g s h t

turns_of : (holds : Pooled → WireState → Type 0) → IsKept holds → IsKeptByTurns holds
turns_of holds kept = record { starts = kept.starts; polls = kept.polls; rounds = kept.rounds }

module _ (holds : Pooled → WireState → Type 0) (kept : IsKept holds) where
  pub by_turn : (p q : Pooled) (a b : WireState) → OpensGiven a → SuitsWire p a → holds p a → Turn p q a b → holds q b
  by_turn = turn_keeps holds (turns_of holds kept)

  pub by_running : (p q : Pooled) (a b : WireState) → OpensGiven a → SuitsWire p a → holds p a → Running p q a b → holds q b
  by_running = running_keeps holds (turns_of holds kept)

  by_ended : (result : Result Polled PoolFault) (p q : Pooled) (a b : WireState) → OpensGiven a → SuitsWire p a → holds p a → Ended result p q a b → holds q b
  by_ended result p q a b g s h e =
      let f = running_fares false a p e.mid a e.between (fares_first p a s g) e.running in
      last_keeps holds (turns_of holds kept) result e.mid q e.between b f.given f.suits (by_running p e.mid a e.between g s h e.running) e.last

  pub by_run : (result : Result Polled PoolFault) (p q : Pooled) (a b : WireState) → OpensGiven a → SuitsWire p a → holds p a → RunsTo result p q a b → holds q b
  by_run result p q a b g s h (GoesOn e r) = by_running p q a b g s h r
  by_run result p q a b g s h (Ends e r) = by_ended result p q a b g s h r

  by_wait : (result : Result Stepped PoolFault) (p q : Pooled) (a b : WireState) → SuitsWire p a → holds p a → WaitsTo result p q a b → holds q b
  by_wait result p q a b s h (Passes r e w i f) = subst (λ (x : Pooled). holds x b) (sym f) (kept.waits (Ok r) p a b s h w)
  by_wait result p q a b s h (Stalls r mid w i u) = kept.gives_up faults.Stalled result p q mid b (waits_suits (Ok r) p a mid w s) (kept.waits (Ok r) p a mid s h w) u
  by_wait result p q a b s h (Misses mid w u) = kept.gives_up faults.Exchange result p q mid b (waits_suits _ p a mid w s) (kept.waits _ p a mid s h w) u
  by_wait result p q a b s h (Lacks w e f) = subst (λ (x : Pooled). holds x b) (sym f) (kept.waits _ p a b s h w)

  pub by_line : (p line : Pooled) (a : WireState) → Lines p line → holds p a → holds line a
  by_line p line a l h = in_line (λ (x : Pooled). holds x a) p line l (kept.gathers p a h) h

  in_run : (result : Result Polled PoolFault) (p q : Pooled) (a b : WireState) → OpensGiven a → SuitsWire p a → holds p a → EndsInRun result p q a b → holds q b
  in_run result p q a b g s h e =
      by_ended result e.line q a b g (suits_lined p e.line a e.lines s) (by_line p e.line a e.lines h) (record { mid = e.mid; between = e.between; running = e.running; last = e.last })

  in_wait : (result : Result Stepped PoolFault) (p q : Pooled) (a b : WireState) → OpensGiven a → SuitsWire p a → holds p a → EndsInWait result p q a b → holds q b
  in_wait result p q a b g s h e =
      let r : Pooled = e.line in
      let suits = suits_lined p e.line a e.lines s in
      let f = running_fares false a r e.mid a e.between (fares_first r a suits g) e.running in
      by_wait result e.mid q e.between b f.suits (by_running r e.mid a e.between g suits (by_line p e.line a e.lines h) e.running) e.waits

  by_break : (fault : PoolFault) (p q : Pooled) (a b : WireState) → OpensGiven a → SuitsWire p a → holds p a → EndsInFault fault p q a b → holds q b
  by_break fault p q a b g s h (AtOnce e f i) = same_now holds (while_on holds (turns_of holds kept)) p q a b f i h
  by_break fault p q a b g s h (InRun e) = in_run (Err fault) p q a b g s h e
  by_break fault p q a b g s h (InWait e) = in_wait (Err fault) p q a b g s h e

  pub by_step : (result : Result Stepped PoolFault) (p q : Pooled) (a b : WireState) → OpensGiven a → SuitsWire p a → holds p a → StepsTo result p q a b → holds q b
  by_step (Ok Idle) p q a b g s h t = same_now holds (while_on holds (turns_of holds kept)) p q a b t.1 t.2 h
  by_step (Ok (Came ticket address answer)) p q a b g s h t = in_run _ p q a b g s h t
  by_step (Ok Waited) p q a b g s h t = in_wait (Ok Waited) p q a b g s h t
  by_step (Err fault) p q a b g s h t = by_break fault p q a b g s h t
