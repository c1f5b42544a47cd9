-- Runs, one behind another.
use Rattle.std.proofs.Common.{◌≡◌, ◌++◌, List, [], ◌∷◌, Result, true, false, refl, sym, subst}
use Rattle.std.proofs.lemmas.Bool.{both_ways}
use Rattle.tpf_base.specs.Links.{WireState}
use Rattle.request_pool.specs.declared.fault.Polled.{Polled}
use Rattle.request_pool.specs.declared.fault.PoolFault.{PoolFault}
use Rattle.request_pool.specs.Pools.{Pooled}
use Rattle.request_pool.specs.Runs.{Turn, Moment, Runs, Running, Last, Ended, RunsTo, GoesOn, Ends, is_end}

runs_as : (ms : List Moment) (p q r : Pooled) (a b c : WireState) → q ≡ p → b ≡ a → Runs ms q r b c → Runs ms p r a c
runs_as ms p q r a b c e f h = subst (λ (x : Pooled). Runs ms x r a c) e (subst (λ (x : WireState). Runs ms q r x c) f h)

runs_then : (ms ns : List Moment) (p q r : Pooled) (a b c : WireState) → Runs ms p q a b → Runs ns q r b c → Runs (ms ++ ns) p r a c
runs_then [] ns p q r a b c h i = runs_as ns p q r a b c h.0 h.1 i
runs_then (m ∷ ms) ns p q r a b c h i = (h.0, runs_then ms ns m.pool q r m.wire b c h.1 i)

pub runs_none : (p : Pooled) (a : WireState) → Running p p a a
runs_none p a = record { moments = []; runs = (refl, refl) }

pub running_then : (p q r : Pooled) (a b c : WireState) → Running p q a b → Running q r b c → Running p r a c
running_then p q r a b c h i = record { moments = h.moments ++ i.moments; runs = runs_then h.moments i.moments p q r a b c h.runs i.runs }

pub runs_one : (p q : Pooled) (a b : WireState) → Turn p q a b → Running p q a b
runs_one p q a b t = record { moments = (record { pool = q; wire = b }) ∷ []; runs = (t, (refl, refl)) }

pub runs_more : (p q r : Pooled) (a b c : WireState) → Running p q a b → Turn q r b c → Running p r a c
runs_more p q r a b c h t = running_then p q r a b c h (runs_one q r b c t)

pub ended_then : (result : Result Polled PoolFault) (p q r : Pooled) (a b c : WireState) → Running p q a b → Ended result q r b c → Ended result p r a c
ended_then result p q r a b c h i = record { mid = i.mid; between = i.between; running = running_then p q i.mid a b i.between h i.running; last = i.last }

-- a run that goes on, and then another
pub to_then : (result : Result Polled PoolFault) (p q r : Pooled) (a b c : WireState) → Running p q a b → RunsTo result q r b c → RunsTo result p r a c
to_then result p q r a b c h (GoesOn e i) = GoesOn e (running_then p q r a b c h i)
to_then result p q r a b c h (Ends e i) = Ends e (ended_then result p q r a b c h i)

-- a run that is not at its end goes on
pub went_on : (result : Result Polled PoolFault) (p q : Pooled) (a b : WireState) → is_end result ≡ false → RunsTo result p q a b → Running p q a b
went_on result p q a b e (GoesOn f h) = h
went_on result p q a b e (Ends f h) = absurd (both_ways (is_end result) e f)

pub ended : (result : Result Polled PoolFault) (p q : Pooled) (a b : WireState) → is_end result ≡ true → RunsTo result p q a b → Ended result p q a b
ended result p q a b e (Ends f h) = h
ended result p q a b e (GoesOn f h) = absurd (let q : is_end result ≡ false = subst (λ (x : Result Polled PoolFault). is_end x ≡ false) (sym f) refl in both_ways (is_end result) q e)

pub ends_after : (result : Result Polled PoolFault) (p q r : Pooled) (a b c : WireState) → Running p q a b → is_end result ≡ true → Last result q r b c → RunsTo result p r a c
ends_after result p q r a b c h e l = Ends e (record { mid = q; between = b; running = h; last = l })
