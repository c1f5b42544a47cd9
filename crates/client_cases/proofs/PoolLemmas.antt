-- Tickets that are put in order.
use Rattle.std.proofs.Common.{ℕ, ◌≡◌, ◌+◌, ◌<◌, ◌++◌, List, [], ◌∷◌, map, sym, subst, ap, arith}
use Rattle.std.proofs.lemmas.List.{map-append}
use Rattle.std.specs.List.{AllByRecursion}
use Rattle.request_pool.specs.declared.asks.Waiting.{Waiting}
use Rattle.tpf_base.specs.Links.{WireState}
use Rattle.request_pool.specs.Pools.{Pooled, Ask, ask_waiting, ask_flying, held, in_flight}
use Rattle.request_pool.specs.Owned.{SuitsWire}

abbrev pub AreBelow : ℕ → List Ask → Type 0
AreBelow n asks = AllByRecursion (λ ask. ask.ticket < n) asks

more : (n : ℕ) (asks : List Ask) → AreBelow n asks → AreBelow (n + 1) asks
more n [] h = tt
more n (a ∷ asks) h = (omega (arith, h.0), more n asks h.1)

split : (n : ℕ) (xs ys : List Ask) → AreBelow n (xs ++ ys) → AreBelow n xs × AreBelow n ys
split n [] ys h = (tt, h)
split n (x ∷ xs) ys h = let s = split n xs ys h.1 in ((h.0, s.0), s.1)

joined : (n : ℕ) (xs ys : List Ask) → AreBelow n xs → AreBelow n ys → AreBelow n (xs ++ ys)
joined n [] ys h i = i
joined n (x ∷ xs) ys h i = (h.0, joined n xs ys h.1 i)

pub put_below : (n : ℕ) (p q : Pooled) (w : Waiting) → AreBelow n (held p) → q ≡ record p { waiting = p.waiting ++ w ∷ [] } → w.ticket ≡ n → AreBelow (n + 1) (held q)
put_below n p q w h e t =
    let s = split n (map ask_waiting p.waiting) (map ask_flying (in_flight p)) h in
    let now : held q ≡ (map ask_waiting p.waiting ++ ask_waiting w ∷ []) ++ map ask_flying (in_flight p) = subst (λ (l : List Ask). held q ≡ l ++ map ask_flying (in_flight p)) (map-append ask_waiting p.waiting (w ∷ [])) (ap held e) in
    subst (AreBelow (n + 1)) (sym now) (joined (n + 1) (map ask_waiting p.waiting ++ ask_waiting w ∷ []) (map ask_flying (in_flight p))
    (joined (n + 1) (map ask_waiting p.waiting) (ask_waiting w ∷ []) (more n (map ask_waiting p.waiting) s.0) (omega (arith, t), tt)) (more n (map ask_flying (in_flight p)) s.1))

-- a pool that was closed holds no ask, and no link
pub closed_holds : (p q : Pooled) → q ≡ record p { waiting = []; polled = []; due = []; spare = [] } → held q ≡ []
closed_holds p q e = ap held e

pub closed_suits : (p q : Pooled) (wire : WireState) → q ≡ record p { waiting = []; polled = []; due = []; spare = [] } → SuitsWire q wire
closed_suits p q wire e = subst (λ (x : Pooled). SuitsWire x wire) (sym e) (record { polled = tt; due = tt; owned = λ k. omega arith })
