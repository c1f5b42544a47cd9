-- Events, one after another.
use Rattle.std.proofs.Common.{ℕ, ◌++◌, List, [], ◌∷◌, map, refl, sym, subst}
use Rattle.tpf_base.specs.Links.{WireState, SameAllowed}
use Rattle.request_pool.specs.Pools.{Pooled, Ask}
use Rattle.request_pool.specs.Owned.{SuitsWire}
use Rattle.tpf_client.specs.Traffic.{PoolEvent, Asked, Waited, Moves, Travels, IsLawful}
use Rattle.tpf_client.specs.Asking.{PutsAll, AreWaits}

pub no-events : (allows : List ℕ → ℕ → List ℕ → List ℕ → Type 0) (p : Pooled) (w : WireState) → Travels allows [] p p w w
no-events allows p w = (refl, refl)

pub one-event : (allows : List ℕ → ℕ → List ℕ → List ℕ → Type 0) (event : PoolEvent) (p q : Pooled) (v w : WireState) → Moves allows event p q v w → Travels allows (event ∷ []) p q v w
one-event allows event p q v w m = (record { pool = q; wire = w }, m, (refl, refl))

pub travels-then : (allows : List ℕ → ℕ → List ℕ → List ℕ → Type 0) (first second : List PoolEvent) (p q r : Pooled) (u v w : WireState)
    → Travels allows first p q u v → Travels allows second q r v w → Travels allows (first ++ second) p r u w
travels-then allows [] second p q r u v w f s = subst (λ (x : Pooled). Travels allows second x r u w) f.0 (subst (λ (y : WireState). Travels allows second q r y w) f.1 s)
travels-then allows (event ∷ first) second p q r u v w f s = (f.0, f.1, travels-then allows first second f.0.pool q r f.0.wire v w f.2 s)

pub lawful-allowed : (old new : List ℕ → ℕ → List ℕ → List ℕ → Type 0) (w : WireState) → SameAllowed old new → IsLawful new w → IsLawful old w
lawful-allowed old new w same l = record {
  told = l.told;
  given = l.given;
  received = l.received;
  owed = λ k host port sent owed p s o. (same host port sent owed).0 (l.owed k host port sent owed p s o);
  lively = l.lively;
}

moves-allowed : (old new : List ℕ → ℕ → List ℕ → List ℕ → Type 0) (event : PoolEvent) (p q : Pooled) (v w : WireState) → SameAllowed old new → Moves new event p q v w → Moves old event p q v w
moves-allowed old new event p q v w same m = record {
  happens = m.happens;
  suits = m.suits;
  distinct = m.distinct;
  bounds = m.bounds;
  lawful = lawful-allowed old new w same m.lawful;
}

-- the same replies are allowed at each moment
pub travels-allowed : (old new : List ℕ → ℕ → List ℕ → List ℕ → Type 0) (events : List PoolEvent) (p q : Pooled) (v w : WireState) → SameAllowed old new → Travels new events p q v w → Travels old events p q v w
travels-allowed old new [] p q v w same t = t
travels-allowed old new (event ∷ events) p q v w same t = (t.0, moves-allowed old new event p t.0.pool v t.0.wire same t.1, travels-allowed old new events t.0.pool q t.0.wire w same t.2)

-- ---- puts

pub puts-then : (first second : List Ask) (p q r : Pooled) → PutsAll first p q → PutsAll second q r → PutsAll (first ++ second) p r
puts-then [] second p q r f s = subst (λ (x : Pooled). PutsAll second x r) f s
puts-then (ask ∷ first) second p q r f s = (f.0, f.1, puts-then first second f.0 q r f.2 s)

-- asks that are put suit the wire
pub puts-suit : (asks : List Ask) (p q : Pooled) (w : WireState) → PutsAll asks p q → SuitsWire p w → SuitsWire q w
puts-suit [] p q w h s = subst (λ (x : Pooled). SuitsWire x w) (sym h) s
puts-suit (ask ∷ asks) p q w h s = puts-suit asks h.0 q w h.2 (h.1.suits w s)

pub puts-travel : (allows : List ℕ → ℕ → List ℕ → List ℕ → Type 0) (asks : List Ask) (p q : Pooled) (w : WireState) → PutsAll asks p q → SuitsWire p w → IsLawful allows w → Travels allows (map Asked asks) p q w w
puts-travel allows [] p q w h s l = (h, refl)
puts-travel allows (ask ∷ asks) p q w h s l =
    let moves : Moves allows (Asked ask) p h.0 w w = record { happens = (h.1.puts, refl); suits = h.1.suits w s; distinct = h.1.distinct; bounds = h.1.bounds; lawful = l } in
    (record { pool = h.0; wire = w }, moves, puts-travel allows asks h.0 q w h.2 (h.1.suits w s) l)

-- ---- waits

pub waits-more : (events : List PoolEvent) → AreWaits events → AreWaits (events ++ Waited ∷ [])
waits-more [] h = (refl, tt)
waits-more (event ∷ events) h = (h.0, waits-more events h.1)
