-- What holds of the asks that were put holds of those whose replies came, and what holds of all events of the last.
use Rattle.std.proofs.Common.{ℕ, List, [], ◌∷◌, subst}
use Rattle.std.specs.List.{AllByRecursion}
use Rattle.list_laws.proofs.Each.{all_last}
use Rattle.tpf_base.specs.Links.{WireState}
use Rattle.request_pool.specs.Pools.{Pooled, Ask, held}
use Rattle.tpf_client.specs.Traffic.{PoolEvent, Asked, Came, Waited, Broke, Moves, Travels, Comes, EndsWith}
use Rattle.tpf_client.specs.Turns.{asked_in}
use Rattle.tpf_client.proofs.Keeping.{Between, all-permuted, between-after}
use Rattle.tpf_client.proofs.Traveling.{one-event}

abbrev pub CameFrom : (Ask → Type 0) → PoolEvent → Type 0
CameFrom P (Asked ask) = Unit {0}
CameFrom P (Came ask reply) = P ask
CameFrom P Waited = Unit {0}
CameFrom P (Broke fault) = Unit {0}

module _ (allows : List ℕ → ℕ → List ℕ → List ℕ → Type 0) (base : Pooled) (P : Ask → Type 0) where
  after : (event : PoolEvent) (p q : Pooled) (v w : WireState) → AllByRecursion P (asked_in (event ∷ [])) → Between allows base P p v → Moves allows event p q v w → Between allows base P q w
  after event p q v w a b m = between-after allows base P (event ∷ []) p q v w a b (one-event allows event p q v w m)

  pub came-from : (events : List PoolEvent) (p q : Pooled) (v w : WireState) → Between allows base P p v → AllByRecursion P (asked_in events) → Travels allows events p q v w → AllByRecursion (CameFrom P) events
  came-from [] p q v w b a t = tt
  came-from (Asked ask ∷ events) p q v w b a t = (tt, came-from events t.0.pool q t.0.wire w (after (Asked ask) p t.0.pool v t.0.wire (a.0, tt) b t.1) a.1 t.2)
  came-from (Came ask reply ∷ events) p q v w b a t =
      let h : Comes ask reply p t.0.pool v t.0.wire = t.1.happens in
      ((all-permuted P (held p) (ask ∷ held t.0.pool) h.others (b.are h.had_none)).0, came-from events t.0.pool q t.0.wire w (after (Came ask reply) p t.0.pool v t.0.wire tt b t.1) a t.2)
  came-from (Waited ∷ events) p q v w b a t = (tt, came-from events t.0.pool q t.0.wire w (after Waited p t.0.pool v t.0.wire tt b t.1) a t.2)
  came-from (Broke fault ∷ events) p q v w b a t = (tt, came-from events t.0.pool q t.0.wire w (after (Broke fault) p t.0.pool v t.0.wire tt b t.1) a t.2)

-- what holds of all events holds of the last
pub at-last : (P : PoolEvent → Type 0) (event : PoolEvent) (events : List PoolEvent) → EndsWith event events → AllByRecursion P events → P event
at-last P event events e h = all_last P e.before event (subst (λ (l : List PoolEvent). AllByRecursion P l) e.is_last h)
