-- What was sent and received on the links that a pool holds, after each part of a step.
use Rattle.std.proofs.Common.{ℕ, ◌≡◌, ◌+◌, ◌≤◌, inl, inr, ◌++◌, List, [], ◌∷◌, Result, Ok, Err, sym, ◌∙◌, ap, subst, arith}
use Rattle.std.specs.List.{AllByRecursion}
use Rattle.tpf_base.specs.declared.fault.Fault.{Fault}
use Rattle.tpf_base.specs.declared.wire.Ready.{Ready}
use Rattle.tpf_base.specs.declared.wire.Ready.TheVariants as ready
use Rattle.tpf_base.specs.Links.{Link, WireState}
use Rattle.tpf_base.specs.Calls.{Wakes}
use Rattle.template_fill.specs.Authorities.{AuthoritiesAreHostsAndPorts}
use Rattle.request_pool.specs.declared.asks.Flight.{Flight}
use Rattle.request_pool.specs.declared.fault.PoolFault.{PoolFault}
use Rattle.request_pool.specs.declared.fault.Stepped.{Stepped}
use Rattle.request_pool.specs.Pools.{Pooled, in_flight}
use Rattle.request_pool.specs.Owned.{on_link, flights_on, held_on, open_on, SuitsWire}
use Rattle.request_pool.specs.Polls.{FailsTo}
use Rattle.request_pool.specs.Steps.{IsWait, GivesUp}
use Rattle.std.proofs.lemmas.Bool.{cases_eq}
use Rattle.request_pool.proofs.Owned.{flights_on-append}
use Rattle.request_pool.proofs.Suits.{own_none, owns_begun, owns_next}
use Rattle.list_laws.proofs.Each.{all_append}
use Rattle.pool_laws.specs.Following.{IsWebAddress, Follows, AnswersSoFar}
use Rattle.pool_laws.proofs.Following.{SameTold, told_same, pool_told, shut_told, starts_follow, next_follows}
use Rattle.pool_laws.proofs.KeptBySteps.{IsKept}

-- all in flight are due again
round_follows : (p : Pooled) (a : WireState) → AnswersSoFar p a → AnswersSoFar (record p { polled = []; due = p.polled ++ p.due }) a
round_follows p a h = record { waiting = h.waiting; polled = tt; due = all_append (λ (f : Flight). Follows p.limit a f.exchange) p.polled p.due h.polled h.due; spare = h.spare }

-- those in flight are put in one line
gathered_follows : (p : Pooled) (a : WireState) → AnswersSoFar p a → AnswersSoFar (record p { polled = in_flight p; due = [] }) a
gathered_follows p a h = record { waiting = h.waiting; polled = all_append (λ (f : Flight). Follows p.limit a f.exchange) p.polled p.due h.polled h.due; due = tt; spare = h.spare }

-- ---- waits

woken_told : (answer : Ready) (a b : WireState) → Wakes answer a b → (k : ℕ) → SameTold (a.links k) (b.links k)
woken_told ready.Door a b w k = told_same (a.links k) (b.links k) (w.1 k)
woken_told (ready.Link i) a b w k = elim (cases_eq k i) [
  | inl e ↦ subst (λ (x : ℕ). SameTold (a.links x) (b.links x)) (sym e)
      (record { peer = ap (λ (x : Link). x.peer) w.1; sent = ap (λ (x : Link). x.sent) w.1; received = ap (λ (x : Link). x.received) w.1 })
  | inr n ↦ told_same (a.links k) (b.links k) (w.2 k n)
]

pub waits_told : (answer : Result Ready Fault) (a b : WireState) → IsWait answer a b → (k : ℕ) → SameTold (a.links k) (b.links k)
waits_told (Ok answer) a b w k = woken_told answer a b w.ok k
waits_told (Err fault) a b w k = told_same (a.links k) (b.links k) (w.err.links k)

waited_follows : (answer : Result Ready Fault) (p : Pooled) (a b : WireState) → SuitsWire p a → AnswersSoFar p a → IsWait answer a b → AnswersSoFar p b
waited_follows answer p a b s h w = pool_told p a b w.only.nature (λ k l. waits_told answer a b w k) h

-- ---- an exchange that is given up

fails_follow : {T : Type 0} (fault : PoolFault) (result : Result T PoolFault) (f : Flight) (p q : Pooled) (a : WireState) → FailsTo fault result f p q → IsWebAddress f.exchange.address → AnswersSoFar p a → AnswersSoFar q a
fails_follow fault (Ok done) f p q a t w h = subst (λ (x : Pooled). AnswersSoFar x a) (sym t.1) (record { waiting = (w, h.waiting); polled = h.polled; due = h.due; spare = h.spare })
fails_follow fault (Err shown) f p q a t w h = subst (λ (x : Pooled). AnswersSoFar x a) (sym t.0) h

split_flights : (p : Pooled) (f : Flight) (rest : List Flight) → in_flight p ≡ f ∷ rest → (k : ℕ) → on_link f.exchange.link k + flights_on rest k ≡ flights_on p.polled k + flights_on p.due k
split_flights p f rest e k = sym (ap (λ (x : List Flight). flights_on x k) e) ∙ flights_on-append p.polled p.due k

-- its link was held once, so none that is left has it
pub given_up_owned : (p : Pooled) (f : Flight) (rest : List Flight) (a : WireState) → SuitsWire p a → in_flight p ≡ f ∷ rest → (k : ℕ) → on_link f.exchange.link k + held_on (record p { polled = rest; due = [] }) k ≤ open_on a k
given_up_owned p f rest a s e k = omega (arith, s.owned k, split_flights p f rest e k)

gives_up_follows : (fault : PoolFault) (result : Result Stepped PoolFault) (p q : Pooled) (a b : WireState) → SuitsWire p a → AnswersSoFar p a → GivesUp fault result p q a b → AnswersSoFar q b
gives_up_follows fault result p q a b s h u =
    let all = subst (λ (l : List Flight). AllByRecursion (λ f. Follows p.limit a f.exchange) l) u.is_oldest (all_append (λ (f : Flight). Follows p.limit a f.exchange) p.polled p.due h.polled h.due) in
    let r : Pooled = record p { polled = u.rest; due = [] } in
    fails_follow fault result u.f r q b u.to all.0.is_address
    (shut_told u.f.exchange.link r a b (own_none u.f.exchange.link (held_on r) a (given_up_owned p u.f u.rest a s u.is_oldest)) u.shuts (record { waiting = h.waiting; polled = all.1; due = tt; spare = h.spare }))

pub answers_are_kept : AuthoritiesAreHostsAndPorts → IsKept AnswersSoFar
answers_are_kept one = record {
  starts = λ result p q a b g s h t. starts_follow one result p q a b g (λ f mid begins. owns_begun p mid f a s begins) h t;
  polls = λ result p q a b g s h n. next_follows result p q a b g (λ f rest e. owns_next p f rest a s e) h n;
  rounds = round_follows;
  gathers = gathered_follows;
  waits = waited_follows;
  gives_up = gives_up_follows;
}
