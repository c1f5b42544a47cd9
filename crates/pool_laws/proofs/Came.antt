-- The exchange whose reply came.
use Rattle.std.proofs.Common.{ℕ, ◌≡◌, ◌+◌, ◌<◌, ◌++◌, List, ◌∷◌, map, Option, Some, false, Ok, sym, ◌∙◌, ap, subst}
use Rattle.std.specs.List.{AllByRecursion}
use Rattle.std.specs.List.Sorted.{IsPermutation}
use Rattle.std.proofs.lemmas.List.Sorted.{IsPermutation-refl, IsPermutation-trans}
use Rattle.tpf_base.specs.Addresses.{Address}
use Rattle.tpf_base.specs.Links.{WireState, OpensGiven}
use Rattle.http_wire.specs.declared.message.Reply.{Reply}
use Rattle.template_fill.specs.Authorities.{AuthoritiesAreHostsAndPorts}
use Rattle.exchange.specs.Exchanges.{IsLinked, left_link}
use Rattle.request_pool.specs.declared.asks.Flight.{Flight}
use Rattle.request_pool.specs.declared.fault.Polled.TheVariants as polls
use Rattle.request_pool.specs.declared.fault.PoolFault.TheVariants as faults
use Rattle.request_pool.specs.Pools.{Pooled, Ask, ask_waiting, ask_flying, held}
use Rattle.request_pool.specs.Owned.{SuitsWire, on_link, held_on}
use Rattle.request_pool.specs.Polls.{Settles, NoLink, Kept, Shut, Polls, FlightTo}
use Rattle.request_pool.specs.Runs.{Starts, Overruns, Flies, Starves, PollsNext, Last, OfStart, OfPoll}
use Rattle.request_pool.specs.Steps.{EndsInRun}
use Rattle.request_pool.proofs.Holding.{held_with, held_out, lined_held, running_holds, begun_holds, no_came, settles_held}
use Rattle.request_pool.proofs.Steps.{suits_lined}
use Rattle.request_pool.proofs.Owned.{linked_open}
use Rattle.request_pool.proofs.Suits.{owns_begun, owns_next}
use Rattle.request_pool.proofs.Risen.{fares_first, running_fares}
use Rattle.pool_laws.specs.Following.{Follows, AnswersSoFar}
use Rattle.pool_laws.proofs.Following.{begun}
use Rattle.pool_laws.proofs.KeptBySteps.{by_line, by_running}
use Rattle.pool_laws.proofs.Running.{answers_are_kept}
use Rattle.pool_laws.specs.Causes.{HoldsNoneBelow}
use Rattle.pool_laws.proofs.Fresh.{NoneBelow, Below, below_in, below_is_kept, begun_below, next_below, polled_given}

-- The exchange, which followed whole replies, and its last poll; its ask was held, and is held no longer; nothing but the link that it left changed since. Where none below a number was held at the start, none was then.
pub record CameBy (start : ℕ → Type 0) (limit ticket : ℕ) (address : Address) (answer : Reply) (was is : List Ask) (b : WireState) : Type 0 where
  pub f : Flight
  pub from : WireState
  pub to : WireState
  pub follows : Follows limit from f.exchange
  pub poll : Polls (Some (Ok answer)) f from to
  pub given : (k : ℕ) → poll.now.link ≡ Some k → k < to.given
  pub old : Pooled
  pub new : Pooled
  pub fresh : (n : ℕ) → start n → NoneBelow n (λ k. on_link f.exchange.link k + held_on old k) from
  pub settles : Settles (left_link poll.now) poll.now.address old new to b
  pub is_ticket : f.ticket ≡ ticket
  pub is_address : f.exchange.address ≡ address
  pub others : IsPermutation was (ask_flying f ∷ is)

settles_limit : (o : Option ℕ) (address : Address) (p q : Pooled) (a b : WireState) → Settles o address p q a b → p.limit ≡ q.limit
settles_limit o address p q a b (NoLink e f h) = sym (ap (λ (x : Pooled). x.limit) f)
settles_limit o address p q a b (Kept k e room f h) = sym (ap (λ (x : Pooled). x.limit) f)
settles_limit o address p q a b (Shut k e full f c) = sym (ap (λ (x : Pooled). x.limit) f)

flight_came : (start : ℕ → Type 0) (ticket : ℕ) (address : Address) (answer : Reply) (f : Flight) (p q : Pooled) (a b : WireState) → OpensGiven a → IsLinked f.exchange.link a → FlightTo (Ok (polls.Came ticket address answer)) f p q a b → Follows p.limit a f.exchange → ((n : ℕ) → start n → NoneBelow n (λ k. on_link f.exchange.link k + held_on p k) a) → (was : List Ask)
    → IsPermutation was (held_with f p) → CameBy start q.limit ticket address answer was (held q) b
flight_came start ticket address answer f p q a b g linked h s fresh was from = record {
  f = f;
  from = a;
  to = h.0;
  follows = subst (λ (n : ℕ). Follows n a f.exchange) (settles_limit (left_link h.1.now) h.1.now.address p q h.0 b h.3) s;
  poll = h.1;
  given = polled_given f.exchange.address f.exchange.link h.1.now.link a h.0 h.1.touches.link g linked;
  old = p;
  new = q;
  fresh = fresh;
  settles = h.3;
  is_ticket = sym h.2;
  is_address = sym (h.4 ∙ h.1.touches.address);
  others = IsPermutation-trans _ _ _ from (subst (λ (l : List Ask). IsPermutation (held_with f p) (ask_flying f ∷ l)) (sym (settles_held (left_link h.1.now) h.1.now.address p q h.0 b h.3)) (held_out f p));
}

starts_came : AuthoritiesAreHostsAndPorts → (ticket : ℕ) (address : Address) (answer : Reply) (p q : Pooled) (a b : WireState) → OpensGiven a → SuitsWire p a → AnswersSoFar p a → Starts (Ok (polls.Came ticket address answer)) p q a b → CameBy (λ n. Below n p a) q.limit ticket address answer (held p) (held q) b
starts_came one ticket address answer p q a b g s h (Overruns r budget f i) = absurd (no_came ticket address answer faults.Budget r)
starts_came one ticket address answer p q a b g s h (Starves r mid f begins is shuts) = absurd (no_came ticket address answer faults.OutOfMemory r)
starts_came one ticket address answer p q a b g s h (Flies mid f budget begins to) =
    flight_came (λ n. Below n p a) ticket address answer f mid q a b g (linked_open f.exchange.link (held_on mid) a (owns_begun p mid f a s begins).owned) to (begun one p mid f a h begins).follows (λ n x. begun_below n p mid f a x begins) (held p) (begun_holds p mid f begins)

next_came : (ticket : ℕ) (address : Address) (answer : Reply) (p q : Pooled) (a b : WireState) → OpensGiven a → SuitsWire p a → AnswersSoFar p a → PollsNext (Ok (polls.Came ticket address answer)) p q a b → CameBy (λ n. Below n p a) q.limit ticket address answer (held p) (held q) b
next_came ticket address answer p q a b g s h n =
    let d = subst (λ (l : List Flight). AllByRecursion (λ x. Follows p.limit a x.exchange) l) n.is_next h.due in
    let same : held p ≡ held_with n.f (record p { due = n.rest }) = ap (λ (l : List Flight). map ask_waiting p.waiting ++ map ask_flying (p.polled ++ l)) n.is_next in
    flight_came (λ i. Below i p a) ticket address answer n.f (record p { due = n.rest }) q a b g (linked_open n.f.exchange.link (held_on (record p { due = n.rest })) a (owns_next p n.f n.rest a s n.is_next).owned) n.to d.0 (λ i x. next_below i p n.f n.rest a x n.is_next) (held p) (subst (λ (l : List Ask). IsPermutation (held p) l) same (IsPermutation-refl (held p)))

last_came : AuthoritiesAreHostsAndPorts → (ticket : ℕ) (address : Address) (answer : Reply) (p q : Pooled) (a b : WireState) → OpensGiven a → SuitsWire p a → AnswersSoFar p a → Last (Ok (polls.Came ticket address answer)) p q a b → CameBy (λ n. Below n p a) q.limit ticket address answer (held p) (held q) b
last_came one ticket address answer p q a b g s h (OfStart t) = starts_came one ticket address answer p q a b g s h t
last_came one ticket address answer p q a b g s h (OfPoll t) = next_came ticket address answer p q a b g s h t

first_asks : (first then_ : ℕ → Type 0) (limit ticket : ℕ) (address : Address) (answer : Reply) (was now is : List Ask) (b : WireState) → IsPermutation was now → ((n : ℕ) → first n → then_ n) → CameBy then_ limit ticket address answer now is b → CameBy first limit ticket address answer was is b
first_asks first then_ limit ticket address answer was now is b h goes c = record {
  f = c.f;
  from = c.from;
  to = c.to;
  follows = c.follows;
  poll = c.poll;
  given = c.given;
  old = c.old;
  new = c.new;
  fresh = λ n x. c.fresh n (goes n x);
  settles = c.settles;
  is_ticket = c.is_ticket;
  is_address = c.is_address;
  others = IsPermutation-trans _ _ _ h c.others;
}

pub step_came : AuthoritiesAreHostsAndPorts → (ticket : ℕ) (address : Address) (answer : Reply) (p q : Pooled) (a b : WireState) → OpensGiven a → SuitsWire p a → AnswersSoFar p a
    → EndsInRun (Ok (polls.Came ticket address answer)) p q a b → CameBy (λ n. HoldsNoneBelow n p a) q.limit ticket address answer (held p) (held q) b
step_came one ticket address answer p q a b g s h e =
    let r : Pooled = e.line in
    let suits = suits_lined p e.line a e.lines s in
    let kept = answers_are_kept one in
    let fares = running_fares false a r e.mid a e.between (fares_first r a suits g) e.running in
    let mid = by_running AnswersSoFar kept r e.mid a e.between g suits (by_line AnswersSoFar kept p r a e.lines h) e.running in
    first_asks (λ n. HoldsNoneBelow n p a) (λ n. Below n e.mid e.between) q.limit ticket address answer (held p) (held e.mid) (held q) b
    (subst (λ (l : List Ask). IsPermutation l (held e.mid)) (lined_held p r e.lines) (running_holds r e.mid a e.between e.running))
    (λ n x. by_running (Below n) (below_is_kept n) r e.mid a e.between g suits (by_line (Below n) (below_is_kept n) p r a e.lines (below_in n p a x)) e.running)
    (last_came one ticket address answer e.mid q e.between b fares.given fares.suits mid e.last)
