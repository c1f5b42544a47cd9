-- What is known of the links by how often a pool holds each, after each part of a step.
use Rattle.std.proofs.Common.{ℕ, ◌≡◌, ◌+◌, ◌⊎◌, inl, inr, ◌++◌, List, [], ◌∷◌, map, Option, Some, None, Bool, true, false, Result, Ok, Err, refl, sym, ◌∙◌, ap, subst, arith, if◌then◌else◌}
use Rattle.std.specs.List.{AllByRecursion, Contains}
use Rattle.std.proofs.lemmas.List.Elements.{All-contains_itself, recursion_from_All}
use Rattle.tpf_base.specs.Addresses.{Address, authority_of}
use Rattle.tpf_base.specs.declared.fault.Fault.{Fault}
use Rattle.tpf_base.specs.declared.wire.Ready.{Ready}
use Rattle.tpf_base.specs.declared.wire.Ready.TheVariants as ready
use Rattle.tpf_base.specs.Links.{WireState}
use Rattle.tpf_base.specs.Calls.{Wakes}
use Rattle.exchange.specs.Exchanges.{Exchanging, left_link, left_by}
use Rattle.exchange.specs.Polls.{Touches, ClosedOn, Answers, Ends}
use Rattle.exchange.specs.declared.exchange.Standing.{Standing}
use Rattle.exchange.specs.declared.exchange.Standing.TheVariants.{Underway, Left, Over}
use Rattle.exchange.specs.declared.fault.ExchangeFault.{ExchangeFault}
use Rattle.exchange.specs.declared.fault.ExchangeFault.TheVariants as exchanges
use Rattle.request_pool.specs.declared.asks.Waiting.{Waiting}
use Rattle.request_pool.specs.declared.asks.Flight.{Flight}
use Rattle.request_pool.specs.declared.asks.Spare.{Spare}
use Rattle.request_pool.specs.declared.fault.Polled.{Polled}
use Rattle.request_pool.specs.declared.fault.Polled.TheVariants as polls
use Rattle.request_pool.specs.declared.fault.PoolFault.{PoolFault}
use Rattle.request_pool.specs.declared.fault.PoolFault.TheVariants as faults
use Rattle.request_pool.specs.declared.fault.Stepped.{Stepped}
use Rattle.request_pool.specs.Pools.{Pooled, Ask, ask_waiting, ask_flying, held, in_flight}
use Rattle.request_pool.specs.Owned.{on_link, flights_on, spare_on, held_on}
use Rattle.request_pool.specs.Polls.{Shuts, Settles, NoLink, Kept, Shut, TakesLink, FailsTo, IsFailure, FlightTo}
use Rattle.request_pool.specs.Runs.{Begins, Starts, Overruns, Flies, Starves, PollsNext}
use Rattle.request_pool.specs.Steps.{IsWait, GivesUp}
use Rattle.std.proofs.lemmas.Bool.{cases_eq}
use Rattle.request_pool.proofs.Owned.{flights_on-append, spare_on-append}
use Rattle.list_laws.proofs.Each.{all_append, all_front, all_back, all_unmap, all_always}
use Rattle.request_pool.proofs.Suits.{left_is}
use Rattle.pool_laws.specs.Owning.{IsAsBefore, Same, Woken}
use Rattle.pool_laws.proofs.KeptBySteps.{IsKept}

-- what each call on a link keeps
pub record LinksKept (home : Address → Type 0) (links : (ℕ → ℕ) → WireState → Type 0) : Type 0 where
  pub same : (was is : ℕ → ℕ) (a : WireState) → ((k : ℕ) → is k ≡ was k) → links was a → links is a
  pub poll : (e f : Exchanging) (rest : ℕ → ℕ) (a b : WireState) → home e.address → Touches e f a b → links (λ k. on_link e.link k + rest k) a → links (λ k. on_link f.link k + rest k) b
  pub drop : (o : Option ℕ) (rest : ℕ → ℕ) (a : WireState) → ClosedOn o a → links (λ k. on_link o k + rest k) a → links rest a
  pub shut : (o : Option ℕ) (rest : ℕ → ℕ) (a b : WireState) → Shuts o a b → links (λ k. on_link o k + rest k) a → links rest b
  pub woken : (times : ℕ → ℕ) (a b : WireState) → b.given ≡ a.given → b.nature ≡ a.nature → ((k : ℕ) → IsAsBefore (a.links k) (b.links k)) → links times a → links times b

-- the asks of a pool are for these addresses
pub record AsksAt (home : Address → Type 0) (p : Pooled) : Type 0 where
  pub waiting : AllByRecursion (λ w. home w.address) p.waiting
  pub polled : AllByRecursion (λ f. home f.exchange.address) p.polled
  pub due : AllByRecursion (λ f. home f.exchange.address) p.due

pub record Owning (home : Address → Type 0) (links : (ℕ → ℕ) → WireState → Type 0) (p : Pooled) (a : WireState) : Type 0 where
  pub asks : AsksAt home p
  pub known : links (held_on p) a

-- asks for any addresses
pub any_asks : (p : Pooled) → AsksAt (λ address. Unit {0}) p
any_asks p = record { waiting = all_always (λ f. Unit {0}) (λ f. tt) p.waiting; polled = all_always (λ f. Unit {0}) (λ f. tt) p.polled; due = all_always (λ f. Unit {0}) (λ f. tt) p.due }

-- the asks that a pool holds
pub asks_in : (home : Address → Type 0) (p : Pooled) → AllByRecursion (λ ask. home ask.address) (held p) → AsksAt home p
asks_in home p all =
    let flying = all_unmap ask_flying (λ (ask : Ask). home ask.address) (in_flight p) (all_back (λ (ask : Ask). home ask.address) (map ask_waiting p.waiting) (map ask_flying (in_flight p)) all) in
    record {
      waiting = all_unmap ask_waiting (λ (ask : Ask). home ask.address) p.waiting (all_front (λ (ask : Ask). home ask.address) (map ask_waiting p.waiting) (map ask_flying (in_flight p)) all);
      polled = all_front (λ (f : Flight). home f.exchange.address) p.polled p.due flying;
      due = all_back (λ (f : Flight). home f.exchange.address) p.polled p.due flying;
    }

-- each address is one of those of all
pub all_held : (asks : List Ask) → AllByRecursion (λ ask. Contains (map (λ (a : Ask). a.address) asks) ask.address) asks
all_held asks =
    let all : List Address = map (λ (a : Ask). a.address) asks in
    all_unmap (λ (a : Ask). a.address) (λ (address : Address). Contains (map (λ (a : Ask). a.address) asks) address) asks (recursion_from_All (Contains (map (λ (a : Ask). a.address) asks)) all (All-contains_itself all))

-- ---- the link of an exchange that is over

ends_closed : (old new : Exchanging) (a b : WireState) (received : List ℕ) → Ends old new a b received → ClosedOn new.link b
ends_closed old new a b received e = subst (λ (o : Option ℕ). ClosedOn o b) (sym e.link) e.closed

failure_closed : (why : ExchangeFault) (old new : Exchanging) (a b : WireState) → IsFailure why → Answers old new a b (Some (Err why)) → ClosedOn new.link b
failure_closed exchanges.Failed old new a b is h = h.breaks.closed
failure_closed (exchanges.Cut received) old new a b is h = ends_closed old new a b received h.ends
failure_closed (exchanges.Bad fault received) old new a b is h = absurd is
failure_closed exchanges.OutOfMemory old new a b is h = absurd is

pub left_or_over : (s : Standing) (v : Bool) → s ≡ (if v then Left else Over) → (s ≡ Left) ⊎ (s ≡ Over)
left_or_over s true e = inl e
left_or_over s false e = inr e

none_left : (s : Standing) (o : Option ℕ) → s ≡ Left → left_by s o ≡ None → o ≡ None
none_left Left o l e = e
none_left Underway o l e = cc
none_left Over o l e = cc

-- nothing is left: the link, where there was one, is closed
unleft_closed : (s : Standing) (o : Option ℕ) (a : WireState) → (s ≡ Left) ⊎ (s ≡ Over) → (s ≡ Over → ClosedOn o a) → left_by s o ≡ None → ClosedOn o a
unleft_closed s o a (inl l) closed e = subst (λ (x : Option ℕ). ClosedOn x a) (sym (none_left s o l e)) tt
unleft_closed s o a (inr over) closed e = closed over

-- ---- a wait answers links alone

wakes_only : (answer : Ready) (a b : WireState) → Wakes answer a b → (k : ℕ) → IsAsBefore (a.links k) (b.links k)
wakes_only ready.Door a b w k = Same (w.1 k)
wakes_only (ready.Link i) a b w k = elim (cases_eq k i) [ inl e ↦ subst (λ (x : ℕ). IsAsBefore (a.links x) (b.links x)) (sym e) (Woken w.0 w.1) | inr n ↦ Same (w.2 k n) ]

pub waits_only : (answer : Result Ready Fault) (a b : WireState) → IsWait answer a b → (k : ℕ) → IsAsBefore (a.links k) (b.links k)
waits_only (Ok answer) a b w k = wakes_only answer a b w.ok k
waits_only (Err fault) a b w k = Same (w.err.links k)

module _ (home : Address → Type 0) (links : (ℕ → ℕ) → WireState → Type 0) (kept : LinksKept home links) where
  settle_held : (s : Standing) (o : Option ℕ) (address : Address) (p q : Pooled) (a b : WireState) → (s ≡ Left) ⊎ (s ≡ Over) → (s ≡ Over → ClosedOn o a)
      → links (λ k. on_link o k + held_on p k) a → Settles (left_by s o) address p q a b → links (held_on q) b
  settle_held s o address p q a b which closed h (NoLink e f g) =
      subst (λ (x : Pooled). links (held_on x) b) (sym f) (subst (λ (x : WireState). links (held_on p) x) (sym g)
      (kept.drop o (held_on p) a (unleft_closed s o a which closed e) h))
  settle_held s o address p q a b which closed h (Kept i e room f g) =
      let r : Pooled = record p { spare = p.spare ++ (record { link = i; authority = authority_of address }) ∷ [] } in
      let same : (k : ℕ) → held_on r k ≡ on_link o k + held_on p k =
      λ k. omega (arith, spare_on-append p.spare ((record { link = i; authority = authority_of address }) ∷ []) k, ap (λ (x : Option ℕ). on_link x k) (left_is s o i e).1) in
      subst (λ (x : Pooled). links (held_on x) b) (sym f) (subst (λ (x : WireState). links (held_on r) x) (sym g)
      (kept.same (λ k. on_link o k + held_on p k) (held_on r) a same h))
  settle_held s o address p q a b which closed h (Shut i e full f c) =
      let same : (k : ℕ) → on_link (Some i) k + held_on p k ≡ on_link o k + held_on p k = λ k. omega (arith, ap (λ (x : Option ℕ). on_link x k) (left_is s o i e).1) in
      subst (λ (x : Pooled). links (held_on x) b) (sym f)
      (kept.shut (Some i) (held_on p) a b c (kept.same (λ k. on_link o k + held_on p k) (λ k. on_link (Some i) k + held_on p k) a same h))

  settle_asks : (o : Option ℕ) (address : Address) (p q : Pooled) (a b : WireState) → AsksAt home p → Settles o address p q a b → AsksAt home q
  settle_asks o address p q a b h (NoLink e f g) = subst (AsksAt home) (sym f) h
  settle_asks o address p q a b h (Kept i e room f g) = subst (AsksAt home) (sym f) (record { waiting = h.waiting; polled = h.polled; due = h.due })
  settle_asks o address p q a b h (Shut i e full f c) = subst (AsksAt home) (sym f) h

  at_polled : (old new : Exchanging) (a b : WireState) → Touches old new a b → home old.address → home new.address
  at_polled old new a b t is = subst (home) (sym t.address) is

  own_as : (p q : Pooled) (a : WireState) → q ≡ p → Owning home links p a → Owning home links q a
  own_as p q a e h = subst (λ (x : Pooled). Owning home links x a) (sym e) h

  -- the exchange is over, and its link closed
  over_owns : (e f : Exchanging) (p q : Pooled) (a b : WireState) → home e.address → AsksAt home p → links (λ k. on_link e.link k + held_on p k) a → Touches e f a b → ClosedOn f.link b → q ≡ p
      → Owning home links q b
  over_owns e f p q a b is asks h t closed same = own_as p q b same (record { asks = asks; known = kept.drop f.link (held_on p) b closed (kept.poll e f (held_on p) a b is t h) })

  shut_or : (o : Option ℕ) (rest : ℕ → ℕ) (a b : WireState) → ClosedOn o b → (b ≡ a) ⊎ Shuts o a b → links (λ k. on_link o k + rest k) a → links rest b
  shut_or o rest a b closed (inl e) h = kept.drop o rest b closed (subst (λ (x : WireState). links (λ k. on_link o k + rest k) x) (sym e) h)
  shut_or o rest a b closed (inr s) h = kept.shut o rest a b s h

  -- ---- a poll

  pub flight_owns : (result : Result Polled PoolFault) (f : Flight) (p q : Pooled) (a b : WireState) → home f.exchange.address → AsksAt home p → links (λ k. on_link f.exchange.link k + held_on p k) a
      → FlightTo result f p q a b → Owning home links q b
  flight_owns (Ok polls.Pending) f p q a b is asks h t =
      let g : Flight = record f { exchange = t.0.now } in
      let r : Pooled = record p { polled = p.polled ++ (record f { exchange = t.0.now }) ∷ [] } in
      own_as r q b t.1 (record {
        asks = record {
          waiting = asks.waiting;
          polled = all_append (λ (x : Flight). home x.exchange.address) p.polled (g ∷ []) asks.polled (at_polled f.exchange t.0.now a b t.0.touches is, tt);
          due = asks.due;
        };
        known = kept.same (λ k. on_link t.0.now.link k + held_on p k) (held_on r) b (λ k. omega (arith, flights_on-append p.polled (g ∷ []) k)) (kept.poll f.exchange t.0.now (held_on p) a b is t.0.touches h);
      })
  flight_owns (Ok (polls.Came ticket address answer)) f p q a b is asks h t =
      let w = t.1.answers in
      let closed : t.1.now.standing ≡ Over → ClosedOn t.1.now.link t.0 = λ e. subst (λ (o : Option ℕ). ClosedOn o t.0) (sym w.link) (w.closed e) in
      record {
        asks = settle_asks (left_link t.1.now) t.1.now.address p q t.0 b asks t.3;
        known = settle_held t.1.now.standing t.1.now.link t.1.now.address p q t.0 b (left_or_over t.1.now.standing _ w.left) closed (kept.poll f.exchange t.1.now (held_on p) a t.0 is t.1.touches h) t.3;
      }
  flight_owns (Ok polls.Failed) f p q a b is asks h t =
      own_as _ q b t.4 (record {
        asks = record { waiting = (at_polled f.exchange t.1.now a b t.1.touches is, asks.waiting); polled = asks.polled; due = asks.due };
        known = kept.drop t.1.now.link (held_on p) b (failure_closed t.0 f.exchange t.1.now a b t.2 t.1.answers) (kept.poll f.exchange t.1.now (held_on p) a b is t.1.touches h);
      })
  flight_owns (Err faults.Exchange) f p q a b is asks h t = over_owns f.exchange t.0.now p q a b is asks h t.0.touches t.0.answers.breaks.closed t.2
  flight_owns (Err (faults.Cut received)) f p q a b is asks h t = over_owns f.exchange t.0.now p q a b is asks h t.0.touches (ends_closed f.exchange t.0.now a b received t.0.answers.ends) t.2
  flight_owns (Err (faults.Reply fault received)) f p q a b is asks h t = over_owns f.exchange t.0.now p q a b is asks h t.0.touches (ends_closed f.exchange t.0.now a b received t.0.answers.ends) t.1
  flight_owns (Err faults.OutOfMemory) f p q a b is asks h t =
      own_as p q b t.3 (record { asks = asks; known = shut_or t.2.now.link (held_on p) t.1 b t.4.0 t.4.1 (kept.poll f.exchange t.2.now (held_on p) a t.1 is t.2.touches h) })
  flight_owns (Err faults.Stalled) f p q a b is asks h t = absurd t
  flight_owns (Err faults.Budget) f p q a b is asks h t = absurd t

  -- ---- a start

  -- a link that is taken was held once
  taken : (first : Waiting) (old new : List Spare) (link : Option ℕ) → TakesLink first old new link → (k : ℕ) → on_link link k + spare_on new k ≡ spare_on old k
  taken first old new None h k = omega (arith, ap (λ (x : List Spare). spare_on x k) h.0)
  taken first old new (Some i) h k =
      let t = h.1.3 in
      omega (arith, ap (λ (x : List Spare). spare_on x k) t.is_old, ap (λ (x : List Spare). spare_on x k) t.is_new, spare_on-append t.before t.after k, spare_on-append t.before (h.1.0 ∷ t.after) k, ap (λ (n : ℕ). on_link (Some n) k) h.1.1)

  pub record Begun (q : Pooled) (f : Flight) (a : WireState) : Type 0 where
    pub at : home f.exchange.address
    pub asks : AsksAt home q
    pub known : links (λ k. on_link f.exchange.link k + held_on q k) a

  begun_as : (q r : Pooled) (f g : Flight) (a : WireState) → q ≡ r → f ≡ g → Begun r g a → Begun q f a
  begun_as q r f g a e h b = subst (λ (x : Pooled). Begun x f a) (sym e) (subst (λ (x : Flight). Begun r x a) (sym h) b)

  pub begun : (p q : Pooled) (f : Flight) (a : WireState) → Owning home links p a → Begins p q f → Begun q f a
  begun p q f a h b =
      let w = subst (λ (l : List Waiting). AllByRecursion (λ x. home x.address) l) b.is_first h.asks.waiting in
      begun_as q _ f _ a b.is_new b.flight (record {
        at = w.0;
        asks = record { waiting = w.1; polled = h.asks.polled; due = h.asks.due };
        known = kept.same (held_on p) (λ k. on_link b.link k + held_on (record p { waiting = b.rest; spare = b.spare; started = p.started + 1 }) k) a (λ k. omega (arith, taken b.first p.spare b.spare b.link b.takes k)) h.known;
      })

  starts_own : (result : Result Polled PoolFault) (p q : Pooled) (a b : WireState) → Owning home links p a → Starts result p q a b → Owning home links q b
  starts_own result p q a b h (Overruns e budget f g) = own_as p q b f (subst (λ (x : WireState). Owning home links p x) (sym g) h)
  starts_own result p q a b h (Flies mid f budget begins to) = let s = begun p mid f a h begins in flight_owns result f mid q a b s.at s.asks s.known to
  starts_own result p q a b h (Starves e mid f begins is shuts) =
      let s = begun p mid f a h begins in
      own_as (record mid { started = p.started }) q b is (record {
        asks = record { waiting = s.asks.waiting; polled = s.asks.polled; due = s.asks.due };
        known = kept.shut f.exchange.link (held_on (record mid { started = p.started })) a b shuts s.known;
      })

  next_owns : (result : Result Polled PoolFault) (p q : Pooled) (a b : WireState) → Owning home links p a → PollsNext result p q a b → Owning home links q b
  next_owns result p q a b h n =
      let d = subst (λ (l : List Flight). AllByRecursion (λ x. home x.exchange.address) l) n.is_next h.asks.due in
      let r : Pooled = record p { due = n.rest } in
      flight_owns result n.f r q a b d.0 (record { waiting = h.asks.waiting; polled = h.asks.polled; due = d.1 })
      (kept.same (held_on p) (λ k. on_link n.f.exchange.link k + held_on r k) a (λ k. omega (arith, ap (λ (x : List Flight). flights_on x k) n.is_next)) h.known) n.to

  -- ---- rounds and waits

  round_owns : (p : Pooled) (a : WireState) → Owning home links p a → Owning home links (record p { polled = []; due = p.polled ++ p.due }) a
  round_owns p a h = record {
    asks = record { waiting = h.asks.waiting; polled = tt; due = all_append (λ (f : Flight). home f.exchange.address) p.polled p.due h.asks.polled h.asks.due };
    known = kept.same (held_on p) (held_on (record p { polled = []; due = p.polled ++ p.due })) a (λ k. omega (arith, flights_on-append p.polled p.due k)) h.known;
  }

  gathered_owns : (p : Pooled) (a : WireState) → Owning home links p a → Owning home links (record p { polled = in_flight p; due = [] }) a
  gathered_owns p a h = record {
    asks = record { waiting = h.asks.waiting; polled = all_append (λ (f : Flight). home f.exchange.address) p.polled p.due h.asks.polled h.asks.due; due = tt };
    known = kept.same (held_on p) (held_on (record p { polled = in_flight p; due = [] })) a (λ k. omega (arith, flights_on-append p.polled p.due k)) h.known;
  }

  waited_owns : (answer : Result Ready Fault) (p : Pooled) (a b : WireState) → Owning home links p a → IsWait answer a b → Owning home links p b
  waited_owns answer p a b h w = record { asks = h.asks; known = kept.woken (held_on p) a b w.only.given w.only.nature (waits_only answer a b w) h.known }

  fails_own : {T : Type 0} (fault : PoolFault) (result : Result T PoolFault) (f : Flight) (p q : Pooled) (a : WireState) → FailsTo fault result f p q → home f.exchange.address → Owning home links p a → Owning home links q a
  fails_own fault (Ok done) f p q a t is h = own_as _ q a t.1 (record { asks = record { waiting = (is, h.asks.waiting); polled = h.asks.polled; due = h.asks.due }; known = kept.same (held_on p) _ a (λ k. refl) h.known })
  fails_own fault (Err shown) f p q a t is h = own_as p q a t.0 h

  pub split_flights : (p : Pooled) (f : Flight) (rest : List Flight) → in_flight p ≡ f ∷ rest → (k : ℕ) → on_link f.exchange.link k + flights_on rest k ≡ flights_on p.polled k + flights_on p.due k
  split_flights p f rest e k = sym (ap (λ (x : List Flight). flights_on x k) e) ∙ flights_on-append p.polled p.due k

  gives_up_owns : (fault : PoolFault) (result : Result Stepped PoolFault) (p q : Pooled) (a b : WireState) → Owning home links p a → GivesUp fault result p q a b → Owning home links q b
  gives_up_owns fault result p q a b h u =
      let all = subst (λ (l : List Flight). AllByRecursion (λ f. home f.exchange.address) l) u.is_oldest (all_append (λ (f : Flight). home f.exchange.address) p.polled p.due h.asks.polled h.asks.due) in
      let r : Pooled = record p { polled = u.rest; due = [] } in
      fails_own fault result u.f r q b u.to all.0 (record {
        asks = record { waiting = h.asks.waiting; polled = all.1; due = tt };
        known = kept.shut u.f.exchange.link (held_on r) a b u.shuts
            (kept.same (held_on p) (λ k. on_link u.f.exchange.link k + held_on r k) a (λ k. omega (arith, split_flights p u.f u.rest u.is_oldest k)) h.known);
      })

  pub owning_is_kept : IsKept (Owning home links)
  owning_is_kept = record {
    starts = λ result p q a b g s h t. starts_own result p q a b h t;
    polls = λ result p q a b g s h n. next_owns result p q a b h n;
    rounds = round_owns;
    gathers = gathered_owns;
    waits = λ answer p a b s h w. waited_owns answer p a b h w;
    gives_up = λ fault result p q a b s h u. gives_up_owns fault result p q a b h u;
  }
