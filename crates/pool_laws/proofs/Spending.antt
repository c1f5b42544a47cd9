-- Each exchange is started for a link that is given, a rise of the wire's faults, or a reply that came.
use Rattle.std.proofs.Common.{ℕ, ◌≡◌, ◌≢◌, ◌+◌, ◌-◌, ◌≤◌, ◌++◌, List, [], ◌∷◌, length, length-append, map, Option, Some, None, true, false, Result, Ok, Err, refl, sym, ◌∙◌, ap, subst, arith}
use Rattle.std.proofs.lemmas.List.{length-map}
use Rattle.tpf_base.specs.Addresses.{Address, authority_of}
use Rattle.tpf_base.specs.Causes.{Rose, RoseBy}
use Rattle.tpf_base.specs.Links.{WireState, OpensGiven}
use Rattle.tpf_base.specs.declared.fault.Fault.{Fault}
use Rattle.tpf_base.specs.declared.wire.Ready.{Ready}
use Rattle.exchange.specs.Exchanges.{left_link}
use Rattle.exchange.specs.Polls.{LinkAfter}
use Rattle.exchange.specs.declared.fault.ExchangeFault.{ExchangeFault}
use Rattle.exchange.specs.declared.fault.ExchangeFault.TheVariants as exchanges
use Rattle.http_wire.specs.declared.message.Reply.{Reply}
use Rattle.request_pool.specs.declared.asks.Waiting.{Waiting}
use Rattle.request_pool.specs.declared.asks.Flight.{Flight}
use Rattle.request_pool.specs.declared.asks.Spare.{Spare}
use Rattle.request_pool.specs.declared.fault.Polled.{Polled}
use Rattle.request_pool.specs.declared.fault.Polled.TheVariants as polls
use Rattle.request_pool.specs.declared.fault.PoolFault.{PoolFault}
use Rattle.request_pool.specs.declared.fault.PoolFault.TheVariants as faults
use Rattle.request_pool.specs.declared.fault.Stepped.{Stepped}
use Rattle.request_pool.specs.declared.fault.Stepped.TheVariants.{Came, Waited, Idle}
use Rattle.request_pool.specs.Pools.{Pooled, ask_waiting, ask_flying, held, in_flight}
use Rattle.request_pool.specs.Owned.{SuitsWire}
use Rattle.request_pool.specs.Polls.{Shuts, Settles, NoLink, Kept, Shut, TakesLink, Polls, IsFailure, FailsTo, FlightTo, again}
use Rattle.request_pool.specs.Runs.{Begins, Starts, Overruns, Flies, Starves, PollsNext, Last, OfStart, OfPoll, is_end}
use Rattle.request_pool.specs.Steps.{IsWait, GivesUp, WaitsTo, Passes, Stalls, Misses, Lacks, EndsInWait, EndsInRun, EndsInFault, AtOnce, InRun, InWait}
use Rattle.request_pool.proofs.Steps.{in_line, suits_lined}
use Rattle.pool_laws.specs.Spending.{SpentSince, EmptyPoolsSpend, PutsSpend, FaultsSpend, StepsSpend}
use Rattle.pool_laws.proofs.Faults.{once_more, rose_later, same_fault, shut_faults}
use Rattle.pool_laws.proofs.Dialling.{at_most_one, dial_for}
use Rattle.pool_laws.proofs.KeptBySteps.{IsKeptWhileOn, running_goes}

-- ---- lists

-- how many asks are held, and links that were left
abbrev load : Pooled → ℕ
load p = length p.spare + (length p.waiting + (length p.polled + length p.due))

held_load : (p : Pooled) → length p.spare + length (held p) ≡ load p
held_load p =
    let all = length-append (map ask_waiting p.waiting) (map ask_flying (in_flight p)) in
    let waiting = length-map p.waiting ask_waiting in
    let flying = length-map (in_flight p) ask_flying in
    omega (arith, all, waiting, flying, length-append p.polled p.due)

taken_spare : (first : Waiting) (old new : List Spare) (link : Option ℕ) → TakesLink first old new link → length new + 1 ≤ length old + dial_for link
taken_spare first old new None h = omega (arith, ap (λ (l : List Spare). length l) h.0)
taken_spare first old new (Some k) h =
    let t = h.1.3 in
    omega (arith, ap (λ (l : List Spare). length l) t.is_old, ap (λ (l : List Spare). length l) t.is_new, length-append t.before (h.1.0 ∷ t.after), length-append t.before t.after)

-- ---- counts

-- ---- results

no_memory : (result : Result Polled PoolFault) → is_end result ≡ false → result ≢ Err faults.OutOfMemory
no_memory result on = λ e. absurd (let x : true ≡ false = sym (ap is_end e) ∙ on in cc)

polled_memory : (fault : PoolFault) → ◌≢◌ {A = Result Stepped PoolFault} (Err fault) (Err faults.OutOfMemory) → ◌≢◌ {A = Result Polled PoolFault} (Err fault) (Err faults.OutOfMemory)
polled_memory fault some = λ e. some (ap (λ (x : PoolFault). Err x) (same_fault fault faults.OutOfMemory e))

no_came : (ticket : ℕ) (address : Address) (answer : Reply) → ◌≡◌ {A = Result Polled PoolFault} (Ok (polls.Came ticket address answer)) (Err faults.OutOfMemory) → ⊥
no_came ticket address answer e = cc

came_memory : (ticket : ℕ) (address : Address) (answer : Reply) → ◌≢◌ {A = Result Polled PoolFault} (Ok (polls.Came ticket address answer)) (Err faults.OutOfMemory)
came_memory ticket address answer = λ e. no_came ticket address answer e

-- ---- what is spent

module _ (since : WireState) (asked : ℕ) where
  record Spent (p : Pooled) (a : WireState) : Type 0 where
    later : since.given ≤ a.given
    rises : ℕ
    rose : RoseBy rises since.faults a.faults
    few : p.started + load p ≤ (a.given - since.given) + rises + asked

  -- the same with one exchange taken out, for whose poll a link may be given
  record Out (f : Flight) (p : Pooled) (a : WireState) : Type 0 where
    later : since.given ≤ a.given
    rises : ℕ
    rose : RoseBy rises since.faults a.faults
    few : p.started + load p + 1 ≤ (a.given - since.given) + rises + asked + dial_for f.exchange.link

  spent_as : (p q : Pooled) (a : WireState) → q ≡ p → Spent p a → Spent q a
  spent_as p q a e h = subst (λ (x : Pooled). Spent x a) (sym e) h

  -- no more is held, no fewer links were given, and the faults did not fall
  goes_on : (p q : Pooled) (a b : WireState) → q.started ≡ p.started → load q ≤ load p → b.given ≡ a.given → a.faults ≤ b.faults → Spent p a → Spent q b
  goes_on p q a b e l g up h = record {
    later = omega (arith, h.later, g);
    rises = h.rises;
    rose = rose_later h.rises since.faults a.faults b.faults up h.rose;
    few = omega (arith, h.few, e, l, g);
  }

  -- ---- a poll

  -- what the poll was taken out for is paid
  record Paid (p : Pooled) (b : WireState) : Type 0 where
    later : since.given ≤ b.given
    rises : ℕ
    rose : RoseBy rises since.faults b.faults
    few : p.started + load p + 1 ≤ (b.given - since.given) + rises + asked

  by_link : (address : Address) (o p : Option ℕ) (k : ℕ) (a b : WireState) → p ≡ Some k → LinkAfter address o p a b → a.given + dial_for o ≤ b.given
  by_link address (Some j) (Some i) k a b e l = omega (arith, l.1)
  by_link address (Some j) None k a b e l = absurd l
  by_link address None None k a b e l = cc
  by_link address None (Some i) k a b e l = omega (arith, l.1)

  by_any : (address : Address) (o p : Option ℕ) (a b : WireState) → LinkAfter address o p a b → a.given ≤ b.given
  by_any address (Some j) (Some i) a b l = omega (arith, l.1)
  by_any address (Some j) None a b l = absurd l
  by_any address None None a b l = omega (arith, l.0)
  by_any address None (Some i) a b l = omega (arith, l.1)

  module _ (answer : Option (Result Reply ExchangeFault)) (f : Flight) (p : Pooled) (a b : WireState) (h : Polls answer f a b) (s : Out f p a) where
    paid_by_link : (k : ℕ) → h.now.link ≡ Some k → Paid p b
    paid_by_link k e =
        let more = by_link f.exchange.address f.exchange.link h.now.link k a b e h.touches.link in
        record { later = omega (arith, s.later, more); rises = s.rises; rose = rose_later s.rises since.faults a.faults b.faults h.touches.later s.rose; few = omega (arith, s.few, s.later, more) }

    paid_by_rise : Rose a.faults b.faults → Paid p b
    paid_by_rise rose =
        let more = by_any f.exchange.address f.exchange.link h.now.link a b h.touches.link in
        record { later = omega (arith, s.later, more); rises = s.rises + 1; rose = once_more s.rises since.faults a.faults b.faults s.rose rose; few = omega (arith, s.few, s.later, more, at_most_one f.exchange.link) }

  paid_failure : (why : ExchangeFault) (f : Flight) (p : Pooled) (a b : WireState) (h : Polls (Some (Err why)) f a b) → IsFailure why → Out f p a → Paid p b
  paid_failure exchanges.Failed f p a b h is s = paid_by_rise (Some (Err exchanges.Failed)) f p a b h s h.answers.rose
  paid_failure (exchanges.Cut received) f p a b h is s = paid_by_link (Some (Err (exchanges.Cut received))) f p a b h s h.answers.ends.k h.answers.ends.link
  paid_failure (exchanges.Bad fault received) f p a b h is s = absurd is
  paid_failure exchanges.OutOfMemory f p a b h is s = absurd is

  -- one more is held
  holds_one : (p q : Pooled) (b : WireState) → q.started ≡ p.started → load q ≤ load p + 1 → Paid p b → Spent q b
  holds_one p q b e l h = record { later = h.later; rises = h.rises; rose = h.rose; few = omega (arith, h.few, e, l) }

  lost : (p q : Pooled) (b : WireState) → q ≡ p → Paid p b → Spent q b
  lost p q b e h = holds_one p q b (ap (λ (x : Pooled). x.started) e) (omega (arith, ap load e)) h

  settle_spent : (o : Option ℕ) (address : Address) (p q : Pooled) (a b : WireState) → Settles o address p q a b → Paid p a → Spent q b
  settle_spent o address p q a b (NoLink e f g) h = subst (λ (x : WireState). Spent q x) (sym g) (lost p q a f h)
  settle_spent o address p q a b (Kept i e room f g) h =
      let s : Spare = record { link = i; authority = authority_of address } in
      let r : Pooled = record p { spare = p.spare ++ (record { link = i; authority = authority_of address }) ∷ [] } in
      subst (λ (x : WireState). Spent q x) (sym g) (spent_as (record p { spare = p.spare ++ (record { link = i; authority = authority_of address }) ∷ [] }) q a f
      (holds_one p (record p { spare = p.spare ++ (record { link = i; authority = authority_of address }) ∷ [] }) a refl (omega (arith, length-append p.spare (s ∷ []))) h))
  settle_spent o address p q a b (Shut i e full f c) h =
      let s = lost p q a f h in
      goes_on q q a b refl (omega arith) c.only.given (omega (arith, c.faults)) s

  flight_spent : (result : Result Polled PoolFault) (f : Flight) (p q : Pooled) (a b : WireState) → result ≢ Err faults.OutOfMemory → Out f p a → FlightTo result f p q a b → Spent q b
  flight_spent (Ok polls.Pending) f p q a b some s t =
      let g : Flight = record f { exchange = t.0.now } in
      spent_as (record p { polled = p.polled ++ (record f { exchange = t.0.now }) ∷ [] }) q b t.1
      (holds_one p (record p { polled = p.polled ++ (record f { exchange = t.0.now }) ∷ [] }) b refl (omega (arith, length-append p.polled (g ∷ [])))
      (paid_by_link None f p a b t.0 s t.0.answers.k t.0.answers.link))
  flight_spent (Ok (polls.Came ticket address answer)) f p q a b some s t =
      settle_spent (left_link t.1.now) t.1.now.address p q t.0 b t.3 (paid_by_link (Some (Ok answer)) f p a t.0 t.1 s t.1.answers.k t.1.answers.link)
  flight_spent (Ok polls.Failed) f p q a b some s t =
      spent_as (record p { waiting = again (record f { exchange = t.1.now }) ∷ p.waiting }) q b t.4
      (holds_one p (record p { waiting = again (record f { exchange = t.1.now }) ∷ p.waiting }) b refl (omega arith) (paid_failure t.0 f p a b t.1 t.2 s))
  flight_spent (Err faults.Exchange) f p q a b some s t = lost p q b t.2 (paid_by_rise (Some (Err exchanges.Failed)) f p a b t.0 s t.0.answers.rose)
  flight_spent (Err (faults.Cut received)) f p q a b some s t = lost p q b t.2 (paid_by_link (Some (Err (exchanges.Cut received))) f p a b t.0 s t.0.answers.ends.k t.0.answers.ends.link)
  flight_spent (Err (faults.Reply fault received)) f p q a b some s t = lost p q b t.1 (paid_by_link (Some (Err (exchanges.Bad fault received))) f p a b t.0 s t.0.answers.ends.k t.0.answers.ends.link)
  flight_spent (Err faults.OutOfMemory) f p q a b some s t = absurd (some refl)
  flight_spent (Err faults.Stalled) f p q a b some s t = absurd t
  flight_spent (Err faults.Budget) f p q a b some s t = absurd t

  -- ---- starts and polls

  begun : (p q : Pooled) (f : Flight) (a : WireState) → Spent p a → Begins p q f → Out f q a
  begun p q f a h b =
      let r : Pooled = record p { waiting = b.rest; spare = b.spare; started = p.started + 1 } in
      subst (λ (x : Pooled). Out f x a) (sym b.is_new) (record {
        later = h.later;
        rises = h.rises;
        rose = h.rose;
        few = one_more p.started (length p.spare) (length b.spare) (length p.waiting) (length b.rest) (length p.polled + length p.due) (a.given - since.given) h.rises asked (dial_for f.exchange.link) (dial_for b.link)
            h.few (omega (arith, ap (λ (l : List Waiting). length l) b.is_first)) (taken_spare b.first p.spare b.spare b.link b.takes) (ap (λ (x : Flight). dial_for x.exchange.link) b.flight);
      })
    where
      one_more : (s x y w v u g r n d c : ℕ) → s + (x + (w + u)) ≤ g + r + n → w ≡ v + 1 → y + 1 ≤ x + c → d ≡ c → s + 1 + (y + (v + u)) + 1 ≤ g + r + n + d
      one_more s x y w v u g r n d c h e i j = omega (arith, h, e, i, j)

  starts_spent : (result : Result Polled PoolFault) (p q : Pooled) (a b : WireState) → result ≢ Err faults.OutOfMemory → Spent p a → Starts result p q a b → Spent q b
  starts_spent result p q a b some h (Overruns e budget f g) = spent_as p q b f (subst (λ (x : WireState). Spent p x) (sym g) h)
  starts_spent result p q a b some h (Flies mid f budget begins to) = flight_spent result f mid q a b some (begun p mid f a h begins) to
  starts_spent result p q a b some h (Starves e mid f begins is shuts) = absurd (some e)

  next_spent : (result : Result Polled PoolFault) (p q : Pooled) (a b : WireState) → result ≢ Err faults.OutOfMemory → Spent p a → PollsNext result p q a b → Spent q b
  next_spent result p q a b some h n =
      flight_spent result n.f (record p { due = n.rest }) q a b some (record { later = h.later; rises = h.rises; rose = h.rose; few = omega (arith, h.few, ap (λ (l : List Flight). length l) n.is_next) }) n.to

  round_spent : (p : Pooled) (a : WireState) → Spent p a → Spent (record p { polled = []; due = p.polled ++ p.due }) a
  round_spent p a h = record { later = h.later; rises = h.rises; rose = h.rose; few = omega (arith, h.few, length-append p.polled p.due) }

  gathered_spent : (p : Pooled) (a : WireState) → Spent p a → Spent (record p { polled = in_flight p; due = [] }) a
  gathered_spent p a h = record { later = h.later; rises = h.rises; rose = h.rose; few = omega (arith, h.few, length-append p.polled p.due) }

  spent_is_kept : IsKeptWhileOn Spent
  spent_is_kept = record {
    starts = λ result p q a b on g s h t. starts_spent result p q a b (no_memory result on) h t;
    polls = λ result p q a b on g s h n. next_spent result p q a b (no_memory result on) h n;
    rounds = round_spent;
  }

  -- ---- waits

  fails_load : {T : Type 0} (fault : PoolFault) (result : Result T PoolFault) (f : Flight) (p q : Pooled) → FailsTo fault result f p q → (q.started ≡ p.started) × (load q ≤ load p + 1)
  fails_load fault (Ok done) f p q t = (ap (λ (x : Pooled). x.started) t.1, omega (arith, ap load t.1))
  fails_load fault (Err shown) f p q t = (ap (λ (x : Pooled). x.started) t.0, omega (arith, ap load t.0))

  shut_given : (o : Option ℕ) (a b : WireState) → Shuts o a b → b.given ≡ a.given
  shut_given None a b s = ap (λ (w : WireState). w.given) s
  shut_given (Some i) a b c = c.only.given

  gives_up_spent : (fault : PoolFault) (result : Result Stepped PoolFault) (p q : Pooled) (a b : WireState) → Spent p a → GivesUp fault result p q a b → Spent q b
  gives_up_spent fault result p q a b h u =
      let r : Pooled = record p { polled = u.rest; due = [] } in
      let t = fails_load fault result u.f (record p { polled = u.rest; due = [] }) q u.to in
      let all : length p.polled + length p.due ≡ length u.rest + 1 = omega (arith, length-append p.polled p.due, ap (λ (l : List Flight). length l) u.is_oldest) in
      goes_on p q a b t.0 (omega (arith, t.1, all)) (shut_given u.f.exchange.link a b u.shuts) (shut_faults u.f.exchange.link a b u.shuts) h

  waited_spent : (answer : Result Ready Fault) (p : Pooled) (a b : WireState) → Spent p a → IsWait answer a b → Spent p b
  waited_spent answer p a b h w = goes_on p p a b refl (omega arith) w.only.given w.only.later h

  waits_spent : (result : Result Stepped PoolFault) (p q : Pooled) (a b : WireState) → Spent p a → WaitsTo result p q a b → Spent q b
  waits_spent result p q a b h (Passes ready e w i f) = spent_as p q b f (waited_spent (Ok ready) p a b h w)
  waits_spent result p q a b h (Stalls ready mid w i u) = gives_up_spent faults.Stalled result p q mid b (waited_spent (Ok ready) p a mid h w) u
  waits_spent result p q a b h (Misses mid w u) = gives_up_spent faults.Exchange result p q mid b (waited_spent _ p a mid h w) u
  waits_spent result p q a b h (Lacks w e f) = spent_as p q b f (waited_spent _ p a b h w)

  -- ---- a step

  ended_spent : (result : Result Polled PoolFault) (p q : Pooled) (a b : WireState) → OpensGiven a → SuitsWire p a → result ≢ Err faults.OutOfMemory → Spent p a → EndsInRun result p q a b → Spent q b
  ended_spent result p q a b g s some h e =
      let r : Pooled = e.line in
      last_spent result e.mid q e.between b some (running_goes Spent spent_is_kept r e.mid a e.between g (suits_lined p e.line a e.lines s) (in_line (λ (x : Pooled). Spent x a) p e.line e.lines (gathered_spent p a h) h) e.running) e.last
    where
      last_spent : (result : Result Polled PoolFault) (p q : Pooled) (a b : WireState) → result ≢ Err faults.OutOfMemory → Spent p a → Last result p q a b → Spent q b
      last_spent result p q a b some h (OfStart t) = starts_spent result p q a b some h t
      last_spent result p q a b some h (OfPoll t) = next_spent result p q a b some h t

  in_wait : (result : Result Stepped PoolFault) (p q : Pooled) (a b : WireState) → OpensGiven a → SuitsWire p a → Spent p a → EndsInWait result p q a b → Spent q b
  in_wait result p q a b g s h e =
      let r : Pooled = e.line in
      waits_spent result e.mid q e.between b (running_goes Spent spent_is_kept r e.mid a e.between g (suits_lined p e.line a e.lines s) (in_line (λ (x : Pooled). Spent x a) p e.line e.lines (gathered_spent p a h) h) e.running) e.waits

  breaks_spent : (fault : PoolFault) (p q : Pooled) (a b : WireState) → OpensGiven a → SuitsWire p a → ◌≢◌ {A = Result Stepped PoolFault} (Err fault) (Err faults.OutOfMemory) → Spent p a → EndsInFault fault p q a b → Spent q b
  breaks_spent fault p q a b g s some h (AtOnce e f i) = spent_as p q b f (subst (λ (x : WireState). Spent p x) (sym i) h)
  breaks_spent fault p q a b g s some h (InRun e) = ended_spent (Err fault) p q a b g s (polled_memory fault some) h e
  breaks_spent fault p q a b g s some h (InWait e) = in_wait (Err fault) p q a b g s h e

  spent_in : (p : Pooled) (a : WireState) → SpentSince since asked p a → Spent p a
  spent_in p a h = record { later = h.later; rises = h.rises; rose = h.rose; few = omega (arith, h.few, held_load p) }

  spent_out : (p : Pooled) (a : WireState) → Spent p a → SpentSince since asked p a
  spent_out p a h = record { later = h.later; rises = h.rises; rose = h.rose; few = omega (arith, h.few, held_load p) }

-- ---- the laws

pub empty_spent : EmptyPoolsSpend
empty_spent links retries budget limit wire = record { later = omega arith; rises = 0; rose = omega arith; few = omega arith }

pub put_spent : PutsSpend
put_spent since asked ticket address pool wire h =
    let w : Waiting = record { ticket = ticket; address = address; failed = 0 } in
    let new : Pooled = record pool { waiting = pool.waiting ++ (record { ticket = ticket; address = address; failed = 0 }) ∷ [] } in
    let s = spent_in since asked pool wire h in
    spent_out since (asked + 1) new wire (record { later = s.later; rises = s.rises; rose = s.rose; few = omega (arith, s.few, length-append pool.waiting (w ∷ [])) })

pub fault_spent : FaultsSpend
fault_spent since asked pool wire h = record { later = h.later; rises = h.rises; rose = h.rose; few = h.few }

pub step_spent : StepsSpend
step_spent since asked (Ok Idle) old new wire wire' given suits some h to = subst (λ (q : Pooled). SpentSince since asked q wire') (sym to.1) (subst (λ (b : WireState). SpentSince since asked old b) (sym to.2) h)
step_spent since asked (Ok (Came ticket address answer)) old new wire wire' given suits some h to =
    spent_out since asked new wire' (ended_spent since asked (Ok (polls.Came ticket address answer)) old new wire wire' given suits (came_memory ticket address answer) (spent_in since asked old wire h) to)
step_spent since asked (Ok Waited) old new wire wire' given suits some h to = spent_out since asked new wire' (in_wait since asked (Ok Waited) old new wire wire' given suits (spent_in since asked old wire h) to)
step_spent since asked (Err fault) old new wire wire' given suits some h to = spent_out since asked new wire' (breaks_spent since asked fault old new wire wire' given suits some (spent_in since asked old wire h) to)
