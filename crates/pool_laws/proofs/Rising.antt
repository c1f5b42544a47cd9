-- Each failure of an ask is a rise of the wire's faults.
use Rattle.std.proofs.Common.{ℕ, ◌≡◌, ◌+◌, ◌<◌, ◌≤◌, ◌⊎◌, inl, inr, ◌++◌, List, [], ◌∷◌, map, length, length-append, Option, true, false, Result, Ok, Err, refl, sym, ◌∙◌, ap, ap₂, subst, arith}
use Rattle.std.specs.Prelude.{◌^◌, IfErr, Option, Some}
use Rattle.std.specs.List.{AllByRecursion}
use Rattle.tpf_base.specs.Addresses.{Address}
use Rattle.tpf_base.specs.Causes.{Rose, RoseBy}
use Rattle.tpf_base.specs.HttpReply as reply
use Rattle.tpf_base.specs.HttpReply.{reply_of}
use Rattle.tpf_base.specs.Links.{Nature, WireState, OpensGiven, told_by, is_short, some_left}
use Rattle.tpf_base.specs.declared.wire.TheConstants.{MOST_IDLE}
use Rattle.tpf_base.specs.declared.fault.Fault.TheVariants as wires
use Rattle.http_wire.specs.declared.message.Reply.{Reply}
use Rattle.rdf_terms.specs.declared.term.Triple.{Triple}
use Rattle.template_fill.specs.Metadata.{Config}
use Rattle.template_fill.specs.Authorities.{AuthoritiesAreHostsAndPorts}
use Rattle.exchange.specs.Exchanges.{left_link}
use Rattle.exchange.specs.declared.fault.ExchangeFault.{ExchangeFault}
use Rattle.exchange.specs.declared.fault.ExchangeFault.TheVariants as exchanges
use Rattle.request_pool.specs.declared.asks.Waiting.{Waiting}
use Rattle.request_pool.specs.declared.asks.Flight.{Flight}
use Rattle.request_pool.specs.declared.fault.Polled.{Polled}
use Rattle.request_pool.specs.declared.fault.Polled.TheVariants as polls
use Rattle.request_pool.specs.declared.fault.PoolFault.{PoolFault}
use Rattle.request_pool.specs.declared.fault.PoolFault.TheVariants as faults
use Rattle.request_pool.specs.declared.fault.Stepped.{Stepped}
use Rattle.request_pool.specs.declared.fault.Stepped.TheVariants.{Came, Waited, Idle}
use Rattle.request_pool.specs.Pools.{Pooled, Ask, ask_waiting, ask_flying, held, in_flight}
use Rattle.request_pool.specs.Owned.{SuitsWire, held_on}
use Rattle.request_pool.specs.Polls.{Settles, NoLink, Kept, Shut, Polls, IsFailure, FailsTo, FlightTo}
use Rattle.request_pool.specs.Runs.{Begins, Starts, Overruns, Flies, Starves, Last, OfStart, OfPoll}
use Rattle.request_pool.specs.Steps.{GivesUp, WaitsTo, Passes, Stalls, Misses, Lacks, EndsInWait, EndsInRun, EndsInFault, AtOnce, InRun, InWait, StepsTo}
use Rattle.request_pool.proofs.Owned.{linked_open}
use Rattle.request_pool.proofs.Suits.{Owns, owns_begun, owns_next, waits_suits}
use Rattle.request_pool.proofs.Risen.{fares_first, running_fares}
use Rattle.request_pool.proofs.Steps.{in_line, suits_lined}
use Rattle.request_pool.proofs.Bounds.{flight_bounds, starts_bounds}
use Rattle.list_laws.proofs.Each.{all_append, all_front, all_back, all_so, all_unmap}
use Rattle.pool_laws.specs.Following.{Follows, AnswersSoFar}
use Rattle.pool_laws.specs.Causes.{RepliedOn}
use Rattle.pool_laws.specs.Answers.{TellsAll}
use Rattle.pool_laws.specs.Rising.{IsServed, IsServedBySome, FailuresRose, EndsByRises, EmptyPoolsRose, PutsRose, FaultsRose, StepsRose, StepsRoseBySome}
use Rattle.pool_laws.proofs.Following.{begun, own_link}
use Rattle.pool_laws.proofs.KeptBySteps.{IsKept, IsKeptByTurns, running_keeps, last_keeps}
use Rattle.pool_laws.proofs.HeldLinks.{LinksKept, AsksAt, Owning, owning_is_kept}
use Rattle.pool_laws.proofs.HeldLinks as held_links
use Rattle.pool_laws.proofs.Running.{answers_are_kept}
use Rattle.pool_laws.proofs.Faults.{flight_faults, once_more, rose_later, same_fault, shut_faults}
use Rattle.pool_laws.proofs.Fresh.{polled_given}
use Rattle.pool_laws.proofs.Causes.{over_on, shut_idle}
use Rattle.pool_laws.specs.Ends.{EndsAreTrue}
use Rattle.pool_laws.proofs.Answers.{cut_short, owed_on}
use Rattle.pool_laws.proofs.Staying.{Stays, starts_stay, polls_stay, round_stays, gathers_stay, waits_stay, gives_up_stays}

-- ---- counts

as_often : (f g n m : ℕ) → g ≤ f → RoseBy f n m → RoseBy g n m
as_often f g n m h r = omega (arith, h, r)

none_rose : (n m : ℕ) → n ≤ m → RoseBy 0 n m
none_rose n m h = omega (arith, h)

rose_then : (n m l : ℕ) → Rose n m → m ≤ l → Rose n l
rose_then n m l r h = omega (arith, r, h)

-- ---- the asks

waiting_later : (n m l : ℕ) → m ≤ l → (ws : List Waiting) → AllByRecursion (λ w. RoseBy w.failed n m) ws → AllByRecursion (λ w. RoseBy w.failed n l) ws
waiting_later n m l h [] all = tt
waiting_later n m l h (w ∷ ws) all = (rose_later w.failed n m l h all.0, waiting_later n m l h ws all.1)

flying_later : (n m l : ℕ) → m ≤ l → (fs : List Flight) → AllByRecursion (λ f. RoseBy f.failed n m) fs → AllByRecursion (λ f. RoseBy f.failed n l) fs
flying_later n m l h [] all = tt
flying_later n m l h (f ∷ fs) all = (rose_later f.failed n m l h all.0, flying_later n m l h fs all.1)

-- the faults rose from one number to the other as often as each ask failed, and as all failed that were asked for, so many
record Rises (before asked now : ℕ) (p : Pooled) : Type 0 where
  later : before ≤ now
  waiting : AllByRecursion (λ w. RoseBy w.failed before now) p.waiting
  polled : AllByRecursion (λ f. RoseBy f.failed before now) p.polled
  due : AllByRecursion (λ f. RoseBy f.failed before now) p.due
  failures : ℕ
  all : RoseBy failures before now
  few : p.started + length p.waiting ≤ asked + failures

rises_in : (before asked : ℕ) (p : Pooled) (a : WireState) → FailuresRose before asked p a → Rises before asked a.faults p
rises_in before asked p a h = record {
  later = h.later;
  waiting = h.waiting;
  polled = all_front (λ (f : Flight). RoseBy f.failed before a.faults) p.polled p.due h.flying;
  due = all_back (λ (f : Flight). RoseBy f.failed before a.faults) p.polled p.due h.flying;
  failures = h.failures;
  all = h.all;
  few = h.few;
}

rises_out : (before asked : ℕ) (p : Pooled) (a : WireState) → Rises before asked a.faults p → FailuresRose before asked p a
rises_out before asked p a h = record {
  later = h.later;
  waiting = h.waiting;
  flying = all_append (λ (f : Flight). RoseBy f.failed before a.faults) p.polled p.due h.polled h.due;
  failures = h.failures;
  all = h.all;
  few = h.few;
}

rises_as : (n k m : ℕ) (p q : Pooled) → q ≡ p → Rises n k m p → Rises n k m q
rises_as n k m p q e h = subst (Rises n k m) (sym e) h

rises_later : (n k m l : ℕ) (p : Pooled) → m ≤ l → Rises n k m p → Rises n k l p
rises_later n k m l p i h = record {
  later = omega (arith, h.later, i);
  waiting = waiting_later n m l i p.waiting h.waiting;
  polled = flying_later n m l i p.polled h.polled;
  due = flying_later n m l i p.due h.due;
  failures = h.failures;
  all = rose_later h.failures n m l i h.all;
  few = h.few;
}

gathered_rises : (n k m : ℕ) (p : Pooled) → Rises n k m p → Rises n k m (record p { polled = in_flight p; due = [] })
gathered_rises n k m p h = record {
  later = h.later;
  waiting = h.waiting;
  polled = all_append (λ (f : Flight). RoseBy f.failed n m) p.polled p.due h.polled h.due;
  due = tt;
  failures = h.failures;
  all = h.all;
  few = h.few;
}

round_rises : (n k m : ℕ) (p : Pooled) → Rises n k m p → Rises n k m (record p { polled = []; due = p.polled ++ p.due })
round_rises n k m p h = record {
  later = h.later;
  waiting = h.waiting;
  polled = tt;
  due = all_append (λ (f : Flight). RoseBy f.failed n m) p.polled p.due h.polled h.due;
  failures = h.failures;
  all = h.all;
  few = h.few;
}

-- an ask that was taken out, and the others
record Apart (n k m failed : ℕ) (q : Pooled) : Type 0 where
  own : RoseBy failed n m
  others : Rises n k m q

begun_rises : (n k m : ℕ) (p q : Pooled) (f : Flight) → Rises n k m p → Begins p q f → Apart n k m f.failed q
begun_rises n k m p q f h b =
    let w = subst (λ (l : List Waiting). AllByRecursion (λ x. RoseBy x.failed n m) l) b.is_first h.waiting in
    subst (λ (x : Pooled). Apart n k m f.failed x) (sym b.is_new)
    (subst (λ (x : Flight). Apart n k m x.failed (record p { waiting = b.rest; spare = b.spare; started = p.started + 1 })) (sym b.flight)
    (record {
      own = w.0;
      others = record {
        later = h.later;
        waiting = w.1;
        polled = h.polled;
        due = h.due;
        failures = h.failures;
        all = h.all;
        few = omega (arith, ap (λ (l : List Waiting). length l) b.is_first, h.few);
      };
    }))

next_rises : (n k m : ℕ) (p : Pooled) (f : Flight) (rest : List Flight) → Rises n k m p → p.due ≡ f ∷ rest → Apart n k m f.failed (record p { due = rest })
next_rises n k m p f rest h e =
    let d = subst (λ (l : List Flight). AllByRecursion (λ x. RoseBy x.failed n m) l) e h.due in
    record { own = d.0; others = record { later = h.later; waiting = h.waiting; polled = h.polled; due = d.1; failures = h.failures; all = h.all; few = h.few } }

oldest_rises : (n k m : ℕ) (p : Pooled) (f : Flight) (rest : List Flight) → Rises n k m p → in_flight p ≡ f ∷ rest → Apart n k m f.failed (record p { polled = rest; due = [] })
oldest_rises n k m p f rest h e =
    let flying = subst (λ (l : List Flight). AllByRecursion (λ x. RoseBy x.failed n m) l) e (all_append (λ (x : Flight). RoseBy x.failed n m) p.polled p.due h.polled h.due) in
    record { own = flying.0; others = record { later = h.later; waiting = h.waiting; polled = flying.1; due = tt; failures = h.failures; all = h.all; few = h.few } }

settle_rises : (o : Option ℕ) (address : Address) (n k m : ℕ) (p q : Pooled) (a b : WireState) → Settles o address p q a b → Rises n k m p → Rises n k m q
settle_rises o address n k m p q a b (NoLink e f g) h = rises_as n k m p q f h
settle_rises o address n k m p q a b (Kept i e room f g) h = rises_as n k m _ q f (record { later = h.later; waiting = h.waiting; polled = h.polled; due = h.due; failures = h.failures; all = h.all; few = h.few })
settle_rises o address n k m p q a b (Shut i e full f c) h = rises_as n k m p q f h

-- an ask that failed once more waits before all others
failed_again : (n k m l : ℕ) (w : Waiting) (p : Pooled) (failed : ℕ) → w.failed ≡ failed + 1 → m ≤ l → Rose m l → Apart n k m failed p → Rises n k l (record p { waiting = w ∷ p.waiting })
failed_again n k m l w p failed e up rose h =
    let r = rises_later n k m l p up h.others in
    record {
      later = r.later;
      waiting = (subst (λ (x : ℕ). RoseBy x n l) (sym e) (once_more failed n m l h.own rose), r.waiting);
      polled = r.polled;
      due = r.due;
      failures = h.others.failures + 1;
      all = once_more h.others.failures n m l h.others.all rose;
      few = omega (arith, h.others.few);
    }

-- ---- links that were cut

module _ (allows : List ℕ → ℕ → List ℕ → List ℕ → Type 0) (limit before asked : ℕ) where
  abbrev Served : Address → Type 0
  Served address = IsServedBySome allows address

  -- a link that is not held, on which what was received at last is no whole reply
  record IsCutOff (times : ℕ → ℕ) (a : WireState) : Type 0 where
    address : Address
    served : Served address
    received : List ℕ
    on : RepliedOn limit address received a
    given : on.k < a.given
    none : times on.k ≡ 0
    more : reply_of received true limit ≡ reply.More

  -- a part of what is owed on each was not received
  abbrev AreShort : (ℕ → ℕ) → WireState → Type 0
  AreShort times a = (c : IsCutOff times a) → is_short (a.links c.on.k) ≡ true

  abbrev cut_later : (p q : Pooled) (a b : WireState) → Stays p q a b → IsCutOff (held_on p) a → IsCutOff (held_on q) b
  cut_later p q a b s c =
      let t = s.still c.on.k c.given c.none in
      record {
        address = c.address;
        served = c.served;
        received = c.received;
        on = record {
          k = c.on.k;
          is_address = c.on.is_address;
          peer = t.same.peer ∙ c.on.peer ∙ ap (λ (x : Nature). told_by x.tells (c.address.host, c.address.port)) (sym t.is_nature);
          before = c.on.before;
          replied = c.on.replied;
          sent_is = λ fact is. c.on.sent_is fact (sym t.same.sent ∙ is);
          received_is = λ fact is. c.on.received_is fact (sym t.same.received ∙ is);
        };
        given = t.given;
        none = t.none;
        more = c.more;
      }

  short_back : (p q : Pooled) (a b : WireState) → Stays p q a b → AreShort (held_on q) b → AreShort (held_on p) a
  short_back p q a b s h c =
      let t = s.still c.on.k c.given c.none in
      ap₂ some_left (sym t.same.received) (sym t.same.owed) ∙ h (cut_later p q a b s c)

  short_as : (p q : Pooled) (a : WireState) → q ≡ p → AreShort (held_on q) a → AreShort (held_on p) a
  short_as p q a e h = subst (λ (x : Pooled). AreShort (held_on x) a) e h

  -- ---- a poll that fails

  failure_rose : (why : ExchangeFault) (f : Flight) (p : Pooled) (a b : WireState) → OpensGiven a → Owns f p a → Follows limit a f.exchange → Served f.exchange.address → (h : Polls (Some (Err why)) f a b)
      → IsFailure why → AreShort (held_on p) b → Rose a.faults b.faults
  failure_rose exchanges.Failed f p a b g o s served h is short = h.answers.rose
  failure_rose (exchanges.Cut received) f p a b g o s served h is short =
      let e = h.answers.ends in
      h.answers.short (short (record {
        address = f.exchange.address;
        served = served;
        received = received;
        on = over_on limit f a b s (Some (Err (exchanges.Cut received))) h received e;
        given = polled_given f.exchange.address f.exchange.link h.now.link a b h.touches.link g (linked_open f.exchange.link (held_on p) a o.owned) e.k e.link;
        none = own_link (Some (Err (exchanges.Cut received))) f p a b g o h e.k e.link;
        more = ap (λ (n : ℕ). reply_of received true n) (sym (h.touches.limit ∙ s.is_limit)) ∙ h.answers.more;
      }))
  failure_rose (exchanges.Bad fault received) f p a b g o s served h is short = absurd is
  failure_rose exchanges.OutOfMemory f p a b g o s served h is short = absurd is

  flight_rises : (result : Result Polled PoolFault) (f : Flight) (p q : Pooled) (a b : WireState) → OpensGiven a → Owns f p a → Follows limit a f.exchange → Served f.exchange.address
      → AreShort (held_on q) b → Apart before asked a.faults f.failed p → FlightTo result f p q a b → Rises before asked b.faults q
  flight_rises (Ok polls.Pending) f p q a b g o s served short h t =
      let r = rises_later before asked a.faults b.faults p t.0.touches.later h.others in
      rises_as before asked b.faults _ q t.1 (record {
        later = r.later;
        waiting = r.waiting;
        polled = all_append (λ (x : Flight). RoseBy x.failed before b.faults) p.polled ((record f { exchange = t.0.now }) ∷ []) r.polled (rose_later f.failed before a.faults b.faults t.0.touches.later h.own, tt);
        due = r.due;
        failures = r.failures;
        all = r.all;
        few = r.few;
      })
  flight_rises (Ok (polls.Came ticket address answer)) f p q a b g o s served short h t =
      settle_rises (left_link t.1.now) t.1.now.address before asked b.faults p q t.0 b t.3 (rises_later before asked a.faults b.faults p (flight_faults (Ok (polls.Came ticket address answer)) f p q a b t) h.others)
  flight_rises (Ok polls.Failed) f p q a b g o s served short h t =
      let rose = failure_rose t.0 f p a b g o s served t.1 t.2 (short_as (record p { waiting = _ ∷ p.waiting }) q b t.4 short) in
      rises_as before asked b.faults _ q t.4 (failed_again before asked a.faults b.faults _ p f.failed refl t.1.touches.later rose h)
  flight_rises (Err faults.Exchange) f p q a b g o s served short h t = rises_as before asked b.faults p q t.2 (rises_later before asked a.faults b.faults p (flight_faults (Err faults.Exchange) f p q a b t) h.others)
  flight_rises (Err (faults.Cut received)) f p q a b g o s served short h t = rises_as before asked b.faults p q t.2 (rises_later before asked a.faults b.faults p (flight_faults (Err (faults.Cut received)) f p q a b t) h.others)
  flight_rises (Err (faults.Reply fault received)) f p q a b g o s served short h t = rises_as before asked b.faults p q t.1 (rises_later before asked a.faults b.faults p (flight_faults (Err (faults.Reply fault received)) f p q a b t) h.others)
  flight_rises (Err faults.OutOfMemory) f p q a b g o s served short h t = rises_as before asked b.faults p q t.3 (rises_later before asked a.faults b.faults p (flight_faults (Err faults.OutOfMemory) f p q a b t) h.others)
  flight_rises (Err faults.Stalled) f p q a b g o s served short h t = absurd t
  flight_rises (Err faults.Budget) f p q a b g o s served short h t = absurd t

  -- a poll that fails once too often
  flight_ends : (fault : PoolFault) (f : Flight) (p q : Pooled) (a b : WireState) → OpensGiven a → Owns f p a → Follows limit a f.exchange → Served f.exchange.address
      → AreShort (held_on q) b → Apart before asked a.faults f.failed p → FlightTo (Err fault) f p q a b → EndsByRises fault (p.retries + 1) before b.faults
  flight_ends faults.Exchange f p q a b g o s served short h t =
      as_often (f.failed + 1) (p.retries + 1) before b.faults (omega (arith, t.1)) (once_more f.failed before a.faults b.faults h.own t.0.answers.rose)
  flight_ends (faults.Cut received) f p q a b g o s served short h t =
      as_often (f.failed + 1) (p.retries + 1) before b.faults (omega (arith, t.1))
      (once_more f.failed before a.faults b.faults h.own (failure_rose (exchanges.Cut received) f p a b g o s served t.0 tt (short_as p q b t.2 short)))
  flight_ends (faults.Reply fault received) f p q a b g o s served short h t = tt
  flight_ends faults.Budget f p q a b g o s served short h t = tt
  flight_ends faults.OutOfMemory f p q a b g o s served short h t = tt
  flight_ends faults.Stalled f p q a b g o s served short h t = absurd t

  -- ---- a run

  module _ (one : AuthoritiesAreHostsAndPorts) (retries : ℕ) where
    -- what holds of a pool between two turns
    record Rising (p : Pooled) (a : WireState) : Type 0 where
      is_limit : p.limit ≡ limit
      is_retries : p.retries ≡ retries
      follows : AnswersSoFar p a
      served : Owning Served (λ times x. Unit {0}) p a
      rises : AreShort (held_on p) a → Rises before asked a.faults p

    any_kept : LinksKept Served (λ times x. Unit {0})
    any_kept = record {
      same = λ was is a same h. tt;
      poll = λ e f rest a b s t h. tt;
      drop = λ o rest a closed h. tt;
      shut = λ o rest a b s h. tt;
      woken = λ times a b given nature same h. tt;
    }

    served_kept : IsKept (Owning Served (λ times x. Unit {0}))
    served_kept = owning_is_kept Served (λ times x. Unit {0}) any_kept

    -- an exchange that was taken out
    record Out (f : Flight) (p : Pooled) (a : WireState) : Type 0 where
      owns : Owns f p a
      follows : Follows limit a f.exchange
      served : Served f.exchange.address
      apart : Apart before asked a.faults f.failed p

    begun_out : (p q : Pooled) (f : Flight) (a : WireState) → SuitsWire p a → Rising p a → Rises before asked a.faults p → Begins p q f → Out f q a
    begun_out p q f a s h r b = record {
      owns = owns_begun p q f a s b;
      follows = subst (λ (n : ℕ). Follows n a f.exchange) (ap (λ (x : Pooled). x.limit) b.is_new ∙ h.is_limit) (begun one p q f a h.follows b).follows;
      served = (held_links.begun Served (λ times x. Unit {0}) any_kept p q f a h.served b).at;
      apart = begun_rises before asked a.faults p q f r b;
    }

    next_out : (p : Pooled) (f : Flight) (rest : List Flight) (a : WireState) → SuitsWire p a → Rising p a → Rises before asked a.faults p → p.due ≡ f ∷ rest → Out f (record p { due = rest }) a
    next_out p f rest a s h r e =
        let d = subst (λ (l : List Flight). AllByRecursion (λ x. Follows p.limit a x.exchange) l) e h.follows.due in
        let w = subst (λ (l : List Flight). AllByRecursion (λ x. Served x.exchange.address) l) e h.served.asks.due in
        record {
          owns = owns_next p f rest a s e;
          follows = subst (λ (n : ℕ). Follows n a f.exchange) h.is_limit d.0;
          served = w.0;
          apart = next_rises before asked a.faults p f rest r e;
        }

    out_rises : (result : Result Polled PoolFault) (f : Flight) (p q : Pooled) (a b : WireState) → OpensGiven a → Out f p a → AreShort (held_on q) b → FlightTo result f p q a b → Rises before asked b.faults q
    out_rises result f p q a b g o short t = flight_rises result f p q a b g o.owns o.follows o.served short o.apart t

    starts_rise : (result : Result Polled PoolFault) (p q : Pooled) (a b : WireState) → OpensGiven a → SuitsWire p a → Rising p a → Rises before asked a.faults p → AreShort (held_on q) b
        → Starts result p q a b → Rises before asked b.faults q
    starts_rise result p q a b g s h r short (Overruns e budget f i) = rises_as before asked b.faults p q f (subst (λ (x : WireState). Rises before asked x.faults p) (sym i) r)
    starts_rise result p q a b g s h r short (Flies mid f budget begins to) = out_rises result f mid q a b g (begun_out p mid f a s h r begins) short to
    starts_rise result p q a b g s h r short (Starves e mid f begins is shuts) =
        let o = rises_later before asked a.faults b.faults mid (shut_faults f.exchange.link a b shuts) (begun_rises before asked a.faults p mid f r begins).others in
        rises_as before asked b.faults _ q is (record {
          later = o.later;
          waiting = o.waiting;
          polled = o.polled;
          due = o.due;
          failures = o.failures;
          all = o.all;
          few = fewer p.started mid.started (length mid.waiting) asked o.failures (ap (λ (x : Pooled). x.started) begins.is_new) o.few;
        })
      where
        fewer : (s m w k f : ℕ) → m ≡ s + 1 → m + w ≤ k + f → s + w ≤ k + f
        fewer s m w k f e h = omega (arith, e, h)

    rising_kept : IsKeptByTurns Rising
    rising_kept = record {
      starts = λ result p q a b g s h t. record {
        is_limit = ap (λ (x : Pooled). x.limit) (starts_bounds result p q a b t) ∙ h.is_limit;
        is_retries = ap (λ (x : Pooled). x.retries) (starts_bounds result p q a b t) ∙ h.is_retries;
        follows = (answers_are_kept one).starts result p q a b g s h.follows t;
        served = served_kept.starts result p q a b g s h.served t;
        rises = λ short. starts_rise result p q a b g s h (h.rises (short_back p q a b (starts_stay result p q a b g s t) short)) short t;
      };
      polls = λ result p q a b g s h n. record {
        is_limit = ap (λ (x : Pooled). x.limit) (flight_bounds result n.f (record p { due = n.rest }) q a b n.to) ∙ h.is_limit;
        is_retries = ap (λ (x : Pooled). x.retries) (flight_bounds result n.f (record p { due = n.rest }) q a b n.to) ∙ h.is_retries;
        follows = (answers_are_kept one).polls result p q a b g s h.follows n;
        served = served_kept.polls result p q a b g s h.served n;
        rises = λ short. out_rises result n.f (record p { due = n.rest }) q a b g (next_out p n.f n.rest a s h (h.rises (short_back p q a b (polls_stay result p q a b g s n) short)) n.is_next) short n.to;
      };
      rounds = λ p a h. record {
        is_limit = h.is_limit;
        is_retries = h.is_retries;
        follows = (answers_are_kept one).rounds p a h.follows;
        served = served_kept.rounds p a h.served;
        rises = λ short. round_rises before asked a.faults p (h.rises (short_back p (record p { polled = []; due = p.polled ++ p.due }) a a (round_stays p a) short));
      };
    }

    gathered_rising : (p : Pooled) (a : WireState) → Rising p a → Rising (record p { polled = in_flight p; due = [] }) a
    gathered_rising p a h = record {
      is_limit = h.is_limit;
      is_retries = h.is_retries;
      follows = (answers_are_kept one).gathers p a h.follows;
      served = served_kept.gathers p a h.served;
      rises = λ short. gathered_rises before asked a.faults p (h.rises (short_back p (record p { polled = in_flight p; due = [] }) a a (gathers_stay p a) short));
    }

    -- ---- the end of a run

    out_ends : (fault : PoolFault) (f : Flight) (p q : Pooled) (a b : WireState) → OpensGiven a → Out f p a → p.retries ≡ retries → AreShort (held_on q) b → FlightTo (Err fault) f p q a b → EndsByRises fault (retries + 1) before b.faults
    out_ends fault f p q a b g o e short t =
        subst (λ (n : ℕ). EndsByRises fault (n + 1) before b.faults) e (flight_ends fault f p q a b g o.owns o.follows o.served short o.apart t)

    other_ends : (fault other : PoolFault) (b : WireState) → fault ≡ other → EndsByRises other (retries + 1) before b.faults → EndsByRises fault (retries + 1) before b.faults
    other_ends fault other b e h = subst (λ (x : PoolFault). EndsByRises x (retries + 1) before b.faults) (sym e) h

    starts_end : (fault : PoolFault) (p q : Pooled) (a b : WireState) → OpensGiven a → SuitsWire p a → Rising p a → Rises before asked a.faults p → AreShort (held_on q) b → Starts (Err fault) p q a b
        → EndsByRises fault (retries + 1) before b.faults
    starts_end fault p q a b g s h r short (Overruns e budget f i) = other_ends fault faults.Budget b (same_fault fault faults.Budget e) tt
    starts_end fault p q a b g s h r short (Flies mid f budget begins to) =
        out_ends fault f mid q a b g (begun_out p mid f a s h r begins) (ap (λ (x : Pooled). x.retries) begins.is_new ∙ h.is_retries) short to
    starts_end fault p q a b g s h r short (Starves e mid f begins is shuts) = other_ends fault faults.OutOfMemory b (same_fault fault faults.OutOfMemory e) tt

    last_ends : (fault : PoolFault) (p q : Pooled) (a b : WireState) → OpensGiven a → SuitsWire p a → Rising p a → AreShort (held_on q) b → Last (Err fault) p q a b → EndsByRises fault (retries + 1) before b.faults
    last_ends fault p q a b g s h short (OfStart t) = starts_end fault p q a b g s h (h.rises (short_back p q a b (starts_stay (Err fault) p q a b g s t) short)) short t
    last_ends fault p q a b g s h short (OfPoll n) =
        out_ends fault n.f (record p { due = n.rest }) q a b g (next_out p n.f n.rest a s h (h.rises (short_back p q a b (polls_stay (Err fault) p q a b g s n) short)) n.is_next) h.is_retries short n.to

    -- ---- a wait

    -- what is so after a step
    record After (result : Result Stepped PoolFault) (q : Pooled) (b : WireState) : Type 0 where
      rises : Rises before asked b.faults q
      fault : IfErr result (λ fault. EndsByRises fault (retries + 1) before b.faults)

    fails_rise : (result : Result Stepped PoolFault) (f : Flight) (p q : Pooled) (n : ℕ) (b : WireState) → n ≤ b.faults → Rose n b.faults → Apart before asked n f.failed p → p.retries ≡ retries
        → FailsTo faults.Exchange result f p q → After result q b
    fails_rise (Ok done) f p q n b up rose h e t = record { rises = rises_as before asked b.faults _ q t.1 (failed_again before asked n b.faults _ p f.failed refl up rose h); fault = tt }
    fails_rise (Err shown) f p q n b up rose h e t = record { rises = rises_as before asked b.faults p q t.0 (rises_later before asked n b.faults p up h.others); fault = shown_ends t.1 }
      where
        shown_ends : (shown ≡ faults.OutOfMemory) ⊎ ((shown ≡ faults.Exchange) × (p.retries ≤ f.failed)) → EndsByRises shown (retries + 1) before b.faults
        shown_ends (inl x) = other_ends shown faults.OutOfMemory b x tt
        shown_ends (inr x) = other_ends shown faults.Exchange b x.0 (as_often (f.failed + 1) (retries + 1) before b.faults (omega (arith, x.1, e)) (once_more f.failed before n b.faults h.own rose))

    misses_rise : (result : Result Stepped PoolFault) (p q : Pooled) (a mid b : WireState) → Rises before asked a.faults p → p.retries ≡ retries → a.faults ≤ mid.faults → Rose a.faults mid.faults
        → GivesUp faults.Exchange result p q mid b → After result q b
    misses_rise result p q a mid b h e later rose u =
        let up = shut_faults u.f.exchange.link mid b u.shuts in
        fails_rise result u.f (record p { polled = u.rest; due = [] }) q a.faults b (omega (arith, later, up)) (rose_then a.faults mid.faults b.faults rose up)
        (oldest_rises before asked a.faults p u.f u.rest h u.is_oldest) e u.to

    kept_rises : (result : Result Stepped PoolFault) (p q : Pooled) (a b : WireState) → Rising p a → AreShort (held_on q) b → q ≡ p → Stays p p a b → a.faults ≤ b.faults
        → IfErr result (λ fault. EndsByRises fault (retries + 1) before b.faults) → After result q b
    kept_rises result p q a b h short e stays later fault =
        record { rises = rises_as before asked b.faults p q e (rises_later before asked a.faults b.faults p later (h.rises (short_back p p a b stays (short_as p q b e short)))); fault = fault }

    after_as : (result other : Result Stepped PoolFault) (q : Pooled) (b : WireState) → result ≡ other → After other q b → After result q b
    after_as result other q b e h = subst (λ (x : Result Stepped PoolFault). After x q b) (sym e) h

    waits_rise : (result : Result Stepped PoolFault) (p q : Pooled) (a b : WireState) → SuitsWire p a → Rising p a → AreShort (held_on q) b → b.idle < MOST_IDLE → WaitsTo result p q a b → After result q b
    waits_rise result p q a b s h short few (Passes ready e w i f) = after_as result (Ok Waited) q b e (kept_rises (Ok Waited) p q a b h short f (waits_stay (Ok ready) p a b s w) w.only.later tt)
    waits_rise result p q a b s h short few (Stalls ready mid w i u) = absurd (omega (arith, i, few, shut_idle u.f.exchange.link mid b u.shuts))
    waits_rise result p q a b s h short few (Misses mid w u) =
        let short_mid = short_back p q mid b (gives_up_stays faults.Exchange result p q mid b (waits_suits (Err wires.Failed) p a mid w s) u) short in
        misses_rise result p q a mid b (h.rises (short_back p p a mid (waits_stay (Err wires.Failed) p a mid s w) short_mid)) h.is_retries w.only.later (w.cause.failed refl) u
    waits_rise result p q a b s h short few (Lacks w e f) =
        after_as result (Err faults.OutOfMemory) q b e (kept_rises (Err faults.OutOfMemory) p q a b h short f (waits_stay (Err wires.OutOfMemory) p a b s w) w.only.later tt)

    -- ---- a step

    in_wait : (result : Result Stepped PoolFault) (p q : Pooled) (a b : WireState) → OpensGiven a → SuitsWire p a → Rising p a → AreShort (held_on q) b → b.idle < MOST_IDLE → EndsInWait result p q a b → After result q b
    in_wait result p q a b g s h short few e =
        let r : Pooled = e.line in
        let suits = suits_lined p e.line a e.lines s in
        let f = running_fares false a r e.mid a e.between (fares_first r a suits g) e.running in
        waits_rise result e.mid q e.between b f.suits (running_keeps Rising rising_kept r e.mid a e.between g suits (in_line (λ (x : Pooled). Rising x a) p e.line e.lines (gathered_rising p a h) h) e.running) short few e.waits

    in_came : (ticket : ℕ) (address : Address) (answer : Reply) (p q : Pooled) (a b : WireState) → OpensGiven a → SuitsWire p a → Rising p a → AreShort (held_on q) b
        → EndsInRun (Ok (polls.Came ticket address answer)) p q a b → After (Ok (Came ticket address answer)) q b
    in_came ticket address answer p q a b g s h short e =
        let r : Pooled = e.line in
        let suits = suits_lined p e.line a e.lines s in
        let f = running_fares false a r e.mid a e.between (fares_first r a suits g) e.running in
        let mid = running_keeps Rising rising_kept r e.mid a e.between g suits (in_line (λ (x : Pooled). Rising x a) p e.line e.lines (gathered_rising p a h) h) e.running in
        record { rises = (last_keeps Rising rising_kept (Ok (polls.Came ticket address answer)) e.mid q e.between b f.given f.suits mid e.last).rises short; fault = tt }

    in_run : (fault : PoolFault) (p q : Pooled) (a b : WireState) → OpensGiven a → SuitsWire p a → Rising p a → AreShort (held_on q) b
        → EndsInRun (Err fault) p q a b → After (Err fault) q b
    in_run fault p q a b g s h short e =
        let r : Pooled = e.line in
        let suits = suits_lined p e.line a e.lines s in
        let f = running_fares false a r e.mid a e.between (fares_first r a suits g) e.running in
        let mid = running_keeps Rising rising_kept r e.mid a e.between g suits (in_line (λ (x : Pooled). Rising x a) p e.line e.lines (gathered_rising p a h) h) e.running in
        record {
          rises = (last_keeps Rising rising_kept (Err fault) e.mid q e.between b f.given f.suits mid e.last).rises short;
          fault = last_ends fault e.mid q e.between b f.given f.suits mid short e.last;
        }

    breaks_rise : (fault : PoolFault) (p q : Pooled) (a b : WireState) → OpensGiven a → SuitsWire p a → Rising p a → AreShort (held_on q) b → b.idle < MOST_IDLE → EndsInFault fault p q a b → After (Err fault) q b
    breaks_rise fault p q a b g s h short few (AtOnce e f i) = record {
      rises = rises_as before asked b.faults p q f (subst (λ (x : WireState). Rises before asked x.faults p) (sym i) (h.rises (short_as p q a f (subst (λ (x : WireState). AreShort (held_on q) x) i short))));
      fault = other_ends fault faults.OutOfMemory b e tt;
    }
    breaks_rise fault p q a b g s h short few (InRun e) = in_run fault p q a b g s h short e
    breaks_rise fault p q a b g s h short few (InWait e) = in_wait (Err fault) p q a b g s h short few e

    step_after : (result : Result Stepped PoolFault) (p q : Pooled) (a b : WireState) → OpensGiven a → SuitsWire p a → Rising p a → AreShort (held_on q) b → b.idle < MOST_IDLE → StepsTo result p q a b → After result q b
    step_after (Ok Idle) p q a b g s h short few t =
        record { rises = rises_as before asked b.faults p q t.1 (subst (λ (x : WireState). Rises before asked x.faults p) (sym t.2) (h.rises (short_as p q a t.1 (subst (λ (x : WireState). AreShort (held_on q) x) t.2 short)))); fault = tt }
    step_after (Ok (Came ticket address answer)) p q a b g s h short few t = in_came ticket address answer p q a b g s h short t
    step_after (Ok Waited) p q a b g s h short few t = in_wait (Ok Waited) p q a b g s h short few t
    step_after (Err fault) p q a b g s h short few t = breaks_rise fault p q a b g s h short few t

  -- ---- the ends of the links

  served_in : (p : Pooled) → AllByRecursion (λ ask. Served ask.address) (held p) → AsksAt Served p
  served_in p all =
      let flying = all_unmap ask_flying (λ (ask : Ask). Served ask.address) (in_flight p) (all_back (λ (ask : Ask). Served ask.address) (map ask_waiting p.waiting) (map ask_flying (in_flight p)) all) in
      record {
        waiting = all_unmap ask_waiting (λ (ask : Ask). Served ask.address) p.waiting (all_front (λ (ask : Ask). Served ask.address) (map ask_waiting p.waiting) (map ask_flying (in_flight p)) all);
        polled = all_front (λ (f : Flight). Served f.exchange.address) p.polled p.due flying;
        due = all_back (λ (f : Flight). Served f.exchange.address) p.polled p.due flying;
      }

  all_short : EndsAreTrue → (times : ℕ → ℕ) (after : WireState) → limit < 2 ^ 64 → TellsAll allows after → AreShort times after
  all_short laws times after small tells c =
      cut_short laws c.served.history c.served.config limit c.address c.received c.on.is_address true small c.on.before _ _ c.on.replied
      (owed_on allows c.served.history c.served.config limit c.address c.received after c.on tells c.served.honest) c.more

-- ---- the laws

pub empty_rose : EmptyPoolsRose
empty_rose before links retries budget limit wire h = record { later = h; waiting = tt; flying = tt; failures = 0; all = none_rose before wire.faults h; few = omega arith }

pub put_rose : PutsRose
put_rose before asked ticket address pool wire h = record {
  later = h.later;
  waiting = all_append (λ (w : Waiting). RoseBy w.failed before wire.faults) pool.waiting ((record { ticket = ticket; address = address; failed = 0 }) ∷ []) h.waiting (none_rose before wire.faults h.later, tt);
  flying = h.flying;
  failures = h.failures;
  all = h.all;
  few = omega (arith, h.few, length-append pool.waiting ((record { ticket = ticket; address = address; failed = 0 }) ∷ []));
}

pub fault_rose : FaultsRose
fault_rose before asked pool wire h = record { later = h.later; waiting = h.waiting; flying = h.flying; failures = h.failures; all = h.all; few = h.few }

pub steps_rose_by_some : EndsAreTrue → AuthoritiesAreHostsAndPorts → (allows : List ℕ → ℕ → List ℕ → List ℕ → Type 0) (after : WireState) → StepsRoseBySome allows after
steps_rose_by_some laws one allows after before asked result old new wire given suits so_far small tells few served h to =
    let start : Rising allows old.limit before asked one old.retries old wire = record {
      is_limit = refl;
      is_retries = refl;
      follows = so_far;
      served = record { asks = served_in allows old.limit before asked old served; known = tt };
      rises = λ short. rises_in before asked old wire h;
    } in
    let a = step_after allows old.limit before asked one old.retries result old new wire after given suits start (all_short allows old.limit before asked laws (held_on new) after small tells) few to in
    record { failures = rises_out before asked new after a.rises; fault = a.fault }

-- one server is some server
pub by_some : (allows : List ℕ → ℕ → List ℕ → List ℕ → Type 0) (history : List (List Triple)) (config : Config) (address : Address) → IsServed allows history config address → IsServedBySome allows address
by_some allows history config address h = record { history = history; config = config; honest = h.honest }

pub steps_rose : EndsAreTrue → AuthoritiesAreHostsAndPorts → (allows : List ℕ → ℕ → List ℕ → List ℕ → Type 0) (after : WireState) → StepsRose allows after
steps_rose laws one allows after history config before asked result old new wire given suits so_far small tells few served h to =
    steps_rose_by_some laws one allows after before asked result old new wire given suits so_far small tells few
    (all_so (λ (ask : Ask). IsServed allows history config ask.address) (λ (ask : Ask). IsServedBySome allows ask.address) (λ ask. by_some allows history config ask.address) (held old) served) h to
