-- Where a reply was read, and why a step ends with a fault.
use Rattle.std.proofs.Common.{ℕ, ◌≡◌, ◌+◌, ◌≤◌, ◌⊎◌, inl, inr, ◌++◌, List, ◌∷◌, map, Option, Some, None, true, false, Result, Ok, Err, refl, sym, ◌∙◌, ap, subst, arith}
use Rattle.std.specs.List.{AllByRecursion}
use Rattle.std.specs.List.Sorted.{IsPermutation}
use Rattle.std.proofs.lemmas.List.Sorted.{IsPermutation-refl, IsPermutation-trans}
use Rattle.tpf_base.specs.Addresses.{Address}
use Rattle.tpf_base.specs.Causes.{Rose}
use Rattle.tpf_base.specs.HttpReply.{reply_of}
use Rattle.tpf_base.specs.Links.{Nature, WireState, OpensGiven, told_by}
use Rattle.tpf_base.specs.declared.wire.TheConstants.{MOST_IDLE}
use Rattle.http_wire.specs.declared.message.Reply.{Reply}
use Rattle.template_fill.specs.Authorities.{AuthoritiesAreHostsAndPorts}
use Rattle.tpf_base.specs.Sending.{Holds}
use Rattle.http_ends.specs.Requests.{request_for}
use Rattle.http_ends.specs.Cuts.{bytes_of, sent_of, received_of}
use Rattle.exchange.specs.Exchanges.{IsLinked, request_of, left_link}
use Rattle.exchange.specs.Polls.{Ends}
use Rattle.exchange.specs.declared.fault.ExchangeFault.{ExchangeFault}
use Rattle.exchange.specs.declared.fault.ExchangeFault.TheVariants as exchanges
use Rattle.request_pool.specs.declared.asks.Flight.{Flight}
use Rattle.request_pool.specs.declared.fault.PoolFault.{PoolFault}
use Rattle.request_pool.specs.declared.fault.PoolFault.TheVariants as faults
use Rattle.request_pool.specs.declared.fault.Stepped.{Stepped}
use Rattle.request_pool.specs.declared.fault.Stepped.TheVariants.{Came}
use Rattle.request_pool.specs.Pools.{Pooled, Ask, IsOverBudget, ask_waiting, ask_flying, held}
use Rattle.request_pool.specs.Owned.{SuitsWire, on_link, held_on}
use Rattle.request_pool.specs.Polls.{Shuts, Polls, FailsTo, FlightTo}
use Rattle.request_pool.specs.Runs.{Starts, Overruns, Flies, Starves, PollsNext, Last, OfStart, OfPoll}
use Rattle.request_pool.specs.Steps.{WaitsTo, Passes, Stalls, Misses, Lacks, EndsInWait, EndsInRun, EndsInFault, AtOnce, InRun, InWait}
use Rattle.request_pool.proofs.Holding.{held_with, held_out, lined_held, running_holds, begun_holds}
use Rattle.request_pool.proofs.Steps.{suits_lined}
use Rattle.request_pool.proofs.Owned.{linked_open}
use Rattle.request_pool.proofs.Suits.{owns_begun, owns_next}
use Rattle.request_pool.proofs.Risen.{fares_first, running_fares}
use Rattle.request_pool.proofs.Bounds.{step_bounds}
use Rattle.tpf_base.proofs.SendingLemmas.{holds_same, rose_on}
use Rattle.pool_laws.specs.Following.{IsReplied, HasPeer, Follows, AnswersSoFar}
use Rattle.pool_laws.specs.Causes.{HoldsNoneBelow, RepliedOn, RepliesAreRead, IsCauseOf, FaultsHaveCauses}
use Rattle.pool_laws.proofs.Following.{begun, polled_peer, request_is, holds_is}
use Rattle.pool_laws.proofs.KeptBySteps.{by_line, by_running}
use Rattle.pool_laws.proofs.Running.{answers_are_kept}
use Rattle.pool_laws.proofs.Faults.{faults_are_kept, same_fault, shut_faults}
use Rattle.pool_laws.proofs.Fresh.{NoneBelow, Below, below_in, below_is_kept, begun_below, next_below, polled_above, polled_given}
use Rattle.pool_laws.proofs.Came.{step_came}
use Rattle.pool_laws.proofs.Settled.{settles_whole, settles_given, settles_nature}

-- ---- a reply

pub same_request : (x : Option (List ℕ)) (s : List ℕ) (address other : Address) → other ≡ address → Holds x (s ++ request_of other) → Holds x (s ++ request_for address)
same_request x s address other e h = holds_is x (s ++ request_of other) (s ++ request_for address) (ap (λ (t : List ℕ). s ++ t) (sym (ap request_of e ∙ request_is address))) h

told_nature : (a b : WireState) (peer : List ℕ × ℕ) → b.nature ≡ a.nature → told_by a.nature.tells peer ≡ told_by b.nature.tells peer
told_nature a b peer e = ap (λ (x : Nature). told_by x.tells peer) (sym e)

pub replies_are_read : AuthoritiesAreHostsAndPorts → RepliesAreRead
replies_are_read one ticket address answer old new before after given suits so_far steps =
    let c = step_came one ticket address answer old new before after given suits so_far steps in
    let r = c.poll.answers in
    let t = c.poll.touches in
    let same = settles_whole (left_link c.poll.now) c.poll.now.address c.old c.new c.to after c.settles r.k in
    let nature = settles_nature (left_link c.poll.now) c.poll.now.address c.old c.new c.to after c.settles in
    let limit : c.poll.now.limit ≡ old.limit = t.limit ∙ c.follows.is_limit ∙ ap (λ (x : Pooled). x.limit) (step_bounds (Ok (Came ticket address answer)) old new before after steps) in
    let peer : HasPeer c.f.exchange.address (Some r.k) c.to =
    subst (λ (x : Address). HasPeer x (Some r.k) c.to) t.address (subst (λ (o : Option ℕ). HasPeer c.poll.now.address o c.to) r.link (polled_peer c.f.exchange c.poll.now c.from c.to t c.follows.peer)) in
    record {
      hands = record { ask = ask_flying c.f; is_ticket = c.is_ticket; is_address = c.is_address; others = c.others };
      received = r.received;
      on = record {
        k = r.k;
        is_address = c.follows.is_address;
        peer = same.peer ∙ peer ∙ told_nature c.to after (c.f.exchange.address.host, c.f.exchange.address.port) nature;
        before = c.follows.before;
        replied = subst (λ (n : ℕ). AllByRecursion (IsReplied n) c.follows.before) (ap (λ (x : Pooled). x.limit) (step_bounds (Ok (Came ticket address answer)) old new before after steps)) c.follows.replied;
        sent_is = holds_same (c.to.links r.k).sent (after.links r.k).sent (bytes_of (sent_of c.follows.before) ++ request_for c.f.exchange.address) same.sent
            (same_request (c.to.links r.k).sent (bytes_of (sent_of c.follows.before)) c.f.exchange.address c.poll.now.address t.address (r.sent_is _ _ c.follows.stands));
        received_is = holds_same (c.to.links r.k).received (after.links r.k).received (received_of c.follows.before ++ r.received) same.received (r.received_is _ _ c.follows.stands);
      };
      given = omega (arith, c.given r.k r.link, settles_given (left_link c.poll.now) c.poll.now.address c.old c.new c.to after c.settles);
      fresh = λ n h. polled_above n c.f.exchange c.poll.now (held_on c.old) c.from c.to r.k c.poll.touches r.link (c.fresh n h);
      n = r.n;
      at_end = r.at_end;
      whole = ap (λ (l : ℕ). reply_of r.received r.at_end l) (sym limit) ∙ r.whole;
      ended = λ e. (holds_same (c.to.links r.k).ended (after.links r.k).ended true same.ended (r.ended e).0, (r.ended e).1);
    }

-- ---- the end of a run with a fault

-- an exchange that was taken out, and the poll that ended the run
record Flown (start : ℕ → Type 0) (fault : PoolFault) (was : List Ask) (q : Pooled) (n : ℕ) (b : WireState) : Type 0 where
  f : Flight
  p : Pooled
  from : WireState
  follows : Follows p.limit from f.exchange
  given : OpensGiven from
  linked : IsLinked f.exchange.link from
  to : FlightTo (Err fault) f p q from b
  others : IsPermutation was (held_with f p)
  later : n ≤ from.faults
  fresh : (i : ℕ) → start i → NoneBelow i (λ k. on_link f.exchange.link k + held_on p k) from

data FaultBy (start : ℕ → Type 0) (fault : PoolFault) (was : List Ask) (q : Pooled) (n : ℕ) (b : WireState) : Type 0 where
  ByBudget : fault ≡ faults.Budget → IsOverBudget q → FaultBy start fault was q n b
  ByMemory : fault ≡ faults.OutOfMemory → FaultBy start fault was q n b
  ByFlight : Flown start fault was q n b → FaultBy start fault was q n b
  ByStall : (fault ≡ faults.OutOfMemory) ⊎ (fault ≡ faults.Stalled) → MOST_IDLE ≤ b.idle → FaultBy start fault was q n b
  ByWait : (fault ≡ faults.OutOfMemory) ⊎ (fault ≡ faults.Exchange) → Rose n b.faults → FaultBy start fault was q n b

pub shut_idle : (o : Option ℕ) (a b : WireState) → Shuts o a b → b.idle ≡ a.idle
shut_idle None a b s = ap (λ (w : WireState). w.idle) s
shut_idle (Some i) a b c = c.idle

module _ (one : AuthoritiesAreHostsAndPorts) where
  starts_by : (fault : PoolFault) (p q : Pooled) (n : ℕ) (a b : WireState) → OpensGiven a → SuitsWire p a → AnswersSoFar p a → n ≤ a.faults → Starts (Err fault) p q a b → FaultBy (λ i. Below i p a) fault (held p) q n b
  starts_by fault p q n a b g s h l (Overruns e budget f i) = ByBudget (same_fault fault faults.Budget e) budget
  starts_by fault p q n a b g s h l (Flies mid f budget begins to) =
      ByFlight (record { f = f; p = mid; from = a; follows = (begun one p mid f a h begins).follows; given = g; linked = linked_open f.exchange.link (held_on mid) a (owns_begun p mid f a s begins).owned; to = to; others = begun_holds p mid f begins; later = l; fresh = λ i y. begun_below i p mid f a y begins })
  starts_by fault p q n a b g s h l (Starves e mid f begins is shuts) = ByMemory (same_fault fault faults.OutOfMemory e)

  next_by : (fault : PoolFault) (p q : Pooled) (n : ℕ) (a b : WireState) → OpensGiven a → SuitsWire p a → AnswersSoFar p a → n ≤ a.faults → PollsNext (Err fault) p q a b → FaultBy (λ i. Below i p a) fault (held p) q n b
  next_by fault p q n a b g s h l x =
      let d = subst (λ (fs : List Flight). AllByRecursion (λ f. Follows p.limit a f.exchange) fs) x.is_next h.due in
      let same : held p ≡ held_with x.f (record p { due = x.rest }) = ap (λ (fs : List Flight). map ask_waiting p.waiting ++ map ask_flying (p.polled ++ fs)) x.is_next in
      ByFlight (record { f = x.f; p = record p { due = x.rest }; from = a; follows = d.0; given = g; linked = linked_open x.f.exchange.link (held_on (record p { due = x.rest })) a (owns_next p x.f x.rest a s x.is_next).owned; to = x.to; others = subst (λ (asks : List Ask). IsPermutation (held p) asks) same (IsPermutation-refl (held p)); later = l; fresh = λ i y. next_below i p x.f x.rest a y x.is_next })

  last_by : (fault : PoolFault) (p q : Pooled) (n : ℕ) (a b : WireState) → OpensGiven a → SuitsWire p a → AnswersSoFar p a → n ≤ a.faults → Last (Err fault) p q a b → FaultBy (λ i. Below i p a) fault (held p) q n b
  last_by fault p q n a b g s h l (OfStart t) = starts_by fault p q n a b g s h l t
  last_by fault p q n a b g s h l (OfPoll t) = next_by fault p q n a b g s h l t

  first_asks : (first then_ : ℕ → Type 0) (fault : PoolFault) (was now : List Ask) (q : Pooled) (n : ℕ) (b : WireState) → IsPermutation was now → ((i : ℕ) → first i → then_ i) → FaultBy then_ fault now q n b → FaultBy first fault was q n b
  first_asks first then_ fault was now q n b h goes (ByBudget e l) = ByBudget e l
  first_asks first then_ fault was now q n b h goes (ByMemory e) = ByMemory e
  first_asks first then_ fault was now q n b h goes (ByFlight x) =
      ByFlight (record { f = x.f; p = x.p; from = x.from; follows = x.follows; given = x.given; linked = x.linked; to = x.to; others = IsPermutation-trans _ _ _ h x.others; later = x.later; fresh = λ i y. x.fresh i (goes i y) })
  first_asks first then_ fault was now q n b h goes (ByStall e l) = ByStall e l
  first_asks first then_ fault was now q n b h goes (ByWait e l) = ByWait e l

  in_run : (fault : PoolFault) (p q : Pooled) (a b : WireState) → OpensGiven a → SuitsWire p a → AnswersSoFar p a → EndsInRun (Err fault) p q a b → FaultBy (λ i. HoldsNoneBelow i p a) fault (held p) q a.faults b
  in_run fault p q a b g s h e =
      let r : Pooled = e.line in
      let suits = suits_lined p e.line a e.lines s in
      let kept = answers_are_kept one in
      let fares = running_fares false a r e.mid a e.between (fares_first r a suits g) e.running in
      let mid = by_running AnswersSoFar kept r e.mid a e.between g suits (by_line AnswersSoFar kept p r a e.lines h) e.running in
      let later = by_running (λ x w. a.faults ≤ w.faults) (faults_are_kept a.faults) r e.mid a e.between g suits (omega arith) e.running in
      first_asks (λ i. HoldsNoneBelow i p a) (λ i. Below i e.mid e.between) fault (held p) (held e.mid) q a.faults b (subst (λ (l : List Ask). IsPermutation l (held e.mid)) (lined_held p r e.lines) (running_holds r e.mid a e.between e.running))
      (λ i x. by_running (Below i) (below_is_kept i) r e.mid a e.between g suits (by_line (Below i) (below_is_kept i) p r a e.lines (below_in i p a x)) e.running)
      (last_by fault e.mid q a.faults e.between b fares.given fares.suits mid later e.last)

  fails_by : (reason fault : PoolFault) (f : Flight) (p q : Pooled) → FailsTo {T = Stepped} reason (Err fault) f p q → (fault ≡ faults.OutOfMemory) ⊎ (fault ≡ reason)
  fails_by reason fault f p q (same, inl e) = inl e
  fails_by reason fault f p q (same, inr e) = inr e.0

  no_ok : (fault : PoolFault) (s : Stepped) → ◌≡◌ {A = Result Stepped PoolFault} (Err fault) (Ok s) → ⊥
  no_ok fault s e = cc

  same_stepped : (fault other : PoolFault) → ◌≡◌ {A = Result Stepped PoolFault} (Err fault) (Err other) → fault ≡ other
  same_stepped fault other e = cc

  rose_later : (n m k l : ℕ) → n ≤ m → Rose m k → k ≤ l → Rose n l
  rose_later n m k l h r i = omega (arith, h, r, i)

  wait_by : (start : ℕ → Type 0) (fault : PoolFault) (was : List Ask) (p q : Pooled) (n : ℕ) (a b : WireState) → n ≤ a.faults → WaitsTo (Err fault) p q a b → FaultBy start fault was q n b
  wait_by start fault was p q n a b l (Passes ready e w i f) = absurd (no_ok fault _ e)
  wait_by start fault was p q n a b l (Stalls ready mid w i u) = ByStall (fails_by faults.Stalled fault u.f _ q u.to) (omega (arith, i, shut_idle u.f.exchange.link mid b u.shuts))
  wait_by start fault was p q n a b l (Misses mid w u) = ByWait (fails_by faults.Exchange fault u.f _ q u.to) (rose_later n a.faults mid.faults b.faults l (w.cause.failed refl) (shut_faults u.f.exchange.link mid b u.shuts))
  wait_by start fault was p q n a b l (Lacks w e f) = ByMemory (same_stepped fault faults.OutOfMemory e)

  in_wait : (fault : PoolFault) (p q : Pooled) (a b : WireState) → OpensGiven a → SuitsWire p a → EndsInWait (Err fault) p q a b → FaultBy (λ i. HoldsNoneBelow i p a) fault (held p) q a.faults b
  in_wait fault p q a b g s e =
      let r : Pooled = e.line in
      let suits = suits_lined p e.line a e.lines s in
      wait_by (λ i. HoldsNoneBelow i p a) fault (held p) e.mid q a.faults e.between b (by_running (λ x w. a.faults ≤ w.faults) (faults_are_kept a.faults) r e.mid a e.between g suits (omega arith) e.running) e.waits

  break_by : (fault : PoolFault) (p q : Pooled) (a b : WireState) → OpensGiven a → SuitsWire p a → AnswersSoFar p a → EndsInFault fault p q a b → FaultBy (λ i. HoldsNoneBelow i p a) fault (held p) q a.faults b
  break_by fault p q a b g s h (AtOnce e f i) = ByMemory e
  break_by fault p q a b g s h (InRun e) = in_run fault p q a b g s h e
  break_by fault p q a b g s h (InWait e) = in_wait fault p q a b g s e

-- ---- each fault

lost_ask : (f : Flight) (p q : Pooled) (was : List Ask) → q ≡ p → IsPermutation was (held_with f p) → IsPermutation was (ask_flying f ∷ held q)
lost_ask f p q was e h = subst (λ (x : Pooled). IsPermutation was (ask_flying f ∷ held x)) (sym e) (IsPermutation-trans _ _ _ h (held_out f p))

module _ (limit : ℕ) (f : Flight) (a b : WireState) (s : Follows limit a f.exchange) (answer : Option (Result Reply ExchangeFault)) (h : Polls answer f a b) (received : List ℕ) (e : Ends f.exchange h.now a b received) where
  -- what was received in reply to the request of an exchange that is over
  abbrev pub over_on : RepliedOn limit f.exchange.address received b
  over_on =
      record {
        k = e.k;
        is_address = s.is_address;
        peer = subst (λ (x : Address). HasPeer x (Some e.k) b) h.touches.address (subst (λ (o : Option ℕ). HasPeer h.now.address o b) e.link (polled_peer f.exchange h.now a b h.touches s.peer));
        before = s.before;
        replied = s.replied;
        sent_is = same_request (b.links e.k).sent (bytes_of (sent_of s.before)) f.exchange.address h.now.address h.touches.address (e.sent_is _ _ s.stands);
        received_is = e.received_is _ _ s.stands;
      }

flown_cause : (fault : PoolFault) (old q : Pooled) (a b : WireState) → q.limit ≡ old.limit → Flown (λ i. HoldsNoneBelow i old a) fault (held old) q a.faults b → IsCauseOf fault old q a b
flown_cause faults.Exchange old q a b limit x = rose_on a.faults x.from.faults b.faults x.later x.to.0.answers.rose
flown_cause (faults.Reply fault received) old q a b limit x =
    let r = x.to.0.answers in
    let same : x.p.limit ≡ old.limit = sym (ap (λ (y : Pooled). y.limit) x.to.1) ∙ limit in
    record {
      loses = record {
        ask = ask_flying x.f;
        others = lost_ask x.f x.p q (held old) x.to.1 x.others;
        on = over_on old.limit x.f x.from b (subst (λ (n : ℕ). Follows n x.from x.f.exchange) same x.follows) (Some (Err (exchanges.Bad fault received))) x.to.0 received r.ends;
        given = polled_given x.f.exchange.address x.f.exchange.link x.to.0.now.link x.from b x.to.0.touches.link x.given x.linked r.ends.k r.ends.link;
        fresh = λ n h. polled_above n x.f.exchange x.to.0.now (held_on x.p) x.from b r.ends.k x.to.0.touches r.ends.link (x.fresh n h);
      };
      why = r.why;
      is_fault = r.is_fault;
      bad = ap (λ (n : ℕ). reply_of received false n) (sym (x.to.0.touches.limit ∙ x.follows.is_limit ∙ same)) ∙ r.bad;
    }
flown_cause (faults.Cut received) old q a b limit x =
    let r = x.to.0.answers in
    let same : x.p.limit ≡ old.limit = sym (ap (λ (y : Pooled). y.limit) x.to.2) ∙ limit in
    record {
      loses = record {
        ask = ask_flying x.f;
        others = lost_ask x.f x.p q (held old) x.to.2 x.others;
        on = over_on old.limit x.f x.from b (subst (λ (n : ℕ). Follows n x.from x.f.exchange) same x.follows) (Some (Err (exchanges.Cut received))) x.to.0 received r.ends;
        given = polled_given x.f.exchange.address x.f.exchange.link x.to.0.now.link x.from b x.to.0.touches.link x.given x.linked r.ends.k r.ends.link;
        fresh = λ n h. polled_above n x.f.exchange x.to.0.now (held_on x.p) x.from b r.ends.k x.to.0.touches r.ends.link (x.fresh n h);
      };
      ended = r.ended;
      short = λ left. rose_on a.faults x.from.faults b.faults x.later (r.short left);
      more = ap (λ (n : ℕ). reply_of received true n) (sym (x.to.0.touches.limit ∙ x.follows.is_limit ∙ same)) ∙ r.more;
    }
flown_cause faults.OutOfMemory old q a b limit x = tt
flown_cause faults.Stalled old q a b limit x = absurd x.to
flown_cause faults.Budget old q a b limit x = absurd x.to

cause_as : (fault other : PoolFault) (old q : Pooled) (a b : WireState) → fault ≡ other → IsCauseOf other old q a b → IsCauseOf fault old q a b
cause_as fault other old q a b e h = subst (λ (x : PoolFault). IsCauseOf x old q a b) (sym e) h

cause_by : (fault : PoolFault) (old q : Pooled) (a b : WireState) → q.limit ≡ old.limit → FaultBy (λ i. HoldsNoneBelow i old a) fault (held old) q a.faults b → IsCauseOf fault old q a b
cause_by fault old q a b limit (ByBudget e l) = cause_as fault faults.Budget old q a b e l
cause_by fault old q a b limit (ByMemory e) = cause_as fault faults.OutOfMemory old q a b e tt
cause_by fault old q a b limit (ByFlight x) = flown_cause fault old q a b limit x
cause_by fault old q a b limit (ByStall (inl e) l) = cause_as fault faults.OutOfMemory old q a b e tt
cause_by fault old q a b limit (ByStall (inr e) l) = cause_as fault faults.Stalled old q a b e l
cause_by fault old q a b limit (ByWait (inl e) l) = cause_as fault faults.OutOfMemory old q a b e tt
cause_by fault old q a b limit (ByWait (inr e) l) = cause_as fault faults.Exchange old q a b e l

pub faults_have_causes : AuthoritiesAreHostsAndPorts → FaultsHaveCauses
faults_have_causes one fault old new before after given suits so_far steps =
    cause_by fault old new before after (ap (λ (x : Pooled). x.limit) (step_bounds (Err fault) old new before after steps)) (break_by one fault old new before after given suits so_far steps)
