-- What was sent on the links that were given since a moment, after each part of a step.
use Rattle.std.proofs.Common.{ℕ, ◌≡◌, ◌+◌, ◌<◌, ◌≤◌, ◌⊎◌, inl, inr, ◌++◌, List, [], ◌∷◌, Option, Some, None, Result, Ok, Err, refl, sym, ◌∙◌, ap, subst, arith, append-nil}
use Rattle.std.specs.List.{AllByRecursion, Contains}
use Rattle.std.proofs.lemmas.Bool.{cases_lt, cases_eq}
use Rattle.tpf_base.specs.Addresses.{Address, authority_of}
use Rattle.tpf_base.specs.declared.fault.Fault.{Fault}
use Rattle.tpf_base.specs.declared.wire.Ready.{Ready}
use Rattle.tpf_base.specs.Links.{Link, WireState, OpensGiven}
use Rattle.tpf_base.specs.Calls.{Closes}
use Rattle.tpf_base.specs.Sending.{Holds}
use Rattle.http_wire.specs.declared.message.Reply.{Reply}
use Rattle.http_ends.specs.Requests.{request_for}
use Rattle.exchange.specs.Exchanges.{Exchanging, StandsOn, starting, request_of, left_link}
use Rattle.exchange.specs.Polls.{Ends, FrontSent}
use Rattle.exchange.specs.declared.fault.ExchangeFault.{ExchangeFault}
use Rattle.exchange.specs.declared.fault.ExchangeFault.TheVariants as exchanges
use Rattle.request_pool.specs.declared.asks.Waiting.{Waiting}
use Rattle.request_pool.specs.declared.asks.Flight.{Flight}
use Rattle.request_pool.specs.declared.asks.Spare.{Spare}
use Rattle.request_pool.specs.declared.fault.Polled.{Polled}
use Rattle.request_pool.specs.declared.fault.Polled.TheVariants as polls
use Rattle.request_pool.specs.declared.fault.PoolFault.{PoolFault}
use Rattle.request_pool.specs.declared.fault.PoolFault.TheVariants as faults
use Rattle.request_pool.specs.declared.fault.Stepped.{Stepped}
use Rattle.request_pool.specs.Pools.{Pooled}
use Rattle.request_pool.specs.Owned.{SuitsWire, on_link, flights_on, spare_on, held_on}
use Rattle.request_pool.specs.Closing.{ClosesSome}
use Rattle.request_pool.specs.Polls.{Shuts, Settles, NoLink, Kept, Shut, TakesLink, FailsTo, Polls, FlightTo}
use Rattle.request_pool.specs.Runs.{Begins, Starts, Overruns, Flies, Starves, PollsNext}
use Rattle.request_pool.specs.Steps.{IsWait, GivesUp}
use Rattle.request_pool.proofs.Suits.{Owns, owns_begun, owns_next, left_is}
use Rattle.list_laws.proofs.Each.{all_append, all_front, all_back}
use Rattle.request_pool.proofs.Risen.{some_is, on_its}
use Rattle.tpf_base.proofs.SendingLemmas.{holds_same}
use Rattle.pool_laws.specs.Sending.{Nothing, FrontOf, requests_for, SendsFor, SendsOwn, SentSince, EmptyPoolsSent, PutsSent, FaultsSent, StepsSent, ClosingSent, SendsOn}
use Rattle.list_laws.proofs.Options.{one_value}
use Rattle.pool_laws.proofs.Following.{SameTold, told_same, stands_as, holds_is, off, own_link, flat-append, request_is}
use Rattle.pool_laws.proofs.Owning.{after_link}
use Rattle.pool_laws.proofs.Requesting.{front_for, on_is}
use Rattle.pool_laws.proofs.Running.{waits_told}
use Rattle.pool_laws.proofs.KeptBySteps.{IsKept, by_step}

-- ---- which link

module _ (asked : Address → Type 0) where
  -- ---- a link of which the same is told

  for_told : (l m : Link) → SameTold l m → SendsFor asked l → SendsFor asked m
  for_told l m t h = record { whole = h.whole; are_asked = h.are_asked; part = h.part; is_part = h.is_part; sent_is = holds_same l.sent m.sent (requests_for h.whole ++ h.part) t.sent h.sent_is }

  own_told : (e : Exchanging) (a b : WireState) → ((k : ℕ) → e.link ≡ Some k → SameTold (a.links k) (b.links k)) → SendsOwn asked a e → SendsOwn asked b e
  own_told e a b same h = record {
    is_asked = h.is_asked;
    whole = h.whole;
    are_asked = h.are_asked;
    received = h.received;
    stands = stands_as (requests_for h.whole) h.received e e.link a b same h.stands;
    front = h.front;
  }

  flights_told : (fs : List Flight) (a b : WireState) → ((k : ℕ) → 0 < flights_on fs k → SameTold (a.links k) (b.links k)) → AllByRecursion (λ f. SendsOwn asked a f.exchange) fs → AllByRecursion (λ f. SendsOwn asked b f.exchange) fs
  flights_told [] a b same h = tt
  flights_told (f ∷ fs) a b same h = (
    own_told f.exchange a b (λ k e. same k (omega (arith, on_its f.exchange.link k e))) h.0,
    flights_told fs a b (λ k p. same k (omega (arith, p))) h.1,
  )

  spare_told : (limit : ℕ) (ss : List Spare) (a b : WireState) → ((k : ℕ) → 0 < spare_on ss k → SameTold (a.links k) (b.links k))
      → AllByRecursion (λ s. SendsOn asked limit a s) ss → AllByRecursion (λ s. SendsOn asked limit b s) ss
  spare_told limit [] a b same h = tt
  spare_told limit (s ∷ ss) a b same h = (
    (h.0.0, own_told (starting h.0.0 limit (Some s.link)) a b (λ k e. same k (omega (arith, on_its (Some s.link) k e))) h.0.1),
    spare_told limit ss a b (λ k p. same k (omega (arith, p))) h.1,
  )

  -- ---- a poll

  of_request : (x : Option (List ℕ)) (whole : List Address) (address : Address) → Holds x (requests_for whole ++ request_of address) → Holds x (requests_for (whole ++ address ∷ []) ++ [])
  of_request x whole address h =
      holds_is x (requests_for whole ++ request_of address) (requests_for (whole ++ address ∷ []) ++ [])
      (append-nil (requests_for (whole ++ address ∷ [])) ∙ flat-append request_for whole (address ∷ []) ∙ ap (λ (t : List ℕ). requests_for whole ++ t) (append-nil (request_for address) ∙ sym (request_is address))) h

  -- the whole request was sent
  whole_sent : (address : Address) (whole : List Address) (l : Link) → asked address → AllByRecursion asked whole → Holds l.sent (requests_for whole ++ request_of address) → SendsFor asked l
  whole_sent address whole l is all h = record {
    whole = whole ++ address ∷ [];
    are_asked = all_append asked whole (address ∷ []) all (is, tt);
    part = [];
    is_part = Nothing refl;
    sent_is = of_request l.sent whole address h;
  }

  -- a front of it was sent
  front_sent : (old new : Exchanging) (a b : WireState) (o : Option ℕ) (k : ℕ) → o ≡ Some k → FrontSent old a new o b → asked new.address → SendsOwn asked a old → SendsFor asked (b.links k)
  front_sent old new a b None k e h is s = cc
  front_sent old new a b (Some i) k e h is s =
      let t = h (requests_for s.whole) s.received s.stands in
      subst (λ (x : ℕ). SendsFor asked (b.links x)) (some_is i k e)
      (record { whole = s.whole; are_asked = s.are_asked; part = t.0; is_part = FrontOf new.address is (front_for t.0 new.address t.2); sent_is = t.3 })

  ends_sent : (old new : Exchanging) (a b : WireState) (received : List ℕ) (k : ℕ) → new.link ≡ Some k → Ends old new a b received → asked new.address → SendsOwn asked a old → SendsFor asked (b.links k)
  ends_sent old new a b received k e h is s =
      subst (λ (x : ℕ). SendsFor asked (b.links x)) (one_value new.link h.link e)
      (whole_sent new.address s.whole (b.links h.k) is s.are_asked (h.sent_is (requests_for s.whole) s.received s.stands))

  stands_sent : (s r : List ℕ) (e : Exchanging) (o : Option ℕ) (k : ℕ) (b : WireState) → o ≡ Some k → StandsOn s r e o b → Holds (b.links k).sent (s ++ e.sent)
  stands_sent s r e None k b l h = cc
  stands_sent s r e (Some i) k b l h = subst (λ (x : ℕ). Holds (b.links x).sent (s ++ e.sent)) (some_is i k l) h.0

  polled_sent : (answer : Option (Result Reply ExchangeFault)) (f : Flight) (a b : WireState) (h : Polls answer f a b) → asked h.now.address → SendsOwn asked a f.exchange → (k : ℕ) → h.now.link ≡ Some k → SendsFor asked (b.links k)
  polled_sent None f a b h is s k e = record {
    whole = s.whole;
    are_asked = s.are_asked;
    part = h.now.sent;
    is_part = FrontOf h.now.address is (front_for h.now.sent h.now.address h.answers.front);
    sent_is = stands_sent (requests_for s.whole) s.received h.now h.now.link k b e (h.answers.stands (requests_for s.whole) s.received s.stands);
  }
  polled_sent (Some (Ok answer)) f a b h is s k e =
      subst (λ (x : ℕ). SendsFor asked (b.links x)) (one_value h.now.link h.answers.link e)
      (whole_sent h.now.address s.whole (b.links h.answers.k) is s.are_asked (h.answers.sent_is (requests_for s.whole) s.received s.stands))
  polled_sent (Some (Err exchanges.Failed)) f a b h is s k e = front_sent f.exchange h.now a b h.now.link k e h.answers.breaks.front is s
  polled_sent (Some (Err (exchanges.Cut received))) f a b h is s k e = ends_sent f.exchange h.now a b received k e h.answers.ends is s
  polled_sent (Some (Err (exchanges.Bad fault received))) f a b h is s k e = ends_sent f.exchange h.now a b received k e h.answers.ends is s
  polled_sent (Some (Err exchanges.OutOfMemory)) f a b h is s k e = front_sent f.exchange h.now a b h.now.link k e h.answers.front is s

  asked_polled : (answer : Option (Result Reply ExchangeFault)) (f : Flight) (a b : WireState) (h : Polls answer f a b) → SendsOwn asked a f.exchange → asked h.now.address
  asked_polled answer f a b h s = subst asked (sym h.touches.address) s.is_asked

  -- an exchange that goes on
  goes_on : (f : Flight) (a b : WireState) (h : Polls None f a b) → SendsOwn asked a f.exchange → SendsOwn asked b h.now
  goes_on f a b h s = record {
    is_asked = asked_polled None f a b h s;
    whole = s.whole;
    are_asked = s.are_asked;
    received = s.received;
    stands = h.answers.stands (requests_for s.whole) s.received s.stands;
    front = front_for h.now.sent h.now.address h.answers.front;
  }

  -- a link that was left
  left_sends : (limit : ℕ) (f : Flight) (a b : WireState) (answer : Reply) (h : Polls (Some (Ok answer)) f a b) (k : ℕ) → left_link h.now ≡ Some k → SendsOwn asked a f.exchange → SendsOwn asked b (starting h.now.address limit (Some k))
  left_sends limit f a b answer h k e s =
      let r = h.answers in
      let at = one_value h.now.link r.link (left_is h.now.standing h.now.link k e).1 in
      let is = asked_polled (Some (Ok answer)) f a b h s in
      record {
        is_asked = is;
        whole = s.whole ++ h.now.address ∷ [];
        are_asked = all_append asked s.whole (h.now.address ∷ []) s.are_asked (is, tt);
        received = s.received ++ r.received;
        stands = subst (λ (i : ℕ). Holds (b.links i).sent (requests_for (s.whole ++ h.now.address ∷ []) ++ []) × Holds (b.links i).received ((s.received ++ r.received) ++ [])) at (
          of_request (b.links r.k).sent s.whole h.now.address (r.sent_is (requests_for s.whole) s.received s.stands),
          holds_is (b.links r.k).received (s.received ++ r.received) ((s.received ++ r.received) ++ []) (append-nil (s.received ++ r.received)) (r.received_is (requests_for s.whole) s.received s.stands),
        );
        front = record { rest = request_for h.now.address; is_whole = refl };
      }

  module _ (since : WireState) where
    abbrev Sends : Pooled → WireState → Type 0
    Sends p a = SentSince asked since p a

    sends_as : (p q : Pooled) (a b : WireState) → q ≡ p → b ≡ a → Sends p a → Sends q b
    sends_as p q a b e f h = subst (λ (x : Pooled). Sends x b) (sym e) (subst (λ (x : WireState). Sends p x) (sym f) h)

    -- all that is told is as it was
    all_told : (p : Pooled) (a b : WireState) → b.given ≡ a.given → ((k : ℕ) → SameTold (a.links k) (b.links k)) → Sends p a → Sends p b
    all_told p a b given same h = record {
      given = λ k low below. for_told (a.links k) (b.links k) (same k) (h.given k low (omega (arith, below, given)));
      waiting = h.waiting;
      polled = flights_told p.polled a b (λ k l. same k) h.polled;
      due = flights_told p.due a b (λ k l. same k) h.due;
      spare = spare_told p.limit p.spare a b (λ k l. same k) h.spare;
    }

    closed_told : (i : ℕ) (a b : WireState) → Closes i a b → (k : ℕ) → SameTold (a.links k) (b.links k)
    closed_told i a b c k = elim (cases_eq k i) [
      | inl e ↦ subst (λ (x : ℕ). SameTold (a.links x) (b.links x)) (sym e) (record { peer = c.peer; sent = c.sent; received = c.received })
      | inr n ↦ told_same (a.links k) (b.links k) (c.only.others k n)
    ]

    shut_sends : (o : Option ℕ) (p : Pooled) (a b : WireState) → Shuts o a b → Sends p a → Sends p b
    shut_sends None p a b s h = subst (λ (x : WireState). Sends p x) (sym s) h
    shut_sends (Some i) p a b c h = all_told p a b c.only.given (closed_told i a b c) h

    shut_or : (o : Option ℕ) (p : Pooled) (a b : WireState) → (b ≡ a) ⊎ Shuts o a b → Sends p a → Sends p b
    shut_or o p a b (inl e) h = subst (λ (x : WireState). Sends p x) (sym e) h
    shut_or o p a b (inr s) h = shut_sends o p a b s h

    -- ---- an exchange that was taken out

    module _ (answer : Option (Result Reply ExchangeFault)) (f : Flight) (p : Pooled) (a b : WireState) (g : OpensGiven a) (o : Owns f p a) (h : Polls answer f a b) (s : SendsOwn asked a f.exchange) (w : Sends p a) where
      given_after : (k : ℕ) → since.given ≤ k → k < b.given → SendsFor asked (b.links k)
      given_after k low below =
          let after = after_link f.exchange.address f.exchange.link h.now.link a b h.touches.link h.touches.others in
          elim (cases_lt 0 (on_link h.now.link k)) [
            | inl some ↦ polled_sent answer f a b h (asked_polled answer f a b h s) s k (on_is h.now.link k some)
            | inr none ↦ (
                elim (cases_lt k a.given) [
                  | inl old ↦ for_told (a.links k) (b.links k) (told_same (a.links k) (b.links k) (after.same k (omega (arith, none)))) (w.given k low old)
                  | inr new ↦ absurd (omega (arith, none, (after.is_new k new below).1))
                ])
          ]

      others_told : (k : ℕ) → 0 < held_on p k → SameTold (a.links k) (b.links k)
      others_told k l = told_same (a.links k) (b.links k) (h.touches.others k (λ e. off (held_on p k) k (own_link answer f p a b g o h k e) l))

      rest_sends : Sends p b
      rest_sends = record {
        given = given_after;
        waiting = w.waiting;
        polled = flights_told p.polled a b (λ k l. others_told k (omega (arith, l))) w.polled;
        due = flights_told p.due a b (λ k l. others_told k (omega (arith, l))) w.due;
        spare = spare_told p.limit p.spare a b (λ k l. others_told k (omega (arith, l))) w.spare;
      }

    settles_sends : (left : Option ℕ) (address : Address) (p q : Pooled) (a b : WireState) → ((k : ℕ) → left ≡ Some k → SendsOwn asked a (starting address p.limit (Some k))) → Sends p a → Settles left address p q a b → Sends q b
    settles_sends left address p q a b own h (NoLink e f g) = sends_as p q a b f g h
    settles_sends left address p q a b own h (Kept k e room f g) =
        sends_as (record p { spare = p.spare ++ (record { link = k; authority = authority_of address }) ∷ [] }) q a b f g (record {
          given = h.given;
          waiting = h.waiting;
          polled = h.polled;
          due = h.due;
          spare = all_append (λ (s : Spare). SendsOn asked p.limit a s) p.spare ((record { link = k; authority = authority_of address }) ∷ []) h.spare ((address, own k e), tt);
        })
    settles_sends left address p q a b own h (Shut k e full f c) = subst (λ (x : Pooled). Sends x b) (sym f) (shut_sends (Some k) p a b c h)

    with_flight : (p : Pooled) (f : Flight) (a : WireState) → SendsOwn asked a f.exchange → Sends p a → Sends (record p { polled = p.polled ++ f ∷ [] }) a
    with_flight p f a s h = record { given = h.given; waiting = h.waiting; polled = all_append (λ (x : Flight). SendsOwn asked a x.exchange) p.polled (f ∷ []) h.polled (s, tt); due = h.due; spare = h.spare }

    with_waiting : (p : Pooled) (w : Waiting) (a : WireState) → asked w.address → Sends p a → Sends (record p { waiting = w ∷ p.waiting }) a
    with_waiting p w a s h = record { given = h.given; waiting = (s, h.waiting); polled = h.polled; due = h.due; spare = h.spare }

    is_pool : (p q : Pooled) (b : WireState) → q ≡ p → Sends p b → Sends q b
    is_pool p q b e h = subst (λ (x : Pooled). Sends x b) (sym e) h

    flight_sends : (result : Result Polled PoolFault) (f : Flight) (p q : Pooled) (a b : WireState) → OpensGiven a → Owns f p a → SendsOwn asked a f.exchange → Sends p a → FlightTo result f p q a b → Sends q b
    flight_sends (Ok polls.Pending) f p q a b g o s h t =
        is_pool (record p { polled = p.polled ++ (record f { exchange = t.0.now }) ∷ [] }) q b t.1 (with_flight p (record f { exchange = t.0.now }) b (goes_on f a b t.0 s) (rest_sends None f p a b g o t.0 s h))
    flight_sends (Ok (polls.Came ticket address answer)) f p q a b g o s h t =
        settles_sends (left_link t.1.now) t.1.now.address p q t.0 b (λ k e. left_sends p.limit f a t.0 answer t.1 k e s) (rest_sends (Some (Ok answer)) f p a t.0 g o t.1 s h) t.3
    flight_sends (Ok polls.Failed) f p q a b g o s h t =
        is_pool _ q b t.4 (with_waiting p _ b (asked_polled (Some (Err t.0)) f a b t.1 s) (rest_sends (Some (Err t.0)) f p a b g o t.1 s h))
    flight_sends (Err faults.Exchange) f p q a b g o s h t = is_pool p q b t.2 (rest_sends _ f p a b g o t.0 s h)
    flight_sends (Err (faults.Cut received)) f p q a b g o s h t = is_pool p q b t.2 (rest_sends _ f p a b g o t.0 s h)
    flight_sends (Err (faults.Reply fault received)) f p q a b g o s h t = is_pool p q b t.1 (rest_sends _ f p a b g o t.0 s h)
    flight_sends (Err faults.OutOfMemory) f p q a b g o s h t = is_pool p q b t.3 (shut_or t.2.now.link p t.1 b t.4.1 (rest_sends t.0 f p a t.1 g o t.2 s h))
    flight_sends (Err faults.Stalled) f p q a b g o s h t = absurd t
    flight_sends (Err faults.Budget) f p q a b g o s h t = absurd t

    -- ---- a start

    record Taken (p : Pooled) (a : WireState) (first : Waiting) (spare : List Spare) (link : Option ℕ) : Type 0 where
      own : SendsOwn asked a (starting first.address p.limit link)
      left : AllByRecursion (λ s. SendsOn asked p.limit a s) spare

    for_other : (limit : ℕ) (a : WireState) (s : Spare) (address : Address) (k : ℕ) → s.link ≡ k → asked address → SendsOn asked limit a s → SendsOwn asked a (starting address limit (Some k))
    for_other limit a s address k at is h =
        subst (λ (i : ℕ). SendsOwn asked a (starting address limit (Some i))) at
        (record { is_asked = is; whole = h.1.whole; are_asked = h.1.are_asked; received = h.1.received; stands = h.1.stands; front = record { rest = request_for address; is_whole = refl } })

    taken : (p : Pooled) (a : WireState) (first : Waiting) (spare : List Spare) (link : Option ℕ) → asked first.address
        → AllByRecursion (λ s. SendsOn asked p.limit a s) p.spare → TakesLink first p.spare spare link → Taken p a first spare link
    taken p a first spare None is h t = record {
      own = record { is_asked = is; whole = []; are_asked = tt; received = []; stands = (refl, refl, refl, refl); front = record { rest = request_for first.address; is_whole = refl } };
      left = subst (λ (l : List Spare). AllByRecursion (λ s. SendsOn asked p.limit a s) l) (sym t.0) h;
    }
    taken p a first spare (Some k) is h t =
        let o = t.1.3 in
        let all = subst (λ (l : List Spare). AllByRecursion (λ s. SendsOn asked p.limit a s) l) o.is_old h in
        let behind = all_back (λ (s : Spare). SendsOn asked p.limit a s) o.before (t.1.0 ∷ o.after) all in
        record {
          own = for_other p.limit a t.1.0 first.address k t.1.1 is behind.0;
          left = subst (λ (l : List Spare). AllByRecursion (λ s. SendsOn asked p.limit a s) l) (sym o.is_new)
              (all_append (λ (s : Spare). SendsOn asked p.limit a s) o.before o.after (all_front _ o.before (t.1.0 ∷ o.after) all) behind.1);
        }

    record Begun (q : Pooled) (f : Flight) (a : WireState) : Type 0 where
      rest : Sends q a
      own : SendsOwn asked a f.exchange

    begun : (p q : Pooled) (f : Flight) (a : WireState) → Sends p a → Begins p q f → Begun q f a
    begun p q f a h b =
        let w = subst (λ (l : List Waiting). AllByRecursion (λ x. asked x.address) l) b.is_first h.waiting in
        let t = taken p a b.first b.spare b.link w.0 h.spare b.takes in
        subst (λ (x : Pooled). Begun x f a) (sym b.is_new)
        (subst (λ (x : Flight). Begun (record p { waiting = b.rest; spare = b.spare; started = p.started + 1 }) x a) (sym b.flight)
        (record { rest = record { given = h.given; waiting = w.1; polled = h.polled; due = h.due; spare = t.left }; own = t.own }))

    starts_send : (result : Result Polled PoolFault) (p q : Pooled) (a b : WireState) → OpensGiven a → SuitsWire p a → Sends p a → Starts result p q a b → Sends q b
    starts_send result p q a b g s h (Overruns e budget f i) = sends_as p q a b f i h
    starts_send result p q a b g s h (Flies mid f budget begins to) =
        let x = begun p mid f a h begins in
        flight_sends result f mid q a b g (owns_begun p mid f a s begins) x.own x.rest to
    starts_send result p q a b g s h (Starves e mid f begins is shuts) =
        let x = (begun p mid f a h begins).rest in
        is_pool _ q b is (shut_sends f.exchange.link (record mid { started = p.started }) a b shuts (record { given = x.given; waiting = x.waiting; polled = x.polled; due = x.due; spare = x.spare }))

    next_sends : (result : Result Polled PoolFault) (p q : Pooled) (a b : WireState) → OpensGiven a → SuitsWire p a → Sends p a → PollsNext result p q a b → Sends q b
    next_sends result p q a b g s h n =
        let d = subst (λ (l : List Flight). AllByRecursion (λ x. SendsOwn asked a x.exchange) l) n.is_next h.due in
        flight_sends result n.f (record p { due = n.rest }) q a b g (owns_next p n.f n.rest a s n.is_next) d.0 (record { given = h.given; waiting = h.waiting; polled = h.polled; due = d.1; spare = h.spare }) n.to

    -- ---- waits

    waited_sends : (answer : Result Ready Fault) (p : Pooled) (a b : WireState) → IsWait answer a b → Sends p a → Sends p b
    waited_sends answer p a b w h = all_told p a b w.only.given (waits_told answer a b w) h

    fails_send : {T : Type 0} (fault : PoolFault) (result : Result T PoolFault) (f : Flight) (p q : Pooled) (a : WireState) → FailsTo fault result f p q → asked f.exchange.address → Sends p a → Sends q a
    fails_send fault (Ok done) f p q a t is h = is_pool _ q a t.1 (with_waiting p _ a is h)
    fails_send fault (Err shown) f p q a t is h = is_pool p q a t.0 h

    gives_up_sends : (fault : PoolFault) (result : Result Stepped PoolFault) (p q : Pooled) (a b : WireState) → Sends p a → GivesUp fault result p q a b → Sends q b
    gives_up_sends fault result p q a b h u =
        let all = subst (λ (l : List Flight). AllByRecursion (λ f. SendsOwn asked a f.exchange) l) u.is_oldest (all_append (λ (f : Flight). SendsOwn asked a f.exchange) p.polled p.due h.polled h.due) in
        let r : Pooled = record p { polled = u.rest; due = [] } in
        fails_send fault result u.f r q b u.to all.0.is_asked
        (shut_sends u.f.exchange.link r a b u.shuts (record { given = h.given; waiting = h.waiting; polled = all.1; due = tt; spare = h.spare }))

    sent_is_kept : IsKept Sends
    sent_is_kept = record {
      starts = starts_send;
      polls = next_sends;
      rounds = λ p a h. record { given = h.given; waiting = h.waiting; polled = tt; due = all_append (λ (f : Flight). SendsOwn asked a f.exchange) p.polled p.due h.polled h.due; spare = h.spare };
      gathers = λ p a h. record { given = h.given; waiting = h.waiting; polled = all_append (λ (f : Flight). SendsOwn asked a f.exchange) p.polled p.due h.polled h.due; due = tt; spare = h.spare };
      waits = λ answer p a b s h w. waited_sends answer p a b w h;
      gives_up = λ fault result p q a b s h u. gives_up_sends fault result p q a b h u;
    }

-- ---- the laws

pub empty_sent : EmptyPoolsSent
empty_sent asked links retries budget limit wire = record { given = λ k low below. absurd (omega (arith, low, below)); waiting = tt; polled = tt; due = tt; spare = tt }

pub put_sent : PutsSent
put_sent asked since ticket address pool wire is h = record {
  given = h.given;
  waiting = all_append (λ (w : Waiting). Contains asked w.address) pool.waiting ((record { ticket = ticket; address = address; failed = 0 }) ∷ []) h.waiting (is, tt);
  polled = h.polled;
  due = h.due;
  spare = h.spare;
}

pub fault_sent : FaultsSent
fault_sent asked since pool wire h = record { given = h.given; waiting = h.waiting; polled = h.polled; due = h.due; spare = h.spare }

pub steps_sent : StepsSent
steps_sent asked since result old new wire wire' given suits h to = by_step (SentSince (Contains asked) since) (sent_is_kept (Contains asked) since) result old new wire wire' given suits h to

-- ---- the close

held_or_not : (p : Pooled) (a b : WireState) → ClosesSome (held_on p) (λ k. 0) a b → (k : ℕ) → SameTold (a.links k) (b.links k)
held_or_not p a b c k = elim (cases_lt 0 (held_on p k)) [
  | inl some ↦ (let x = c.closed k some in record { peer = x.peer; sent = x.sent; received = x.received })
  | inr none ↦ told_same (a.links k) (b.links k) (c.others k (omega (arith, none)))
]

pub closing_sent : ClosingSent
closing_sent asked since old new wire wire' h e c =
    let c' = subst (λ (x : Pooled). ClosesSome (held_on old) (held_on x) wire wire') e c in
    subst (λ (x : Pooled). SentSince (Contains asked) since x wire') (sym e)
    (record {
      given = λ k low below. for_told (Contains asked) (wire.links k) (wire'.links k) (held_or_not old wire wire' c' k) (h.given k low (omega (arith, below, c'.given)));
      waiting = tt;
      polled = tt;
      due = tt;
      spare = tt;
    })
