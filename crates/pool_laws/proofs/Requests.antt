-- What was requested and answered on each link that was given since a moment, after each part of a step.
use Rattle.std.proofs.Common.{ℕ, ◌≡◌, ◌+◌, ◌-◌, ◌<◌, ◌≤◌, ◌⊎◌, inl, inr, ◌++◌, Bool, cond, List, [], ◌∷◌, count_by, Option, Some, None, Result, refl, sym, ◌∙◌, ap, subst, arith}
use Rattle.std.specs.List.{AllByRecursion}
use Rattle.std.proofs.lemmas.Bool.{cases_lt, cases_eq}
use Rattle.tpf_base.specs.Addresses.{Address, authority_of}
use Rattle.tpf_base.specs.Links.{WireState, OpensGiven}
use Rattle.tpf_base.specs.Calls.{Closes}
use Rattle.http_wire.specs.declared.message.Reply.{Reply}
use Rattle.exchange.specs.Exchanges.{starting}
use Rattle.exchange.specs.Polls.{LinkAfter}
use Rattle.exchange.specs.declared.fault.ExchangeFault.{ExchangeFault}
use Rattle.request_pool.specs.declared.asks.Waiting.{Waiting}
use Rattle.request_pool.specs.declared.asks.Flight.{Flight}
use Rattle.request_pool.specs.declared.asks.Spare.{Spare}
use Rattle.request_pool.specs.Pools.{Pooled}
use Rattle.request_pool.specs.Owned.{on_link, held_on}
use Rattle.request_pool.specs.Polls.{Shuts, Settles, NoLink, Kept, Shut, Polls}
use Rattle.request_pool.proofs.Owned.{linked_open}
use Rattle.request_pool.proofs.Suits.{Owns}
use Rattle.list_laws.proofs.Each.{all_append}
use Rattle.pool_laws.specs.Following.{IsWebAddress}
use Rattle.pool_laws.specs.Requested.{Exchanged, addresses_exchanged, LastRequest, LinkRequests, TellsRequests, over_links, count_sent, count_answered, any, times_sent, whole_requests, whole_answers, left_waiting, left_flying, unsent, IsOn, OwnRequests, RequestsOn}
use Rattle.pool_laws.proofs.Following.{SameTold, told_same, off, own_link, polled_address}
use Rattle.pool_laws.proofs.Owning.{After, after_link, off_link}
use Rattle.pool_laws.proofs.Trying.{Few}
use Rattle.pool_laws.proofs.Counts.{own_count, own_answers, left-append, unsent-append, sent_on, none_left, started_on, put_at, put_away, put_there}
use Rattle.pool_laws.proofs.Requesting.{StillTold, still_same, tells_told, is_all, last_by, sent_once, none_sent, on_is, moved_none, linked_given, sent_moves, answers_move, flights_told, spare_told, Puts}

module _ (limit : ℕ) (since : WireState) (r : ℕ) (cap least : (Address → Bool) → ℕ) where
  abbrev pub left : (Address → Bool) → Pooled → ℕ
  left test p = left_waiting test r p.waiting + (left_flying test r p.polled + left_flying test r p.due)

  abbrev pub idle : Pooled → ℕ
  idle p = unsent p.polled + unsent p.due

  pub record Known (p : Pooled) (a : WireState) : Type 0 where
    pub is_limit : p.limit ≡ limit
    pub few : Few r p
    pub waiting : AllByRecursion (λ w. IsWebAddress w.address) p.waiting
    pub all : ℕ → LinkRequests
    pub later : since.given ≤ a.given
    pub given : (k : ℕ) → since.given ≤ k → k < a.given → TellsRequests limit (a.links k) (all k)
    pub polled : AllByRecursion (λ f. OwnRequests limit since all a f.exchange) p.polled
    pub due : AllByRecursion (λ f. OwnRequests limit since all a f.exchange) p.due
    pub spare : AllByRecursion (λ s. RequestsOn limit since all a s) p.spare
    pub tries : (test : Address → Bool) → count_sent test all since a + left test p ≤ cap test
    pub starts : count_sent any all since a + idle p ≤ p.started
    pub answers : (test : Address → Bool) → least test ≤ count_answered test all since a

  -- the same, where an exchange was taken out
  pub record Apart (f : Flight) (p : Pooled) (a : WireState) : Type 0 where
    pub is_limit : p.limit ≡ limit
    pub few : Few r p
    pub waiting : AllByRecursion (λ w. IsWebAddress w.address) p.waiting
    pub failed : f.failed ≤ r
    pub all : ℕ → LinkRequests
    pub later : since.given ≤ a.given
    pub given : (k : ℕ) → since.given ≤ k → k < a.given → TellsRequests limit (a.links k) (all k)
    pub own : OwnRequests limit since all a f.exchange
    pub polled : AllByRecursion (λ x. OwnRequests limit since all a x.exchange) p.polled
    pub due : AllByRecursion (λ x. OwnRequests limit since all a x.exchange) p.due
    pub spare : AllByRecursion (λ s. RequestsOn limit since all a s) p.spare
    pub tries : (test : Address → Bool) → count_sent test all since a + (cond (test f.exchange.address) (r + 1 - (f.failed + times_sent f.exchange)) 0 + left test p) ≤ cap test
    pub starts : count_sent any all since a + ((1 - times_sent f.exchange) + idle p) ≤ p.started
    pub answers : (test : Address → Bool) → least test ≤ count_answered test all since a

  -- after its poll: so often its request was sent, and so many answers came
  pub record Moved (f : Flight) (address : Address) (link : Option ℕ) (x : LinkRequests) (own : ℕ) (gain : (Address → Bool) → ℕ) (p : Pooled) (b : WireState) : Type 0 where
    pub is_limit : p.limit ≡ limit
    pub is_address : IsWebAddress address
    pub few : Few r p
    pub waiting : AllByRecursion (λ w. IsWebAddress w.address) p.waiting
    pub failed : f.failed ≤ r
    pub once : own ≤ 1
    pub all : ℕ → LinkRequests
    pub later : since.given ≤ b.given
    pub given : (k : ℕ) → since.given ≤ k → k < b.given → TellsRequests limit (b.links k) (all k)
    pub low : (k : ℕ) → link ≡ Some k → since.given ≤ k
    pub at : (k : ℕ) → link ≡ Some k → all k ≡ x
    pub polled : AllByRecursion (λ x. OwnRequests limit since all b x.exchange) p.polled
    pub due : AllByRecursion (λ x. OwnRequests limit since all b x.exchange) p.due
    pub spare : AllByRecursion (λ s. RequestsOn limit since all b s) p.spare
    pub tries : (test : Address → Bool) (y : ℕ) → y + f.failed + own ≤ r + 1 → count_sent test all since b + (cond (test address) y 0 + left test p) ≤ cap test
    pub starts : (y : ℕ) → y + own ≤ 1 → count_sent any all since b + (y + idle p) ≤ p.started
    pub answers : (test : Address → Bool) → least test + gain test ≤ count_answered test all since b

  -- ---- a poll

  link_low : (address : Address) (o p : Option ℕ) (a b : WireState) (all : ℕ → LinkRequests) (answered : List Exchanged) (last : LastRequest) → LinkAfter address o p a b → since.given ≤ a.given → IsOn since all answered last o → (k : ℕ) → p ≡ Some k → since.given ≤ k
  link_low address (Some j) (Some i) a b all answered last l later on k e = let same : i ≡ k = cc in omega (arith, same, l.0, on.0)
  link_low address (Some j) None a b all answered last l later on k e = absurd l
  link_low address None None a b all answered last l later on k e = cc
  link_low address None (Some i) a b all answered last l later on k e = let same : i ≡ k = cc in omega (arith, same, l.0, later)

  module _ (answer : Option (Result Reply ExchangeFault)) (f : Flight) (p : Pooled) (a b : WireState) (g : OpensGiven a) (o : Owns f p a) (h : Polls answer f a b) (s : Apart f p a) (x : Puts limit since h.now.address h.now.link s.own.answered b) where
    others_told : (k : ℕ) → 0 < held_on p k → SameTold (a.links k) (b.links k)
    others_told k l = told_same (a.links k) (b.links k) (h.touches.others k (λ e. off (held_on p k) k (own_link answer f p a b g o h k e) l))

    others_at : (k : ℕ) → 0 < held_on p k → put_at h.now.link x.x s.all k ≡ s.all k
    others_at k l = put_away h.now.link k x.x s.all (λ e. off (held_on p k) k (own_link answer f p a b g o h k e) l)

    after : After f.exchange.address f.exchange.link h.now.link a b
    after = after_link f.exchange.address f.exchange.link h.now.link a b h.touches.link h.touches.others

    given_after : (k : ℕ) → since.given ≤ k → k < b.given → TellsRequests limit (b.links k) (put_at h.now.link x.x s.all k)
    given_after k low below = elim (cases_lt 0 (on_link h.now.link k)) [
      | inl some ↦ (
          let e = on_is h.now.link k some in
          subst (TellsRequests limit (b.links k)) (sym (put_there h.now.link k x.x s.all e)) (x.tells k e))
      | inr none ↦ (
          elim (cases_lt k a.given) [
            | inl old ↦ subst (TellsRequests limit (b.links k)) (sym (put_away h.now.link k x.x s.all (off_link h.now.link k (omega (arith, none)))))
                (tells_told limit (a.links k) (b.links k) (s.all k) (still_same (a.links k) (b.links k) (after.same k (omega (arith, none)))) (s.given k low old))
            | inr new ↦ absurd (omega (arith, none, (after.is_new k new below).1))
          ])
    ]

    below : (k : ℕ) → f.exchange.link ≡ Some k → k < a.given
    below = linked_given f.exchange.link a g (linked_open f.exchange.link (held_on p) a o.owned)

    unsent_none : f.exchange.link ≡ None → times_sent f.exchange ≡ 0
    unsent_none none = none_sent f.exchange (moved_none _ _ f.exchange f.exchange.link a none s.own.stands)

    same_test : (test : Address → Bool) → test h.now.address ≡ test f.exchange.address
    same_test test = ap test h.touches.address

    sent_is : (test : Address → Bool) → count_sent test (put_at h.now.link x.x s.all) since b + cond (test f.exchange.address) (times_sent f.exchange) 0 ≡ count_sent test s.all since a + cond (test f.exchange.address) x.own 0
    sent_is test =
        sent_moves limit since s.own.answered s.all x.x test f.exchange.address f.exchange.address f.exchange.link h.now.link (last_by f.exchange.address f.exchange.sent) (times_sent f.exchange) x.own a b h.touches.link s.later below s.own.on unsent_none x.none
        (own_count (is_all f.exchange.address f.exchange.sent) test (addresses_exchanged s.own.answered) f.exchange.address)
        (x.sent test ∙ ap (λ (v : Bool). count_by test (addresses_exchanged s.own.answered) + cond v x.own 0) (same_test test))

    pub moved : Moved f h.now.address h.now.link x.x x.own x.gain p b
    moved = record {
      is_limit = s.is_limit;
      is_address = polled_address f.exchange h.now a b h.touches s.own.is_address;
      few = s.few;
      waiting = s.waiting;
      failed = s.failed;
      once = x.few;
      all = put_at h.now.link x.x s.all;
      later = omega (arith, s.later, after.given);
      given = given_after;
      low = link_low f.exchange.address f.exchange.link h.now.link a b s.all s.own.answered (last_by f.exchange.address f.exchange.sent) h.touches.link s.later s.own.on;
      at = λ k e. put_there h.now.link k x.x s.all e;
      polled = flights_told limit since p.polled s.all (put_at h.now.link x.x s.all) a b (λ k l. others_told k (omega (arith, l))) (λ k l. others_at k (omega (arith, l))) s.polled;
      due = flights_told limit since p.due s.all (put_at h.now.link x.x s.all) a b (λ k l. others_told k (omega (arith, l))) (λ k l. others_at k (omega (arith, l))) s.due;
      spare = spare_told limit since p.spare s.all (put_at h.now.link x.x s.all) a b (λ k l. others_told k (omega (arith, l))) (λ k l. others_at k (omega (arith, l))) s.spare;
      tries = λ test y i. subst (λ (v : Bool). count_sent test (put_at h.now.link x.x s.all) since b + (cond v y 0 + left test p) ≤ cap test) (sym (same_test test))
          (sent_on (test f.exchange.address) (count_sent test s.all since a) (count_sent test (put_at h.now.link x.x s.all) since b) (times_sent f.exchange) x.own f.failed r y (left test p) (cap test)
          s.failed (sent_once f.exchange) x.few (sent_is test) (s.tries test) i);
      starts = λ y i. started_on (count_sent any s.all since a) (count_sent any (put_at h.now.link x.x s.all) since b) (times_sent f.exchange) x.own y (idle p) p.started (sent_once f.exchange) (sent_is any) s.starts i;
      answers = λ test. least_after (least test) (count_answered test s.all since a) (x.gain test) (count_answered test (put_at h.now.link x.x s.all) since b) (s.answers test)
          (answers_move limit since s.own.answered s.all x.x test (x.gain test) f.exchange.address f.exchange.link h.now.link (last_by f.exchange.address f.exchange.sent) a b h.touches.link s.later below s.own.on (λ n. x.no_gain n test)
          (own_answers (is_all f.exchange.address f.exchange.sent) test (addresses_exchanged s.own.answered) f.exchange.address) (x.answers test));
    }
      where
        least_after : (m n g k : ℕ) → m ≤ n → n + g ≤ k → m + g ≤ k
        least_after m n g k i j = omega (arith, i, j)

  -- ---- the pool after it

  pub known_as : (p q : Pooled) (b : WireState) → q ≡ p → Known p b → Known q b
  known_as p q b e h = subst (λ (y : Pooled). Known y b) (sym e) h

  -- it waits again
  pub waits_again : (f : Flight) (w : Waiting) (address : Address) (link : Option ℕ) (x : LinkRequests) (own : ℕ) (gain : (Address → Bool) → ℕ) (p : Pooled) (b : WireState) → w.address ≡ address → w.failed ≡ f.failed + 1 → w.failed ≤ r
      → Moved f address link x own gain p b → Known (record p { waiting = w ∷ p.waiting }) b
  waits_again f w address link x own gain p b at failed few h = record {
    is_limit = h.is_limit;
    few = record { is = h.few.is; waiting = (few, h.few.waiting); polled = h.few.polled; due = h.few.due };
    waiting = (subst IsWebAddress (sym at) h.is_address, h.waiting);
    all = h.all;
    later = h.later;
    given = h.given;
    polled = h.polled;
    due = h.due;
    spare = h.spare;
    tries = λ test. (
        let same : cond (test w.address) (r + 1 - w.failed) 0 ≡ cond (test address) (r + 1 - w.failed) 0 = ap (λ (a : Address). cond (test a) (r + 1 - w.failed) 0) at in
        let t : count_sent test h.all since b + (cond (test address) (r + 1 - w.failed) 0 + left test p) ≤ cap test = h.tries test (r + 1 - w.failed) (omega (arith, failed, few, h.once)) in
        with_waiting (count_sent test h.all since b) (cond (test w.address) (r + 1 - w.failed) 0) (cond (test address) (r + 1 - w.failed) 0) (left_waiting test r p.waiting) (left_flying test r p.polled) (left_flying test r p.due) (cap test) same t);
    starts = (let t : count_sent any h.all since b + (0 + idle p) ≤ p.started = h.starts 0 (omega (arith, h.once)) in omega (arith, t));
    answers = λ test. omega (arith, h.answers test);
  }
    where
      with_waiting : (s u v w x y c : ℕ) → u ≡ v → s + (v + (w + (x + y))) ≤ c → s + ((u + w) + (x + y)) ≤ c
      with_waiting s u v w x y c e i = omega (arith, e, i)

  -- it goes on
  pub goes_on : (f g : Flight) (gain : (Address → Bool) → ℕ) (p : Pooled) (b : WireState) (x : LinkRequests) (own : ℕ) → g.failed ≡ f.failed → own ≡ times_sent g.exchange
      → (h : Moved f g.exchange.address g.exchange.link x own gain p b) → OwnRequests limit since h.all b g.exchange → Known (record p { polled = p.polled ++ g ∷ [] }) b
  goes_on f g gain p b x own same sent h is = record {
    is_limit = h.is_limit;
    few = record { is = h.few.is; waiting = h.few.waiting; polled = all_append (λ (y : Flight). y.failed ≤ r) p.polled (g ∷ []) h.few.polled (omega (arith, same, h.failed), tt); due = h.few.due };
    waiting = h.waiting;
    all = h.all;
    later = h.later;
    given = h.given;
    polled = all_append (λ (y : Flight). OwnRequests limit since h.all b y.exchange) p.polled (g ∷ []) h.polled (is, tt);
    due = h.due;
    spare = h.spare;
    tries = λ test. (
        let t : count_sent test h.all since b + (cond (test g.exchange.address) (r + 1 - (g.failed + times_sent g.exchange)) 0 + left test p) ≤ cap test
        = h.tries test (r + 1 - (g.failed + times_sent g.exchange)) (omega (arith, same, sent, h.failed, h.once)) in
        with_flight (count_sent test h.all since b) (cond (test g.exchange.address) (r + 1 - (g.failed + times_sent g.exchange)) 0) (left_waiting test r p.waiting) (left_flying test r p.polled) (left_flying test r p.due) (left_flying test r (p.polled ++ g ∷ [])) (cap test)
        (left-append test r p.polled (g ∷ [])) t);
    starts = (
        let t : count_sent any h.all since b + ((1 - times_sent g.exchange) + idle p) ≤ p.started = h.starts (1 - times_sent g.exchange) (omega (arith, sent, h.once)) in
        unsent_flight (count_sent any h.all since b) (1 - times_sent g.exchange) (unsent p.polled) (unsent p.due) (unsent (p.polled ++ g ∷ [])) p.started (unsent-append p.polled (g ∷ [])) t);
    answers = λ test. omega (arith, h.answers test);
  }
    where
      with_flight : (s u w x y z c : ℕ) → z ≡ x + (u + 0) → s + (u + (w + (x + y))) ≤ c → s + (w + (z + y)) ≤ c
      with_flight s u w x y z c e i = omega (arith, e, i)

      unsent_flight : (s u x y z c : ℕ) → z ≡ x + (u + 0) → s + (u + (x + y)) ≤ c → s + (z + y) ≤ c
      unsent_flight s u x y z c e i = omega (arith, e, i)

  -- ---- links that are closed, and waits

  counted_as : (f : ℕ → ℕ) (a b : WireState) → b.given ≡ a.given → over_links f since.given (b.given - since.given) ≡ over_links f since.given (a.given - since.given)
  counted_as f a b e = ap (λ (m : ℕ). over_links f since.given (m - since.given)) e

  pub all_told : (p : Pooled) (a b : WireState) → b.given ≡ a.given → ((k : ℕ) → StillTold (a.links k) (b.links k)) → Known p a → Known p b
  all_told p a b given same h = record {
    is_limit = h.is_limit;
    few = h.few;
    waiting = h.waiting;
    all = h.all;
    later = omega (arith, h.later, given);
    given = λ k low below. tells_told limit (a.links k) (b.links k) (h.all k) (same k) (h.given k low (omega (arith, below, given)));
    polled = flights_told limit since p.polled h.all h.all a b (λ k l. (same k).same) (λ k l. refl) h.polled;
    due = flights_told limit since p.due h.all h.all a b (λ k l. (same k).same) (λ k l. refl) h.due;
    spare = spare_told limit since p.spare h.all h.all a b (λ k l. (same k).same) (λ k l. refl) h.spare;
    tries = λ test. counted_le (count_sent test h.all since b) (count_sent test h.all since a) (left test p) (cap test) (counted_as (λ k. count_by test (whole_requests (h.all k))) a b given) (h.tries test);
    starts = counted_le (count_sent any h.all since b) (count_sent any h.all since a) (idle p) p.started (counted_as (λ k. count_by any (whole_requests (h.all k))) a b given) h.starts;
    answers = λ test. (let e : count_answered test h.all since b ≡ count_answered test h.all since a = counted_as (λ k. count_by test (whole_answers (h.all k))) a b given in omega (arith, e, h.answers test));
  }
    where
      counted_le : (s s' l c : ℕ) → s ≡ s' → s' + l ≤ c → s + l ≤ c
      counted_le s s' l c e i = omega (arith, e, i)

  closed_told : (i : ℕ) (a b : WireState) → Closes i a b → (k : ℕ) → StillTold (a.links k) (b.links k)
  closed_told i a b c k = elim (cases_eq k i) [
    | inl e ↦ subst (λ (y : ℕ). StillTold (a.links y) (b.links y)) (sym e) (record { same = record { peer = c.peer; sent = c.sent; received = c.received }; ended = c.ended })
    | inr n ↦ still_same (a.links k) (b.links k) (c.only.others k n)
  ]

  pub shut_known : (o : Option ℕ) (p : Pooled) (a b : WireState) → Shuts o a b → Known p a → Known p b
  shut_known None p a b s h = subst (λ (y : WireState). Known p y) (sym s) h
  shut_known (Some i) p a b c h = all_told p a b c.only.given (closed_told i a b c) h

  pub shut_or : (o : Option ℕ) (p : Pooled) (a b : WireState) → (b ≡ a) ⊎ Shuts o a b → Known p a → Known p b
  shut_or o p a b (inl e) h = subst (λ (y : WireState). Known p y) (sym e) h
  shut_or o p a b (inr s) h = shut_known o p a b s h

  -- a link that was left is kept or closed
  pub settles_known : (o : Option ℕ) (address : Address) (p q : Pooled) (a b : WireState) (h : Known p a) → ((k : ℕ) → o ≡ Some k → OwnRequests limit since h.all a (starting address limit (Some k))) → Settles o address p q a b → Known q b
  settles_known o address p q a b h own (NoLink e f g) = known_as p q b f (subst (λ (y : WireState). Known p y) (sym g) h)
  settles_known o address p q a b h own (Kept k e room f g) =
      known_as (record p { spare = p.spare ++ (record { link = k; authority = authority_of address }) ∷ [] }) q b f
      (subst (λ (y : WireState). Known (record p { spare = p.spare ++ (record { link = k; authority = authority_of address }) ∷ [] }) y) (sym g) (record {
        is_limit = h.is_limit;
        few = record { is = h.few.is; waiting = h.few.waiting; polled = h.few.polled; due = h.few.due };
        waiting = h.waiting;
        all = h.all;
        later = h.later;
        given = h.given;
        polled = h.polled;
        due = h.due;
        spare = all_append (λ (s : Spare). RequestsOn limit since h.all a s) p.spare ((record { link = k; authority = authority_of address }) ∷ []) h.spare ((address, own k e), tt);
        tries = h.tries;
        starts = h.starts;
        answers = h.answers;
      }))
  settles_known o address p q a b h own (Shut k e full f c) = known_as p q b f (shut_known (Some k) p a b c h)

-- its reply came: as many answers more
abbrev pub answered : (limit : ℕ) (since : WireState) (r : ℕ) (cap least : (Address → Bool) → ℕ) (f : Flight) (address : Address) (link : Option ℕ) (x : LinkRequests) (own : ℕ) (gain : (Address → Bool) → ℕ) (p : Pooled) (b : WireState)
    → Moved limit since r cap least f address link x own gain p b → Known limit since r cap (λ test. least test + gain test) p b
answered limit since r cap least f address link x own gain p b h = record {
  is_limit = h.is_limit;
  few = h.few;
  waiting = h.waiting;
  all = h.all;
  later = h.later;
  given = h.given;
  polled = h.polled;
  due = h.due;
  spare = h.spare;
  tries = λ test. none_left (test address) (count_sent test h.all since b) (left limit since r cap least test p) (cap test) (h.tries test 0 (omega (arith, h.failed, h.once)));
  starts = (let t : count_sent any h.all since b + (0 + idle limit since r cap least p) ≤ p.started = h.starts 0 (omega (arith, h.once)) in omega (arith, t));
  answers = h.answers;
}

-- fewer answers are asked for
pub fewer : (limit : ℕ) (since : WireState) (r : ℕ) (cap least more : (Address → Bool) → ℕ) (p : Pooled) (b : WireState) → ((test : Address → Bool) → least test ≤ more test) → Known limit since r cap more p b → Known limit since r cap least p b
fewer limit since r cap least more p b few h = record {
  is_limit = h.is_limit;
  few = h.few;
  waiting = h.waiting;
  all = h.all;
  later = h.later;
  given = h.given;
  polled = h.polled;
  due = h.due;
  spare = h.spare;
  tries = h.tries;
  starts = h.starts;
  answers = λ test. at_least (least test) (more test) (count_answered test h.all since b) (few test) (h.answers test);
}
  where
    at_least : (n m k : ℕ) → n ≤ m → m ≤ k → n ≤ k
    at_least n m k i j = omega (arith, i, j)

-- the ask is held no longer, of whatever was answered
pub over : (limit : ℕ) (since : WireState) (r : ℕ) (cap least : (Address → Bool) → ℕ) (f : Flight) (address : Address) (link : Option ℕ) (x : LinkRequests) (own : ℕ) (gain : (Address → Bool) → ℕ) (p : Pooled) (b : WireState)
    → Moved limit since r cap least f address link x own gain p b → Known limit since r cap least p b
over limit since r cap least f address link x own gain p b h =
    fewer limit since r cap least (λ test. least test + gain test) p b (λ test. omega arith) (answered limit since r cap least f address link x own gain p b h)
