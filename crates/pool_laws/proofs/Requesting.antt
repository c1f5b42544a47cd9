-- What was requested and answered on each link that was given since a moment, after each poll.
use Rattle.std.proofs.Common.{ℕ, ◌≡◌, ◌+◌, ◌-◌, ◌<◌, ◌≤◌, inl, inr, ◌++◌, Bool, true, false, cond, not, if◌then◌else◌, nat_lt, List, [], ◌∷◌, length, length-append, count_by, Option, Some, None, Result, Ok, Err, refl, sym, ◌∙◌, ap, subst, arith, append-nil}
use Rattle.std.proofs.lemmas.List.{nil_from_length}
use Rattle.list_laws.proofs.Tests.{one_mark}
use Rattle.std.specs.List.{AllByRecursion}
use Rattle.std.proofs.lemmas.Bool.{cases_Bool, lt-ltb, ltb-true, ltb-false, cases_eq}
use Rattle.tpf_base.specs.Addresses.{Address}
use Rattle.tpf_base.specs.HttpReply.{reply_of}
use Rattle.tpf_base.specs.Links.{Link, WireState, OpensGiven}
use Rattle.tpf_base.specs.Sending.{Holds}
use Rattle.http_wire.specs.declared.message.Reply.{Reply}
use Rattle.http_ends.specs.Requests.{request_for}
use Rattle.exchange.specs.Exchanges.{Exchanging, IsFront, IsLinked, StandsOn, starting, request_of}
use Rattle.exchange.specs.Polls.{LinkAfter, Ends, FrontSent}
use Rattle.exchange.specs.declared.fault.ExchangeFault.{ExchangeFault}
use Rattle.exchange.specs.declared.fault.ExchangeFault.TheVariants as exchanges
use Rattle.exchange.specs.declared.exchange.Standing.TheVariants.{Left}
use Rattle.request_pool.specs.declared.asks.Flight.{Flight}
use Rattle.request_pool.specs.declared.asks.Spare.{Spare}
use Rattle.request_pool.specs.Owned.{on_link, flights_on, spare_on}
use Rattle.request_pool.specs.Polls.{Polls}
use Rattle.request_pool.proofs.Owned.{on_other}
use Rattle.list_laws.proofs.Each.{all_append}
use Rattle.request_pool.proofs.Risen.{some_is, on_its, given_is}
use Rattle.tpf_base.proofs.SendingLemmas.{holds_same}
use Rattle.pool_laws.specs.Following.{IsWebAddress}
use Rattle.pool_laws.specs.Owning.{IsAsBefore, Same, Woken}
use Rattle.pool_laws.specs.Requested.{Exchanged, IsAnswered, addresses_exchanged, replies_of, LastRequest, NoneWhole, Unanswered, Replied, LinkRequests, last_whole, last_answered, whole_requests, whole_answers, Nothing, FrontOf, HasReply, IsLast, TellsRequests, over_links, count_sent, count_answered, is_sent, times_sent, IsOn, OwnRequests, RequestsOn}
use Rattle.pool_laws.specs.Sending.{requests_for}
use Rattle.list_laws.proofs.Options.{one_value}
use Rattle.pool_laws.proofs.Following.{SameTold, told_same, stands_as, holds_is, off, polled_address, flat-append, request_is, kept_reply}
use Rattle.pool_laws.proofs.Counts.{count-one, count-nil, nothing_counts, own_count, own_answers, addresses-append, put_at, with_new, with_old}

-- ---- a link of which the same is told

-- its peer, the bytes that were sent and received, and its end
pub record StillTold (old new : Link) : Type 0 where
  pub same : SameTold old new
  pub ended : new.ended ≡ old.ended

pub still_same : (l m : Link) → m ≡ l → StillTold l m
still_same l m e = record { same = told_same l m e; ended = ap (λ (x : Link). x.ended) e }

pub still_before : (l m : Link) → IsAsBefore l m → StillTold l m
still_before l m (Same e) = still_same l m e
still_before l m (Woken o e) = record {
  same = record { peer = ap (λ (x : Link). x.peer) e; sent = ap (λ (x : Link). x.sent) e; received = ap (λ (x : Link). x.received) e };
  ended = ap (λ (x : Link). x.ended) e;
}

last_told : (limit : ℕ) (l m : Link) → StillTold l m → (x : LastRequest) (s r : List ℕ) → IsLast limit l x s r → IsLast limit m x s r
last_told limit l m t NoneWhole s r h = h
last_told limit l m t (Unanswered address) s r h = h
last_told limit l m t (Replied address) s r h =
    (h.0, h.1, record { body = h.2.body; n = h.2.n; keeps = h.2.keeps; at_end = h.2.at_end; whole = h.2.whole; ended = λ e. holds_same l.ended m.ended true t.ended (h.2.ended e) })

pub tells_told : (limit : ℕ) (l m : Link) (x : LinkRequests) → StillTold l m → TellsRequests limit l x → TellsRequests limit m x
tells_told limit l m x t h = record {
  answered = h.answered;
  sent = h.sent;
  received = h.received;
  last = last_told limit l m t x.last h.sent h.received h.last;
  sent_is = holds_same l.sent m.sent (requests_for (addresses_exchanged x.answered) ++ h.sent) t.same.sent h.sent_is;
  received_is = holds_same l.received m.received (replies_of x.answered ++ h.received) t.same.received h.received_is;
}

-- ---- a front of a request

some_rest : (part whole rest : List ℕ) → whole ≡ part ++ rest → length part < length whole → 0 < length rest
some_rest part whole rest e h = omega (arith, h, ap (λ (t : List ℕ). length t) e, length-append part rest)

no_rest : (part whole rest : List ℕ) → whole ≡ part ++ rest → length whole ≤ length part → part ≡ whole
no_rest part whole rest e h =
    let none : rest ≡ [] = nil_from_length rest (omega (arith, h, ap (λ (t : List ℕ). length t) e, length-append part rest)) in
    sym (e ∙ ap (λ (t : List ℕ). part ++ t) none ∙ append-nil part)

abbrev pub is_all : Address → List ℕ → Bool
is_all address part = not (nat_lt (length part) (length (request_for address)))

abbrev pub last_by : Address → List ℕ → LastRequest
last_by address part = if is_all address part then Unanswered address else NoneWhole

abbrev pub times_by : Address → List ℕ → ℕ
times_by address part = if is_all address part then 1 else 0

pub front_last : (limit : ℕ) (l : Link) (address : Address) (part received : List ℕ) → IsWebAddress address → IsFront part (request_for address) → IsLast limit l (last_by address part) part received
front_last limit l address part received is h = elim (cases_Bool (nat_lt (length part) (length (request_for address)))) [
  | inl e ↦ subst (λ (v : Bool). IsLast limit l (if not v then Unanswered address else NoneWhole) part received) (sym e)
      (FrontOf address h.rest is h.is_whole (some_rest part (request_for address) h.rest h.is_whole (ltb-true (length part) (length (request_for address)) e)))
  | inr e ↦ subst (λ (v : Bool). IsLast limit l (if not v then Unanswered address else NoneWhole) part received) (sym e)
      (is, no_rest part (request_for address) h.rest h.is_whole (ltb-false (length part) (length (request_for address)) e))
]

pub sent_once : (e : Exchanging) → times_sent e ≤ 1
sent_once e = one_mark (is_sent e)

some_request : (address : Address) → 0 < length (request_for address)
some_request address = omega arith

pub first_unsent : (address : Address) → is_all address [] ≡ false
first_unsent address = ap not (lt-ltb 0 (length (request_for address)) (some_request address))

pub none_sent : (e : Exchanging) → e.sent ≡ [] → times_sent e ≡ 0
none_sent e none = ap (λ (s : List ℕ). times_by e.address s) none ∙ ap (λ (v : Bool). if v then 1 else 0) (first_unsent e.address)

pub front_for : (part : List ℕ) (address : Address) → IsFront part (request_of address) → IsFront part (request_for address)
front_for part address h = record { rest = h.rest; is_whole = sym (request_is address) ∙ h.is_whole }

-- ---- which link

pub on_is : (o : Option ℕ) (k : ℕ) → 0 < on_link o k → o ≡ Some k
on_is None k h = absurd (omega (arith, h))
on_is (Some i) k h = elim (cases_eq i k) [ inl e ↦ ap (λ (x : ℕ). Some x) e | inr n ↦ absurd (off (on_link (Some i) k) k (on_other i k n) h) ]

pub no_link : (o : Option ℕ) (k : ℕ) → o ≡ Some k → o ≡ None → ⊥
no_link o k e f = let g : Some k ≡ None = sym e ∙ f in cc

pub moved_none : (s r : List ℕ) (e : Exchanging) (o : Option ℕ) (a : WireState) → o ≡ None → StandsOn s r e o a → e.sent ≡ []
moved_none s r e None a none h = h.2
moved_none s r e (Some k) a none h = cc

pub stands_at : (s r : List ℕ) (e : Exchanging) (o : Option ℕ) (k : ℕ) (b : WireState) → o ≡ Some k → StandsOn s r e o b → Holds (b.links k).sent (s ++ e.sent) × Holds (b.links k).received (r ++ e.received)
stands_at s r e None k b l h = cc
stands_at s r e (Some i) k b l h = subst (λ (x : ℕ). Holds (b.links x).sent (s ++ e.sent) × Holds (b.links x).received (r ++ e.received)) (some_is i k l) h

pub linked_given : (o : Option ℕ) (a : WireState) → OpensGiven a → IsLinked o a → (k : ℕ) → o ≡ Some k → k < a.given
linked_given None a g h k e = cc
linked_given (Some i) a g h k e = subst (λ (x : ℕ). x < a.given) (some_is i k e) (given_is a i g h)

module _ (limit : ℕ) (since : WireState) where
  -- ---- the counts after a poll

  module _ (answered : List Exchanged) (all : ℕ → LinkRequests) (x : LinkRequests) where
    pub sent_moves : (test : Address → Bool) (address to : Address) (o p : Option ℕ) (last : LastRequest) (own own' : ℕ) (a b : WireState) → LinkAfter to o p a b → since.given ≤ a.given → ((k : ℕ) → o ≡ Some k → k < a.given)
        → IsOn since all answered last o → (o ≡ None → own ≡ 0) → (p ≡ None → own' ≡ 0)
        → count_by test (addresses_exchanged answered ++ last_whole last) ≡ count_by test (addresses_exchanged answered) + cond (test address) own 0
        → count_by test (whole_requests x) ≡ count_by test (addresses_exchanged answered) + cond (test address) own' 0
        → count_sent test (put_at p x all) since b + cond (test address) own 0 ≡ count_sent test all since a + cond (test address) own' 0
    sent_moves test address to (Some j) (Some i) last own own' a b l later below on n n' c c' =
        let low : since.given ≤ i = omega (arith, l.0, on.0) in
        let high : i < a.given = omega (arith, l.0, below j refl) in
        let total : count_sent test (put_at (Some i) x all) since b + count_by test (whole_requests (all i)) ≡ count_sent test all since a + count_by test (whole_requests x)
        = with_old (λ (r : LinkRequests). count_by test (whole_requests r)) all x i since.given a.given b.given l.1 low high in
        let here : count_by test (whole_requests (all i)) ≡ count_by test (whole_requests (all j)) = ap (λ (k : ℕ). count_by test (whole_requests (all k))) l.0 in
        let was : count_by test (whole_requests (all j)) ≡ count_by test (addresses_exchanged answered ++ last_whole last) = ap (λ (r : LinkRequests). count_by test (whole_requests r)) on.1 in
        omega (arith, total, here, was, c, c')
    sent_moves test address to (Some j) None last own own' a b l later below on n n' c c' = absurd l
    sent_moves test address to None None last own own' a b l later below on n n' c c' =
        let same : count_sent test all since b ≡ count_sent test all since a = ap (λ (m : ℕ). over_links (λ k. count_by test (whole_requests (all k))) since.given (m - since.given)) l.0 in
        omega (arith, same, nothing_counts (test address) own (n refl), nothing_counts (test address) own' (n' refl))
    sent_moves test address to None (Some i) last own own' a b l later below on n n' c c' =
        let total : count_sent test (put_at (Some i) x all) since b ≡ count_sent test all since a + count_by test (whole_requests x)
        = with_new (λ (r : LinkRequests). count_by test (whole_requests r)) all x i since.given a.given b.given l.0 l.1 later in
        let none : count_by test (addresses_exchanged answered) ≡ count_by test [] = ap (λ (xs : List Exchanged). count_by test (addresses_exchanged xs)) on in
        omega (arith, total, none, c', nothing_counts (test address) own (n refl))

    pub answers_move : (test : Address → Bool) (gain : ℕ) (to : Address) (o p : Option ℕ) (last : LastRequest) (a b : WireState) → LinkAfter to o p a b → since.given ≤ a.given → ((k : ℕ) → o ≡ Some k → k < a.given)
        → IsOn since all answered last o → (p ≡ None → gain ≡ 0)
        → count_by test (addresses_exchanged answered ++ last_answered last) ≡ count_by test (addresses_exchanged answered)
        → count_by test (addresses_exchanged answered) + gain ≡ count_by test (whole_answers x)
        → count_answered test all since a + gain ≤ count_answered test (put_at p x all) since b
    answers_move test gain to (Some j) (Some i) last a b l later below on n c c' =
        let low : since.given ≤ i = omega (arith, l.0, on.0) in
        let high : i < a.given = omega (arith, l.0, below j refl) in
        let total : count_answered test (put_at (Some i) x all) since b + count_by test (whole_answers (all i)) ≡ count_answered test all since a + count_by test (whole_answers x)
        = with_old (λ (r : LinkRequests). count_by test (whole_answers r)) all x i since.given a.given b.given l.1 low high in
        let here : count_by test (whole_answers (all i)) ≡ count_by test (whole_answers (all j)) = ap (λ (k : ℕ). count_by test (whole_answers (all k))) l.0 in
        let was : count_by test (whole_answers (all j)) ≡ count_by test (addresses_exchanged answered ++ last_answered last) = ap (λ (r : LinkRequests). count_by test (whole_answers r)) on.1 in
        omega (arith, total, here, was, c, c')
    answers_move test gain to (Some j) None last a b l later below on n c c' = absurd l
    answers_move test gain to None None last a b l later below on n c c' =
        let same : count_answered test all since b ≡ count_answered test all since a = ap (λ (m : ℕ). over_links (λ k. count_by test (whole_answers (all k))) since.given (m - since.given)) l.0 in
        omega (arith, same, n refl)
    answers_move test gain to None (Some i) last a b l later below on n c c' =
        let total : count_answered test (put_at (Some i) x all) since b ≡ count_answered test all since a + count_by test (whole_answers x)
        = with_new (λ (r : LinkRequests). count_by test (whole_answers r)) all x i since.given a.given b.given l.0 l.1 later in
        omega (arith, total, c')

  -- ---- what is so of links that are held

  abbrev pub Own : (ℕ → LinkRequests) → WireState → Exchanging → Type 0
  Own all a e = OwnRequests limit since all a e

  on_as : (answered : List Exchanged) (last : LastRequest) (o : Option ℕ) (all more : ℕ → LinkRequests) → ((k : ℕ) → o ≡ Some k → more k ≡ all k) → IsOn since all answered last o → IsOn since more answered last o
  on_as answered last None all more same h = h
  on_as answered last (Some k) all more same h = (h.0, same k refl ∙ h.1)

  pub own_told : (e : Exchanging) (all more : ℕ → LinkRequests) (a b : WireState) → ((k : ℕ) → e.link ≡ Some k → SameTold (a.links k) (b.links k)) → ((k : ℕ) → e.link ≡ Some k → more k ≡ all k) → Own all a e → Own more b e
  own_told e all more a b told same h = record {
    answered = h.answered;
    are_answered = h.are_answered;
    is_address = h.is_address;
    is_limit = h.is_limit;
    stands = stands_as (requests_for (addresses_exchanged h.answered)) (replies_of h.answered) e e.link a b told h.stands;
    front = h.front;
    on = on_as h.answered (last_by e.address e.sent) e.link all more same h.on;
  }

  pub flights_told : (fs : List Flight) (all more : ℕ → LinkRequests) (a b : WireState) → ((k : ℕ) → 0 < flights_on fs k → SameTold (a.links k) (b.links k)) → ((k : ℕ) → 0 < flights_on fs k → more k ≡ all k)
      → AllByRecursion (λ f. Own all a f.exchange) fs → AllByRecursion (λ f. Own more b f.exchange) fs
  flights_told [] all more a b told same h = tt
  flights_told (f ∷ fs) all more a b told same h = (
    own_told f.exchange all more a b (λ k e. told k (omega (arith, on_its f.exchange.link k e))) (λ k e. same k (omega (arith, on_its f.exchange.link k e))) h.0,
    flights_told fs all more a b (λ k p. told k (omega (arith, p))) (λ k p. same k (omega (arith, p))) h.1,
  )

  pub spare_told : (ss : List Spare) (all more : ℕ → LinkRequests) (a b : WireState) → ((k : ℕ) → 0 < spare_on ss k → SameTold (a.links k) (b.links k)) → ((k : ℕ) → 0 < spare_on ss k → more k ≡ all k)
      → AllByRecursion (λ s. RequestsOn limit since all a s) ss → AllByRecursion (λ s. RequestsOn limit since more b s) ss
  spare_told [] all more a b told same h = tt
  spare_told (s ∷ ss) all more a b told same h = (
    (h.0.0, own_told (starting h.0.0 limit (Some s.link)) all more a b (λ k e. told k (omega (arith, on_its (Some s.link) k e))) (λ k e. same k (omega (arith, on_its (Some s.link) k e))) h.0.1),
    spare_told ss all more a b (λ k p. told k (omega (arith, p))) (λ k p. same k (omega (arith, p))) h.1,
  )

  -- ---- what a poll puts on its link

  pub record Puts (address : Address) (link : Option ℕ) (answered : List Exchanged) (b : WireState) : Type 0 where
    pub x : LinkRequests
    pub own : ℕ
    pub gain : (Address → Bool) → ℕ
    pub few : own ≤ 1
    pub none : link ≡ None → own ≡ 0
    pub no_gain : link ≡ None → (test : Address → Bool) → gain test ≡ 0
    pub tells : (k : ℕ) → link ≡ Some k → TellsRequests limit (b.links k) x
    pub sent : (test : Address → Bool) → count_by test (whole_requests x) ≡ count_by test (addresses_exchanged answered) + cond (test address) own 0
    pub answers : (test : Address → Bool) → count_by test (addresses_exchanged answered) + gain test ≡ count_by test (whole_answers x)

  -- a front of the request, or all of it
  abbrev puts_front : (address : Address) (link : Option ℕ) (answered : List Exchanged) (b : WireState) (part received : List ℕ) → AllByRecursion (IsAnswered limit) answered → IsWebAddress address → IsFront part (request_for address) → (link ≡ None → ⊥)
      → ((k : ℕ) → link ≡ Some k → Holds (b.links k).sent (requests_for (addresses_exchanged answered) ++ part) × Holds (b.links k).received (replies_of answered ++ received)) → Puts address link answered b
  puts_front address link answered b part received are is front some holds = record {
    x = record { answered = answered; last = last_by address part };
    own = times_by address part;
    gain = λ test. 0;
    few = one_mark (is_all address part);
    none = λ n. absurd (some n);
    no_gain = λ n test. refl;
    tells = λ k e. record { answered = are; sent = part; received = received; last = front_last limit (b.links k) address part received is front; sent_is = (holds k e).0; received_is = (holds k e).1 };
    sent = λ test. own_count (is_all address part) test (addresses_exchanged answered) address;
    answers = λ test. (let same : count_by test (addresses_exchanged answered ++ last_answered (last_by address part)) ≡ count_by test (addresses_exchanged answered) = own_answers (is_all address part) test (addresses_exchanged answered) address in omega (arith, same));
  }

  -- nothing, without a link
  abbrev puts_none : (address : Address) (answered : List Exchanged) (b : WireState) → Puts address None answered b
  puts_none address answered b = record {
    x = record { answered = answered; last = NoneWhole };
    own = 0;
    gain = λ test. 0;
    few = omega arith;
    none = λ n. refl;
    no_gain = λ n test. refl;
    tells = λ k e. absurd (no_link None k e refl);
    sent = λ test. own_count false test (addresses_exchanged answered) address;
    answers = λ test. (let same : count_by test (addresses_exchanged answered ++ []) ≡ count_by test (addresses_exchanged answered) = count-nil test (addresses_exchanged answered) in omega (arith, same));
  }

  -- the whole request, without an answer
  abbrev puts_whole : (address : Address) (link : Option ℕ) (answered : List Exchanged) (b : WireState) (received : List ℕ) → AllByRecursion (IsAnswered limit) answered → IsWebAddress address → (link ≡ None → ⊥)
      → ((k : ℕ) → link ≡ Some k → Holds (b.links k).sent (requests_for (addresses_exchanged answered) ++ request_for address) × Holds (b.links k).received (replies_of answered ++ received)) → Puts address link answered b
  puts_whole address link answered b received are is some holds = record {
    x = record { answered = answered; last = Unanswered address };
    own = 1;
    gain = λ test. 0;
    few = omega arith;
    none = λ n. absurd (some n);
    no_gain = λ n test. refl;
    tells = λ k e. record { answered = are; sent = request_for address; received = received; last = (is, refl); sent_is = (holds k e).0; received_is = (holds k e).1 };
    sent = λ test. count-one test (addresses_exchanged answered) address;
    answers = λ test. (let same : count_by test (addresses_exchanged answered ++ []) ≡ count_by test (addresses_exchanged answered) = count-nil test (addresses_exchanged answered) in omega (arith, same));
  }

  -- the whole request and a whole reply, behind which nothing more is sent
  abbrev puts_reply : (address : Address) (link : Option ℕ) (answered : List Exchanged) (b : WireState) (received : List ℕ) → AllByRecursion (IsAnswered limit) answered → IsWebAddress address → (link ≡ None → ⊥)
      → ((k : ℕ) → link ≡ Some k → HasReply limit (b.links k) received)
      → ((k : ℕ) → link ≡ Some k → Holds (b.links k).sent (requests_for (addresses_exchanged answered) ++ request_for address) × Holds (b.links k).received (replies_of answered ++ received)) → Puts address link answered b
  puts_reply address link answered b received are is some reply holds = record {
    x = record { answered = answered; last = Replied address };
    own = 1;
    gain = λ test. cond (test address) 1 0;
    few = omega arith;
    none = λ n. absurd (some n);
    no_gain = λ n test. absurd (some n);
    tells = λ k e. record { answered = are; sent = request_for address; received = received; last = (is, refl, reply k e); sent_is = (holds k e).0; received_is = (holds k e).1 };
    sent = λ test. count-one test (addresses_exchanged answered) address;
    answers = λ test. sym (count-one test (addresses_exchanged answered) address);
  }

  pub requests_more : (answered : List Exchanged) (x : Exchanged) → requests_for (addresses_exchanged (answered ++ x ∷ [])) ++ [] ≡ requests_for (addresses_exchanged answered) ++ request_for x.address
  requests_more answered x =
      append-nil (requests_for (addresses_exchanged (answered ++ x ∷ [])))
      ∙ ap requests_for (addresses-append answered (x ∷ []))
      ∙ flat-append request_for (addresses_exchanged answered) (x.address ∷ [])
      ∙ ap (λ (t : List ℕ). requests_for (addresses_exchanged answered) ++ t) (append-nil (request_for x.address))

  pub replies_more : (answered : List Exchanged) (x : Exchanged) → replies_of (answered ++ x ∷ []) ++ [] ≡ replies_of answered ++ x.received
  replies_more answered x =
      append-nil (replies_of (answered ++ x ∷ [])) ∙ flat-append (λ (y : Exchanged). y.received) answered (x ∷ []) ∙ ap (λ (t : List ℕ). replies_of answered ++ t) (append-nil x.received)

  pub answer_more : (test : Address → Bool) (answered : List Exchanged) (address : Address) (received : List ℕ)
      → count_by test (addresses_exchanged (answered ++ (record { address = address; received = received }) ∷ []) ++ []) ≡ count_by test (addresses_exchanged answered) + cond (test address) 1 0
  answer_more test answered address received =
      count-nil test (addresses_exchanged (answered ++ (record { address = address; received = received }) ∷ []))
      ∙ ap (λ (l : List Address). count_by test l) (addresses-append answered ((record { address = address; received = received }) ∷ []))
      ∙ count-one test (addresses_exchanged answered) address

  -- the whole request and its reply, and the link is left
  abbrev puts_answer : (address : Address) (link : Option ℕ) (answered : List Exchanged) (b : WireState) (received : List ℕ) → AllByRecursion (IsAnswered limit) answered → (link ≡ None → ⊥)
      → IsAnswered limit (record { address = address; received = received })
      → ((k : ℕ) → link ≡ Some k → Holds (b.links k).sent (requests_for (addresses_exchanged answered) ++ request_for address) × Holds (b.links k).received (replies_of answered ++ received)) → Puts address link answered b
  puts_answer address link answered b received are some reply holds =
      let last : Exchanged = record { address = address; received = received } in
      record {
        x = record { answered = answered ++ (record { address = address; received = received }) ∷ []; last = NoneWhole };
        own = 1;
        gain = λ test. cond (test address) 1 0;
        few = omega arith;
        none = λ n. absurd (some n);
        no_gain = λ n test. absurd (some n);
        tells = λ k e. record {
          answered = all_append (IsAnswered limit) answered (last ∷ []) are (reply, tt);
          sent = [];
          received = [];
          last = Nothing refl;
          sent_is = holds_is (b.links k).sent (requests_for (addresses_exchanged answered) ++ request_for address) (requests_for (addresses_exchanged (answered ++ last ∷ [])) ++ []) (requests_more answered last) (holds k e).0;
          received_is = holds_is (b.links k).received (replies_of answered ++ received) (replies_of (answered ++ last ∷ []) ++ []) (replies_more answered last) (holds k e).1;
        };
        sent = λ test. answer_more test answered address received;
        answers = λ test. sym (answer_more test answered address received);
      }

  -- ---- each answer of a poll

  module _ (f : Flight) (a b : WireState) (all : ℕ → LinkRequests) (s : Own all a f.exchange) where
    pub address_after : (answer : Option (Result Reply ExchangeFault)) (h : Polls answer f a b) → IsWebAddress h.now.address
    address_after answer h = polled_address f.exchange h.now a b h.touches s.is_address

    -- the whole request, and what was received in reply
    whole_at : (address : Address) (link : Option ℕ) (i : ℕ) (received : List ℕ) → link ≡ Some i → Holds (b.links i).sent (requests_for (addresses_exchanged s.answered) ++ request_of address) → Holds (b.links i).received (replies_of s.answered ++ received)
        → (k : ℕ) → link ≡ Some k → Holds (b.links k).sent (requests_for (addresses_exchanged s.answered) ++ request_for address) × Holds (b.links k).received (replies_of s.answered ++ received)
    whole_at address link i received l sent had k e =
        subst (λ (j : ℕ). Holds (b.links j).sent (requests_for (addresses_exchanged s.answered) ++ request_for address) × Holds (b.links j).received (replies_of s.answered ++ received)) (one_value link l e)
        (holds_is (b.links i).sent (requests_for (addresses_exchanged s.answered) ++ request_of address) (requests_for (addresses_exchanged s.answered) ++ request_for address) (ap (λ (t : List ℕ). requests_for (addresses_exchanged s.answered) ++ t) (sym (request_is address))) sent, had)

    ends_puts : (now : Exchanging) (received : List ℕ) → IsWebAddress now.address → Ends f.exchange now a b received → Puts now.address now.link s.answered b
    ends_puts now received is e =
        puts_whole now.address now.link s.answered b received s.are_answered is (no_link now.link e.k e.link)
        (whole_at now.address now.link e.k received e.link (e.sent_is (requests_for (addresses_exchanged s.answered)) (replies_of s.answered) s.stands) (e.received_is (requests_for (addresses_exchanged s.answered)) (replies_of s.answered) s.stands))

    front_puts : (now : Exchanging) (o : Option ℕ) → IsWebAddress now.address → FrontSent f.exchange a now o b → Puts now.address o s.answered b
    front_puts now None is h = puts_none now.address s.answered b
    front_puts now (Some i) is h =
        let t = h (requests_for (addresses_exchanged s.answered)) (replies_of s.answered) s.stands in
        puts_front now.address (Some i) s.answered b t.0 t.1 s.are_answered is (front_for t.0 now.address t.2) (no_link (Some i) i refl)
        (λ k e. subst (λ (j : ℕ). Holds (b.links j).sent (requests_for (addresses_exchanged s.answered) ++ t.0) × Holds (b.links j).received (replies_of s.answered ++ t.1)) (some_is i k e) (t.3, t.4))

    abbrev pub pending_puts : (h : Polls None f a b) → Puts h.now.address h.now.link s.answered b
    pending_puts h =
        puts_front h.now.address h.now.link s.answered b h.now.sent h.now.received s.are_answered (address_after None h) (front_for h.now.sent h.now.address h.answers.front) (no_link h.now.link h.answers.k h.answers.link)
        (λ k e. stands_at (requests_for (addresses_exchanged s.answered)) (replies_of s.answered) h.now h.now.link k b e (h.answers.stands (requests_for (addresses_exchanged s.answered)) (replies_of s.answered) s.stands))

    pub fault_puts : (why : ExchangeFault) (h : Polls (Some (Err why)) f a b) → Puts h.now.address h.now.link s.answered b
    fault_puts exchanges.Failed h = front_puts h.now h.now.link (address_after (Some (Err exchanges.Failed)) h) h.answers.breaks.front
    fault_puts (exchanges.Cut received) h = ends_puts h.now received (address_after (Some (Err (exchanges.Cut received))) h) h.answers.ends
    fault_puts (exchanges.Bad fault received) h = ends_puts h.now received (address_after (Some (Err (exchanges.Bad fault received))) h) h.answers.ends
    fault_puts exchanges.OutOfMemory h = front_puts h.now h.now.link (address_after (Some (Err exchanges.OutOfMemory)) h) h.answers.front

    pub replied_at : (answer : Reply) (h : Polls (Some (Ok answer)) f a b) → (k : ℕ) → h.now.link ≡ Some k
        → Holds (b.links k).sent (requests_for (addresses_exchanged s.answered) ++ request_for h.now.address) × Holds (b.links k).received (replies_of s.answered ++ h.answers.received)
    replied_at answer h =
        let r = h.answers in
        whole_at h.now.address h.now.link r.k r.received r.link (r.sent_is (requests_for (addresses_exchanged s.answered)) (replies_of s.answered) s.stands) (r.received_is (requests_for (addresses_exchanged s.answered)) (replies_of s.answered) s.stands)

    pub is_limited : (answer : Option (Result Reply ExchangeFault)) (h : Polls answer f a b) → h.now.limit ≡ limit
    is_limited answer h = h.touches.limit ∙ s.is_limit

    abbrev pub over_puts : (answer : Reply) (h : Polls (Some (Ok answer)) f a b) → Puts h.now.address h.now.link s.answered b
    over_puts answer h =
        let r = h.answers in
        puts_reply h.now.address h.now.link s.answered b r.received s.are_answered (address_after (Some (Ok answer)) h) (no_link h.now.link r.k r.link)
        (λ k e. record {
          body = answer.body;
          n = r.n;
          keeps = answer.keeps;
          at_end = r.at_end;
          whole = ap (λ (n : ℕ). reply_of r.received r.at_end n) (sym (is_limited (Some (Ok answer)) h)) ∙ r.whole;
          ended = λ end. subst (λ (j : ℕ). Holds (b.links j).ended true) (one_value h.now.link r.link e) (r.ended end).0;
        })
        (replied_at answer h)

    abbrev pub left_puts : (answer : Reply) (h : Polls (Some (Ok answer)) f a b) → h.now.standing ≡ Left → Puts h.now.address h.now.link s.answered b
    left_puts answer h left =
        let r = h.answers in
        puts_answer h.now.address h.now.link s.answered b r.received s.are_answered (no_link h.now.link r.k r.link)
        (record { is_address = address_after (Some (Ok answer)) h; body = answer.body; keeps = answer.keeps; whole = kept_reply limit f.exchange h.now a b answer (is_limited (Some (Ok answer)) h) r left })
        (replied_at answer h)
