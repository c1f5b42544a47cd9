-- What was sent and received on the links that a pool holds, after each call on a link.
use Rattle.std.proofs.Common.{ℕ, ◌≡◌, ◌<◌, ◌==◌, ◌⊎◌, inl, inr, ◌++◌, List, [], ◌∷◌, length, Option, Some, None, Bool, true, false, Result, Ok, Err, refl, sym, ◌∙◌, ap, ap₂, subst, arith, append_assoc, append-nil, if◌then◌else◌}
use Rattle.std.specs.Prelude.{◌&&◌, Option, Some, None}
use Rattle.std.specs.List.{AllByRecursion, flat_map}
use Rattle.std.proofs.lemmas.Bool.{and_parts}
use Rattle.std.proofs.lemmas.Bool.Decides.{eqb_tells}
use Rattle.std.proofs.lemmas.List.{map-append}
use Rattle.tpf_base.specs.Addresses.{Address, authority_of}
use Rattle.tpf_base.specs.HttpReply.{Whole, reply_of}
use Rattle.tpf_base.specs.Links.{Link, Nature, WireState, OpensGiven, told_by}
use Rattle.tpf_base.specs.Calls.{Closes}
use Rattle.http_wire.specs.declared.message.Reply.{Reply}
use Rattle.template_fill.specs.Authorities.{AuthoritiesAreHostsAndPorts}
use Rattle.http_ends.specs.Requests.{request_for}
use Rattle.http_ends.specs.Cuts.{Answered, Sent, sent_for, bytes_of, sent_of, received_of}
use Rattle.tpf_base.specs.Sending.{Holds}
use Rattle.exchange.specs.Exchanges.{Exchanging, StandsOn, starting, request_of, left_link}
use Rattle.exchange.specs.Polls.{Touches, LinkAfter, Replies}
use Rattle.exchange.specs.declared.exchange.Standing.TheVariants.{Left, Over}
use Rattle.exchange.specs.declared.fault.ExchangeFault.{ExchangeFault}
use Rattle.request_pool.specs.declared.asks.Waiting.{Waiting}
use Rattle.request_pool.specs.declared.asks.Flight.{Flight}
use Rattle.request_pool.specs.declared.asks.Spare.{Spare}
use Rattle.request_pool.specs.declared.fault.Polled.{Polled}
use Rattle.request_pool.specs.declared.fault.Polled.TheVariants as polls
use Rattle.request_pool.specs.declared.fault.PoolFault.{PoolFault}
use Rattle.request_pool.specs.declared.fault.PoolFault.TheVariants as faults
use Rattle.request_pool.specs.Pools.{Pooled}
use Rattle.request_pool.specs.Owned.{flights_on, spare_on, held_on}
use Rattle.request_pool.specs.Polls.{Shuts, Settles, NoLink, Kept, Shut, TakesLink, IsFor, Polls, FlightTo}
use Rattle.request_pool.specs.Runs.{Begins, Starts, Overruns, Flies, Starves, PollsNext}
use Rattle.request_pool.proofs.Owned.{rest_none}
use Rattle.request_pool.proofs.Suits.{Owns, own_none, left_is}
use Rattle.list_laws.proofs.Each.{all_append, all_front, all_back}
use Rattle.request_pool.proofs.Risen.{on_its}
use Rattle.tpf_base.proofs.SendingLemmas.{holds_same}
use Rattle.pool_laws.specs.Following.{IsWebAddress, IsReplied, HasPeer, Follows, AnswersSoFar, FollowsOn}

-- ---- a link of which the same is told

-- its peer, and the bytes that were sent and received
pub record SameTold (old new : Link) : Type 0 where
  pub peer : new.peer ≡ old.peer
  pub sent : new.sent ≡ old.sent
  pub received : new.received ≡ old.received

pub told_same : (old new : Link) → new ≡ old → SameTold old new
told_same old new e = record { peer = ap (λ (x : Link). x.peer) e; sent = ap (λ (x : Link). x.sent) e; received = ap (λ (x : Link). x.received) e }

pub stands_as : (s r : List ℕ) (e : Exchanging) (o : Option ℕ) (a b : WireState) → ((k : ℕ) → o ≡ Some k → SameTold (a.links k) (b.links k)) → StandsOn s r e o a → StandsOn s r e o b
stands_as s r e None a b same h = h
stands_as s r e (Some k) a b same h =
    let t = same k refl in
    (holds_same (a.links k).sent (b.links k).sent (s ++ e.sent) t.sent h.0, holds_same (a.links k).received (b.links k).received (r ++ e.received) t.received h.1)

peer_as : (address : Address) (o : Option ℕ) (a b : WireState) → b.nature ≡ a.nature → ((k : ℕ) → o ≡ Some k → SameTold (a.links k) (b.links k)) → HasPeer address o a → HasPeer address o b
peer_as address None a b n same h = h
peer_as address (Some k) a b n same h = (same k refl).peer ∙ h ∙ ap (λ (x : Nature). told_by x.tells (address.host, address.port)) (sym n)

pub follows_told : (limit : ℕ) (e : Exchanging) (a b : WireState) → b.nature ≡ a.nature → ((k : ℕ) → e.link ≡ Some k → SameTold (a.links k) (b.links k)) → Follows limit a e → Follows limit b e
follows_told limit e a b n same h = record {
  is_address = h.is_address;
  is_limit = h.is_limit;
  before = h.before;
  replied = h.replied;
  stands = stands_as (bytes_of (sent_of h.before)) (received_of h.before) e e.link a b same h.stands;
  peer = peer_as e.address e.link a b n same h.peer;
}

-- ---- all links that are held

flights_told : (limit : ℕ) (fs : List Flight) (a b : WireState) → b.nature ≡ a.nature → ((k : ℕ) → 0 < flights_on fs k → SameTold (a.links k) (b.links k))
    → AllByRecursion (λ f. Follows limit a f.exchange) fs → AllByRecursion (λ f. Follows limit b f.exchange) fs
flights_told limit [] a b n same h = tt
flights_told limit (f ∷ fs) a b n same h = (
  follows_told limit f.exchange a b n (λ k e. same k (omega (arith, on_its f.exchange.link k e))) h.0,
  flights_told limit fs a b n (λ k p. same k (omega (arith, p))) h.1,
)

spare_told : (limit : ℕ) (ss : List Spare) (a b : WireState) → b.nature ≡ a.nature → ((k : ℕ) → 0 < spare_on ss k → SameTold (a.links k) (b.links k))
    → AllByRecursion (λ s. FollowsOn limit a s) ss → AllByRecursion (λ s. FollowsOn limit b s) ss
spare_told limit [] a b n same h = tt
spare_told limit (s ∷ ss) a b n same h = (
  (h.0.0, h.0.1, follows_told limit (starting h.0.0 limit (Some s.link)) a b n (λ k e. same k (omega (arith, on_its (Some s.link) k e))) h.0.2),
  spare_told limit ss a b n (λ k p. same k (omega (arith, p))) h.1,
)

pub pool_told : (p : Pooled) (a b : WireState) → b.nature ≡ a.nature → ((k : ℕ) → 0 < held_on p k → SameTold (a.links k) (b.links k)) → AnswersSoFar p a → AnswersSoFar p b
pool_told p a b n same h = record {
  waiting = h.waiting;
  polled = flights_told p.limit p.polled a b n (λ k l. same k (omega (arith, l))) h.polled;
  due = flights_told p.limit p.due a b n (λ k l. same k (omega (arith, l))) h.due;
  spare = spare_told p.limit p.spare a b n (λ k l. same k (omega (arith, l))) h.spare;
}

pub as_before : (p q : Pooled) (a b : WireState) → q ≡ p → b ≡ a → AnswersSoFar p a → AnswersSoFar q b
as_before p q a b e f h = subst (λ (x : Pooled). AnswersSoFar x b) (sym e) (subst (λ (x : WireState). AnswersSoFar p x) (sym f) h)

-- a link was closed that is not held
pub off : (rest k : ℕ) → rest ≡ 0 → 0 < rest → ⊥
off rest k z p = omega (arith, z, p)

closed_told : (i : ℕ) (p : Pooled) (a b : WireState) → held_on p i ≡ 0 → Closes i a b → AnswersSoFar p a → AnswersSoFar p b
closed_told i p a b none c h = pool_told p a b c.only.nature (λ k l. told_same (a.links k) (b.links k) (c.only.others k (λ e. off (held_on p i) k none (subst (λ (x : ℕ). 0 < held_on p x) e l)))) h

pub shut_told : (o : Option ℕ) (p : Pooled) (a b : WireState) → ((k : ℕ) → o ≡ Some k → held_on p k ≡ 0) → Shuts o a b → AnswersSoFar p a → AnswersSoFar p b
shut_told None p a b none s h = subst (λ (x : WireState). AnswersSoFar p x) (sym s) h
shut_told (Some i) p a b none s h = closed_told i p a b (none i refl) s h

-- ---- a poll

module _ (answer : Option (Result Reply ExchangeFault)) (f : Flight) (p : Pooled) (a b : WireState) (given : OpensGiven a) (owns : Owns f p a) (h : Polls answer f a b) where
  -- no other holds the link
  pub own_link : (k : ℕ) → h.now.link ≡ Some k → held_on p k ≡ 0
  own_link = rest_none f.exchange.address f.exchange.link h.now.link a b h.touches.link given (held_on p) owns.owned

  -- the others' links are as they were
  pub rest_told : AnswersSoFar p a → AnswersSoFar p b
  rest_told = pool_told p a b h.touches.nature (λ k l. told_same (a.links k) (b.links k) (h.touches.others k (λ e. off (held_on p k) k (own_link k e) l)))

peer_at : (address : Address) (k j : ℕ) (b : WireState) → j ≡ k → HasPeer address (Some k) b → HasPeer address (Some j) b
peer_at address k j b e h = subst (λ (x : ℕ). HasPeer address (Some x) b) (sym e) h

peer_after : (address : Address) (o q : Option ℕ) (a b : WireState) → b.nature ≡ a.nature → LinkAfter address o q a b → HasPeer address o a → HasPeer address q b
peer_after address (Some k) (Some j) a b n l h = peer_at address k j b l.0 (l.3 ∙ h ∙ ap (λ (x : Nature). told_by x.tells (address.host, address.port)) (sym n))
peer_after address (Some k) None a b n l h = absurd l
peer_after address None None a b n l h = tt
peer_after address None (Some j) a b n l h = l.3 ∙ ap (λ (x : Nature). told_by x.tells (address.host, address.port)) (sym n)

-- the peer of the link of an exchange after a poll
pub polled_peer : (old new : Exchanging) (a b : WireState) → Touches old new a b → HasPeer old.address old.link a → HasPeer new.address new.link b
polled_peer old new a b t h = subst (λ (x : Address). HasPeer x new.link b) (sym t.address) (peer_after old.address old.link new.link a b t.nature t.link h)

pub polled_address : (old new : Exchanging) (a b : WireState) → Touches old new a b → IsWebAddress old.address → IsWebAddress new.address
polled_address old new a b t h = subst IsWebAddress (sym t.address) h

-- an exchange that goes on follows the same replies
goes_on : (limit : ℕ) (f : Flight) (a b : WireState) (h : Polls None f a b) → Follows limit a f.exchange → Follows limit b h.now
goes_on limit f a b h s = record {
  is_address = polled_address f.exchange h.now a b h.touches s.is_address;
  is_limit = h.touches.limit ∙ s.is_limit;
  before = s.before;
  replied = s.replied;
  stands = h.answers.stands (bytes_of (sent_of s.before)) (received_of s.before) s.stands;
  peer = polled_peer f.exchange h.now a b h.touches s.peer;
}

-- ---- a reply that keeps its link

kept_by : (v : Bool) → Left ≡ (if v then Left else Over) → v ≡ true
kept_by true e = refl
kept_by false e = cc

same_number : (n m : ℕ) → (n == m) ≡ true → n ≡ m
same_number n m e = elim (eqb_tells n m) [ inl h ↦ h.1 | inr h ↦ absurd (let q : true ≡ false = sym e ∙ h.0 in cc) ]

not_ended : (v keeps : Bool) → (v ≡ true → keeps ≡ false) → keeps ≡ true → v ≡ false
not_ended true keeps h e = absurd (let q : true ≡ false = sym e ∙ h refl in cc)
not_ended false keeps h e = refl

-- the whole reply is all that was received, and was whole before the end
record IsKept (limit : ℕ) (answer : Reply) (received : List ℕ) : Type 0 where
  whole : reply_of received false limit ≡ Whole answer.body (length received) answer.keeps

kept_whole : (limit : ℕ) (old new : Exchanging) (a b : WireState) (answer : Reply) → new.limit ≡ limit → (r : Replies old new a b answer) → new.standing ≡ Left → IsKept limit answer r.received
kept_whole limit old new a b answer e r left =
    let parts = and_parts answer.keeps (r.n == length r.received) (kept_by (answer.keeps && (r.n == length r.received)) (sym left ∙ r.left)) in
    let early : r.at_end ≡ false = not_ended r.at_end answer.keeps (λ end. (r.ended end).1) parts.0 in
    record {
      whole = ap₂ (λ (v : Bool) (l : ℕ). reply_of r.received v l) (sym early) (sym e) ∙ r.whole ∙ ap (λ (n : ℕ). Whole answer.body n answer.keeps) (same_number r.n (length r.received) parts.1);
    }

pub kept_reply : (limit : ℕ) (old new : Exchanging) (a b : WireState) (answer : Reply) → new.limit ≡ limit → (r : Replies old new a b answer) → new.standing ≡ Left → reply_of r.received false limit ≡ Whole answer.body (length r.received) answer.keeps
kept_reply limit old new a b answer e r left = (kept_whole limit old new a b answer e r left).whole

pub request_is : (address : Address) → request_of address ≡ request_for address
unfolding request_of
request_is address = refl

pub flat-append : {A : Type 0} (f : A → List ℕ) (xs ys : List A) → flat_map f (xs ++ ys) ≡ flat_map f xs ++ flat_map f ys
flat-append f [] ys = refl
flat-append f (x ∷ xs) ys = ap (λ (t : List ℕ). f x ++ t) (flat-append f xs ys) ∙ sym (append_assoc (f x) (flat_map f xs) (flat_map f ys))

-- with one request more
pub sent_more : (before : List Answered) (x : Answered) → bytes_of (sent_of (before ++ x ∷ [])) ≡ bytes_of (sent_of before) ++ x.sent.bytes
sent_more before x =
    ap bytes_of (map-append (λ (k : Answered). k.sent) before (x ∷ [])) ∙ flat-append (λ (s : Sent). s.bytes) (sent_of before) (x.sent ∷ []) ∙ ap (λ (t : List ℕ). bytes_of (sent_of before) ++ t) (append-nil x.sent.bytes)

pub received_more : (before : List Answered) (x : Answered) → received_of (before ++ x ∷ []) ≡ received_of before ++ x.received
received_more before x = flat-append (λ (k : Answered). k.received) before (x ∷ []) ∙ ap (λ (t : List ℕ). received_of before ++ t) (append-nil x.received)

pub holds_is : {T : Type 0} (x : Option T) (v w : T) → w ≡ v → Holds x v → Holds x w
holds_is x v w e h = subst (λ (t : _). Holds x t) (sym e) h

-- the link of a reply that keeps it
kept_follows : (limit : ℕ) (old new : Exchanging) (a b : WireState) (answer : Reply) (k : ℕ) → Touches old new a b → Replies old new a b answer → left_link new ≡ Some k → Follows limit a old
    → Follows limit b (starting new.address limit (Some k))
kept_follows limit old new a b answer k t r is s =
    let l = left_is new.standing new.link k is in
    let same : Some r.k ≡ Some k = sym r.link ∙ l.1 in
    let at : r.k ≡ k = cc in
    let x : Answered = record { sent = sent_for new.address; received = r.received; body = answer.body } in
    let whole = kept_whole limit old new a b answer (t.limit ∙ s.is_limit) r l.0 in
    record {
      is_address = polled_address old new a b t s.is_address;
      is_limit = refl;
      before = s.before ++ x ∷ [];
      replied = all_append (IsReplied limit) s.before (x ∷ []) s.replied
          (record { address = new.address; is_address = polled_address old new a b t s.is_address; sent = refl; keeps = answer.keeps; whole = whole.whole }, tt);
      stands = (
        holds_is (b.links k).sent (bytes_of (sent_of s.before) ++ request_of new.address) (bytes_of (sent_of (s.before ++ x ∷ [])) ++ [])
            (append-nil (bytes_of (sent_of (s.before ++ x ∷ []))) ∙ sent_more s.before x ∙ ap (λ (w : List ℕ). bytes_of (sent_of s.before) ++ w) (sym (request_is new.address)))
            (subst (λ (i : ℕ). Holds (b.links i).sent (bytes_of (sent_of s.before) ++ request_of new.address)) at (r.sent_is (bytes_of (sent_of s.before)) (received_of s.before) s.stands)),
        holds_is (b.links k).received (received_of s.before ++ r.received) (received_of (s.before ++ x ∷ []) ++ [])
            (append-nil (received_of (s.before ++ x ∷ [])) ∙ received_more s.before x)
            (subst (λ (i : ℕ). Holds (b.links i).received (received_of s.before ++ r.received)) at (r.received_is (bytes_of (sent_of s.before)) (received_of s.before) s.stands)),
      );
      peer = subst (λ (o : Option ℕ). HasPeer new.address o b) l.1 (polled_peer old new a b t s.peer);
    }

settles_follows : (left : Option ℕ) (address : Address) (p q : Pooled) (a b : WireState) → ((k : ℕ) → left ≡ Some k → held_on p k ≡ 0) → ((k : ℕ) → left ≡ Some k → Follows p.limit a (starting address p.limit (Some k)))
    → AnswersSoFar p a → Settles left address p q a b → AnswersSoFar q b
settles_follows left address p q a b none follows h (NoLink e f g) = as_before p q a b f g h
settles_follows left address p q a b none follows h (Kept k e room f g) =
    as_before (record p { spare = p.spare ++ (record { link = k; authority = authority_of address }) ∷ [] }) q a b f g (record {
      waiting = h.waiting;
      polled = h.polled;
      due = h.due;
      spare = all_append (λ (s : Spare). FollowsOn p.limit a s) p.spare ((record { link = k; authority = authority_of address }) ∷ []) h.spare ((address, refl, follows k e), tt);
    })
settles_follows left address p q a b none follows h (Shut k e full f c) = subst (λ (x : Pooled). AnswersSoFar x b) (sym f) (closed_told k p a b (none k e) c h)

-- ---- an exchange that was taken out

with_flight : (p : Pooled) (f : Flight) (a : WireState) → Follows p.limit a f.exchange → AnswersSoFar p a → AnswersSoFar (record p { polled = p.polled ++ f ∷ [] }) a
with_flight p f a s h = record {
  waiting = h.waiting;
  polled = all_append (λ (x : Flight). Follows p.limit a x.exchange) p.polled (f ∷ []) h.polled (s, tt);
  due = h.due;
  spare = h.spare;
}

with_waiting : (p : Pooled) (w : Waiting) (a : WireState) → IsWebAddress w.address → AnswersSoFar p a → AnswersSoFar (record p { waiting = w ∷ p.waiting }) a
with_waiting p w a s h = record { waiting = (s, h.waiting); polled = h.polled; due = h.due; spare = h.spare }

shut_or : (o : Option ℕ) (p : Pooled) (a b : WireState) → ((k : ℕ) → o ≡ Some k → held_on p k ≡ 0) → (b ≡ a) ⊎ Shuts o a b → AnswersSoFar p a → AnswersSoFar p b
shut_or o p a b none (inl e) h = subst (λ (x : WireState). AnswersSoFar p x) (sym e) h
shut_or o p a b none (inr s) h = shut_told o p a b none s h

is_pool : (p q : Pooled) (b : WireState) → q ≡ p → AnswersSoFar p b → AnswersSoFar q b
is_pool p q b e h = subst (λ (x : Pooled). AnswersSoFar x b) (sym e) h

pub flight_follows : (result : Result Polled PoolFault) (f : Flight) (p q : Pooled) (a b : WireState) → OpensGiven a → Owns f p a → Follows p.limit a f.exchange → AnswersSoFar p a → FlightTo result f p q a b → AnswersSoFar q b
flight_follows (Ok polls.Pending) f p q a b g o s h t =
    is_pool (record p { polled = p.polled ++ (record f { exchange = t.0.now }) ∷ [] }) q b t.1
    (with_flight p (record f { exchange = t.0.now }) b (goes_on p.limit f a b t.0 s) (rest_told None f p a b g o t.0 h))
flight_follows (Ok (polls.Came ticket address answer)) f p q a b g o s h t =
    let now = t.1.now in
    settles_follows (left_link t.1.now) t.1.now.address p q t.0 b
    (λ k e. own_link (Some (Ok answer)) f p a t.0 g o t.1 k (left_is t.1.now.standing t.1.now.link k e).1)
    (λ k e. kept_follows p.limit f.exchange t.1.now a t.0 answer k t.1.touches t.1.answers e s)
    (rest_told (Some (Ok answer)) f p a t.0 g o t.1 h) t.3
flight_follows (Ok polls.Failed) f p q a b g o s h t =
    is_pool _ q b t.4 (with_waiting p _ b (polled_address f.exchange t.1.now a b t.1.touches s.is_address) (rest_told (Some (Err t.0)) f p a b g o t.1 h))
flight_follows (Err faults.Exchange) f p q a b g o s h t = is_pool p q b t.2 (rest_told _ f p a b g o t.0 h)
flight_follows (Err (faults.Cut received)) f p q a b g o s h t = is_pool p q b t.2 (rest_told _ f p a b g o t.0 h)
flight_follows (Err (faults.Reply fault received)) f p q a b g o s h t = is_pool p q b t.1 (rest_told _ f p a b g o t.0 h)
flight_follows (Err faults.OutOfMemory) f p q a b g o s h t =
    is_pool p q b t.3 (shut_or t.2.now.link p t.1 b (own_link t.0 f p a t.1 g o t.2) t.4.1 (rest_told t.0 f p a t.1 g o t.2 h))
flight_follows (Err faults.Stalled) f p q a b g o s h t = absurd t
flight_follows (Err faults.Budget) f p q a b g o s h t = absurd t

-- ---- a start

-- what begins on a link for another address with the same authority follows the same replies
same_home : AuthoritiesAreHostsAndPorts → (limit : ℕ) (a : WireState) (s : Spare) (address : Address) (k : ℕ) → s.link ≡ k → IsFor address s → IsWebAddress address
    → FollowsOn limit a s → Follows limit a (starting address limit (Some k))
same_home one limit a s address k at home is h =
    let before = h.2 in
    let shared = (one is.0 before.is_address.0 address h.0 is.1 before.is_address.1).0 (sym h.1 ∙ home) in
    subst (λ (i : ℕ). Follows limit a (starting address limit (Some i))) at (record {
      is_address = is;
      is_limit = refl;
      before = before.before;
      replied = before.replied;
      stands = before.stands;
      peer = before.peer ∙ ap₂ (λ (host : List ℕ) (port : ℕ). told_by a.nature.tells (host, port)) shared.host shared.port;
    })

record Taken (p : Pooled) (a : WireState) (first : Waiting) (spare : List Spare) (link : Option ℕ) : Type 0 where
  follows : Follows p.limit a (starting first.address p.limit link)
  left : AllByRecursion (λ s. FollowsOn p.limit a s) spare

taken : AuthoritiesAreHostsAndPorts → (p : Pooled) (a : WireState) (first : Waiting) (spare : List Spare) (link : Option ℕ) → IsWebAddress first.address
    → AllByRecursion (λ s. FollowsOn p.limit a s) p.spare → TakesLink first p.spare spare link → Taken p a first spare link
taken one p a first spare None is h t = record {
  follows = record { is_address = is; is_limit = refl; before = []; replied = tt; stands = (refl, refl, refl, refl); peer = tt };
  left = subst (λ (l : List Spare). AllByRecursion (λ s. FollowsOn p.limit a s) l) (sym t.0) h;
}
taken one p a first spare (Some k) is h t =
    let o = t.1.3 in
    let all = subst (λ (l : List Spare). AllByRecursion (λ s. FollowsOn p.limit a s) l) o.is_old h in
    let behind = all_back (λ (s : Spare). FollowsOn p.limit a s) o.before (t.1.0 ∷ o.after) all in
    record {
      follows = same_home one p.limit a t.1.0 first.address k t.1.1 t.1.2 is behind.0;
      left = subst (λ (l : List Spare). AllByRecursion (λ s. FollowsOn p.limit a s) l) (sym o.is_new)
          (all_append (λ (s : Spare). FollowsOn p.limit a s) o.before o.after (all_front _ o.before (t.1.0 ∷ o.after) all) behind.1);
    }

-- the pool after the exchange was taken out, and the exchange
pub record Begun (q : Pooled) (f : Flight) (a : WireState) : Type 0 where
  pub rest : AnswersSoFar q a
  pub follows : Follows q.limit a f.exchange

begun_as : (q r : Pooled) (f g : Flight) (a : WireState) → q ≡ r → f ≡ g → Begun r g a → Begun q f a
begun_as q r f g a e h b = subst (λ (x : Pooled). Begun x f a) (sym e) (subst (λ (x : Flight). Begun r x a) (sym h) b)

pub begun : AuthoritiesAreHostsAndPorts → (p q : Pooled) (f : Flight) (a : WireState) → AnswersSoFar p a → Begins p q f → Begun q f a
begun one p q f a h b =
    let w = subst (λ (l : List Waiting). AllByRecursion (λ x. IsWebAddress x.address) l) b.is_first h.waiting in
    let t = taken one p a b.first b.spare b.link w.0 h.spare b.takes in
    begun_as q _ f _ a b.is_new b.flight (record { rest = record { waiting = w.1; polled = h.polled; due = h.due; spare = t.left }; follows = t.follows })

pub starts_follow : AuthoritiesAreHostsAndPorts → (result : Result Polled PoolFault) (p q : Pooled) (a b : WireState) → OpensGiven a → ((f : Flight) (mid : Pooled) → Begins p mid f → Owns f mid a) → AnswersSoFar p a
    → Starts result p q a b → AnswersSoFar q b
starts_follow one result p q a b g owns h (Overruns e budget f i) = as_before p q a b f i h
starts_follow one result p q a b g owns h (Flies mid f budget begins to) =
    let s = begun one p mid f a h begins in
    flight_follows result f mid q a b g (owns f mid begins) s.follows s.rest to
starts_follow one result p q a b g owns h (Starves e mid f begins is shuts) =
    let s = begun one p mid f a h begins in
    let r : AnswersSoFar (record mid { started = p.started }) a = record { waiting = s.rest.waiting; polled = s.rest.polled; due = s.rest.due; spare = s.rest.spare } in
    is_pool _ q b is (shut_told f.exchange.link (record mid { started = p.started }) a b (own_none f.exchange.link (held_on mid) a (owns f mid begins).owned) shuts r)

-- ---- a poll of the next

pub next_follows : (result : Result Polled PoolFault) (p q : Pooled) (a b : WireState) → OpensGiven a → ((f : Flight) (rest : List Flight) → p.due ≡ f ∷ rest → Owns f (record p { due = rest }) a) → AnswersSoFar p a
    → PollsNext result p q a b → AnswersSoFar q b
next_follows result p q a b g owns h n =
    let d = subst (λ (l : List Flight). AllByRecursion (λ x. Follows p.limit a x.exchange) l) n.is_next h.due in
    flight_follows result n.f (record p { due = n.rest }) q a b g (owns n.f n.rest n.is_next) d.0 (record { waiting = h.waiting; polled = h.polled; due = d.1; spare = h.spare }) n.to
