-- The answers of a poll, from its parts.
use Rattle.std.proofs.Common.{ℕ, ◌≡◌, ◌<◌, ◌≤◌, ◌&&◌, ◌⊎◌, inl, inr, ◌++◌, List, [], length, take, Option, Some, None, Bool, true, false, Result, Ok, Err, refl, sym, ◌∙◌, ap, ap₂, subst, arith, append-nil, if◌then◌else◌, drop, length-take-le}
use Rattle.std.proofs.lemmas.List.{take-append-drop}
use Rattle.tpf_base.specs.Causes.{Rose}
use Rattle.tpf_base.specs.Addresses.{Address}
use Rattle.tpf_base.specs.HttpReply as reply
use Rattle.tpf_base.specs.HttpReply.{begun, is_open, after_bytes, reply_of}
use Rattle.http_wire.specs.Laws.{WhatIsReadIsGiven}
use Rattle.http_wire.specs.declared.message.Reply.{Reply}
use Rattle.tpf_base.specs.Links.{Link, WireState, Sending, Receiving, IsRipe, is_short, some_left}
use Rattle.tpf_base.specs.Links as links
use Rattle.tpf_base.specs.Calls.{Closes}
use Rattle.tpf_base.specs.Sending.{Holds, SendsFrom}
use Rattle.tpf_base.specs.Sending as sending
use Rattle.tpf_base.proofs.SendingLemmas.{holds_same, rose_on}
use Rattle.exchange.specs.Exchanges.{Exchanging, request_of}
use Rattle.exchange.specs.Incoming.{Coming}
use Rattle.exchange.specs.Receiving.{ReceivesFrom}
use Rattle.exchange.specs.Polls.{Awaits, ToSend, ToReceive, Hangs, RoseOn, Waits, Breaks, Fails, ReceivedIs, Ends, Answers, HandsOver, ClosedOn, FrontSent}
use Rattle.exchange.specs.Parts.{Leading, Leads, Concludes, IsUndialled}
use Rattle.exchange.specs.declared.exchange.Standing.{Standing}
use Rattle.exchange.specs.declared.exchange.Standing.TheVariants.{Underway, Left, Over}
use Rattle.exchange.specs.declared.fault.ExchangeFault.{ExchangeFault}
use Rattle.exchange.specs.declared.fault.ExchangeFault.TheVariants as faults
use Rattle.exchange.proofs.IncomingLemmas.{open_reads_more}
use Rattle.list_laws.proofs.Tests.{moved_or}

-- ---- what was so before goes on

same_link : {o : Option ℕ} (j k : ℕ) → o ≡ Some j → o ≡ Some k → j ≡ k
same_link j k p q = cc

rose_mid : (o : Option ℕ) (j k : ℕ) (b c : WireState) → o ≡ Some j → k ≡ j → RoseOn o k b c → Rose (b.links j).stalls (c.links j).stalls
rose_mid None j k b c e f r = cc
rose_mid (Some i) j k b c e f r = subst (λ (x : ℕ). Rose (b.links x).stalls (c.links x).stalls) f r

rose_old : (o : Option ℕ) (j k : ℕ) (a c : WireState) → k ≡ j → RoseOn o j a c → RoseOn o k a c
rose_old o j k a c f r = subst (λ (x : ℕ). RoseOn o x a c) (sym f) r

then_woken : (b c : WireState) (k j : ℕ) (mid : Exchanging) → mid.link ≡ Some k → (c.idle ≤ b.idle)
    → (b.nature.steady ≡ true → (b.links j).woken ≡ true → Awaits mid (b.links j) → mid.link ≡ Some j → c.idle ≡ 0) → j ≡ k
    → b.nature.steady ≡ true → ((b.idle ≡ 0) ⊎ (((b.links k).woken ≡ true) × Awaits mid (b.links k))) → c.idle ≡ 0
then_woken b c k j mid l low w e st (inl z) = omega (arith, low, z)
then_woken b c k j mid l low w e st (inr p) =
    w st (subst (λ (x : ℕ). (b.links x).woken ≡ true) (sym e) p.0) (subst (λ (x : ℕ). Awaits mid (b.links x)) (sym e) p.1) (l ∙ ap Some (sym e))

then_front : (k : ℕ) (old mid new : Exchanging) (a b c : WireState) → Leading k old mid a b → (o : Option ℕ) → FrontSent mid b new o c → FrontSent old a new o c
then_front k old mid new a b c l None w = tt
then_front k old mid new a b c l (Some j) w = λ s r h. w s r (l.stands s r h)

then_breaks : (k : ℕ) (old mid new : Exchanging) (a b c : WireState) → Leading k old mid a b → Breaks mid new b c → Breaks old new a c
then_breaks k old mid new a b c l w = record { standing = w.standing; closed = w.closed; front = then_front k old mid new a b c l new.link w.front }

then_ends : (k : ℕ) (old mid new : Exchanging) (a b c : WireState) (received : List ℕ) → Leading k old mid a b → Ends mid new b c received → Ends old new a c received
then_ends k old mid new a b c received l w = record {
  k = w.k;
  link = w.link;
  standing = w.standing;
  closed = w.closed;
  idle = w.idle;
  sent_is = λ s r h. w.sent_is s r (l.stands s r h);
  received_is = λ s r h. w.received_is s r (l.stands s r h);
}

then_received : (k : ℕ) (old mid : Exchanging) (received : List ℕ) (a b c : WireState) → Leading k old mid a b → (o : Option ℕ) → ReceivedIs mid b received o c → ReceivedIs old a received o c
then_received k old mid received a b c l None w = tt
then_received k old mid received a b c l (Some j) w = λ s r h. w s r (l.stands s r h)

no_link : {k : ℕ} (o : Option ℕ) → o ≡ Some k → o ≡ None → ⊥
no_link o s n = cc

pub then_answers : (k : ℕ) (old mid new : Exchanging) (a b c : WireState) (result : Option (Result Reply ExchangeFault)) → Leading k old mid a b → new.link ≡ Some k → c.idle ≤ b.idle
    → Answers mid new b c result → Answers old new a c result
unfolding then_ends
then_answers k old mid new a b c None l n low w =
    let same = same_link _ _ w.link n in
    record {
      k = w.k;
      link = w.link;
      is_open = w.is_open;
      stalls = rose_old _ _ _ _ _ same (l.stalls c (rose_mid _ _ _ _ _ l.link same w.stalls));
      awaits = w.awaits;
      asleep = w.asleep;
      ripe = w.ripe;
      woken = λ st wo aw o. then_woken b c k w.k mid l.link low w.woken same (ap (λ x. x.steady) l.nature ∙ st)
          (l.woken st (subst (λ (x : ℕ). (a.links x).woken ≡ true) same wo) (subst (λ (x : ℕ). Awaits old (a.links x)) same aw) (o ∙ ap Some same));
      standing = w.standing;
      more = w.more;
      front = w.front;
      stands = λ s r h. w.stands s r (l.stands s r h);
    }
then_answers k old mid new a b c (Some (Ok answer)) l n low w = record {
  k = w.k;
  link = w.link;
  received = w.received;
  n = w.n;
  at_end = w.at_end;
  whole = w.whole;
  ended = w.ended;
  left = w.left;
  is_open = w.is_open;
  closed = w.closed;
  idle = w.idle;
  sent_is = λ s r h. w.sent_is s r (l.stands s r h);
  received_is = λ s r h. w.received_is s r (l.stands s r h);
}
then_answers k old mid new a b c (Some (Err faults.Failed)) l n low w = record {
  breaks = then_breaks k old mid new a b c l w.breaks;
  rose = rose_on _ _ _ l.later w.rose;
  more = w.more;
  received_is = then_received k old mid new.received a b c l new.link w.received_is;
  due = λ st e t. absurd (no_link _ l.link (w.due (ap (λ x. x.steady) l.nature ∙ st) e (ap (λ x. x.every) l.nature ∙ t)).0);
}
then_answers k old mid new a b c (Some (Err (faults.Cut received))) l n low w = record {
  ends = then_ends k old mid new a b c received l w.ends;
  ended = w.ended;
  more = w.more;
  short = λ h. rose_on _ _ _ l.later (w.short h);
  not_due = λ st e t. w.not_due (ap (λ x. x.steady) l.nature ∙ st) e (ap (λ x. x.every) l.nature ∙ t);
}
then_answers k old mid new a b c (Some (Err (faults.Bad fault received))) l n low w = record {
  ends = then_ends k old mid new a b c received l w.ends;
  why = w.why;
  is_fault = w.is_fault;
  bad = w.bad;
}
then_answers k old mid new a b c (Some (Err faults.OutOfMemory)) l n low w = then_breaks k old mid new a b c l w

pub leads_leading : (k : ℕ) (old mid : Exchanging) (a b : WireState) → Leads k old mid a b → Leading k old mid a b
leads_leading k old mid a b l = record {
  address = l.touches.address;
  limit = l.touches.limit;
  link = l.link;
  stands = l.stands;
  stalls = l.stalls;
  later = l.touches.later;
  nature = l.touches.nature;
  woken = l.woken;
}

pub seen_as : (v w new : Exchanging) (a c : WireState) (result : Option (Result Reply ExchangeFault)) → v ≡ w → Answers v new a c result → Answers w new a c result
seen_as v w new a c result e h = subst (λ (x : Exchanging). Answers x new a c result) e h

-- ---- waiting

receives_or : (e : Exchanging) (link : Link) → link.is_open ≡ true → e.sent ≡ request_of e.address → link.stalled ≡ Some Receiving → (b : Bool) → is_short link ≡ b → IsRipe link ⊎ Hangs e link
receives_or e link o whole s true short = inl (links.ToReceive o s short)
receives_or e link o whole s false short = inr (record { sent = whole; none_left = short })

-- an exchange that waits has a ripe link, or it hangs
ripe_or_hangs : (e : Exchanging) (link : Link) → link.is_open ≡ true → Awaits e link → IsRipe link ⊎ Hangs e link
ripe_or_hangs e link o (ToSend less s) = inl (links.ToSend o s)
ripe_or_hangs e link o (ToReceive whole s) = receives_or e link o whole s _ refl

-- ---- receiving

no_end : (told : Option (List ℕ)) (r x : List ℕ) → Holds told (r ++ (x ++ [])) → Holds told (r ++ x)
no_end told r x h = λ bytes b. h bytes b ∙ ap (λ y. r ++ y) (append-nil x)

-- an exchange, by its parts
abbrev pub on_link : Address → ℕ → ℕ → List ℕ → List ℕ → Standing → Exchanging
on_link address limit k sent received standing = record { address = address; limit = limit; link = Some k; sent = sent; received = received; standing = standing }

not_less : (x y : List ℕ) → x ≡ y → length x < length y → ⊥
not_less x y e l = let f = ap length e in absurd (omega (arith, f, l))

receives_stalled : (address : Address) (limit k : ℕ) (sent received : List ℕ) (standing : Standing) (link : Link) → sent ≡ request_of address
    → Awaits (on_link address limit k sent received standing) link → link.stalled ≡ Some Receiving
receives_stalled address limit k sent received standing link e (ToSend l s) = absurd (not_less _ _ e l)
receives_stalled address limit k sent received standing link e (ToReceive w s) = s

lost_none : (told : Option (List ℕ)) (y : List ℕ) (r x lost : List ℕ) → lost ≡ [] → Holds told (r ++ (x ++ lost)) → Holds told (r ++ (x ++ []))
lost_none told y r x lost z h = λ bytes b. h bytes b ∙ ap (λ l. r ++ (x ++ l)) z

pub reply_waits : (k : ℕ) (address : Address) (sent : List ℕ) (from to : Coming) (lost : List ℕ) (old_standing standing : Standing) (a b : WireState) → sent ≡ request_of address
    → ReceivesFrom k from to lost a b → lost ≡ [] → (a.links k).is_open ≡ true → is_open to.place ≡ true → to.place ≡ after_bytes to.limit begun to.received → WhatIsReadIsGiven → standing ≡ Underway
    → (b.links k).stalled ≡ Some Receiving → (b.links k).woken ≡ false → Rose (a.links k).stalls (b.links k).stalls
    → (a.nature.steady ≡ true → (a.links k).woken ≡ true → (a.links k).stalled ≡ Some Receiving → b.idle ≡ 0)
    → Waits (on_link address from.limit k sent from.received old_standing) (on_link address to.limit k sent to.received standing) a b
reply_waits k address sent from to lost old_standing standing a b e h z op goes_on leads given u stalled asleep rose woken = record {
  k = k;
  link = refl;
  is_open = h.calls.is_open ∙ op;
  stalls = rose;
  awaits = ToReceive e stalled;
  asleep = asleep;
  ripe = ripe_or_hangs (on_link address to.limit k sent to.received standing) (b.links k) (h.calls.is_open ∙ op) (ToReceive e stalled);
  woken = λ st wo aw l. woken st wo (receives_stalled address from.limit k sent from.received old_standing (a.links k) e aw);
  standing = u;
  more = open_reads_more given to.limit to.received (ap is_open (sym leads) ∙ goes_on);
  front = record { rest = []; is_whole = sym e ∙ sym (append-nil sent) };
  stands = λ s r held. (holds_same _ _ _ h.sent held.0, no_end _ r to.received (lost_none _ [] r to.received lost z (h.received_is r held.1)));
}

pub reply_breaks : (k : ℕ) (address : Address) (sent : List ℕ) (from to : Coming) (lost : List ℕ) (old_standing standing : Standing) (a b c : WireState) → sent ≡ request_of address
    → ReceivesFrom k from to lost a b → standing ≡ Over → Closes k b c
    → Breaks (on_link address from.limit k sent from.received old_standing) (on_link address to.limit k sent to.received standing) a c
reply_breaks k address sent from to lost old_standing standing a b c e h u closes = record {
  standing = u;
  closed = closes.is_open;
  front = λ s r held. (
    request_of address,
    to.received ++ lost,
    record { rest = []; is_whole = sym (append-nil (request_of address)) },
    holds_same _ _ _ (closes.sent ∙ h.sent) (λ bytes t. held.0 bytes t ∙ ap (λ x. s ++ x) e),
    holds_same _ _ _ closes.received (h.received_is r held.1),
  );
}

-- what receiving the whole of it left
pub record ReceivedAll (k : ℕ) (address : Address) (sent : List ℕ) (from to : Coming) (ended : Bool) (a b : WireState) : Type 0 where
  pub sent_is : sent ≡ request_of address
  pub lost : List ℕ
  pub comes : ReceivesFrom k from to lost a b
  pub none : lost ≡ []
  pub is_open : (a.links k).is_open ≡ true
  pub idle : b.idle ≡ 0
  pub at_end : ended ≡ true → Holds (b.links k).ended true
  pub short : ended ≡ true → is_short (b.links k) ≡ true → Rose a.faults b.faults
  pub not_due : ended ≡ true → a.nature.steady ≡ true → (e : ℕ) → a.nature.every ≡ Some e → is_short (b.links k) ≡ false
  pub stalled : ended ≡ false → (b.links k).stalled ≡ None

all_sent : (k : ℕ) (address : Address) (sent : List ℕ) (from to : Coming) (ended : Bool) (a b : WireState) → ReceivedAll k address sent from to ended a b
    → (s : List ℕ) → Holds (a.links k).sent (s ++ sent) → Holds (b.links k).sent (s ++ request_of address)
all_sent k address sent from to ended a b h s held = holds_same _ _ _ h.comes.sent (λ bytes t. held bytes t ∙ ap (λ x. s ++ x) h.sent_is)

all_received : (k : ℕ) (address : Address) (sent : List ℕ) (from to : Coming) (ended : Bool) (a b : WireState) → ReceivedAll k address sent from to ended a b
    → (r : List ℕ) → Holds (a.links k).received (r ++ from.received) → Holds (b.links k).received (r ++ to.received)
all_received k address sent from to ended a b h r held = no_end _ r to.received (lost_none _ [] r to.received h.lost h.none (h.comes.received_is r held))

left_only : (ended keeps last : Bool) (x : Standing) → (ended ≡ true → keeps ≡ false) → x ≡ (if keeps && last then Left else Over) → x ≡ Left → ended ≡ false
left_only true keeps last x none e l = let f = none refl in let g = ap (λ (b : Bool). if b && last then Left else Over) f in cc
left_only false keeps last x none e l = refl

reply_ends : (k : ℕ) (address : Address) (sent : List ℕ) (from to : Coming) (ended : Bool) (old_standing : Standing) (new : Exchanging) (a b c : WireState) (received : List ℕ)
    → ReceivedAll k address sent from to ended a b → received ≡ to.received → Closes k b c → new.standing ≡ Over → new.address ≡ address → new.link ≡ Some k
    → Ends (on_link address from.limit k sent from.received old_standing) new a c received
reply_ends k address sent from to ended old_standing new a b c received h e closes u ad l = record {
  k = k;
  link = l;
  standing = u;
  closed = closes.is_open;
  idle = closes.idle ∙ h.idle;
  sent_is = λ s r held. λ bytes t. holds_same _ _ _ closes.sent (all_sent k address sent from to ended a b h s held.0) bytes t ∙ ap (λ x. s ++ request_of x) (sym ad);
  received_is = λ s r held. λ bytes t. holds_same _ _ _ closes.received (all_received k address sent from to ended a b h r held.1) bytes t ∙ ap (λ x. r ++ x) (sym e);
}

-- a link that was left as it was, or closed: its bytes and whether it ended stay
settled_by : (stays : Bool) (x : Standing) → x ≡ (if stays then Left else Over) → (x ≡ Left) ⊎ (x ≡ Over)
settled_by true x e = inl e
settled_by false x e = inr e

settled : {T : Type 0} (b c : WireState) (stays : Bool) (x : Standing) (f : WireState → T) → x ≡ (if stays then Left else Over) → (x ≡ Left → c ≡ b) → (x ≡ Over → f c ≡ f b) → f c ≡ f b
settled b c stays x f e left over = elim (settled_by stays x e) [
  | inl l ↦ ap f (left l)
  | inr o ↦ over o
]

pub reply_concludes : (k : ℕ) (address : Address) (sent : List ℕ) (from to : Coming) (ended : Bool) (old_standing mid_standing : Standing) (new : Exchanging) (a b c : WireState)
    (result : Option (Result Reply ExchangeFault)) → ReceivedAll k address sent from to ended a b
    → Concludes k ended (on_link address to.limit k sent to.received mid_standing) new b c result → new.address ≡ address → new.limit ≡ to.limit → new.link ≡ Some k
    → Answers (on_link address from.limit k sent from.received old_standing) new a c result
unfolding reply_ends
reply_concludes k address sent from to ended old_standing mid_standing new a b c None h w ad li l = absurd w
reply_concludes k address sent from to ended old_standing mid_standing new a b c (Some (Ok answer)) h w ad li l = record {
  k = k;
  link = l;
  received = to.received;
  n = w.0;
  at_end = ended;
  whole = ap (λ x. reply_of to.received ended x) li ∙ w.1;
  ended = λ e. (holds_same _ _ _ (settled b c _ new.standing (λ x. (x.links k).ended) w.3 w.4 (λ o. (w.5 o).ended)) (h.at_end e), w.2 e);
  left = w.3;
  is_open = λ e. (
    ap (λ x. (x.links k).is_open) (w.4 e) ∙ h.comes.calls.is_open ∙ h.is_open,
    ap (λ x. (x.links k).stalled) (w.4 e) ∙ h.stalled (left_only ended answer.keeps _ new.standing w.2 w.3 e),
  );
  closed = λ e. (w.5 e).is_open;
  idle = settled b c _ new.standing (λ x. x.idle) w.3 w.4 (λ o. (w.5 o).idle) ∙ h.idle;
  sent_is = λ s r held. λ bytes t.
      holds_same _ _ _ (settled b c _ new.standing (λ x. (x.links k).sent) w.3 w.4 (λ o. (w.5 o).sent)) (all_sent k address sent from to ended a b h s held.0) bytes t ∙ ap (λ x. s ++ request_of x) (sym ad);
  received_is = λ s r held. holds_same _ _ _ (settled b c _ new.standing (λ x. (x.links k).received) w.3 w.4 (λ o. (w.5 o).received)) (all_received k address sent from to ended a b h r held.1);
}
reply_concludes k address sent from to ended old_standing mid_standing new a b c (Some (Err faults.Failed)) h w ad li l = absurd w
reply_concludes k address sent from to ended old_standing mid_standing new a b c (Some (Err (faults.Cut received))) h w ad li l = record {
  ends = reply_ends k address sent from to ended old_standing new a b c received h w.1 w.3 w.4 ad l;
  ended = holds_same _ _ _ w.3.ended (h.at_end w.0);
  more = ap (λ x. reply_of received true x) li ∙ w.2;
  short = λ e. subst (λ (x : ℕ). Rose a.faults x) (sym w.3.faults) (h.short w.0 (ap₂ some_left (sym w.3.received) (sym w.3.owed) ∙ e));
  not_due = λ st e t. ap₂ some_left w.3.received w.3.owed ∙ h.not_due w.0 st e t;
}
reply_concludes k address sent from to ended old_standing mid_standing new a b c (Some (Err (faults.Bad fault received))) h w ad li l = record {
  ends = reply_ends k address sent from to ended old_standing new a b c received h w.0 w.2 w.3 ad l;
  why = w.1.0;
  is_fault = w.1.1;
  bad = ap (λ x. reply_of received false x) li ∙ w.1.2;
}
reply_concludes k address sent from to ended old_standing mid_standing new a b c (Some (Err faults.OutOfMemory)) h w ad li l = absurd w

-- ---- sending

omega_less : (from to n : ℕ) → from ≤ to → to < n → from < n
omega_less from to n h l = omega (arith, h, l)

taken_less : (request whole : List ℕ) (n : ℕ) → request ≡ whole → n < length request → length (take n request) < length whole
taken_less request whole n e l = let t = length-take-le n request (omega (arith, l)) in let f = ap length e in omega (arith, t, f, l)

sends_stalled : (address : Address) (limit k : ℕ) (request received : List ℕ) (from : ℕ) (standing : Standing) (link : Link) → request ≡ request_of address → from < length request
    → Awaits (on_link address limit k (take from request) received standing) link → link.stalled ≡ Some Sending
sends_stalled address limit k request received from standing link e l (ToSend less s) = s
sends_stalled address limit k request received from standing link e l (ToReceive whole s) =
    let t = length-take-le from request (omega (arith, l)) in let f = ap length (whole ∙ sym e) in absurd (omega (arith, t, f, l))

same_awaits : (address : Address) (limit k : ℕ) (request received : List ℕ) (from to : ℕ) (old_standing mid_standing : Standing) (x y : Link) → to ≡ from → y ≡ x
    → Awaits (on_link address limit k (take from request) received old_standing) x → Awaits (on_link address limit k (take to request) received mid_standing) y
same_awaits address limit k request received from to old_standing mid_standing x y e f (ToSend less s) =
    ToSend (subst (λ (n : ℕ). length (take n request) < length (request_of address)) (sym e) less) (ap (λ l. l.stalled) f ∙ s)
same_awaits address limit k request received from to old_standing mid_standing x y e f (ToReceive whole s) = ToReceive (ap (λ n. take n request) e ∙ whole) (ap (λ l. l.stalled) f ∙ s)

sent_woken : (k : ℕ) (address : Address) (limit : ℕ) (request received : List ℕ) (from to : ℕ) (old_standing mid_standing : Standing) (a b : WireState)
    → SendsFrom k request from to a b → (to ≡ from → b ≡ a) → (a.links k).woken ≡ true
    → Awaits (on_link address limit k (take from request) received old_standing) (a.links k) → (from < to) ⊎ (to ≡ from)
    → (b.idle ≡ 0) ⊎ (((b.links k).woken ≡ true) × Awaits (on_link address limit k (take to request) received mid_standing) (b.links k))
sent_woken k address limit request received from to old_standing mid_standing a b h still wo aw (inl l) = inl (h.moved l)
sent_woken k address limit request received from to old_standing mid_standing a b h still wo aw (inr e) =
    inr (ap (λ w. (w.links k).woken) (still e) ∙ wo, same_awaits address limit k request received from to old_standing mid_standing (a.links k) (b.links k) e (ap (λ w. w.links k) (still e)) aw)

pub send_waits : (k : ℕ) (address : Address) (limit : ℕ) (request received : List ℕ) (from to : ℕ) (old_standing standing : Standing) (a b : WireState) → request ≡ request_of address
    → SendsFrom k request from to a b → (a.links k).is_open ≡ true → received ≡ received → standing ≡ Underway → reply_of received false limit ≡ reply.More
    → to < length request → (b.links k).stalled ≡ Some Sending → (b.links k).woken ≡ false → Rose (a.links k).stalls (b.links k).stalls
    → (a.nature.steady ≡ true → (a.links k).woken ≡ true → (a.links k).stalled ≡ Some Sending → b.idle ≡ 0)
    → Waits (on_link address limit k (take from request) received old_standing) (on_link address limit k (take to request) received standing) a b
send_waits k address limit request received from to old_standing standing a b e h op same u more less stalled asleep rose woken = record {
  k = k;
  link = refl;
  is_open = h.calls.is_open ∙ op;
  stalls = rose;
  awaits = ToSend (taken_less request (request_of address) to e less) stalled;
  asleep = asleep;
  ripe = inl (links.ToSend (h.calls.is_open ∙ op) stalled);
  woken = λ st wo aw l. woken st wo (sends_stalled address limit k request received from old_standing (a.links k) e (omega_less from to (length request) h.up less) aw);
  standing = u;
  more = more;
  front = record { rest = drop to request; is_whole = sym e ∙ sym (take-append-drop to request) };
  stands = λ s r held. (h.sent_is s held.0, holds_same _ _ _ h.received held.1);
}

pub send_breaks : (k : ℕ) (address : Address) (limit : ℕ) (request sent received : List ℕ) (from : ℕ) (old_standing standing : Standing) (a b c : WireState) → request ≡ request_of address
    → sending.FrontSent k request from a b → standing ≡ Over → Closes k b c
    → Breaks (on_link address limit k (take from request) received old_standing) (on_link address limit k sent received standing) a c
send_breaks k address limit request sent received from old_standing standing a b c e h u closes = record {
  standing = u;
  closed = closes.is_open;
  front = λ s r held. (
    take h.n request,
    received,
    record { rest = drop h.n request; is_whole = sym e ∙ sym (take-append-drop h.n request) },
    holds_same _ _ _ closes.sent (h.sent_is s held.0),
    holds_same _ _ _ (closes.received ∙ h.received) held.1,
  );
}

pub send_leads : (k : ℕ) (address : Address) (limit : ℕ) (request received : List ℕ) (from to : ℕ) (old_standing mid_standing : Standing) (a b : WireState) → request ≡ request_of address
    → SendsFrom k request from to a b → to ≡ length request → (to ≡ from → b ≡ a)
    → Leading k (on_link address limit k (take from request) received old_standing) (on_link address limit k (take to request) received mid_standing) a b
send_leads k address limit request received from to old_standing mid_standing a b e h whole still = record {
  address = refl;
  limit = refl;
  link = refl;
  stands = λ s r held. (h.sent_is s held.0, holds_same _ _ _ h.received held.1);
  stalls = λ after rose. rose_on _ _ _ h.calls.stalls rose;
  later = h.calls.only.later;
  nature = h.calls.only.nature;
  woken = λ st wo aw l. sent_woken k address limit request received from to old_standing mid_standing a b h still wo aw (moved_or to from h.up);
}

-- ---- as the code sees its values

abbrev pub with_link : Address → ℕ → Option ℕ → List ℕ → List ℕ → Standing → Exchanging
with_link address limit link sent received standing = record { address = address; limit = limit; link = link; sent = sent; received = received; standing = standing }

sent_all : (address : Address) (limit : ℕ) (o : Option ℕ) (sent received : List ℕ) (standing : Standing) (w : Exchanging) → with_link address limit o sent received standing ≡ w
    → w.sent ≡ request_of w.address → sent ≡ request_of address
sent_all address limit o sent received standing w e h = ap (λ x. x.sent) e ∙ h ∙ ap (λ x. request_of x.address) (sym e)

known_link : (k : ℕ) (address : Address) (limit : ℕ) (o : Option ℕ) (sent received : List ℕ) (standing : Standing) (w : Exchanging) → with_link address limit o sent received standing ≡ w
    → w.link ≡ Some k → o ≡ Some k
known_link k address limit o sent received standing w e h = ap (λ x. x.link) e ∙ h

old_is : (k : ℕ) (address : Address) (limit : ℕ) (o : Option ℕ) (sent received : List ℕ) (standing : Standing) (w : Exchanging) → o ≡ Some k → with_link address limit o sent received standing ≡ w
    → on_link address limit k sent received standing ≡ w
old_is k address limit o sent received standing w l e = ap (λ x. with_link address limit x sent received standing) (sym l) ∙ e

pub reply_pending : (k : ℕ) (o : Option ℕ) (w : Exchanging) (address : Address) (sent : List ℕ) (from to : Coming) (lost : List ℕ) (old_standing standing : Standing) (a b : WireState)
    → with_link address from.limit o sent from.received old_standing ≡ w → w.link ≡ Some k → w.sent ≡ request_of w.address
    → ReceivesFrom k from to lost a b → lost ≡ [] → (a.links k).is_open ≡ true → is_open to.place ≡ true → to.place ≡ after_bytes to.limit begun to.received → WhatIsReadIsGiven → standing ≡ Underway
    → (b.links k).stalled ≡ Some Receiving → (b.links k).woken ≡ false → Rose (a.links k).stalls (b.links k).stalls
    → (a.nature.steady ≡ true → (a.links k).woken ≡ true → (a.links k).stalled ≡ Some Receiving → b.idle ≡ 0)
    → Waits w (with_link address to.limit o sent to.received standing) a b
reply_pending k o w address sent from to lost old_standing standing a b e l s h z op goes_on leads given u stalled asleep rose woken =
    let q = known_link k address from.limit o sent from.received old_standing w e l in
    let v = reply_waits k address sent from to lost old_standing standing a b (sent_all address from.limit o sent from.received old_standing w e s) h z op goes_on leads given u stalled asleep rose woken in
    let v' : Waits w (on_link address to.limit k sent to.received standing) a b =
    subst (λ (x : Exchanging). Waits x (on_link address to.limit k sent to.received standing) a b) (old_is k address from.limit o sent from.received old_standing w q e) v in
    subst (λ (x : Option ℕ). Waits w (with_link address to.limit x sent to.received standing) a b) (sym q) v'

pub reply_broken : (k : ℕ) (o : Option ℕ) (w new : Exchanging) (address : Address) (sent : List ℕ) (from to : Coming) (lost : List ℕ) (old_standing : Standing) (a b c : WireState)
    → with_link address from.limit o sent from.received old_standing ≡ w → w.link ≡ Some k → w.sent ≡ request_of w.address
    → ReceivesFrom k from to lost a b → Closes k b c → new ≡ with_link address to.limit o sent to.received Over → Breaks w new a c
reply_broken k o w new address sent from to lost old_standing a b c e l s h closes n =
    let q = known_link k address from.limit o sent from.received old_standing w e l in
    let v = reply_breaks k address sent from to lost old_standing Over a b c (sent_all address from.limit o sent from.received old_standing w e s) h refl closes in
    let v' : Breaks w (on_link address to.limit k sent to.received Over) a c =
    subst (λ (x : Exchanging). Breaks x (on_link address to.limit k sent to.received Over) a c) (old_is k address from.limit o sent from.received old_standing w q e) v in
    subst (λ (x : Exchanging). Breaks w x a c) (ap (λ x. with_link address to.limit x sent to.received Over) (sym q) ∙ sym n) v'

pub reply_read : (k : ℕ) (o : Option ℕ) (w new : Exchanging) (address : Address) (sent : List ℕ) (from to : Coming) (lost : List ℕ) (ended : Bool) (old_standing mid_standing : Standing) (a b c : WireState)
    (result : Option (Result Reply ExchangeFault)) → with_link address from.limit o sent from.received old_standing ≡ w → w.link ≡ Some k → w.sent ≡ request_of w.address
    → ReceivesFrom k from to lost a b → lost ≡ [] → (a.links k).is_open ≡ true → b.idle ≡ 0 → (ended ≡ true → Holds (b.links k).ended true)
    → (ended ≡ true → is_short (b.links k) ≡ true → Rose a.faults b.faults)
    → (ended ≡ true → a.nature.steady ≡ true → (e : ℕ) → a.nature.every ≡ Some e → is_short (b.links k) ≡ false) → (ended ≡ false → (b.links k).stalled ≡ None)
    → Concludes k ended (with_link address to.limit o sent to.received mid_standing) new b c result → new.address ≡ address → new.limit ≡ to.limit → new.link ≡ o
    → Answers w new a c result
reply_read k o w new address sent from to lost ended old_standing mid_standing a b c result e l s h z op idle at_end short not_due stalled concludes ad li nl =
    let q = known_link k address from.limit o sent from.received old_standing w e l in
    let all : ReceivedAll k address sent from to ended a b = record {
      sent_is = sent_all address from.limit o sent from.received old_standing w e s;
      lost = lost;
      comes = h;
      none = z;
      is_open = op;
      idle = idle;
      at_end = at_end;
      short = short;
      not_due = not_due;
      stalled = stalled;
    } in
    seen_as _ w new a c result (old_is k address from.limit o sent from.received old_standing w q e)
    (reply_concludes k address sent from to ended old_standing mid_standing new a b c result all
    (subst (λ (x : Option ℕ). Concludes k ended (with_link address to.limit x sent to.received mid_standing) new b c result) q concludes) ad li (nl ∙ q))

pub as_result : (w new : Exchanging) (a c : WireState) (r s : Option (Result Reply ExchangeFault)) → s ≡ r → Answers w new a c r → Answers w new a c s
as_result w new a c r s e h = subst (λ (x : Option (Result Reply ExchangeFault)). Answers w new a c x) (sym e) h

-- ---- what is kept behind an answer

pub handed_all : (held : List ℕ) (r : Option (Result Reply ExchangeFault)) → held ≡ [] → HandsOver held r
handed_all held None e = tt
handed_all held (Some (Ok answer)) e = e
handed_all held (Some (Err faults.Failed)) e = tt
handed_all held (Some (Err (faults.Cut received))) e = e
handed_all held (Some (Err (faults.Bad fault received))) e = e
handed_all held (Some (Err faults.OutOfMemory)) e = tt

pub handed_as : (held : List ℕ) (r s : Option (Result Reply ExchangeFault)) → s ≡ r → HandsOver held r → HandsOver held s
handed_as held r s e h = subst (λ (x : Option (Result Reply ExchangeFault)). HandsOver held x) (sym e) h

pub handed_undialled : (held : List ℕ) (w : Exchanging) (fault : ExchangeFault) (a c : WireState) → IsUndialled fault w a c → HandsOver held (Some (Err fault))
handed_undialled held w faults.Failed a c u = tt
handed_undialled held w (faults.Cut received) a c u = absurd u.cause
handed_undialled held w (faults.Bad fault received) a c u = absurd u.cause
handed_undialled held w faults.OutOfMemory a c u = tt

pub send_pending : (k : ℕ) (o : Option ℕ) (w : Exchanging) (address : Address) (limit : ℕ) (request received : List ℕ) (from to : ℕ) (old_standing standing : Standing) (a b : WireState)
    → with_link address limit o (take from request) received old_standing ≡ w → w.link ≡ Some k → request ≡ request_of address
    → SendsFrom k request from to a b → (a.links k).is_open ≡ true → standing ≡ Underway → reply_of received false limit ≡ reply.More
    → to < length request → (b.links k).stalled ≡ Some Sending → (b.links k).woken ≡ false → Rose (a.links k).stalls (b.links k).stalls
    → (a.nature.steady ≡ true → (a.links k).woken ≡ true → (a.links k).stalled ≡ Some Sending → b.idle ≡ 0)
    → Waits w (with_link address limit o (take to request) received standing) a b
send_pending k o w address limit request received from to old_standing standing a b e l r h op u more less stalled asleep rose woken =
    let q = known_link k address limit o (take from request) received old_standing w e l in
    let v = send_waits k address limit request received from to old_standing standing a b r h op refl u more less stalled asleep rose woken in
    let v' : Waits w (on_link address limit k (take to request) received standing) a b =
    subst (λ (x : Exchanging). Waits x (on_link address limit k (take to request) received standing) a b) (old_is k address limit o (take from request) received old_standing w q e) v in
    subst (λ (x : Option ℕ). Waits w (with_link address limit x (take to request) received standing) a b) (sym q) v'

pub send_broken : (k : ℕ) (o : Option ℕ) (w new : Exchanging) (address : Address) (limit : ℕ) (request sent received : List ℕ) (from : ℕ) (old_standing : Standing) (a b c : WireState)
    → with_link address limit o (take from request) received old_standing ≡ w → w.link ≡ Some k → request ≡ request_of address
    → sending.FrontSent k request from a b → Closes k b c → new ≡ with_link address limit o sent received Over → Breaks w new a c
send_broken k o w new address limit request sent received from old_standing a b c e l r h closes n =
    let q = known_link k address limit o (take from request) received old_standing w e l in
    let v = send_breaks k address limit request sent received from old_standing Over a b c r h refl closes in
    let v' : Breaks w (on_link address limit k sent received Over) a c =
    subst (λ (x : Exchanging). Breaks x (on_link address limit k sent received Over) a c) (old_is k address limit o (take from request) received old_standing w q e) v in
    subst (λ (x : Exchanging). Breaks w x a c) (ap (λ x. with_link address limit x sent received Over) (sym q) ∙ sym n) v'

pub send_done : (k : ℕ) (o : Option ℕ) (w new : Exchanging) (address : Address) (limit : ℕ) (request received : List ℕ) (from to : ℕ) (old_standing mid_standing : Standing) (a b c : WireState)
    (result : Option (Result Reply ExchangeFault)) → with_link address limit o (take from request) received old_standing ≡ w → w.link ≡ Some k → request ≡ request_of address
    → SendsFrom k request from to a b → to ≡ length request → (to ≡ from → b ≡ a) → new.link ≡ Some k → c.idle ≤ b.idle
    → Answers (with_link address limit o (take to request) received mid_standing) new b c result → Answers w new a c result
send_done k o w new address limit request received from to old_standing mid_standing a b c result e l r h whole still n low answers =
    let q = known_link k address limit o (take from request) received old_standing w e l in
    seen_as _ w new a c result (old_is k address limit o (take from request) received old_standing w q e)
    (then_answers k _ _ new a b c result (send_leads k address limit request received from to old_standing mid_standing a b r h whole still) n low
    (subst (λ (x : Option ℕ). Answers (with_link address limit x (take to request) received mid_standing) new b c result) q answers))

pub rose_then : (x y z : ℕ) → Rose x y → z ≡ y → Rose x z
rose_then x y z r e = subst (λ (n : ℕ). Rose x n) (sym e) r

pub sends_as : (k : ℕ) (r s : List ℕ) (from to : ℕ) (a b : WireState) → r ≡ s → SendsFrom k r from to a b → SendsFrom k s from to a b
sends_as k r s from to a b e h = subst (λ (x : List ℕ). SendsFrom k x from to a b) e h

pub front_as : (k : ℕ) (r s : List ℕ) (from : ℕ) (a b : WireState) → r ≡ s → sending.FrontSent k r from a b → sending.FrontSent k s from a b
front_as k r s from a b e h = subst (λ (x : List ℕ). sending.FrontSent k x from a b) e h

pub less_as : (n : ℕ) (r s : List ℕ) → r ≡ s → n < length r → n < length s
less_as n r s e h = let f = ap length e in omega (arith, f, h)

-- ---- failures

-- the exchange is over, and what came before stays
pub reply_failed : (k : ℕ) (o : Option ℕ) (w new : Exchanging) (address : Address) (sent : List ℕ) (from to : Coming) (lost : List ℕ) (old_standing : Standing) (a b c : WireState)
    → with_link address from.limit o sent from.received old_standing ≡ w → w.link ≡ Some k → w.sent ≡ request_of w.address
    → ReceivesFrom k from to lost a b → lost ≡ [] → is_open to.place ≡ true → to.place ≡ after_bytes to.limit begun to.received → WhatIsReadIsGiven
    → Closes k b c → new ≡ with_link address to.limit o sent to.received Over → Rose a.faults c.faults → (a.nature.steady ≡ true → (e : ℕ) → a.nature.every ≡ Some e → ⊥) → Fails w new a c
reply_failed k o w new address sent from to lost old_standing a b c e l s h z goes_on leads given closes n rose not_due =
    let q = known_link k address from.limit o sent from.received old_standing w e l in
    record {
      breaks = reply_broken k o w new address sent from to lost old_standing a b c e l s h closes n;
      rose = rose;
      due = λ st i t. absurd (not_due st i t);
      more = subst (λ (x : Exchanging). reply_of x.received false x.limit ≡ reply.More) (sym n) (open_reads_more given to.limit to.received (ap is_open (sym leads) ∙ goes_on));
      received_is = subst (λ (x : Exchanging). ReceivedIs w a x.received x.link c) (sym n)
          (subst (λ (x : Option ℕ). ReceivedIs w a to.received x c) (sym q)
          (subst (λ (x : Exchanging). ReceivedIs x a to.received (Some k) c) (old_is k address from.limit o sent from.received old_standing w q e)
          (λ s' r held. holds_same _ _ _ closes.received (no_end _ r to.received (lost_none _ [] r to.received lost z (h.received_is r held.1))))));
    }

pub send_failed : (k : ℕ) (o : Option ℕ) (w new : Exchanging) (address : Address) (limit : ℕ) (request sent received : List ℕ) (from : ℕ) (old_standing : Standing) (a b c : WireState)
    → with_link address limit o (take from request) received old_standing ≡ w → w.link ≡ Some k → request ≡ request_of address
    → sending.FrontSent k request from a b → reply_of received false limit ≡ reply.More → Closes k b c → new ≡ with_link address limit o sent received Over → Rose a.faults c.faults → (a.nature.steady ≡ true → (e : ℕ) → a.nature.every ≡ Some e → ⊥) → Fails w new a c
send_failed k o w new address limit request sent received from old_standing a b c e l r h more closes n rose not_due =
    let q = known_link k address limit o (take from request) received old_standing w e l in
    record {
      breaks = send_broken k o w new address limit request sent received from old_standing a b c e l r h closes n;
      rose = rose;
      due = λ st i t. absurd (not_due st i t);
      more = subst (λ (x : Exchanging). reply_of x.received false x.limit ≡ reply.More) (sym n) more;
      received_is = subst (λ (x : Exchanging). ReceivedIs w a x.received x.link c) (sym n)
          (subst (λ (x : Option ℕ). ReceivedIs w a received x c) (sym q)
          (subst (λ (x : Exchanging). ReceivedIs x a received (Some k) c) (old_is k address limit o (take from request) received old_standing w q e)
          (λ s' r' held. holds_same _ _ _ (closes.received ∙ h.received) held.1)));
    }

undialled_breaks : (w v : Exchanging) (a c : WireState) → v.link ≡ None → Breaks w (with_link v.address v.limit v.link v.sent v.received Over) a c
undialled_breaks w v a c n = record {
  standing = refl;
  closed = subst (λ (o : Option ℕ). ClosedOn o c) (sym n) tt;
  front = subst (λ (o : Option ℕ). FrontSent w a (with_link v.address v.limit v.link v.sent v.received Over) o c) (sym n) tt;
}

-- a dial that failed
pub dial_answers : (fault : ExchangeFault) (w v : Exchanging) (a c : WireState) → v ≡ w → IsUndialled fault w a c → reply_of w.received false w.limit ≡ reply.More
    → Answers w (with_link v.address v.limit v.link v.sent v.received Over) a c (Some (Err fault))
dial_answers faults.Failed w v a c e u more =
    let n : v.link ≡ None = ap (λ x. x.link) e ∙ u.none in
    record {
      breaks = undialled_breaks w v a c n;
      rose = u.cause.0;
      due = λ st i t. (u.none, n, u.cause.1 st i t);
      more = ap (λ x. reply_of x.received false x.limit) e ∙ more;
      received_is = subst (λ (o : Option ℕ). ReceivedIs w a v.received o c) (sym n) tt;
    }
dial_answers (faults.Cut received) w v a c e u more = absurd u.cause
dial_answers (faults.Bad fault received) w v a c e u more = absurd u.cause
dial_answers faults.OutOfMemory w v a c e u more = undialled_breaks w v a c (ap (λ x. x.link) e ∙ u.none)
