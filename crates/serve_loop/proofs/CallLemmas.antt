-- What a call on a link does to it, and to the wire.
use Rattle.std.proofs.Common.{ℕ, zero, suc, ◌≡◌, ◌≤◌, inl, inr, List, [], ◌∷◌, length, take, Bool, true, false, refl, sym, ◌∙◌, ap, subst, arith, if◌then◌else◌, ◌==◌}
use Rattle.std.specs.Prelude.{min}
use Rattle.std.proofs.lemmas.List.{length-take, length-take-le, take_min}
use Rattle.std.specs.Io.KnownBytes.{append_known}
use Rattle.tpf_base.specs.declared.wire.Moved.{Moved}
use Rattle.tpf_base.specs.declared.wire.Moved.TheVariants as answers
use Rattle.tpf_base.specs.Links.{Door, Link, WireState, Way, Sending, Receiving}
use Rattle.tpf_base.specs.Calls.{OnlyOn, SameWire, Sends, Receives, Closes}
use Rattle.connections.specs.Versions.{Serving}
use Rattle.connections.specs.Kinds.{Kind}
use Rattle.serve_loop.specs.declared.live.TheConstants.{MOST_SENT}
use Rattle.serve_loop.specs.declared.step.Received.TheVariants as received
use Rattle.serve_loop.specs.Calls.{CallsOnly, ServesAlone, GoesOut, ComesIn, MovesOn, StallsOn, ClosesOn, OnlyClosesOn, front_of}
use Rattle.serve_loop.specs.Steps.{Hears}

-- ---- alone

pub alone_none : (w : WireState) → ServesAlone w w
alone_none w = record { dials = refl; nature = refl; place = refl; calls = refl; stalls = omega arith; door_faults = omega arith; faults = omega arith }

pub alone_then : (a b c : WireState) → ServesAlone a b → ServesAlone b c → ServesAlone a c
alone_then a b c x y =
    let xs = x.stalls in
    let ys = y.stalls in
    let xd = x.door_faults in
    let yd = y.door_faults in
    let xf = x.faults in
    let yf = y.faults in
    record {
      dials = y.dials ∙ x.dials;
      nature = y.nature ∙ x.nature;
      place = y.place ∙ x.place;
      calls = y.calls ∙ x.calls;
      stalls = omega (arith, xs, ys);
      door_faults = omega (arith, xd, yd);
      faults = omega (arith, xf, yf);
    }

pub alone_on : (k : ℕ) (a b : WireState) → OnlyOn k a b → ServesAlone a b
alone_on k a b x = record {
  dials = x.dials;
  nature = x.nature;
  place = ap (λ (d : Door). d.place) x.door;
  calls = ap (λ (d : Door). d.calls) x.door;
  stalls = subst (λ (d : Door). a.door.stalls ≤ d.stalls) (sym x.door) (omega arith);
  door_faults = subst (λ (d : Door). a.door.faults ≤ d.faults) (sym x.door) (omega arith);
  faults = x.later;
}

-- a wire of which nothing changed
pub same_wire : (a b : WireState) → SameWire a b → b ≡ a
same_wire a b s = λ i. record {
  links = λ k. s.links k i;
  given = s.given i;
  faults = s.faults i;
  provoked = s.provoked i;
  dials = s.dials i;
  waits = s.waits i;
  idle = s.idle i;
  door = s.door i;
  nature = s.nature i;
}

-- ---- sends of a front

take_front : (n m : ℕ) (xs : List ℕ) → n ≤ m → take n (take m xs) ≡ take n xs
take_front zero m xs h = refl
take_front (suc n) zero xs h = absurd (omega (arith, h))
take_front (suc n) (suc m) [] h = refl
take_front (suc n) (suc m) (x ∷ xs) h = ap (λ (l : List ℕ). x ∷ l) (take_front n m xs (omega (arith, h)))

pub front_within : (n m : ℕ) (xs : List ℕ) → n ≤ length (take m xs) → (n ≤ m) × (n ≤ length xs)
front_within n m xs h = let e = length-take m xs in (omega (arith, h, e), omega (arith, h, e))

-- a send of a front is a send of the whole
pub sends_front : (k : ℕ) (piece : List ℕ) (a b : WireState) (answer : Moved) → Sends k (front_of piece) a b answer → Sends k piece a b answer
sends_front k piece a b answer s = record {
  only = s.only;
  peer = s.peer;
  received = s.received;
  ended = s.ended;
  is_open = s.is_open;
  stalls = s.stalls;
  stalled = s.stalled;
  moved = λ n e. let x = s.moved n e in let w = front_within n MOST_SENT piece x.1 in (x.0, w.1, subst (λ (l : List ℕ). (b.links k).sent ≡ append_known (a.links k).sent l) (take_front n MOST_SENT piece w.0) x.2, x.3);
  not_yet = s.not_yet;
  failed = λ e. let x = s.failed e in let w = front_within x.0 MOST_SENT piece x.1 in
      (x.0, w.1, subst (λ (l : List ℕ). (b.links k).sent ≡ append_known (a.links k).sent l) (take_front x.0 MOST_SENT piece w.0) x.2, x.3, x.4, x.5);
  memory = s.memory;
  no_end = s.no_end;
  unfailed = s.unfailed;
  not_due = s.not_due;
  woken = s.woken;
}

-- what a send is offered
pub sends_most : (k most : ℕ) (pending offered : List ℕ) (a b : WireState) (answer : Moved) → offered ≡ pending → most ≡ min MOST_SENT (length offered) → Sends k (take most offered) a b answer
    → Sends k (front_of pending) a b answer
sends_most k most pending offered a b answer e m s =
    subst (λ (l : List ℕ). Sends k l a b answer) (ap (λ (n : ℕ). take n offered) m ∙ take_min MOST_SENT offered ∙ ap (λ (l : List ℕ). take MOST_SENT l) e) s

few_sent : (n m : ℕ) (xs : List ℕ) → length (take n (take m xs)) ≤ m
few_sent n m xs = let e = length-take n (take m xs) in let f = length-take m xs in omega (arith, e, f)

-- ---- what else a call on a link leaves

if_zero : (t : Bool) (x : ℕ) → x ≡ 0 → (if t then x else 0) ≡ 0
if_zero true x e = e
if_zero false x e = refl

sends_idle : (k : ℕ) (piece : List ℕ) (a b : WireState) (answer : Moved) → Sends k piece a b answer → a.idle ≡ 0 → b.idle ≡ 0
sends_idle k piece a b (answers.Moved n) s z = (s.moved n refl).3
sends_idle k piece a b answers.End s z = absurd (s.no_end refl)
sends_idle k piece a b answers.NotYet s z = (s.not_yet refl).3 ∙ z
sends_idle k piece a b answers.Failed s z = let f = s.failed refl in f.4 ∙ if_zero (f.0 == 0) a.idle z
sends_idle k piece a b answers.OutOfMemory s z = (s.memory refl).idle ∙ z

pub sends_only : (k : ℕ) (piece : List ℕ) (a b : WireState) (answer : Moved) → Sends k piece a b answer → CallsOnly k a b
sends_only k piece a b answer s = record { only = s.only; idle = sends_idle k piece a b answer s }

receives_idle : (k : ℕ) (to : List ℕ) (a b : WireState) (answer : Moved) → Receives k to a b answer → a.idle ≡ 0 → b.idle ≡ 0
receives_idle k to a b (answers.Moved n) r z = (r.moved n refl).4
receives_idle k to a b answers.End r z = (r.end_ refl).2
receives_idle k to a b answers.NotYet r z = (r.not_yet refl).3 ∙ z
receives_idle k to a b answers.Failed r z = (r.failed refl).2 ∙ z
receives_idle k to a b answers.OutOfMemory r z = (r.memory refl).idle ∙ z

pub receives_only : (k : ℕ) (to : List ℕ) (a b : WireState) (answer : Moved) → Receives k to a b answer → CallsOnly k a b
receives_only k to a b answer r = record { only = r.only; idle = receives_idle k to a b answer r }

pub sends_moves : (k : ℕ) (pending : List ℕ) (a b : WireState) (n : ℕ) → (a.links k).is_open ≡ true → Sends k (front_of pending) a b (answers.Moved n) → MovesOn Sending k a b × (b.idle ≡ 0)
sends_moves k pending a b n up s = let m = s.moved n refl in (
  record {
    piece = take n (front_of pending);
    some = omega (arith, m.0, length-take-le n (front_of pending) m.1);
    moves = GoesOut refl (few_sent n MOST_SENT pending) m.2 s.received;
    is_open = s.is_open ∙ up;
  },
  m.3,
)

pub sends_stalls : (k : ℕ) (piece : List ℕ) (a b : WireState) → (a.links k).is_open ≡ true → Sends k piece a b answers.NotYet → StallsOn Sending k a b
sends_stalls k piece a b up s = let m = s.not_yet refl in record { stays = record { sent = m.0; received = s.received }; rose = m.2; stalled = (s.stalled (λ e. cc)).0; is_open = s.is_open ∙ up }

-- a send after which the link was closed
pub sends_wants : (k : ℕ) (piece : List ℕ) (a b w : WireState) → Sends k piece a b answers.OutOfMemory → Closes k b w → ClosesOn Sending k a w
sends_wants k piece a b w s c = let m = (s.memory refl).links k in record {
  closed = c.is_open;
  moves = inl (record { sent = c.sent ∙ ap (λ (l : Link). l.sent) m; received = c.received ∙ ap (λ (l : Link). l.received) m });
}

-- or after its last bytes
pub sends_ends : (k : ℕ) (pending : List ℕ) (a b w : WireState) (n : ℕ) → Sends k (front_of pending) a b (answers.Moved n) → Closes k b w → ClosesOn Sending k a w
sends_ends k pending a b w n s c = let m = s.moved n refl in
    record { closed = c.is_open; moves = inr (take n (front_of pending), GoesOut refl (few_sent n MOST_SENT pending) (c.sent ∙ m.2) (c.received ∙ s.received)) }

pub sends_fails : (k : ℕ) (pending : List ℕ) (a b w : WireState) → Sends k (front_of pending) a b answers.Failed → Closes k b w → ClosesOn Sending k a w
sends_fails k pending a b w s c = let f = s.failed refl in
    record { closed = c.is_open; moves = inr (take f.0 (front_of pending), GoesOut refl (few_sent f.0 MOST_SENT pending) (c.sent ∙ f.2) (c.received ∙ s.received)) }

-- only that, whichever call it stands for
pub only_closes : (k : ℕ) (a w : WireState) → Closes k a w → OnlyClosesOn k a w
only_closes k a w c = record { closed = c.is_open; stays = record { sent = c.sent; received = c.received } }

pub closes_by : (way : Way) (k : ℕ) (a w : WireState) → OnlyClosesOn k a w → ClosesOn way k a w
closes_by way k a w c = record { closed = c.closed; moves = inl c.stays }

-- the link was closed, and nothing else was called
pub only_when_closed : (k : ℕ) (a w : WireState) → Closes k a w → CallsOnly k a w
only_when_closed k a w d = record { only = d.only; idle = λ z. d.idle ∙ z }

-- and the link was closed behind it
pub closes_only : (k : ℕ) (a b w : WireState) → CallsOnly k a b → Closes k b w → CallsOnly k a w
closes_only k a b w c d = let x = c.only in let y = d.only in let xf = x.later in let yf = y.later in record {
  only = record {
    others = λ j n. y.others j n ∙ x.others j n;
    later = omega (arith, xf, yf);
    given = y.given ∙ x.given;
    provoked = y.provoked ∙ x.provoked;
    dials = y.dials ∙ x.dials;
    waits = y.waits ∙ x.waits;
    door = y.door ∙ x.door;
    nature = y.nature ∙ x.nature;
  };
  idle = λ z. d.idle ∙ c.idle z;
}

module _ {C Data Settings : Type 0} where
  -- ---- what a receive did to its link

  pub hears_moves : (kind : Kind C Data Settings) (served : Serving Data Settings) (k : ℕ) (old new : C) (a b : WireState) → (a.links k).is_open ≡ true
      → Hears kind served k old new a b received.Fed → MovesOn Receiving k a b × (b.idle ≡ 0)
  hears_moves kind served k old new a b up h = let f = h.fed refl in (record { piece = f.piece; some = f.some; moves = ComesIn refl f.most f.received h.sent; is_open = h.is_open ∙ up }, f.idle)

  pub hears_stalls : (kind : Kind C Data Settings) (served : Serving Data Settings) (k : ℕ) (old new : C) (a b : WireState) → (a.links k).is_open ≡ true
      → Hears kind served k old new a b received.NotYet → StallsOn Receiving k a b
  hears_stalls kind served k old new a b up h = let f = h.not_yet refl in record { stays = record { sent = h.sent; received = f.0 }; rose = f.1; stalled = f.3; is_open = h.is_open ∙ up }

  -- and the link was closed behind it
  pub hears_end : (kind : Kind C Data Settings) (served : Serving Data Settings) (k : ℕ) (old new : C) (a b w : WireState) → Hears kind served k old new a b received.End → Closes k b w → ClosesOn Receiving k a w
  hears_end kind served k old new a b w h c = record { closed = c.is_open; moves = inl (record { sent = c.sent ∙ h.sent; received = c.received ∙ (h.end_ refl).0 }) }

  pub hears_fails : (kind : Kind C Data Settings) (served : Serving Data Settings) (k : ℕ) (old new : C) (a b w : WireState) → Hears kind served k old new a b received.Failed → Closes k b w → ClosesOn Receiving k a w
  hears_fails kind served k old new a b w h c = record { closed = c.is_open; moves = inl (record { sent = c.sent ∙ h.sent; received = c.received ∙ (h.failed refl).0 }) }

  pub hears_wants : (kind : Kind C Data Settings) (served : Serving Data Settings) (k : ℕ) (old new : C) (a b w : WireState) → Hears kind served k old new a b received.Starved → Closes k b w → ClosesOn Receiving k a w
  hears_wants kind served k old new a b w h c = let f = h.starved refl in record { closed = c.is_open; moves = inr (f.0, ComesIn refl f.2 (c.received ∙ f.1) (c.sent ∙ h.sent)) }
