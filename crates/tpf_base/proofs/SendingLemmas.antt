-- Calls on a link, one after another.
use Rattle.std.proofs.Common.{ℕ, ◌≡◌, ◌≢◌, ◌+◌, ◌<◌, ◌≤◌, ◌++◌, List, length, take, drop, Option, Some, None, Bool, true, false, refl, sym, ◌∙◌, ap, arith, append_assoc, length-drop, if◌then◌else◌, ◌-◌, inl, inr}
use Rattle.std.proofs.lemmas.Grind.{common_steps}
use Rattle.std.proofs.lemmas.List.{take-append-drop, length-take-le}
use Rattle.std.proofs.Math.Seq.{take-append-add}
use Rattle.std.specs.Io.KnownBytes.{append_known}
use Rattle.list_laws.proofs.Tests.{moved_or}
use Rattle.tpf_base.specs.Causes.{Rose}
use Rattle.tpf_base.specs.declared.wire.Moved.{Moved}
use Rattle.tpf_base.specs.declared.wire.Moved.TheVariants as answers
use Rattle.tpf_base.specs.Links.{Sending, WireState, SameAllowed}
use Rattle.tpf_base.specs.Calls.{OnlyOn, Sends}
use Rattle.tpf_base.specs.Sending.{Holds, CallsOn, SendsFrom, FrontSent}

pub only_then : (k : ℕ) (a b c : WireState) → OnlyOn k a b → OnlyOn k b c → OnlyOn k a c
only_then k a b c p q = record {
  others = λ j h. q.others j h ∙ p.others j h;
  later = omega (arith, p.later, q.later);
  given = q.given ∙ p.given;
  provoked = q.provoked ∙ p.provoked;
  dials = q.dials ∙ p.dials;
  waits = q.waits ∙ p.waits;
  door = q.door ∙ p.door;
  nature = q.nature ∙ p.nature;
}

pub only_same : (k : ℕ) (a : WireState) → OnlyOn k a a
only_same k a = record {
  others = λ j h. refl;
  later = omega arith;
  given = refl;
  provoked = refl;
  dials = refl;
  waits = refl;
  door = refl;
  nature = refl;
}

-- the same replies are allowed after no call, and after two
pub allowed_same : (allows : List ℕ → ℕ → List ℕ → List ℕ → Type 0) → SameAllowed allows allows
allowed_same allows = λ host port sent owed. (λ h. h, λ h. h)

pub allowed_then : {a b c : List ℕ → ℕ → List ℕ → List ℕ → Type 0} → SameAllowed a b → SameAllowed b c → SameAllowed a c
allowed_then p q = λ host port sent owed. (λ x. (p host port sent owed).0 ((q host port sent owed).0 x), λ x. (q host port sent owed).1 ((p host port sent owed).1 x))

pub calls_same : (k : ℕ) (a : WireState) → CallsOn k a a
calls_same k a = record { only = only_same k a; peer = refl; is_open = refl; stalls = omega arith; idle = omega arith; not_due = λ s e t. refl }

-- the rest of a steady wire's nature is kept, so what is not due stays so
pub calls_then : (k : ℕ) (a b c : WireState) → CallsOn k a b → CallsOn k b c → CallsOn k a c
calls_then k a b c p q = record {
  only = only_then k a b c p.only q.only;
  peer = q.peer ∙ p.peer;
  is_open = q.is_open ∙ p.is_open;
  stalls = omega (arith, p.stalls, q.stalls);
  idle = omega (arith, p.idle, q.idle);
  not_due = λ s e t. q.not_due (ap (λ n. n.steady) p.only.nature ∙ s) e (ap (λ n. n.every) p.only.nature ∙ t) ∙ p.not_due s e t;
}

-- as it was, or none
if_idle : (b : Bool) (x y : ℕ) → y ≡ (if b then x else 0) → y ≤ x
if_idle true x y e = omega (arith, e)
if_idle false x y e = omega (arith, e)

sends_idle : (k : ℕ) (piece : List ℕ) (a b : WireState) (answer : Moved) → Sends k piece a b answer → b.idle ≤ a.idle
sends_idle k piece a b (answers.Moved n) s = let h = (s.moved n refl).3 in omega (arith, h)
sends_idle k piece a b answers.End s = absurd (s.no_end refl)
sends_idle k piece a b answers.NotYet s = let h = (s.not_yet refl).3 in omega (arith, h)
sends_idle k piece a b answers.Failed s = if_idle _ _ _ (s.failed refl).4
sends_idle k piece a b answers.OutOfMemory s = let h = (s.memory refl).idle in omega (arith, h)

-- one send is calls on its link
pub sends_call : (k : ℕ) (piece : List ℕ) (a b : WireState) (answer : Moved) → Sends k piece a b answer → CallsOn k a b
sends_call k piece a b answer s = record {
  only = s.only;
  peer = s.peer;
  is_open = s.is_open;
  stalls = s.stalls;
  idle = sends_idle k piece a b answer s;
  not_due = λ st e t. (s.not_due st e t).0;
}

-- bytes behind told bytes
pub holds_append : (told now : Option (List ℕ)) (x y : List ℕ) → now ≡ append_known told y → Holds told x → Holds now (x ++ y)
holds_append None now x y e h = λ bytes b. cc
holds_append (Some xs) now x y e h = λ bytes b. let f = h xs refl in cc

pub holds_same : {T : Type 0} (told now : Option T) (x : T) → now ≡ told → Holds told x → Holds now x
holds_same told now x e h = λ bytes b. h bytes (sym e ∙ b)

pub holds_by : {T : Type 0} (told : Option T) (x y : T) → x ≡ y → Holds told x → Holds told y
holds_by told x y e h = λ fact b. h fact b ∙ e

-- a part of a list, and then what follows it
take_on : (xs : List ℕ) (m n : ℕ) → m ≤ length xs → take m xs ++ take n (drop m xs) ≡ take (m + n) xs
take_on xs m n h =
    let l : length (take m xs) ≡ m = length-take-le m xs h in
    let e = rw (l, take-append-drop m xs) at (take-append-add (take m xs) (drop m xs) n) in
    sym e

sent_more : (before request piece : List ℕ) (mid n : ℕ) (told now : Option (List ℕ)) → piece ≡ drop mid request → mid ≤ length request
    → now ≡ append_known told (take n piece) → Holds told (before ++ take mid request) → Holds now (before ++ take (mid + n) request)
sent_more before request piece mid n told now e fits is h =
    let all = holds_append told now _ _ is h in
    let part : take n piece ≡ take n (drop mid request) = ap (take n) e in
    let whole : (before ++ take mid request) ++ take n piece ≡ before ++ take (mid + n) request =
    append_assoc before (take mid request) (take n piece) ∙ ap (λ t. before ++ t) (ap (λ t. take mid request ++ t) part ∙ take_on request mid n fits) in
    λ bytes b. all bytes b ∙ whole

pub sends_none : (k : ℕ) (request : List ℕ) (n : ℕ) (a : WireState) → n ≤ length request → SendsFrom k request n n a a
sends_none k request n a h = record {
  calls = calls_same k a;
  received = refl;
  ended = refl;
  up = omega arith;
  within = h;
  sent_is = λ s t. t;
  moved = λ l. absurd (omega (arith, l));
  unfailed = refl;
}

-- one more send moved n bytes
pub sends_more : (k : ℕ) (request piece : List ℕ) (from mid n : ℕ) (a b c : WireState) → piece ≡ drop mid request
    → SendsFrom k request from mid a b → Sends k piece b c (answers.Moved n) → SendsFrom k request from (mid + n) a c
sends_more k request piece from mid n a b c e p s =
    let m = s.moved n refl in
    let fits : n ≤ length (drop mid request) = rw (← e) m.1 in
    record {
      calls = calls_then k a b c p.calls (sends_call k piece b c (answers.Moved n) s);
      received = s.received ∙ p.received;
      ended = s.ended ∙ p.ended;
      up = let u = p.up in omega (arith, u);
      within = let w = p.within in omega (arith, fits, w, length-drop mid request);
      sent_is = λ before h. sent_more before request piece mid n (b.links k).sent (c.links k).sent e p.within m.2 (p.sent_is before h);
      moved = λ l. m.3;
      unfailed = s.unfailed (λ same. absurd cc) ∙ p.unfailed;
    }

-- it did not move: the sends end where they were
pub sends_stop : (k : ℕ) (request piece : List ℕ) (from mid : ℕ) (a b c : WireState) (answer : Moved)
    → SendsFrom k request from mid a b → Sends k piece b c answer → answer ≢ answers.Failed → (c.links k).sent ≡ (b.links k).sent → c.idle ≡ b.idle → SendsFrom k request from mid a c
sends_stop k request piece from mid a b c answer p s able e i = record {
  calls = calls_then k a b c p.calls (sends_call k piece b c answer s);
  received = s.received ∙ p.received;
  ended = s.ended ∙ p.ended;
  up = p.up;
  within = p.within;
  sent_is = λ before h. holds_same _ _ _ e (p.sent_is before h);
  moved = λ l. i ∙ p.moved l;
  unfailed = s.unfailed able ∙ p.unfailed;
}

-- what stands behind a place is as long as that
pub rest_is : (xs : List ℕ) (n : ℕ) → take (length xs - n) (drop n xs) ≡ drop n xs
rest_is xs n = grind (arith, common_steps)

pub stopped_idle : (k : ℕ) (piece : List ℕ) (b c : WireState) → Sends k piece b c answers.NotYet → ((c.links k).sent ≡ (b.links k).sent) × (c.idle ≡ b.idle)
stopped_idle k piece b c s = ((s.not_yet refl).0, (s.not_yet refl).3)

-- where a wait woke the link, its first send moved a byte
pub woken_moved : (k : ℕ) (request piece : List ℕ) (from to : ℕ) (a b c : WireState) → SendsFrom k request from to a b
    → (to ≡ from → b ≡ a) → Sends k piece b c answers.NotYet
    → a.nature.steady ≡ true → (a.links k).woken ≡ true → (a.links k).stalled ≡ Some Sending → c.idle ≡ 0
woken_moved k request piece from to a b c p still s st wo sl =
    elim (moved_or to from p.up) [
      | inl l ↦ (s.not_yet refl).3 ∙ p.moved l
      | inr e ↦ absurd (s.woken (ap (λ w. w.nature.steady) (still e) ∙ st) (ap (λ w. (w.links k).woken) (still e) ∙ wo) (ap (λ w. (w.links k).stalled) (still e) ∙ sl) refl)
    ]

-- a count that rose after it had not fallen has risen
pub rose_on : (x y z : ℕ) → x ≤ y → Rose y z → Rose x z
rose_on x y z h r = omega (arith, h, r)

pub stopped_rose : (k : ℕ) (piece : List ℕ) (a b c : WireState) → CallsOn k a b → Sends k piece b c answers.NotYet → Rose (a.links k).stalls (c.links k).stalls
stopped_rose k piece a b c p s = rose_on _ _ _ p.stalls (s.not_yet refl).2

-- what one send moved is there to move
pub moved_fits : (k : ℕ) (request : List ℕ) (mid n : ℕ) (b c : WireState) → Sends k (take (length request - mid) (drop mid request)) b c (answers.Moved n)
    → mid ≤ length request → (0 < n) × (mid + n ≤ length request)
moved_fits k request mid n b c s h =
    let m = s.moved n refl in
    let fits : n ≤ length (drop mid request) = rw (← rest_is request mid) m.1 in
    (m.0, omega (arith, fits, h, length-drop mid request))

-- where dials alone are due, no send fails
pub send_not_due : (k : ℕ) (piece : List ℕ) (a b c : WireState) → CallsOn k a b → Sends k piece b c answers.Failed → a.nature.steady ≡ true → (e : ℕ) → a.nature.every ≡ Some e → ⊥
send_not_due k piece a b c p s st e t = (s.not_due (ap (λ n. n.steady) p.only.nature ∙ st) e (ap (λ n. n.every) p.only.nature ∙ t)).1 refl

pub failed_rose : (k : ℕ) (piece : List ℕ) (a b c : WireState) → CallsOn k a b → Sends k piece b c answers.Failed → Rose a.faults c.faults
failed_rose k piece a b c p s = rose_on _ _ _ p.only.later (s.failed refl).5

pub front_of : (k : ℕ) (request : List ℕ) (from to : ℕ) (a b : WireState) → SendsFrom k request from to a b → FrontSent k request from a b
front_of k request from to a b p = record { n = to; within = p.within; sent_is = p.sent_is; calls = p.calls; received = p.received }

-- a failed send may have sent more
pub front_failed : (k : ℕ) (request piece : List ℕ) (from mid : ℕ) (a b c : WireState) → piece ≡ drop mid request
    → SendsFrom k request from mid a b → Sends k piece b c answers.Failed → FrontSent k request from a c
front_failed k request piece from mid a b c e p s =
    let f = s.failed refl in
    let fits : f.0 ≤ length (drop mid request) = rw (← e) f.1 in
    record {
      n = mid + f.0;
      within = let w = p.within in omega (arith, fits, w, length-drop mid request);
      sent_is = λ before h. sent_more before request piece mid f.0 (b.links k).sent (c.links k).sent e p.within f.2 (p.sent_is before h);
      calls = calls_then k a b c p.calls (sends_call k piece b c answers.Failed s);
      received = s.received ∙ p.received;
    }
