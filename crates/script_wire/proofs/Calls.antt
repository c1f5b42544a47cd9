-- What a call does to a wire of scripts, from what it does to its link.
use Rattle.std.proofs.Common.{ℕ, ◌≡◌, ◌<◌, ◌≤◌, ◌++◌, false, List, length, take, min, set, get_or, slice_get, Some, refl, ap, sym, subst, ◌∙◌, length-set, arith}
use Rattle.std.proofs.lemmas.List.{get_or-set_same, get_or-set_other}
use Rattle.tpf_base.specs.Causes.{counted}
use Rattle.tpf_base.specs.Failures.{CallCounts, room}
use Rattle.tpf_base.specs.Links.{Sending, SentAndReceived, Door, WireState}
use Rattle.tpf_base.specs.Calls.{OnlyOn, Sends, Receives}
use Rattle.tpf_base.specs.declared.failing.Failing.{Failing}
use Rattle.tpf_base.specs.declared.wire.Moved.{Moved}
use Rattle.tpf_base.specs.declared.wire.Moved.TheVariants as answers
use Rattle.script_wire.specs.declared.script.Script.{Script}
use Rattle.script_wire.specs.Scripts.{Scripted, Place, no_link, told_link, stalled_at, after_answer, answer_to_receive, after_receive, place_after, rest_at, spoken_on, ReceivesBy}
use Rattle.script_wire.specs.Held.{wire_of}
use Rattle.script_wire.proofs.Places.{script_at, held_at}

-- a link before a call and after it, and nothing else changed
record Turns (k : ℕ) (held held' : Scripted) (old new : WireState) : Type 0 where
  only : OnlyOn k old new
  was : old.links k ≡ told_link held
  is : new.links k ≡ told_link held'
  unfailed : new.faults ≡ old.faults
  unsteady : old.nature.steady ≡ false
  tells : old.nature.tells ≡ SentAndReceived

-- nothing but the link changed
only_on : (k m : ℕ) (links : List Scripted) (held : Scripted) (counts : CallCounts) (waits idle idle' : ℕ) (door : Door)
    → OnlyOn k (wire_of links counts waits idle door) (wire_of (set links k held) (record counts { calls = m }) waits idle' door)
only_on k m links held counts waits idle idle' door = record {
  others = λ j other. ap told_link (get_or-set_other links k j held no_link other);
  later = omega arith;
  given = length-set links k held;
  provoked = refl;
  dials = refl;
  waits = refl;
  door = refl;
  nature = refl;
}

turns : (k m : ℕ) (links : List Scripted) (held held' : Scripted) (counts counts' : CallCounts) (waits idle idle' : ℕ) (door : Door)
    → k < length links → held ≡ get_or links k held → counts' ≡ record counts { calls = m }
    → Turns k held held' (wire_of links counts waits idle door) (wire_of (set links k held') counts' waits idle' door)
turns k m links held held' counts counts' waits idle idle' door below read called = record {
  only = subst (λ (c : CallCounts). OnlyOn k (wire_of links counts waits idle door) (wire_of (set links k held') c waits idle' door)) (sym called)
      (only_on k m links held' counts waits idle idle' door);
  was = ap told_link (held_at links k held no_link below read);
  is = ap told_link (get_or-set_same links k held' no_link below);
  unfailed = ap (λ (c : CallCounts). c.faults) called;
  unsteady = refl;
  tells = refl;
}

heard_bytes : (k n : ℕ) (to rest : List ℕ) (held : Scripted) (place : Place) (old new : WireState)
    → Turns k held (record (after_answer (answers.Moved n) rest held) { place = place }) old new → new.idle ≡ 0
    → 0 < n → n ≤ length to → take n to ≡ take n rest → Receives k to old new (answers.Moved n)
heard_bytes k n to rest held place old new turn idle some within front = record {
  only = turn.only;
  peer = rw (turn.is, turn.was) refl;
  sent = rw (turn.is, turn.was) refl;
  owed = rw (turn.is, turn.was) refl;
  is_open = rw (turn.is, turn.was) refl;
  stalls = rw (turn.is, turn.was) (omega arith);
  stalled = λ told. rw (turn.is) (refl, refl);
  moved = λ j same. let is : n ≡ j = cc in rw (← is, turn.is, turn.was, idle) (some, within, ap (λ bytes. Some (held.received ++ bytes)) (sym front), refl, refl);
  end_ = λ same. absurd cc;
  not_yet = λ same. absurd cc;
  failed = λ same. absurd cc;
  memory = λ same. absurd cc;
  unfailed = λ able full. turn.unfailed;
  not_due = λ steady. absurd cc;
  woken = λ steady. absurd cc;
}

heard_end : (k : ℕ) (to rest : List ℕ) (held : Scripted) (place : Place) (old new : WireState)
    → Turns k held (record (after_answer answers.End rest held) { place = place }) old new → new.idle ≡ 0 → Receives k to old new answers.End
heard_end k to rest held place old new turn idle = record {
  only = turn.only;
  peer = rw (turn.is, turn.was) refl;
  sent = rw (turn.is, turn.was) refl;
  owed = rw (turn.is, turn.was) refl;
  is_open = rw (turn.is, turn.was) refl;
  stalls = rw (turn.is, turn.was) (omega arith);
  stalled = λ told. rw (turn.is) (refl, refl);
  moved = λ j same. absurd cc;
  end_ = λ same. rw (turn.is, turn.was, turn.tells, idle) (refl, refl, refl, λ short. absurd cc);
  not_yet = λ same. absurd cc;
  failed = λ same. absurd cc;
  memory = λ same. absurd cc;
  unfailed = λ able full. turn.unfailed;
  not_due = λ steady. absurd cc;
  woken = λ steady. absurd cc;
}

heard_nothing : (k : ℕ) (to rest : List ℕ) (held : Scripted) (place : Place) (old new : WireState)
    → Turns k held (record (after_answer answers.NotYet rest held) { place = place }) old new → new.idle ≡ old.idle → held.stalls ≤ counted held.stalls → Receives k to old new answers.NotYet
heard_nothing k to rest held place old new turn idle later = record {
  only = turn.only;
  peer = rw (turn.is, turn.was) refl;
  sent = rw (turn.is, turn.was) refl;
  owed = rw (turn.is, turn.was) refl;
  is_open = rw (turn.is, turn.was) refl;
  stalls = rw (turn.is, turn.was) later;
  stalled = λ told. rw (turn.is) (refl, refl);
  moved = λ j same. absurd cc;
  end_ = λ same. absurd cc;
  not_yet = λ same. rw (turn.is, turn.was, idle) (refl, refl, omega arith, refl);
  failed = λ same. absurd cc;
  memory = λ same. absurd cc;
  unfailed = λ able full. turn.unfailed;
  not_due = λ steady. absurd cc;
  woken = λ steady. absurd cc;
}

sent_nothing : (k : ℕ) (piece : List ℕ) (held : Scripted) (old new : WireState)
    → Turns k held (stalled_at Sending held) old new → new.idle ≡ old.idle → held.stalls ≤ counted held.stalls → Sends k piece old new answers.NotYet
sent_nothing k piece held old new turn idle later = record {
  only = turn.only;
  peer = rw (turn.is, turn.was) refl;
  received = rw (turn.is, turn.was) refl;
  ended = rw (turn.is, turn.was) refl;
  is_open = rw (turn.is, turn.was) refl;
  stalls = rw (turn.is, turn.was) later;
  stalled = λ told. rw (turn.is) (refl, refl);
  moved = λ j same. absurd cc;
  not_yet = λ same. rw (turn.is, turn.was, idle) (refl, refl, omega arith, refl);
  failed = λ same. absurd cc;
  memory = λ same. absurd cc;
  no_end = λ same. absurd cc;
  unfailed = λ able. turn.unfailed;
  not_due = λ steady. absurd cc;
  woken = λ steady. absurd cc;
}

-- a receive that gave bytes
pub hears_bytes : (k n m : ℕ) (to rest : List ℕ) (links : List Scripted) (held held' : Scripted) (place : Place) (counts counts' : CallCounts) (waits idle : ℕ) (door : Door)
    → k < length links → held ≡ get_or links k held → held' ≡ record (after_answer (answers.Moved n) rest held) { place = place } → counts' ≡ record counts { calls = m }
    → 0 < n → n ≤ length to → take n to ≡ take n rest
    → Receives k to (wire_of links counts waits idle door) (wire_of (set links k held') counts' waits 0 door) (answers.Moved n)
hears_bytes k n m to rest links held held' place counts counts' waits idle door below read after called some within front =
    subst (λ (h : Scripted). Receives k to (wire_of links counts waits idle door) (wire_of (set links k h) counts' waits 0 door) (answers.Moved n)) (sym after)
    (heard_bytes k n to rest held place _ _ (turns k m links held _ counts counts' waits idle 0 door below read called) refl some within front)

-- a receive that gave the end
pub hears_end : (k m : ℕ) (to rest : List ℕ) (links : List Scripted) (held held' : Scripted) (place : Place) (counts counts' : CallCounts) (waits idle : ℕ) (door : Door)
    → k < length links → held ≡ get_or links k held → held' ≡ record (after_answer answers.End rest held) { place = place } → counts' ≡ record counts { calls = m }
    → Receives k to (wire_of links counts waits idle door) (wire_of (set links k held') counts' waits 0 door) answers.End
hears_end k m to rest links held held' place counts counts' waits idle door below read after called =
    subst (λ (h : Scripted). Receives k to (wire_of links counts waits idle door) (wire_of (set links k h) counts' waits 0 door) answers.End) (sym after)
    (heard_end k to rest held place _ _ (turns k m links held _ counts counts' waits idle 0 door below read called) refl)

-- a receive that stalled
pub hears_nothing : (k m : ℕ) (to rest : List ℕ) (links : List Scripted) (held held' : Scripted) (place : Place) (counts counts' : CallCounts) (waits idle : ℕ) (door : Door)
    → k < length links → held ≡ get_or links k held → held' ≡ record (after_answer answers.NotYet rest held) { place = place } → counts' ≡ record counts { calls = m } → held.stalls ≤ held'.stalls
    → Receives k to (wire_of links counts waits idle door) (wire_of (set links k held') counts' waits idle door) answers.NotYet
hears_nothing k m to rest links held held' place counts counts' waits idle door below read after called later =
    subst (λ (h : Scripted). Receives k to (wire_of links counts waits idle door) (wire_of (set links k h) counts' waits idle door) answers.NotYet) (sym after)
    (heard_nothing k to rest held place _ _ (turns k m links held _ counts counts' waits idle idle door below read called) refl (subst (λ (h : Scripted). held.stalls ≤ h.stalls) after later))

-- a send that stalled
pub sends_nothing : (k m : ℕ) (piece : List ℕ) (links : List Scripted) (held held' : Scripted) (counts counts' : CallCounts) (waits idle : ℕ) (door : Door)
    → k < length links → held ≡ get_or links k held → held' ≡ stalled_at Sending held → counts' ≡ record counts { calls = m } → held.stalls ≤ held'.stalls
    → Sends k piece (wire_of links counts waits idle door) (wire_of (set links k held') counts' waits idle door) answers.NotYet
sends_nothing k m piece links held held' counts counts' waits idle door below read after called later =
    subst (λ (h : Scripted). Sends k piece (wire_of links counts waits idle door) (wire_of (set links k h) counts' waits idle door) answers.NotYet) (sym after)
    (sent_nothing k piece held _ _ (turns k m links held _ counts counts' waits idle idle door below read called) refl (subst (λ (h : Scripted). held.stalls ≤ h.stalls) after later))

-- what a receive does by this script on this link
record Says (script : Script) (held : Scripted) (spoken n k : ℕ) (old new : List Scripted) (to : List ℕ) (answer : Moved) : Type 0 where
  is_answer : answer ≡ answer_to_receive script spoken n held.place
  links : new ≡ set old k (after_receive script spoken n held)
  bytes : (m : ℕ) → answer ≡ answers.Moved m → take m to ≡ take m (rest_at script held.place)

-- a receive does what the script of its number says
pub by_script : (scripts : List Script) (script read : Script) (links : List Scripted) (k : ℕ) (held held' : Scripted) (spoken moved most : ℕ) (failing failing' : Failing) (to : List ℕ) (answer : Moved)
    → slice_get scripts k ≡ Some script → read ≡ get_or scripts k read → k < length links → held ≡ get_or links k held → spoken ≡ spoken_on links → failing' ≡ failing
    → answer ≡ answer_to_receive read spoken (room failing' moved (min most (length (rest_at read held.place)))) held.place
    → held' ≡ after_receive read spoken (room failing' moved (min most (length (rest_at read held.place)))) held
    → ((m : ℕ) → answer ≡ answers.Moved m → take m to ≡ take m (rest_at read held.place))
    → ReceivesBy script (spoken_on links) (room failing moved (min most (length (rest_at script (get_or links k no_link).place)))) k links (set links k held') to answer
by_script scripts script read links k held held' spoken moved most failing failing' to answer at is below here count same answered after bytes =
    let there : held ≡ get_or links k no_link = sym (held_at links k held no_link below here) in
    let found : read ≡ script = script_at scripts k script read at is in
    let P : Script → Scripted → ℕ → Failing → Type 0 = λ s h n f. Says s h n (room f moved (min most (length (rest_at s h.place)))) k links (set links k held') to answer in
    let first : P read held spoken failing' = record { is_answer = answered; links = ap (λ h. set links k h) after; bytes = bytes } in
    let second : P script (get_or links k no_link) (spoken_on links) failing =
    subst (λ s. P s (get_or links k no_link) (spoken_on links) failing) found
    (subst (λ h. P read h (spoken_on links) failing) there (subst (λ n. P read held n failing) count (subst (λ f. P read held spoken f) same first))) in
    record { is_answer = second.is_answer; links = second.links; bytes = second.bytes }

-- the link after a receive, by its answer
pub after_as : (script : Script) (spoken n : ℕ) (held held' : Scripted) (answer : Moved) → answer ≡ answer_to_receive script spoken n held.place → held' ≡ after_receive script spoken n held
    → held' ≡ record (after_answer answer (rest_at script held.place) held) { place = place_after script spoken n held.place }
after_as script spoken n held held' answer answered after =
    after ∙ ap (λ (a : Moved). record (after_answer a (rest_at script held.place) held) { place = place_after script spoken n held.place }) (sym answered)
