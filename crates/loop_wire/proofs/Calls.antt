-- What a call does to a wire, from what it does to its link.
use Rattle.std.proofs.Common.{ℕ, zero, suc, ◌≡◌, ◌≢◌, ◌<◌, ◌≤◌, ◌+◌, ◌++◌, ◌||◌, Bool, true, false, List, [], ◌∷◌, length, take, set, get_or, Option, Some, refl, ap, sym, subst, ◌∙◌, length-set, length-append, arith}
use Rattle.std.proofs.lemmas.List.{get_or-set_same, get_or-set_other, set-get_or, append-nil, length-take-le}
use Rattle.std.proofs.Math.Seq.{get_or-append_seam}
use Rattle.tpf_base.specs.Causes.{Rose, counted}
use Rattle.tpf_base.specs.Failures.{CallCounts, is_due, is_dial_due, is_nth}
use Rattle.tpf_base.specs.Links.{Sending, Receiving, All, Link, is_short, WireState}
use Rattle.tpf_base.specs.Calls.{OnlyOn, SameWire, Sends, Receives, Closes, Gives, stalled_by}
use Rattle.tpf_base.specs.declared.failing.Failing.{Failing}
use Rattle.tpf_base.specs.declared.failing.Failing.TheVariants.{Never, Every, At, AfterBytes, Dials}
use Rattle.tpf_base.specs.declared.wire.Moved.{Moved}
use Rattle.tpf_base.specs.declared.wire.Moved.TheVariants as answers
use Rattle.loop_wire.specs.Held as held
use Rattle.loop_wire.specs.Held.{Held, Owing, no_link, new_link, told_there, settled, closed, after_send, after_receive, IsHeld, Hears}
use Rattle.loop_wire.specs.Waits.{WaitCounts}
use Rattle.loop_wire.specs.Looped.{wire_of, nature_in, steady_in, every_in, is_steady, every_of, woke_after}
use Rattle.loop_wire.proofs.Talks.{front_lasts}

-- ---- what is due

-- a steady wire fails no call but dials
pub never_due : (failing : Failing) (call moved : ℕ) → is_due failing call moved ≡ true → is_steady failing ≡ false
never_due Never call moved due = absurd cc
never_due (Every n) call moved due = refl
never_due (At calls) call moved due = refl
never_due (AfterBytes most) call moved due = refl
never_due (Dials n) call moved due = absurd cc

-- a dial that a steady wire fails is due by its number
pub dial_due : (failing : Failing) (call dial moved e : ℕ) → (is_due failing call moved || is_dial_due failing dial) ≡ true → every_of failing ≡ Some e → is_nth e dial ≡ true
dial_due Never call dial moved e due every = absurd cc
dial_due (Every n) call dial moved e due every = absurd cc
dial_due (At calls) call dial moved e due every = absurd cc
dial_due (AfterBytes most) call dial moved e due every = absurd cc
dial_due (Dials n) call dial moved e due every = let same : n ≡ e = cc in subst (λ m. is_nth m dial ≡ true) same due

-- where no server stands at some hosts and ports, the wire is as little steady
unsteady_in : (everywhere : Bool) (failing : Failing) → is_steady failing ≡ false → steady_in everywhere failing ≡ false
unsteady_in true failing is = is
unsteady_in false failing is = refl

pub every_alone : (everywhere : Bool) (failing : Failing) (e : ℕ) → every_in everywhere failing ≡ Some e → every_of failing ≡ Some e
every_alone true failing e is = is
every_alone false failing e is = absurd cc

pub steady_everywhere : (everywhere : Bool) (failing : Failing) → steady_in everywhere failing ≡ true → everywhere ≡ true
steady_everywhere true failing is = refl
steady_everywhere false failing is = absurd cc

-- ---- a link before a call and after it

pub record Turns (owes : Owing) (k : ℕ) (h h' : Held) (old new : WireState) : Type 0 where
  pub only : OnlyOn k old new
  pub was : old.links k ≡ told_there owes h
  pub is : new.links k ≡ told_there owes h'
  pub tells : old.nature.tells ≡ All

-- the counts after a call that is no dial
pub record CountsOn (old new : CallCounts) : Type 0 where
  pub failing : new.failing ≡ old.failing
  pub dials : new.dials ≡ old.dials
  pub later : old.faults ≤ new.faults

-- after one that did not fail
pub record CountsFine (old new : CallCounts) : Type 0 where
  pub on : CountsOn old new
  pub faults : new.faults ≡ old.faults

-- after one that was due to fail, on a wire that is not steady
pub record CountsFailed (old new : CallCounts) : Type 0 where
  pub on : CountsOn old new
  pub faults : new.faults ≡ counted old.faults
  pub unsteady : is_steady old.failing ≡ false

turns_set : (everywhere : Bool) (owes : Owing) (k : ℕ) (links : List Held) (h' : Held) (counts counts' : CallCounts) (provoked : ℕ) (waits : WaitCounts) (woke woke' : Bool)
    → k < length links → CountsOn counts counts'
    → Turns owes k (get_or links k no_link) h' (wire_of everywhere owes links counts provoked waits woke) (wire_of everywhere owes (set links k h') counts' provoked waits woke')
turns_set everywhere owes k links h' counts counts' provoked waits woke woke' below on = record {
  only = record {
    others = λ j other. ap (told_there owes) (get_or-set_other links k j h' no_link other);
    later = on.later;
    given = length-set links k h';
    provoked = refl;
    dials = on.dials;
    waits = refl;
    door = refl;
    nature = ap (nature_in everywhere) on.failing;
  };
  was = refl;
  is = ap (told_there owes) (get_or-set_same links k h' no_link below);
  tells = refl;
}

-- The idle waits and the faults of a wire after a call with this answer, which alone fails or wants memory.
record CountsBy (answer : Moved) (old new : WireState) : Type 0 where
  moved : (n : ℕ) → answer ≡ answers.Moved n → new.idle ≡ 0
  end_ : answer ≡ answers.End → new.idle ≡ 0
  not_yet : answer ≡ answers.NotYet → new.idle ≡ old.idle
  failed : answer ≡ answers.Failed → (new.idle ≡ old.idle) × Rose old.faults new.faults
  memory : answer ≡ answers.OutOfMemory → SameWire old new
  unfailed : answer ≢ answers.Failed → new.faults ≡ old.faults
  not_due : old.nature.steady ≡ true → answer ≢ answers.Failed

-- ---- sends

-- what a send leaves of its link, whatever it answers
record SentOn (owes : Owing) (answer : Moved) (h h' : Held) : Type 0 where
  peer : h'.peer ≡ h.peer
  received : take h'.received (owes h'.peer h'.sent) ≡ take h.received (owes h.peer h.sent)
  ended : h'.ended ≡ h.ended
  is_open : h'.is_open ≡ h.is_open
  stalled : answer ≢ answers.OutOfMemory → (h'.stalled ≡ stalled_by Sending answer) × (h'.woken ≡ false)

sent_on : (owes : Owing) (answer : Moved) (front : List ℕ) (h : Held) → answer ≢ answers.End
    → ((n : ℕ) → answer ≡ answers.Moved n → take h.received (owes h.peer (h.sent ++ front)) ≡ take h.received (owes h.peer h.sent)) → SentOn owes answer h (after_send answer front h)
sent_on owes (answers.Moved n) front h no_end lasts = record { peer = refl; received = lasts n refl; ended = refl; is_open = refl; stalled = λ able. (refl, refl) }
sent_on owes answers.End front h no_end lasts = absurd (no_end refl)
sent_on owes answers.NotYet front h no_end lasts = record { peer = refl; received = refl; ended = refl; is_open = refl; stalled = λ able. (refl, refl) }
sent_on owes answers.Failed front h no_end lasts = record { peer = refl; received = refl; ended = refl; is_open = refl; stalled = λ able. (refl, refl) }
sent_on owes answers.OutOfMemory front h no_end lasts = record { peer = refl; received = refl; ended = refl; is_open = refl; stalled = λ able. absurd (able refl) }

-- these bytes are the front of the piece that moved, and what was received stays the front of what is owed
record IsFront (owes : Owing) (piece front : List ℕ) (h : Held) (n : ℕ) : Type 0 where
  some : 0 < n
  few : n ≤ length piece
  is : front ≡ take n piece
  lasts : take h.received (owes h.peer (h.sent ++ front)) ≡ take h.received (owes h.peer h.sent)

sends_by : (owes : Owing) (k : ℕ) (piece front : List ℕ) (answer : Moved) (h h' : Held) (old new : WireState)
    → Turns owes k h h' old new → h' ≡ after_send answer front h → h.stalls ≤ h'.stalls → CountsBy answer old new → answer ≢ answers.End
    → ((n : ℕ) → answer ≡ answers.Moved n → IsFront owes piece front h n) → (answer ≡ answers.NotYet → h.woken ≡ false) → Sends k piece old new answer
sends_by owes k piece front answer h h' old new turn left later counts no_end moves asleep =
    let on = sent_on owes answer front h no_end (λ n same. (moves n same).lasts) in
    record {
      only = turn.only;
      peer = rw (turn.is, turn.was, left) on.peer;
      received = rw (turn.is, turn.was, left) (ap Some on.received);
      ended = rw (turn.is, turn.was, left) (ap Some on.ended);
      is_open = rw (turn.is, turn.was, left) on.is_open;
      stalls = rw (turn.is, turn.was) later;
      stalled = λ able. rw (turn.is, left) (on.stalled able);
      moved = λ n same. let f = moves n same in rw (turn.is, turn.was, left, same) (f.some, f.few, ap (λ (bytes : List ℕ). Some (h.sent ++ bytes)) f.is, counts.moved n same);
      not_yet = λ same. rw (turn.is, turn.was, left, same) (refl, refl, omega arith, counts.not_yet same);
      failed = λ same. rw (turn.is, turn.was, left, same) (0, omega arith, ap Some (sym (append-nil h.sent)), (λ n. refl), (counts.failed same).0, (counts.failed same).1);
      memory = counts.memory;
      no_end = no_end;
      unfailed = counts.unfailed;
      not_due = λ steady e every. (counts.unfailed (counts.not_due steady), counts.not_due steady);
      woken = λ steady woken stalled same. let up : h.woken ≡ true = ap (λ (l : Link). l.woken) (sym turn.was) ∙ woken in let down : h.woken ≡ false = asleep same in absurd cc;
    }

-- ---- receives

-- what a receive leaves of its link, whatever it answers
record HeardOn (owes : Owing) (answer : Moved) (h h' : Held) : Type 0 where
  peer : h'.peer ≡ h.peer
  sent : h'.sent ≡ h.sent
  owed : owes h'.peer h'.sent ≡ owes h.peer h.sent
  is_open : h'.is_open ≡ h.is_open
  stalled : answer ≢ answers.OutOfMemory → (h'.stalled ≡ stalled_by Receiving answer) × (h'.woken ≡ false)

heard_on : (owes : Owing) (answer : Moved) (short : Bool) (h : Held) → HeardOn owes answer h (after_receive answer short h)
heard_on owes (answers.Moved n) short h = record { peer = refl; sent = refl; owed = refl; is_open = refl; stalled = λ able. (refl, refl) }
heard_on owes answers.End short h = record { peer = refl; sent = refl; owed = refl; is_open = refl; stalled = λ able. (refl, refl) }
heard_on owes answers.NotYet short h = record { peer = refl; sent = refl; owed = refl; is_open = refl; stalled = λ able. (refl, refl) }
heard_on owes answers.Failed short h = record { peer = refl; sent = refl; owed = refl; is_open = refl; stalled = λ able. (refl, refl) }
heard_on owes answers.OutOfMemory short h = record { peer = refl; sent = refl; owed = refl; is_open = refl; stalled = λ able. absurd (able refl) }

receives_by : (owes : Owing) (k : ℕ) (to : List ℕ) (answer : Moved) (h h' : Held) (old new : WireState)
    → Turns owes k h h' old new → h' ≡ after_receive answer (is_short (told_there owes h)) h → h.stalls ≤ h'.stalls → CountsBy answer old new
    → ((n : ℕ) → answer ≡ answers.Moved n → (0 < n) × (n ≤ length to) × (take (h.received + n) (owes h.peer h.sent) ≡ take h.received (owes h.peer h.sent) ++ take n to))
    → (answer ≡ answers.End → is_short (told_there owes h) ≡ false) → (answer ≡ answers.NotYet → h.woken ≡ true → h.stalled ≡ Some Receiving → ⊥) → Receives k to old new answer
receives_by owes k to answer h h' old new turn left later counts moves over ripe =
    let on = heard_on owes answer (is_short (told_there owes h)) h in
    record {
      only = turn.only;
      peer = rw (turn.is, turn.was, left) on.peer;
      sent = rw (turn.is, turn.was, left) (ap Some on.sent);
      owed = rw (turn.is, turn.was, left) (ap Some on.owed);
      is_open = rw (turn.is, turn.was, left) on.is_open;
      stalls = rw (turn.is, turn.was) later;
      stalled = λ able. rw (turn.is, left) (on.stalled able);
      moved = λ n same. let m = moves n same in rw (turn.is, turn.was, left, same) (m.0, m.1, ap Some m.2, refl, counts.moved n same);
      end_ = λ same.
          let all : is_short (old.links k) ≡ false = ap is_short turn.was ∙ over same in
          (ap (λ (l : Link). l.received) turn.is ∙ rw (left, same) (sym (ap (λ (l : Link). l.received) turn.was)), ap (λ (l : Link). l.ended) turn.is ∙ rw (left, same, turn.tells) refl, counts.end_ same, λ short. absurd cc);
      not_yet = λ same. rw (turn.is, turn.was, left, same) (refl, refl, omega arith, counts.not_yet same);
      failed = λ same. rw (turn.is, turn.was, left, same) (refl, refl, (counts.failed same).0, (counts.failed same).1);
      memory = counts.memory;
      unfailed = λ able full. counts.unfailed able;
      not_due = λ steady e every. (counts.unfailed (counts.not_due steady), counts.not_due steady, λ same. ap is_short turn.was ∙ over same);
      woken = λ steady woken stalled same. ripe same (ap (λ (l : Link). l.woken) (sym turn.was) ∙ woken) (ap (λ (l : Link). l.stalled) (sym turn.was) ∙ stalled);
    }

-- a link that a wait answered is ripe
pub record IsAwake (owes : Owing) (stalls : Bool) (h : Held) : Type 0 where
  pub moves : h.woken ≡ true → h.stalled ≡ Some Receiving → (stalls ≡ false) × (is_short (told_there owes h) ≡ true)

-- ---- close

closed_link : (owes : Owing) (k : ℕ) (h h' : Held) (old new : WireState)
    → Turns owes k h h' old new → h' ≡ closed h → new.idle ≡ old.idle → new.faults ≡ old.faults → Closes k old new
closed_link owes k h h' old new turn left idle faults = record {
  only = turn.only;
  peer = rw (turn.is, turn.was, left) refl;
  sent = rw (turn.is, turn.was, left) refl;
  received = rw (turn.is, turn.was, left) refl;
  owed = rw (turn.is, turn.was, left) refl;
  ended = rw (turn.is, turn.was, left) refl;
  stalls = rw (turn.is, turn.was, left) (omega arith);
  stalled = rw (turn.is, left) refl;
  woken = rw (turn.is, left) refl;
  is_open = rw (turn.is, left) refl;
  faults = faults;
  idle = idle;
}

-- ---- the call itself: one link is set, and the counts are others
module _ (everywhere : Bool) (owes : Owing) (k : ℕ) (links links' : List Held) (counts counts' : CallCounts) (provoked : ℕ) (waits : WaitCounts) (woke : Bool) where
  abbrev here : Held
  here = get_or links k no_link

  abbrev before : WireState
  before = wire_of everywhere owes links counts provoked waits woke

  abbrev after : Bool → WireState
  after woke' = wire_of everywhere owes links' counts' provoked waits woke'

  turns : (h' : Held) (woke' : Bool) → k < length links → links' ≡ set links k h' → CountsOn counts counts' → Turns owes k here h' before (after woke')
  turns h' woke' below is on =
      let P : List Held → Type 0 = λ ls. Turns owes k here h' before (wire_of everywhere owes ls counts' provoked waits woke') in
      subst P (sym is) (turns_set everywhere owes k links h' counts counts' provoked waits woke woke' below on)

  -- it met want of memory
  same_wire : links' ≡ set links k here → CountsFine counts counts' → SameWire before (after woke)
  same_wire is fine =
      let same : links' ≡ links = is ∙ set-get_or links k no_link in
      record {
        links = λ j. ap (λ (ls : List Held). told_there owes (get_or ls j no_link)) same;
        faults = fine.faults;
        given = ap length same;
        provoked = refl;
        dials = fine.on.dials;
        waits = refl;
        idle = refl;
        door = refl;
        nature = ap (nature_in everywhere) fine.on.failing;
      }

  -- the counts after a call that is not due, and after one that is
  counts_as : (answer : Moved) (h' : Held) (woke' : Bool) → links' ≡ set links k h' → CountsFine counts counts' → woke' ≡ woke_after answer woke → answer ≢ answers.Failed
      → (answer ≡ answers.OutOfMemory → h' ≡ here) → CountsBy answer before (after woke')
  counts_as answer h' woke' is fine woken no_fault same = record {
    moved = λ n e. rw (woken, e) refl;
    end_ = λ e. rw (woken, e) refl;
    not_yet = λ e. rw (woken, e) refl;
    failed = λ e. absurd (no_fault e);
    memory = λ e. subst (λ (w : Bool). SameWire before (after w)) (sym (woken ∙ ap (λ (a : Moved). woke_after a woke) e)) (same_wire (is ∙ ap (λ (x : Held). set links k x) (same e)) fine);
    unfailed = λ able. fine.faults;
    not_due = λ steady. no_fault;
  }

  counts_due : CountsFailed counts counts' → CountsBy answers.Failed before (after woke)
  counts_due due = record {
    moved = λ n e. absurd cc;
    end_ = λ e. absurd cc;
    not_yet = λ e. absurd cc;
    failed = λ e. (refl, omega (arith, due.faults));
    memory = λ e. absurd cc;
    unfailed = λ able. absurd (able refl);
    not_due = λ steady. let both : true ≡ false = sym steady ∙ unsteady_in everywhere counts.failing due.unsteady in absurd cc;
  }

  -- a send that is not due
  pub sends_as : (n : ℕ) (piece rest : List ℕ) (stalls : Bool) (answer : Moved) (h' : Held) (woke' : Bool)
      → k < length links → links' ≡ set links k h' → CountsFine counts counts' → woke' ≡ woke_after answer woke → IsHeld (owes here.peer) here → Hears stalls (take n piece) here h' answer
      → owes here.peer (here.sent ++ take n piece) ≡ owes here.peer here.sent ++ rest → 0 < n → n ≤ length piece → (stalls ≡ true → here.woken ≡ false) → Sends k piece before (after woke') answer
  sends_as n piece rest stalls answer h' woke' below is fine woken held hears longer some few asleep =
      let lasts = front_lasts here.received (owes here.peer here.sent) (owes here.peer (here.sent ++ take n piece)) rest held.within longer in
      sends_by owes k piece (take n piece) answer here h' _ _ (turns h' woke' below is fine.on) hears.left hears.later
      (counts_as answer h' woke' is fine woken hears.no_fault (λ e. hears.left ∙ ap (λ (a : Moved). after_send a (take n piece) here) e)) hears.no_end
      (λ j same. let all : j ≡ n = hears.moved j same ∙ length-take-le n piece few in record { some = omega (arith, all, some); few = omega (arith, all, few); is = ap (λ (m : ℕ). take m piece) (sym all); lasts = lasts })
      (λ same. asleep (hears.not_yet same))

  -- one that is due
  pub sends_due : (piece : List ℕ) → k < length links → links' ≡ set links k (settled here) → CountsFailed counts counts' → Sends k piece before (after woke) answers.Failed
  sends_due piece below is due =
      sends_by owes k piece [] answers.Failed here (settled here) _ _ (turns _ woke below is due.on) refl (omega arith) (counts_due due) (λ e. absurd cc) (λ n e. absurd cc) (λ e. absurd cc)

  -- a receive that is not due
  pub receives_as : (most : ℕ) (to : List ℕ) (stalls : Bool) (answer : Moved) (h' : Held) (woke' : Bool)
      → k < length links → links' ≡ set links k h' → CountsFine counts counts' → woke' ≡ woke_after answer woke → held.Gives (owes here.peer) most stalls to here h' answer → IsAwake owes stalls here
      → Receives k to before (after woke') answer
  receives_as most to stalls answer h' woke' below is fine woken gives awake =
      receives_by owes k to answer here h' _ _ (turns h' woke' below is fine.on) gives.left gives.later
      (counts_as answer h' woke' is fine woken gives.no_fault (λ e. gives.left ∙ ap (λ (a : Moved). after_receive a (is_short (told_there owes here)) here) e))
      (λ n same. let all = gives.moved n same in (all.0, all.2, all.3)) gives.end_
      (λ same up way. let both = awake.moves up way in let clash : true ≡ false = sym both.1 ∙ gives.not_yet same both.0 in absurd cc)

  -- one that is due
  pub receives_due : (to : List ℕ) → k < length links → links' ≡ set links k (settled here) → CountsFailed counts counts' → Receives k to before (after woke) answers.Failed
  receives_due to below is due =
      receives_by owes k to answers.Failed here (settled here) _ _ (turns _ woke below is due.on) refl (omega arith) (counts_due due) (λ n e. absurd cc) (λ e. absurd cc) (λ e. absurd cc)

  pub closes_as : k < length links → links' ≡ set links k (closed here) → CountsFine counts counts' → Closes k before (after woke)
  closes_as below is fine = closed_link owes k here (closed here) _ _ (turns _ woke below is fine.on) refl refl fine.faults

-- ---- dials

others_same : (links : List Held) (h : Held) (k : ℕ) → k ≢ length links → get_or (links ++ h ∷ []) k no_link ≡ get_or links k no_link
others_same [] h zero other = absurd (other refl)
others_same [] h (suc k) other = refl
others_same (x ∷ links) h zero other = refl
others_same (x ∷ links) h (suc k) other = others_same links h k (λ e. other (omega (arith, e)))

-- a link that is given
pub gives_as : (everywhere : Bool) (owes : Owing) (peer : Option (List ℕ × ℕ)) (number : ℕ) (links links' : List Held) (counts counts' : CallCounts) (provoked : ℕ) (waits : WaitCounts) (woke : Bool)
    → number ≡ length links → links' ≡ links ++ new_link peer ∷ [] → Gives peer number (wire_of everywhere owes links counts provoked waits woke) (wire_of everywhere owes links' counts' provoked waits false)
gives_as everywhere owes peer number links links' counts counts' provoked waits woke first is =
    let at : get_or links' number no_link ≡ new_link peer = rw (is, first) (get_or-append_seam links (new_link peer) [] no_link) in
    record {
      is_next = first;
      more = ap length is ∙ length-append links (new_link peer ∷ []);
      is_open = ap (λ (h : Held). h.is_open) at;
      is_peer = ap (λ (h : Held). h.peer) at;
      sent = ap (λ (h : Held). Some h.sent) at;
      received = ap (λ (h : Held). Some (take h.received (owes h.peer h.sent))) at;
      ended = ap (λ (h : Held). Some h.ended) at;
      stalls = ap (λ (h : Held). h.stalls) at;
      stalled = ap (λ (h : Held). h.stalled) at;
      woken = ap (λ (h : Held). h.woken) at;
      others = λ k other. ap (told_there owes) (ap (λ ls. get_or ls k no_link) is ∙ others_same links (new_link peer) k (λ e. other (e ∙ sym first)));
      idle = refl;
    }
