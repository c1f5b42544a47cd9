-- What a call on a link does to a wire over sockets, from its account and the counts.
use Rattle.std.proofs.Common.{arith, ℕ, ◌≡◌, ◌≢◌, ◌≤◌, List, length, take, Option, Some, None, true, false, nat_lt, if◌then◌else◌, sym, ◌∙◌, ap, refl, subst, inl, inr}
use Rattle.std.proofs.Math.Nat.{le_refl}
use Rattle.std.proofs.lemmas.Bool.Decides.{eqb_tells}
use Rattle.std.specs.Io.KnownBytes.{append_known}
use Rattle.tpf_base.specs.Causes.{counted, Rose}
use Rattle.tpf_base.specs.Links.{Link, WireState, is_short}
use Rattle.tpf_base.specs.Calls.{OnlyOn, SameWire, Sends, Receives, stalled_by}
use Rattle.tpf_base.specs.declared.wire.Moved.{Moved}
use Rattle.tpf_base.specs.declared.wire.Moved.TheVariants as answers
use Rattle.wire_real.specs.declared.account.Account.{Account}
use Rattle.wire_real.specs.declared.account.Counts.{Counts}
use Rattle.wire_real.specs.declared.account.Direction.{Direction}
use Rattle.wire_real.specs.declared.account.Direction.TheVariants as directions
use Rattle.wire_real.specs.Accounts.{way_of, link_at, link_of, closed_link, open_link, wire_of, account_after, counts_after, MovesWithin, Moves, OthersSame}

-- ---- the wire

-- a link that is held
held_link : (k given : ℕ) (held : ℕ → Option Account) (account : Account) → nat_lt k given ≡ true → held k ≡ Some account
    → link_at given held k ≡ open_link account
held_link k given held account is_given e =
    ap (λ b. if b then link_of (held k) else closed_link) is_given ∙ ap link_of e

-- the links of which no account changed
same_link : (given j : ℕ) (old new : ℕ → Option Account) → new j ≡ old j → link_at given new j ≡ link_at given old j
same_link given j old new e = ap (λ one. if nat_lt j given then link_of one else closed_link) e

-- nothing but the link, the faults and the idle waits changed
only_on : (k : ℕ) (counts : Counts) (faults idle : ℕ) (door : Option (List ℕ × ℕ)) (old new : ℕ → Option Account) → counts.faults ≤ faults → OthersSame k old new
    → OnlyOn k (wire_of counts door old) (wire_of (record counts { faults = faults; idle = idle }) door new)
only_on k counts faults idle door old new later others = record {
  others = λ j apart. same_link counts.given j old new (others j apart);
  later = later;
  given = refl;
  provoked = refl;
  dials = refl;
  waits = refl;
  door = refl;
  nature = refl;
}

-- nothing at all changed
same_wire : (k : ℕ) (counts : Counts) (door : Option (List ℕ × ℕ)) (old new : ℕ → Option Account) → new k ≡ old k → OthersSame k old new
    → SameWire (wire_of counts door old) (wire_of counts door new)
same_wire k counts door old new same others = record {
  links = λ j. same_link counts.given j old new (each j);
  faults = refl;
  given = refl;
  provoked = refl;
  dials = refl;
  waits = refl;
  idle = refl;
  door = refl;
  nature = refl;
}
  where
    each : (j : ℕ) → new j ≡ old j
    each j = elim (eqb_tells j k) [ inl same_number ↦ ap new same_number.1 ∙ same ∙ sym (ap old same_number.1) | inr apart ↦ others j apart.1 ]

-- the wire after an answer, of which no call on a link changes more than the faults and the idle waits
abbrev wire_after : Moved → Counts → Option (List ℕ × ℕ) → (ℕ → Option Account) → WireState
wire_after answer counts door held = wire_of (record counts { faults = (counts_after answer counts).faults; idle = (counts_after answer counts).idle }) door held

wire_after_is : (answer : Moved) (counts : Counts) (door : Option (List ℕ × ℕ)) (held : ℕ → Option Account)
    → wire_after answer counts door held ≡ wire_of (counts_after answer counts) door held
wire_after_is (answers.Moved n) counts door held = refl
wire_after_is answers.End counts door held = refl
wire_after_is answers.NotYet counts door held = refl
wire_after_is answers.Failed counts door held = refl
wire_after_is answers.OutOfMemory counts door held = refl

-- the faults rose, by one
fault_rose : (answer : Moved) (counts : Counts) → answer ≡ answers.Failed → Rose counts.faults (counts_after answer counts).faults
fault_rose answer counts e = subst (λ (a : Moved). Rose counts.faults (counts_after a counts).faults) (sym e) (le_refl (counted counts.faults))

-- no other answer leaves a fault
no_fault : (answer : Moved) (counts : Counts) → answer ≢ answers.Failed → (counts_after answer counts).faults ≡ counts.faults
no_fault (answers.Moved n) counts other = refl
no_fault answers.End counts other = refl
no_fault answers.NotYet counts other = refl
no_fault answers.Failed counts other = absurd (other refl)
no_fault answers.OutOfMemory counts other = refl

-- ---- the link

-- What a call on a link leaves of it: nothing is told, and its account is the one after the answer.
record CallsOn (direction : Direction) (answer : Moved) (old new : Link) : Type 0 where
  peer : new.peer ≡ old.peer
  sent : new.sent ≡ old.sent
  received : new.received ≡ old.received
  owed : new.owed ≡ old.owed
  ended : new.ended ≡ old.ended
  is_open : new.is_open ≡ old.is_open
  untold_sent : (more : List ℕ) → new.sent ≡ append_known old.sent more
  untold_received : (more : List ℕ) → new.received ≡ append_known old.received more
  untold_end : new.ended ≡ None
  not_short : is_short old ≡ true → ⊥
  stalls : old.stalls ≤ new.stalls
  stalled : answer ≢ answers.OutOfMemory → (new.stalled ≡ stalled_by (way_of direction) answer) × (new.woken ≡ false)
  stall_rose : answer ≡ answers.NotYet → Rose old.stalls new.stalls

stalled_after : (direction : Direction) (answer : Moved) (account : Account) → answer ≢ answers.OutOfMemory
    → ((open_link (account_after direction answer account)).stalled ≡ stalled_by (way_of direction) answer)
    × ((open_link (account_after direction answer account)).woken ≡ false)
stalled_after direction (answers.Moved n) account some = (refl, refl)
stalled_after direction answers.End account some = (refl, refl)
stalled_after direction answers.NotYet account some = (refl, refl)
stalled_after direction answers.Failed account some = (refl, refl)
stalled_after direction answers.OutOfMemory account some = absurd (some refl)

-- of an open link
calls_on_open : (direction : Direction) (answer : Moved) (account : Account) → account.stalls ≤ (account_after direction answer account).stalls
    → CallsOn direction answer (open_link account) (open_link (account_after direction answer account))
calls_on_open direction answer account grows = record {
  peer = refl;
  sent = refl;
  received = refl;
  owed = refl;
  ended = refl;
  is_open = refl;
  untold_sent = λ more. refl;
  untold_received = λ more. refl;
  untold_end = refl;
  not_short = λ short. let e : false ≡ true = short in cc;
  stalls = grows;
  stalled = stalled_after direction answer account;
  stall_rose = λ e. subst (λ (a : Moved). Rose account.stalls (account_after direction a account).stalls) (sym e) (le_refl (counted account.stalls));
}

-- of a link that is held
calls_on : (direction : Direction) (k given : ℕ) (answer : Moved) (old new : ℕ → Option Account) (account : Account)
    → nat_lt k given ≡ true → old k ≡ Some account → Moves direction k answer old new
    → CallsOn direction answer (link_at given old k) (link_at given new k)
calls_on direction k given answer old new account is_given had moves =
    let after : Account = account_after direction answer account in
    let was : open_link account ≡ link_at given old k = sym (held_link k given old account is_given had) in
    let is : open_link after ≡ link_at given new k = sym (held_link k given new after is_given (moves.moved account had).0) in
    subst (λ (l : Link). CallsOn direction answer l (link_at given new k)) was
    (subst (λ (l : Link). CallsOn direction answer (open_link account) l) is (calls_on_open direction answer account (moves.moved account had).1))

-- out of memory leaves the wire as it was
same_after : (direction : Direction) (k : ℕ) (answer : Moved) (counts : Counts) (door : Option (List ℕ × ℕ)) (old new : ℕ → Option Account) (account : Account)
    → old k ≡ Some account → Moves direction k answer old new → answer ≡ answers.OutOfMemory
    → SameWire (wire_of counts door old) (wire_after answer counts door new)
same_after direction k answer counts door old new account had moves e =
    let same : new k ≡ old k = (moves.moved account had).0 ∙ ap (λ (a : Moved). Some (account_after direction a account)) e ∙ sym had in
    subst (λ (a : Moved). SameWire (wire_of counts door old) (wire_after a counts door new)) (sym e) (same_wire k counts door old new same moves.others)

-- ---- the calls

-- a send on an open link
pub sends : (k : ℕ) (piece : List ℕ) (counts : Counts) (door : Option (List ℕ × ℕ)) (old new : ℕ → Option Account) (answer : Moved) (account : Account)
    → nat_lt k counts.given ≡ true → old k ≡ Some account → Moves directions.Sending k answer old new → MovesWithin (length piece) answer
    → answer ≢ answers.End
    → counts.faults ≤ (counts_after answer counts).faults
    → Sends k piece (wire_of counts door old) (wire_of (counts_after answer counts) door new) answer
sends k piece counts door old new answer account is_given had moves within no_end later =
    let link = calls_on directions.Sending k counts.given answer old new account is_given had moves in
    subst (λ (wire : WireState). Sends k piece (wire_of counts door old) wire answer) (wire_after_is answer counts door new) (record {
      only = only_on k counts (counts_after answer counts).faults (counts_after answer counts).idle door old new later moves.others;
      peer = link.peer;
      received = link.received;
      ended = link.ended;
      is_open = link.is_open;
      stalls = link.stalls;
      stalled = link.stalled;
      moved = λ n e.
          let some : MovesWithin (length piece) (answers.Moved n) = subst (λ (a : Moved). MovesWithin (length piece) a) e within in
          (some.0, some.1, link.untold_sent (take n piece), ap (λ (a : Moved). (counts_after a counts).idle) e);
      not_yet = λ e. (link.sent, link.owed, link.stall_rose e, ap (λ (a : Moved). (counts_after a counts).idle) e);
      failed = λ e. (0, omega arith, link.untold_sent (take 0 piece), (λ none. link.owed), ap (λ (a : Moved). (counts_after a counts).idle) e, fault_rose answer counts e);
      memory = same_after directions.Sending k answer counts door old new account had moves;
      no_end = no_end;
      unfailed = λ other. no_fault answer counts other;
      not_due = λ steady. cc;
      woken = λ steady. cc;
    })

-- a receive on an open link
pub receives : (k : ℕ) (to : List ℕ) (counts : Counts) (door : Option (List ℕ × ℕ)) (old new : ℕ → Option Account) (answer : Moved) (account : Account)
    → nat_lt k counts.given ≡ true → old k ≡ Some account → Moves directions.Receiving k answer old new → MovesWithin (length to) answer
    → counts.faults ≤ (counts_after answer counts).faults
    → Receives k to (wire_of counts door old) (wire_of (counts_after answer counts) door new) answer
receives k to counts door old new answer account is_given had moves within later =
    let link = calls_on directions.Receiving k counts.given answer old new account is_given had moves in
    subst (λ (wire : WireState). Receives k to (wire_of counts door old) wire answer) (wire_after_is answer counts door new) (record {
      only = only_on k counts (counts_after answer counts).faults (counts_after answer counts).idle door old new later moves.others;
      peer = link.peer;
      sent = link.sent;
      owed = link.owed;
      is_open = link.is_open;
      stalls = link.stalls;
      stalled = link.stalled;
      moved = λ n e.
          let some : MovesWithin (length to) (answers.Moved n) = subst (λ (a : Moved). MovesWithin (length to) a) e within in
          (some.0, some.1, link.untold_received (take n to), link.ended, ap (λ (a : Moved). (counts_after a counts).idle) e);
      end_ = λ e. (link.received, link.untold_end, ap (λ (a : Moved). (counts_after a counts).idle) e, λ short. absurd (link.not_short short));
      not_yet = λ e. (link.received, link.ended, link.stall_rose e, ap (λ (a : Moved). (counts_after a counts).idle) e);
      failed = λ e. (link.received, link.ended, ap (λ (a : Moved). (counts_after a counts).idle) e, fault_rose answer counts e);
      memory = same_after directions.Receiving k answer counts door old new account had moves;
      unfailed = λ other whole. no_fault answer counts other;
      not_due = λ steady. cc;
      woken = λ steady. cc;
    })
