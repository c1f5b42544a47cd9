-- What a call does to a wire it does to the wire with a door beside it.
use Rattle.std.proofs.Common.{ℕ, List, Option, Result, Ok, Err, IfOk, OnErr, refl, ap}
use Rattle.tpf_base.specs.declared.fault.Fault.{Fault}
use Rattle.tpf_base.specs.declared.wire.Moved.{Moved}
use Rattle.tpf_base.specs.declared.wire.Ready.{Ready}
use Rattle.tpf_base.specs.declared.wire.Ready.TheVariants as ready
use Rattle.tpf_base.specs.Links.{Door, WireState}
use Rattle.tpf_base.specs.Calls.{OnlyOn, SameWire, Sends, Receives, Closes, Gives, GivesNone, OnlyDials, DialsSteadily, OnlyWaits, Wakes, WakesRipe, WaitsSteadily}
use Rattle.run_case_answers.specs.Doors.{with_calls}

module _ (calls : ℕ) (old new : WireState) where
  abbrev one : WireState
  one = with_calls calls old

  abbrev two : WireState
  two = with_calls calls new

  only_on : (k : ℕ) → OnlyOn k old new → OnlyOn k one two
  only_on k o = record {
    others = o.others;
    later = o.later;
    given = o.given;
    provoked = o.provoked;
    dials = o.dials;
    waits = o.waits;
    door = ap (λ (d : Door). record d { calls = calls }) o.door;
    nature = o.nature;
  }

  pub same_wire : SameWire old new → SameWire one two
  same_wire s = record {
    links = s.links;
    faults = s.faults;
    given = s.given;
    provoked = s.provoked;
    dials = s.dials;
    waits = s.waits;
    idle = s.idle;
    door = ap (λ (d : Door). record d { calls = calls }) s.door;
    nature = s.nature;
  }

  pub sends : (k : ℕ) (piece : List ℕ) (answer : Moved) → Sends k piece old new answer → Sends k piece one two answer
  sends k piece answer s = record {
    only = only_on k s.only;
    peer = s.peer;
    received = s.received;
    ended = s.ended;
    is_open = s.is_open;
    stalls = s.stalls;
    stalled = s.stalled;
    moved = s.moved;
    not_yet = s.not_yet;
    failed = s.failed;
    memory = λ e. same_wire (s.memory e);
    no_end = s.no_end;
    unfailed = s.unfailed;
    not_due = s.not_due;
    woken = s.woken;
  }

  pub receives : (k : ℕ) (to : List ℕ) (answer : Moved) → Receives k to old new answer → Receives k to one two answer
  receives k to answer r = record {
    only = only_on k r.only;
    peer = r.peer;
    sent = r.sent;
    owed = r.owed;
    is_open = r.is_open;
    stalls = r.stalls;
    stalled = r.stalled;
    moved = r.moved;
    end_ = r.end_;
    not_yet = r.not_yet;
    failed = r.failed;
    memory = λ e. same_wire (r.memory e);
    unfailed = r.unfailed;
    not_due = r.not_due;
    woken = r.woken;
  }

  pub closes : (k : ℕ) → Closes k old new → Closes k one two
  closes k c = record {
    only = only_on k c.only;
    peer = c.peer;
    sent = c.sent;
    received = c.received;
    owed = c.owed;
    ended = c.ended;
    stalls = c.stalls;
    stalled = c.stalled;
    woken = c.woken;
    is_open = c.is_open;
    faults = c.faults;
    idle = c.idle;
  }

  gives : (peer : Option (List ℕ × ℕ)) (number : ℕ) → Gives peer number old new → Gives peer number one two
  gives peer number g = record {
    is_next = g.is_next;
    more = g.more;
    is_open = g.is_open;
    is_peer = g.is_peer;
    sent = g.sent;
    received = g.received;
    ended = g.ended;
    stalls = g.stalls;
    stalled = g.stalled;
    woken = g.woken;
    others = g.others;
    idle = g.idle;
  }

  pub gives_ok : (peer : Option (List ℕ × ℕ)) (result : Result ℕ Fault) → IfOk result (λ number. Gives peer number old new) → IfOk result (λ number. Gives peer number one two)
  gives_ok peer (Ok number) g = gives peer number g
  gives_ok peer (Err fault) g = tt

  pub only_dials : OnlyDials old new → OnlyDials one two
  only_dials o = record {
    count = o.count;
    later = o.later;
    provoked = o.provoked;
    waits = o.waits;
    door = ap (λ (d : Door). record d { calls = calls }) o.door;
    nature = o.nature;
  }

  pub dials_steadily : (result : Result ℕ Fault) → DialsSteadily old new result → DialsSteadily one two result
  dials_steadily result d = record { unprovoked = d.unprovoked; not_due = d.not_due }

  pub gives_none : GivesNone old new → GivesNone one two
  gives_none g = record { given = g.given; links = g.links; idle = g.idle }

  pub gives_none_err : {T : Type 0} (result : Result T Fault) → OnErr result (GivesNone old new) → OnErr result (GivesNone one two)
  gives_none_err (Ok t) g = tt
  gives_none_err (Err fault) g = gives_none g

  pub only_waits : OnlyWaits old new → OnlyWaits one two
  only_waits o = record {
    count = o.count;
    given = o.given;
    later = o.later;
    provoked = o.provoked;
    dials = o.dials;
    door = record { place = o.door.place; stalls = o.door.stalls; later = o.door.later; calls = refl };
    nature = o.nature;
  }

  wakes : (answer : Ready) → Wakes answer old new → Wakes answer one two
  wakes (ready.Link k) w = w
  wakes ready.Door w = w

  pub wakes_ok : (result : Result Ready Fault) → IfOk result (λ answer. Wakes answer old new) → IfOk result (λ answer. Wakes answer one two)
  wakes_ok (Ok answer) w = wakes answer w
  wakes_ok (Err fault) w = tt

  ripe : (answer : Ready) → WakesRipe answer old → WakesRipe answer one
  ripe (ready.Link k) r = r
  ripe ready.Door r = r

  pub waits_steadily : (result : Result Ready Fault) → WaitsSteadily old new result → WaitsSteadily one two result
  waits_steadily result w = record { ripe = λ answer is. ripe answer (w.ripe answer is); unprovoked = w.unprovoked }
