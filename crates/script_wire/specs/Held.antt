-- What a wire of scripts holds.
use Rattle.std.specs.Prelude.{ℕ, Bool, false, List, length, get_or, None, if◌then◌else◌}
use Rattle.tpf_base.specs.Causes.{counted, counted_by}
use Rattle.tpf_base.specs.Failures.{CallCounts, is_next_due, is_next_dial_due, room}
use Rattle.tpf_base.specs.Links.{SentAndReceived, Door, WireState}
use Rattle.tpf_base.specs.declared.wire.Moved.{Moved}
use Rattle.tpf_base.specs.declared.wire.Moved.TheVariants as answers
use Rattle.script_wire.specs.Scripts.{Scripted, no_link, told_link}
use Rattle.script_wire.specs.declared.script.Script.{Script}
use Rattle.script_wire.specs.declared.wire.ScriptWire.{ScriptWire}

-- the scripts, of which the link with number k has the one at place k
abbrev pub scripts_of : ScriptWire → List Script
scripts_of wire = wire.scripts.items

-- the links that were given
abbrev pub links_of : ScriptWire → List Scripted
links_of wire = wire.links.items

-- which of its calls are failed, and how many were made and failed
abbrev pub counts_of : ScriptWire → CallCounts
counts_of wire = wire.failures

-- how many bytes were sent and received in all
abbrev pub moved_of : ScriptWire → ℕ
moved_of wire = wire.moved

-- these links and counts as a wire, with this door
abbrev pub wire_of : List Scripted → CallCounts → ℕ → ℕ → Door → WireState
wire_of links counts waits idle door = record {
  links = λ k. told_link (get_or links k no_link);
  given = length links;
  faults = counts.faults;
  provoked = 0;
  dials = counts.dials;
  waits = waits;
  idle = idle;
  door = door;
  nature = record { tells = SentAndReceived; lively = false; steady = false; every = None };
}

abbrev pub state_of : ScriptWire → WireState
state_of wire = wire_of wire.links.items wire.failures wire.waits wire.idle wire.door

-- whether the next call is due to fail: one that is no dial, and one that is
abbrev pub is_due_on : ScriptWire → Bool
is_due_on wire = is_next_due wire.failures wire.moved

abbrev pub is_dial_due_on : ScriptWire → Bool
is_dial_due_on wire = is_next_dial_due wire.failures wire.moved

-- how many bytes the next call may move, where so many are there to move
abbrev pub room_on : ScriptWire → ℕ → ℕ
room_on wire there = room wire.failures.failing wire.moved there

-- a count of faults after a call
abbrev pub failed_by : Bool → ℕ → ℕ
failed_by fails faults = if fails then counted faults else faults

-- a call that is no dial was counted, and as a fault where it failed
abbrev pub called : Bool → CallCounts → CallCounts
called fails counts = record counts { calls = counted counts.calls; faults = failed_by fails counts.faults }

-- a dial was counted, and as a fault where it failed
abbrev pub dialled : Bool → CallCounts → CallCounts
dialled fails counts = record counts { calls = counted counts.calls; dials = counted counts.dials; faults = failed_by fails counts.faults }

-- the bytes that moved, after a call with this answer
abbrev pub moved_by : Moved → ℕ → ℕ
moved_by (answers.Moved n) moved = counted_by n moved
moved_by answers.End moved = moved
moved_by answers.NotYet moved = moved
moved_by answers.Failed moved = moved
moved_by answers.OutOfMemory moved = moved
