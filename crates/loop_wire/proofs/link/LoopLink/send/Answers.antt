-- The connection hears what is sent, and is given up where it wants memory.
use Rattle.std.proofs.Common.{refl}
use Rattle.list_laws.proofs.Options.{not_some_and_none}
use Rattle.loop_wire.proofs.Talks.{left_unsent, kept_gone, hears_none, kept_by}
use Rattle.loop_wire.proofs.link.LoopLink.send.Goals as goal

pub returns-in_default-clause-kept : goal.returns-in_default-clause-kept
returns-in_default-clause-kept g c = c.requires.kept

pub returns-in_default-clause-hears : goal.returns-in_default-clause-hears
returns-in_default-clause-hears g c = hears_none _ _ _ _ refl

pub returns-in_default-clause-gone : goal.returns-in_default-clause-gone
returns-in_default-clause-gone g c = λ none. (refl, none)

pub send_to-moved-requires-clause-kept : goal.send_to-moved-requires-clause-kept
send_to-moved-requires-clause-kept g c = kept_by _ _ _ _ _ _ _ c.in-Some.is c.requires.kept

pub send_to-moved-requires-clause-is_open : goal.send_to-moved-requires-clause-is_open
send_to-moved-requires-clause-is_open g c = c.requires.is_open

pub returns-in-OutOfMemory-clause-kept : goal.returns-in-OutOfMemory-clause-kept
returns-in-OutOfMemory-clause-kept g c = kept_gone _ _ _ _ _ _ _ (left_unsent _ _ _ _ _ c.in-OutOfMemory.is c.send_to-moved.ensures.hears) c.requires.kept

pub returns-in-OutOfMemory-clause-hears : goal.returns-in-OutOfMemory-clause-hears
returns-in-OutOfMemory-clause-hears g c = c.send_to-moved.ensures.hears

pub returns-in-OutOfMemory-clause-gone : goal.returns-in-OutOfMemory-clause-gone
returns-in-OutOfMemory-clause-gone g c = λ none. (c.in-OutOfMemory.is, refl)

pub returns-in_default-moved : goal.returns-in_default-moved
returns-in_default-moved g c = record {
  kept = c.send_to-moved.ensures.kept c.in_default-moved.not-OutOfMemory;
  hears = c.send_to-moved.ensures.hears;
  gone = λ none. absurd (not_some_and_none _ c.in-Some.is none);
}
