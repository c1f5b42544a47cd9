-- The connection receives, and is given up where it wants memory.
use Rattle.std.proofs.Common.{refl}
use Rattle.list_laws.proofs.Options.{not_some_and_none}
use Rattle.loop_wire.proofs.Talks.{left_unreceived, kept_gone, gives_none, kept_by}
use Rattle.loop_wire.proofs.link.LoopLink.receive.Goals as goal

pub returns-in_default-clause-kept : goal.returns-in_default-clause-kept
returns-in_default-clause-kept g c = c.requires.kept

pub returns-in_default-clause-gives : goal.returns-in_default-clause-gives
returns-in_default-clause-gives g c = gives_none _ _ _ _ _ _ refl

pub returns-in_default-clause-gone : goal.returns-in_default-clause-gone
returns-in_default-clause-gone g c = λ none. (refl, none)

pub receive_from-moved-requires-clause-kept : goal.receive_from-moved-requires-clause-kept
receive_from-moved-requires-clause-kept g c = kept_by _ _ _ _ _ _ _ c.in-Some.is c.requires.kept

pub receive_from-moved-requires-clause-version : goal.receive_from-moved-requires-clause-version
receive_from-moved-requires-clause-version g c = c.requires.version

pub receive_from-moved-requires-clause-is_open : goal.receive_from-moved-requires-clause-is_open
receive_from-moved-requires-clause-is_open g c = c.requires.is_open

pub receive_from-moved-requires-clause-most : goal.receive_from-moved-requires-clause-most
receive_from-moved-requires-clause-most g c = c.requires.most

pub receive_from-moved-requires-clause-room : goal.receive_from-moved-requires-clause-room
receive_from-moved-requires-clause-room g c = c.requires.room

pub returns-in-OutOfMemory-clause-kept : goal.returns-in-OutOfMemory-clause-kept
returns-in-OutOfMemory-clause-kept g c = kept_gone _ _ _ _ _ _ _ (left_unreceived _ _ _ _ _ _ _ c.in-OutOfMemory.is c.receive_from-moved.ensures.gives) c.requires.kept

pub returns-in-OutOfMemory-clause-gives : goal.returns-in-OutOfMemory-clause-gives
returns-in-OutOfMemory-clause-gives g c = c.receive_from-moved.ensures.gives

pub returns-in-OutOfMemory-clause-gone : goal.returns-in-OutOfMemory-clause-gone
returns-in-OutOfMemory-clause-gone g c = λ none. (c.in-OutOfMemory.is, refl)

pub returns-in_default-moved : goal.returns-in_default-moved
returns-in_default-moved g c = record {
  kept = c.receive_from-moved.ensures.kept c.in_default-moved.not-OutOfMemory;
  gives = c.receive_from-moved.ensures.gives;
  gone = λ none. absurd (not_some_and_none _ c.in-Some.is none);
}
