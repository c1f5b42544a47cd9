-- A wait.
use Rattle.std.proofs.Common.{ap, Err}
use Rattle.serve_loop.proofs.WelcomeLemmas.{rests_wakes, rests_none, alone_waits}
use Rattle.serve_loop.proofs.service.rest.Goals as goal

pub returns-in-Ok-clause-only : goal.returns-in-Ok-clause-only
returns-in-Ok-clause-only g c = rests_wakes _ _ _ c.in-Ok.ensures.ok c.in-Ok.ensures.only

pub returns-in-Err-Failed-clause-only : goal.returns-in-Err-Failed-clause-only
returns-in-Err-Failed-clause-only g c = rests_none _ _ c.in-Err-Failed.ensures.err (alone_waits _ _ c.in-Err-Failed.ensures.only)

pub returns-in-Err-OutOfMemory-clause-only : goal.returns-in-Err-OutOfMemory-clause-only
returns-in-Err-OutOfMemory-clause-only g c = rests_none _ _ c.in-Err-OutOfMemory.ensures.err (alone_waits _ _ c.in-Err-OutOfMemory.ensures.only)

pub returns-in-Err-Failed-clause-fails : goal.returns-in-Err-Failed-clause-fails
returns-in-Err-Failed-clause-fails g c = record {
  cause = record { faults = c.in-Err-Failed.ensures.cause.failed (ap Err c.in-Err-Failed.field-0-is); door = c.in-Err-Failed.ensures.door.failed (ap Err c.in-Err-Failed.field-0-is) };
  none = c.in-Err-Failed.ensures.err;
  waits = c.in-Err-Failed.ensures.only.count;
  alone = alone_waits _ _ c.in-Err-Failed.ensures.only;
}

pub returns-in-Err-OutOfMemory-clause-fails : goal.returns-in-Err-OutOfMemory-clause-fails
returns-in-Err-OutOfMemory-clause-fails g c = record {
  cause = (c.in-Err-OutOfMemory.ensures.cause.memory (ap Err c.in-Err-OutOfMemory.field-0-is), c.in-Err-OutOfMemory.ensures.door.memory (ap Err c.in-Err-OutOfMemory.field-0-is));
  none = c.in-Err-OutOfMemory.ensures.err;
  waits = c.in-Err-OutOfMemory.ensures.only.count;
  alone = alone_waits _ _ c.in-Err-OutOfMemory.ensures.only;
}
