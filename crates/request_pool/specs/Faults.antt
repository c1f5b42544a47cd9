-- Faults of a pool.
use Rattle.std.specs.Prelude.{[], Option, Some, None}
use Rattle.request_pool.specs.declared.fault.PoolFault.{PoolFault}
use Rattle.request_pool.specs.declared.fault.PoolFault.TheVariants.{Exchange, Stalled, Cut, Reply, Budget, OutOfMemory}
use Rattle.request_pool.specs.declared.fault.KeptFault.{KeptFault}
use Rattle.request_pool.specs.declared.fault.KeptFault.TheVariants as kept

-- what a pool keeps of the fault that ended it: the bytes are handed over, and none is kept
abbrev pub kept_of : PoolFault → PoolFault
kept_of Exchange = Exchange
kept_of Stalled = Stalled
kept_of (Cut received) = Cut []
kept_of (Reply fault received) = Reply fault []
kept_of Budget = Budget
kept_of OutOfMemory = OutOfMemory

-- the fault without bytes
abbrev pub as_fault : KeptFault → PoolFault
as_fault kept.Exchange = Exchange
as_fault kept.Stalled = Stalled
as_fault kept.Cut = Cut []
as_fault (kept.Reply fault) = Reply fault []
as_fault kept.Budget = Budget
as_fault kept.OutOfMemory = OutOfMemory

abbrev pub shown_by : Option KeptFault → Option PoolFault
shown_by None = None
shown_by (Some e) = Some (as_fault e)
