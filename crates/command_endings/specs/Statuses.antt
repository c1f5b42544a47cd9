-- The numbers of the exit statuses.
use Rattle.std.specs.Prelude.{ℕ}
use Rattle.command_endings.specs.declared.status.Status.{Status}
use Rattle.command_endings.specs.declared.status.Status.TheVariants as statuses

abbrev pub code_of : Status → ℕ
code_of statuses.Done = 0
code_of statuses.Usage = 2
code_of statuses.Data = 3
code_of statuses.Query = 4
code_of statuses.Exchange = 5
code_of statuses.Reply = 6
code_of statuses.Budget = 7
code_of statuses.Memory = 8
code_of statuses.Output = 9
code_of statuses.File = 10
code_of statuses.Changed = 11
code_of statuses.Wire = 12
