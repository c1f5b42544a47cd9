-- What a join owes and shows as an evaluation.
use Rattle.std.specs.Prelude.{◌==◌, ◌&&◌, Bool, length}
use Rattle.request_plan.specs.Rounds.{addresses_in}
use Rattle.request_plan.specs.Worlds.{World}
use Rattle.join_core.specs.Joins.{JoinData, nodes, owed, left_over, out, tickets_out}
use Rattle.join_core.specs.Ones.{pairs_in}
use Rattle.request_plan.specs.Evaluations.{Account, Standing}

abbrev pub account_of : World → JoinData → Account
account_of w j = record { owed = owed w j; left = addresses_in (left_over w j); out = pairs_in (out w j) }

-- no node is open, and no row waits
abbrev pub is_over : JoinData → Bool
is_over j = (length j.waiting == 0) && (length (nodes j.levels) == 0)

abbrev pub standing_of : JoinData → Standing
standing_of j = record { given = j.tickets; out = tickets_out j; waiting = length j.waiting; done = is_over j }
