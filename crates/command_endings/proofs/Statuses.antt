-- The statuses of faults.
use Rattle.std.proofs.Common.{◌≡◌, ◌≤◌, arith}
use Rattle.tpf_client.specs.declared.fault.ClientFault.{ClientFault}
use Rattle.tpf_client.specs.declared.fault.ClientFault.TheVariants as clients
use Rattle.data_files.specs.declared.fault.DataFault.{DataFault}
use Rattle.data_files.specs.declared.fault.DataFault.TheVariants as data_faults
use Rattle.data_files.specs.declared.fault.QueryFileFault.{QueryFileFault}
use Rattle.data_files.specs.declared.fault.QueryFileFault.TheVariants as query_faults
use Rattle.answer_faults.specs.declared.fault.AnswerFault.{AnswerFault}
use Rattle.answer_faults.specs.declared.fault.AnswerFault.TheVariants as answers
use Rattle.command_endings.specs.Endings.{data_status, query_status, client_status, fault_status}

known_data : (fault : DataFault) → (3 ≤ data_status fault) × (data_status fault ≤ 11)
known_data data_faults.TooLong = (omega arith, omega arith)
known_data (data_faults.Bad line why) = (omega arith, omega arith)
known_data (data_faults.GenidClash label) = (omega arith, omega arith)
known_data data_faults.TooMany = (omega arith, omega arith)
known_data data_faults.File = (omega arith, omega arith)
known_data data_faults.OutOfMemory = (omega arith, omega arith)

known_query : (fault : QueryFileFault) → (3 ≤ query_status fault) × (query_status fault ≤ 11)
known_query (query_faults.Bad at why) = (omega arith, omega arith)
known_query query_faults.File = (omega arith, omega arith)
known_query query_faults.OutOfMemory = (omega arith, omega arith)

known_client : (fault : ClientFault) → (3 ≤ client_status fault) × (client_status fault ≤ 11)
known_client clients.Exchange = (omega arith, omega arith)
known_client clients.Stalled = (omega arith, omega arith)
known_client (clients.Cut received) = (omega arith, omega arith)
known_client (clients.Reply fault received) = (omega arith, omega arith)
known_client (clients.Page fault body) = (omega arith, omega arith)
known_client (clients.Changed first other) = (omega arith, omega arith)
known_client (clients.Budget most) = (omega arith, omega arith)
known_client clients.Sink = (omega arith, omega arith)
known_client clients.OutOfMemory = (omega arith, omega arith)

-- a call over a wire ends with no refused query
pub not_four : (fault : ClientFault) → client_status fault ≡ 4 → ⊥
not_four clients.Exchange e = absurd (omega (arith, e))
not_four clients.Stalled e = absurd (omega (arith, e))
not_four (clients.Cut received) e = absurd (omega (arith, e))
not_four (clients.Reply fault received) e = absurd (omega (arith, e))
not_four (clients.Page fault body) e = absurd (omega (arith, e))
not_four (clients.Changed first other) e = absurd (omega (arith, e))
not_four (clients.Budget most) e = absurd (omega (arith, e))
not_four clients.Sink e = absurd (omega (arith, e))
not_four clients.OutOfMemory e = absurd (omega (arith, e))

pub known_fault : (fault : AnswerFault) → (3 ≤ fault_status fault) × (fault_status fault ≤ 11)
known_fault (answers.Data fault) = known_data fault
known_fault (answers.Query fault) = known_query fault
known_fault (answers.Client fault) = known_client fault
