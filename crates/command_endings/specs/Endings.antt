-- How a run ends: its exit status, and the line on the standard error.
use Rattle.std.specs.Prelude.{ℕ, List, [], ◌++◌, Result, Ok, Err, codes, decimal}
use Rattle.tpf_base.specs.Wrote.{SinkState}
use Rattle.tpf_base.specs.declared.fault.Fault.{Fault}
use Rattle.tpf_base.specs.declared.fault.Fault.TheVariants as sinks
use Rattle.http_wire.specs.declared.message.ReplyFault.{ReplyFault}
use Rattle.http_wire.specs.declared.message.ReplyFault.TheVariants as replies
use Rattle.tpf_client.specs.declared.options.Report.{Report}
use Rattle.tpf_client.specs.declared.fault.ClientFault.{ClientFault}
use Rattle.tpf_client.specs.declared.fault.ClientFault.TheVariants as clients
use Rattle.data_files.specs.declared.fault.DataFault.{DataFault}
use Rattle.data_files.specs.declared.fault.DataFault.TheVariants as data_faults
use Rattle.data_files.specs.declared.fault.QueryFileFault.{QueryFileFault}
use Rattle.data_files.specs.declared.fault.QueryFileFault.TheVariants as query_faults
use Rattle.answer_faults.specs.declared.fault.AnswerFault.{AnswerFault}
use Rattle.answer_faults.specs.declared.fault.AnswerFault.TheVariants as answers
use Rattle.serve_command.specs.declared.fault.ServiceFault.{ServiceFault}
use Rattle.serve_command.specs.declared.fault.ServiceFault.TheVariants as services
use Rattle.command_endings.specs.Names.{why_text, group_why_text, page_text}
use Rattle.command_endings.specs.Lines.{SaysLine, counts_text, versions_text}

-- how a run ends: the words are no command; memory ran out over them; what came of a query, with the names of the files of data and of the query; of a service, with that of its file; of generated data; and of a query of generated data, with the name of its file
pub data EndOfRun : Type 0 where
  usage : EndOfRun
  no_words : EndOfRun
  answered : List ℕ → List ℕ → Result Report AnswerFault → EndOfRun
  served : List ℕ → Result ℕ ServiceFault → EndOfRun
  made : Result (Unit {0}) Fault → EndOfRun
  counted : List ℕ → Result (Unit {0}) AnswerFault → EndOfRun

-- ---- data and queries

abbrev pub data_status : DataFault → ℕ
data_status data_faults.TooLong = 3
data_status (data_faults.Bad line why) = 3
data_status (data_faults.GenidClash label) = 3
data_status data_faults.TooMany = 3
data_status data_faults.File = 10
data_status data_faults.OutOfMemory = 8

abbrev pub data_line : List ℕ → DataFault → List ℕ
data_line name data_faults.TooLong = codes "data: too long\n"
data_line name (data_faults.Bad line why) = codes "data: line " ++ decimal line ++ codes ": " ++ why_text why ++ codes "\n"
data_line name (data_faults.GenidClash label) = codes "data: genid " ++ label ++ codes "\n"
data_line name data_faults.TooMany = codes "data: too many\n"
data_line name data_faults.File = codes "file: " ++ name ++ codes "\n"
data_line name data_faults.OutOfMemory = codes "memory\n"

abbrev pub query_status : QueryFileFault → ℕ
query_status (query_faults.Bad at why) = 4
query_status query_faults.File = 10
query_status query_faults.OutOfMemory = 8

abbrev pub query_line : List ℕ → QueryFileFault → List ℕ
query_line name (query_faults.Bad at why) = codes "query: byte " ++ decimal at ++ codes ": " ++ group_why_text why ++ codes "\n"
query_line name query_faults.File = codes "file: " ++ name ++ codes "\n"
query_line name query_faults.OutOfMemory = codes "memory\n"

-- ---- calls over a wire

abbrev pub reply_line : ReplyFault → List ℕ
reply_line replies.Head = codes "reply: head\n"
reply_line (replies.Status status) = codes "reply: status " ++ decimal status ++ codes "\n"
reply_line replies.MediaType = codes "reply: media type\n"
reply_line replies.Coding = codes "reply: coding\n"
reply_line replies.Framing = codes "reply: framing\n"
reply_line replies.TooLong = codes "reply: too long\n"

abbrev pub client_status : ClientFault → ℕ
client_status clients.Exchange = 5
client_status clients.Stalled = 5
client_status (clients.Cut received) = 5
client_status (clients.Reply fault received) = 6
client_status (clients.Page fault body) = 6
client_status (clients.Changed first other) = 11
client_status (clients.Budget n) = 7
client_status clients.Sink = 9
client_status clients.OutOfMemory = 8

abbrev pub client_line : ClientFault → List ℕ
client_line clients.Exchange = codes "exchange: failed\n"
client_line clients.Stalled = codes "exchange: stalled\n"
client_line (clients.Cut received) = codes "exchange: cut\n"
client_line (clients.Reply fault received) = reply_line fault
client_line (clients.Page fault body) = codes "reply: " ++ page_text fault ++ codes "\n"
client_line (clients.Changed first other) = versions_text first other
client_line (clients.Budget n) = codes "budget: " ++ decimal n ++ codes "\n"
client_line clients.Sink = codes "sink\n"
client_line clients.OutOfMemory = codes "memory\n"

-- ---- commands

abbrev pub fault_status : AnswerFault → ℕ
fault_status (answers.Data fault) = data_status fault
fault_status (answers.Query fault) = query_status fault
fault_status (answers.Client fault) = client_status fault

abbrev pub fault_line : List ℕ → List ℕ → AnswerFault → List ℕ
fault_line data_name query_name (answers.Data fault) = data_line data_name fault
fault_line data_name query_name (answers.Query fault) = query_line query_name fault
fault_line data_name query_name (answers.Client fault) = client_line fault

abbrev pub answer_status : Result Report AnswerFault → ℕ
answer_status (Ok report) = 0
answer_status (Err fault) = fault_status fault

abbrev pub answer_line : List ℕ → List ℕ → Result Report AnswerFault → List ℕ
answer_line data_name query_name (Ok report) = counts_text report.requests report.rows
answer_line data_name query_name (Err fault) = fault_line data_name query_name fault

abbrev pub service_status : Result ℕ ServiceFault → ℕ
service_status (Ok connections) = 0
service_status (Err (services.Data fault)) = data_status fault
service_status (Err services.Wire) = 12
service_status (Err services.Sink) = 9
service_status (Err services.OutOfMemory) = 8

abbrev pub service_line : List ℕ → Result ℕ ServiceFault → List ℕ
service_line name (Ok connections) = codes "served " ++ decimal connections ++ codes "\n"
service_line name (Err (services.Data fault)) = data_line name fault
service_line name (Err services.Wire) = codes "wire\n"
service_line name (Err services.Sink) = codes "sink\n"
service_line name (Err services.OutOfMemory) = codes "memory\n"

abbrev pub made_status : Result (Unit {0}) Fault → ℕ
made_status (Ok nothing) = 0
made_status (Err sinks.Failed) = 9
made_status (Err sinks.OutOfMemory) = 8

-- nothing is said where all was written
abbrev pub made_line : Result (Unit {0}) Fault → List ℕ
made_line (Ok nothing) = []
made_line (Err sinks.Failed) = codes "sink\n"
made_line (Err sinks.OutOfMemory) = codes "memory\n"

abbrev pub counted_status : Result (Unit {0}) AnswerFault → ℕ
counted_status (Ok nothing) = 0
counted_status (Err fault) = fault_status fault

-- nothing is said where the numbers were written
abbrev pub counted_line : List ℕ → Result (Unit {0}) AnswerFault → List ℕ
counted_line query_name (Ok nothing) = []
counted_line query_name (Err fault) = fault_line [] query_name fault

-- ---- runs

-- the exit status
abbrev pub status_of : EndOfRun → ℕ
status_of usage = 2
status_of no_words = 8
status_of (answered data_name query_name answer) = answer_status answer
status_of (served name service) = service_status service
status_of (made written) = made_status written
status_of (counted query_name result) = counted_status result

-- the line on the standard error, with its LF
abbrev pub line_of : EndOfRun → List ℕ
line_of usage = codes "usage: tpf local FILE QUERYFILE, tpf query URL QUERYFILE, tpf serve FILE --base URL, tpf make N\n"
line_of no_words = codes "memory\n"
line_of (answered data_name query_name answer) = answer_line data_name query_name answer
line_of (served name service) = service_line name service
line_of (made written) = made_line written
line_of (counted query_name result) = counted_line query_name result

abbrev pub Says : ℕ → EndOfRun → SinkState → SinkState → Type 0
Says result end old new = SaysLine result (status_of end) (line_of end) old new
