-- What is said on the standard error.
use Rattle.std.proofs.Common.{ℕ, ◌≡◌, inl, inr, List, [], ◌++◌, Result, codes, decimal, refl, sym, ap, subst}
use Rattle.std.proofs.KnownBytes.{Appends-nil}
use Rattle.tpf_base.specs.Wrote.{SinkState}
use Rattle.tpf_base.specs.declared.fault.Fault.{Fault}
use Rattle.data_files.specs.declared.fault.DataFault.{DataFault}
use Rattle.answer_faults.specs.declared.fault.AnswerFault.{AnswerFault}
use Rattle.http_wire.specs.declared.message.ReplyFault.{ReplyFault}
use Rattle.tpf_client.specs.declared.fault.ClientFault.{ClientFault}
use Rattle.data_files.specs.declared.fault.QueryFileFault.{QueryFileFault}
use Rattle.command_endings.specs.declared.ending.Ending.{Ending}
use Rattle.command_endings.specs.EndingViews.{ending_view}
use Rattle.command_endings.specs.Endings.{data_status, data_line, query_status, query_line, reply_line, client_status, client_line, made_status, made_line, counted_status, counted_line, Says}
use Rattle.command_endings.specs.Lines.{SaysLine}

-- the same is said where the line is equal
pub along : (result status : ℕ) (old new : SinkState) (line other : List ℕ) → line ≡ other → SaysLine result status line old new → SaysLine result status other old new
along result status old new line other e h = subst (λ (l : List ℕ). SaysLine result status l old new) e h

-- nothing was said where memory ran out before
pub unsaid : (status : ℕ) (old : SinkState) (line : List ℕ) → SaysLine 8 status line old old
unsaid status old line = inr (refl, record { front = []; rest = line; whole = refl; bytes = Appends-nil old.taken })

-- an empty line is said by nothing
pub silent : (status : ℕ) (old : SinkState) → SaysLine status status [] old old
silent status old = inl (refl, inl (Appends-nil old.taken))

-- what is said of a known fault of data is said of the fault
pub data_said : (result : ℕ) (old new : SinkState) (name : List ℕ) (fault known : DataFault) → fault ≡ known → SaysLine result (data_status known) (data_line name known) old new
    → SaysLine result (data_status fault) (data_line name fault) old new
data_said result old new name fault known is h = subst (λ (f : DataFault). SaysLine result (data_status f) (data_line name f) old new) (sym is) h

-- the same of generated data
pub made_said : (result : ℕ) (old new : SinkState) (made known : Result (Unit {0}) Fault) → made ≡ known → SaysLine result (made_status known) (made_line known) old new
    → SaysLine result (made_status made) (made_line made) old new
made_said result old new made known is h = subst (λ (m : Result (Unit {0}) Fault). SaysLine result (made_status m) (made_line m) old new) (sym is) h

-- the same of a query of generated data
pub counted_said : (result : ℕ) (old new : SinkState) (name : List ℕ) (counted known : Result (Unit {0}) AnswerFault) → counted ≡ known → SaysLine result (counted_status known) (counted_line name known) old new
    → SaysLine result (counted_status counted) (counted_line name counted) old new
counted_said result old new name counted known is h = subst (λ (m : Result (Unit {0}) AnswerFault). SaysLine result (counted_status m) (counted_line name m) old new) (sym is) h

-- the lines of faults of data by the name of the fault, by the label, and by the name of the file
pub fault_line_of : (n : ℕ) (why other : List ℕ) → why ≡ other → (codes "data: line " ++ decimal n ++ codes ": " ++ why ++ codes "\n") ≡ (codes "data: line " ++ decimal n ++ codes ": " ++ other ++ codes "\n")
fault_line_of n why other is = ap (λ (w : List ℕ). codes "data: line " ++ decimal n ++ codes ": " ++ w ++ codes "\n") is

pub label_line_of : (label other : List ℕ) → label ≡ other → (codes "data: genid " ++ label ++ codes "\n") ≡ (codes "data: genid " ++ other ++ codes "\n")
label_line_of label other is = ap (λ (l : List ℕ). codes "data: genid " ++ l ++ codes "\n") is

pub file_line_of : (name other : List ℕ) → name ≡ other → (codes "file: " ++ name ++ codes "\n") ≡ (codes "file: " ++ other ++ codes "\n")
file_line_of name other is = ap (λ (n : List ℕ). codes "file: " ++ n ++ codes "\n") is

-- what is said of a known fault of a reply is said of the fault
pub reply_said : (result : ℕ) (old new : SinkState) (fault known : ReplyFault) → fault ≡ known → SaysLine result 6 (reply_line known) old new → SaysLine result 6 (reply_line fault) old new
reply_said result old new fault known is h = subst (λ (f : ReplyFault). SaysLine result 6 (reply_line f) old new) (sym is) h

-- the same of a call over a wire, of a query and of a run
pub client_said : (result : ℕ) (old new : SinkState) (fault known : ClientFault) → fault ≡ known → SaysLine result (client_status known) (client_line known) old new → SaysLine result (client_status fault) (client_line fault) old new
client_said result old new fault known is h = subst (λ (f : ClientFault). SaysLine result (client_status f) (client_line f) old new) (sym is) h

pub query_said : (result : ℕ) (old new : SinkState) (name : List ℕ) (fault known : QueryFileFault) → fault ≡ known → SaysLine result (query_status known) (query_line name known) old new → SaysLine result (query_status fault) (query_line name fault) old new
query_said result old new name fault known is h = subst (λ (f : QueryFileFault). SaysLine result (query_status f) (query_line name f) old new) (sym is) h

pub run_said : (result : ℕ) (old new : SinkState) (ending known : Ending) → ending ≡ known → Says result (ending_view known) old new → Says result (ending_view ending) old new
run_said result old new ending known is h = subst (λ (e : Ending). Says result (ending_view e) old new) (sym is) h

-- the lines of a status, of a page, and of the query by the name of the fault
pub status_line_of : (n other : ℕ) → n ≡ other → (codes "reply: status " ++ decimal n ++ codes "\n") ≡ (codes "reply: status " ++ decimal other ++ codes "\n")
status_line_of n other is = ap (λ (m : ℕ). codes "reply: status " ++ decimal m ++ codes "\n") is

pub page_line_of : (why other : List ℕ) → why ≡ other → (codes "reply: " ++ why ++ codes "\n") ≡ (codes "reply: " ++ other ++ codes "\n")
page_line_of why other is = ap (λ (w : List ℕ). codes "reply: " ++ w ++ codes "\n") is

pub query_line_of : (n : ℕ) (why other : List ℕ) → why ≡ other → (codes "query: byte " ++ decimal n ++ codes ": " ++ why ++ codes "\n") ≡ (codes "query: byte " ++ decimal n ++ codes ": " ++ other ++ codes "\n")
query_line_of n why other is = ap (λ (w : List ℕ). codes "query: byte " ++ decimal n ++ codes ": " ++ w ++ codes "\n") is
