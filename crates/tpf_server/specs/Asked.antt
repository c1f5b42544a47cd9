-- What is to be answered, and the answer.
use Rattle.std.specs.Prelude.{ℕ, ◌≤◌, ◌==◌, Bool, true, false, List, not, bytes_eq, Option, Some, None, if◌then◌else◌}
use Rattle.template_fill.specs.ReadAddress.{path_of}
use Rattle.template_fill.specs.Forms.{HasNoBlank}
use Rattle.template_fill.specs.Metadata.{Config}
use Rattle.template_fill.specs.HttpAnswer.{Answer, refusal, text_answer}
use Rattle.template_fill.specs.Answers.{Question, question_of}
use Rattle.http_wire.specs.declared.message.Asked.{Asked}
use Rattle.http_wire.specs.declared.message.Asked.TheVariants.{Get, Head, Other}
use Rattle.page_responses.specs.declared.status.Status.{Status}
use Rattle.page_responses.specs.declared.status.Status.TheVariants.{BadRequest, HeaderFieldsTooLarge}
use Rattle.page_responses.specs.Statuses.{code, version_line}
use Rattle.page_responses.specs.Serving.{Serving, served}
use Rattle.page_responses.specs.Pages.{page_answer_at}
use Rattle.tpf_server.specs.declared.asked.Asking.{Asking}
use Rattle.tpf_server.specs.declared.asked.Asking.TheVariants.{Refused, Reloaded, Page}

abbrev pub answer_by : Serving → Option Question → Answer
answer_by server None = refusal 400
answer_by server (Some question) = page_answer_at server question.selection question.page

-- the answer to what parameters ask for
unfoldable pub answer_at : Serving → Option Question → Answer
answer_at server question = answer_by server question

-- the answer of a status, of a reload, or of a page of what is selected of a version
unfoldable pub answer_of : Config → Asking → Answer
answer_of config (Refused status) = refusal (code status)
answer_of config (Reloaded number) = text_answer 200 (version_line number)
answer_of config (Page slots rows page snapshot) = page_answer_at (served snapshot config) (record { slots = slots; rows = rows }) page

-- the answer to a GET or HEAD for a target
unfoldable pub answer_for_target : Serving → List ℕ → Answer
answer_for_target server target =
    if not (bytes_eq (path_of target) server.config.base.path) then refusal 404 else answer_at server (question_of server.config.rows target)

-- the answer to a request of a method for a target, that is not a reload
unfoldable pub answer_for : Serving → Asked → List ℕ → Answer
answer_for server Other target = refusal 405
answer_for server Get target = answer_for_target server target
answer_for server Head target = answer_for_target server target

-- the head alone is asked for
abbrev pub is_head : Asked → Bool
is_head Get = false
is_head Head = true
is_head Other = false

-- another method than GET and HEAD
abbrev pub is_other : Asked → Bool
is_other Get = false
is_other Head = false
is_other Other = true

-- the status with which a head is refused
abbrev pub refused_with : ℕ → Status
refused_with status = if status == 431 then HeaderFieldsTooLarge else BadRequest

-- the page has a number above 0, and slots without a blank node
abbrev pub IsAsked : Asking → Type 0
IsAsked (Refused status) = Unit {0}
IsAsked (Reloaded number) = Unit {0}
IsAsked (Page slots rows page snapshot) = HasNoBlank slots × (1 ≤ page)
