-- The answers to the heads at the front of bytes, one after another.
use Rattle.std.proofs.Common.{◌≡◌, ℕ, ◌+◌, ◌⊎◌, Bool, true, false, List, [], ◌∷◌, ◌++◌, map, length, take, drop, Option, Some, None, refl, ap, ap₂, sym, subst, ◌∙◌, inl, inr, arith, length-drop, if◌then◌else◌}
use Rattle.std.specs.Prelude.{codes, bytes_eq, not, nat_lt, nat_le, ◌&&◌}
use Rattle.std.proofs.lemmas.Bool.{true≢false}
use Rattle.list_laws.proofs.Bytes.{same_is}
use Rattle.tpf_base.specs.declared.limits.TheConstants.{HEAD_LIMIT, MOST_FIELDS}
use Rattle.tpf_base.specs.HttpHeads.{Request, Verdict, Accepted, Rejected, NextRequest, Incomplete, Taken, Refused, next_request, next_at, with_length, judged, judged_head, blank_length, head_length, field_lines, taken_whole, names_host, is_target}
use Rattle.tpf_base.specs.HttpReader.{read_request}
use Rattle.http_wire.specs.Requests.{Held, asked_of, head_of, holding}
use Rattle.http_wire.specs.declared.message.Asked.{Asked}
use Rattle.http_wire.specs.declared.message.Asked.TheVariants.{Get, Head, Other}
use Rattle.http_wire.proofs.StayLemmas.{taken_within}
use Rattle.rdf_terms.specs.declared.term.Triple.{Triple}
use Rattle.rdf_terms.specs.Canon.{canon}
use Rattle.rdf_terms.specs.Selections.{selected, selected_last, selected_page}
use Rattle.template_fill.specs.ReadAddress.{path_of}
use Rattle.template_fill.specs.Metadata.{page_metadata}
use Rattle.template_fill.specs.Bodies.{in_default_graph, page_body, version_of}
use Rattle.template_fill.specs.HttpAnswer.{Answer, NQuads, answer_text, refusal}
use Rattle.tpf_base.specs.Marks.{Served}
use Rattle.template_fill.specs.Answers.{Question, answer_if, answer_to, is_path_of_reload, is_read, is_reload, page_answer, question_of, reload_answer, version_answer}
use Rattle.template_fill.proofs.Histories.{last_served}
use Rattle.tpf_base.specs.HttpConnection.{heads_of, last_head, with_head}
use Rattle.template_fill.specs.Responses.{answering, head_answer}
use Rattle.http_wire.proofs.ConnectionLemmas.{heads_at}
use Rattle.page_responses.specs.Statuses.{code}
use Rattle.page_responses.specs.Serving.{Serving, IsHistoryOf, data_of}
use Rattle.page_responses.specs.Pages.{body_at, page_answer_at}
use Rattle.tpf_server.specs.declared.asked.Asking.TheVariants as asks
use Rattle.tpf_server.specs.declared.asked.Queued.{Queued}
use Rattle.tpf_server.specs.Asked.{IsAsked, answer_at, answer_by, answer_for, answer_for_target, answer_of, is_head, is_other, refused_with}
use Rattle.tpf_server.specs.Owed.{queued_text}
use Rattle.tpf_server.specs.Read.{IsAnswered, asks_for}

-- ---- a request over a history whose last version is served

module _ (history : List (List Triple)) (server : Serving) where
  page_is : (question : Question) → version_of history server.version ≡ data_of server → page_answer_at server question.selection question.page ≡ page_answer history server.version server.config question
  unfolding body_at page_body
  page_is question same =
      sym (ap (λ (triples : List Triple). if nat_le question.page (selected_last triples question.selection server.config.page_size)
      then record { status = 200; media_type = NQuads; body = canon (map in_default_graph (selected_page triples question.selection question.page server.config.page_size) ++ page_metadata server.config question.selection question.page (length (selected triples question.selection)) server.version) }
      else refusal 404) same)

  asked_is : (question : Option Question) → version_of history server.version ≡ data_of server → answer_by server question ≡ answer_if history server.version server.config question
  asked_is None same = refl
  asked_is (Some question) same = page_is question same

  target_is : (target : List ℕ) → version_of history server.version ≡ data_of server
      → answer_for_target server target ≡ (if not (bytes_eq (path_of target) server.config.base.path) then refusal 404 else answer_if history server.version server.config (question_of server.config.rows target))
  unfolding answer_for_target answer_at
  target_is target same = ap (λ (a : Answer). if not (bytes_eq (path_of target) server.config.base.path) then refusal 404 else a) (asked_is (question_of server.config.rows target) same)

abbrev known : Bool → Bool → Asked
known get head = if get then Get else (if head then Head else Other)

known_answer : (server : Serving) (get head : Bool) (target : List ℕ) → answer_for server (known get head) target ≡ (if not (if get then true else head) then refusal 405 else answer_for_target server target)
unfolding answer_for
known_answer server true head target = refl
known_answer server false true target = refl
known_answer server false false target = refl

version_is : (history : List (List Triple)) (server : Serving) (request : Request) → version_of history server.version ≡ data_of server
    → answer_for server (asked_of request.method) request.target ≡ version_answer history server.version server.config request
unfolding version_answer
version_is history server request same =
    known_answer server (bytes_eq request.method (codes "GET")) (bytes_eq request.method (codes "HEAD")) request.target
    ∙ ap (λ (a : Answer). if not (is_read request.method) then refusal 405 else a) (target_is history server request.target same)

pub request_answer : (history : List (List Triple)) (server : Serving) (request : Request) → IsHistoryOf history server → is_reload server.config request ≡ false
    → answer_for server (asked_of request.method) request.target ≡ answer_to history (Served server.version) server.config request
unfolding answer_to
request_answer history server request last plain =
    version_is history server request (last_served history server.version (data_of server) last)
    ∙ sym (ap (λ (b : Bool). if b then reload_answer (Served server.version) else version_answer history server.version server.config request) plain)

-- ---- methods

not_both : (m : List ℕ) → bytes_eq m (codes "GET") ≡ true → bytes_eq m (codes "HEAD") ≡ false
not_both m get = ap (λ (l : List ℕ). bytes_eq l (codes "HEAD")) (same_is m (codes "GET") get)

known_head : (get head : Bool) → (get ≡ true → head ≡ false) → is_head (known get head) ≡ head
known_head true head other = sym (other refl)
known_head false true other = refl
known_head false false other = refl

pub head_alone : (m : List ℕ) → is_head (asked_of m) ≡ bytes_eq m (codes "HEAD")
head_alone m = known_head (bytes_eq m (codes "GET")) (bytes_eq m (codes "HEAD")) (not_both m)

known_other : (get head : Bool) → is_other (known get head) ≡ not (if get then true else head)
known_other true head = refl
known_other false true = refl
known_other false false = refl

pub reload_is : (server : Serving) (request : Request) → asks_for server (head_of request) ≡ is_reload server.config request
unfolding is_reload
reload_is server request =
    ap (λ (b : Bool). b && is_path_of_reload server.config.reload (path_of request.target)) (known_other (bytes_eq request.method (codes "GET")) (bytes_eq request.method (codes "HEAD")))

pub request_text_is : (history : List (List Triple)) (server : Serving) (request : Request) (queued : Queued) → IsHistoryOf history server → is_reload server.config request ≡ false
    → answer_of server.config queued.asking ≡ answer_for server (asked_of request.method) request.target → queued.without_body ≡ is_head (asked_of request.method) → queued.closes ≡ request.closes
    → queued_text server.config queued ≡ head_answer (answering history server.config) (Accepted request) (Served server.version)
request_text_is history server request queued last plain answer body ends =
    ap (λ (a : Answer). answer_text a queued.without_body queued.closes) (answer ∙ request_answer history server request last plain)
    ∙ ap₂ (λ (w l : Bool). answer_text (answer_to history (Served server.version) server.config request) w l) (body ∙ head_alone request.method) ends

-- ---- a refusal

abbrev IsFault : ℕ → Type 0
IsFault status = (status ≡ 400) ⊎ (status ≡ 431)

abbrev FaultOf : NextRequest → Type 0
FaultOf Incomplete = Unit {0}
FaultOf (Taken r n) = Unit {0}
FaultOf (Refused status) = IsFault status

abbrev VerdictFault : Verdict → Type 0
VerdictFault (Accepted r) = Unit {0}
VerdictFault (Rejected status) = IsFault status

next_if : (b : Bool) (x y : NextRequest) → FaultOf x → FaultOf y → FaultOf (if b then x else y)
next_if true x y p q = p
next_if false x y p q = q

verdict_if : (b : Bool) (x y : Verdict) → VerdictFault x → VerdictFault y → VerdictFault (if b then x else y)
verdict_if true x y p q = p
verdict_if false x y p q = q

judged_fault : (head : List ℕ) → VerdictFault (judged head)
unfolding judged
judged_fault head = verdict_if (nat_lt MOST_FIELDS (field_lines head)) (Rejected 431) (judged_head (taken_whole (read_request head))) (inr refl)
    (elim (taken_whole (read_request head)) as (λ h. VerdictFault (judged_head h)) [ None ↦ inl refl | Some h ↦ verdict_if (names_host h && is_target h.target) _ (Rejected 400) tt (inl refl) ])

with_fault : (n : ℕ) (v : Verdict) → VerdictFault v → FaultOf (with_length n v)
with_fault n (Accepted r) h = tt
with_fault n (Rejected status) h = h

at_fault : (bytes : List ℕ) (blank : ℕ) (found : Option ℕ) → FaultOf (next_at bytes blank found)
at_fault bytes blank None = next_if (nat_le HEAD_LIMIT (length bytes)) (Refused 431) Incomplete (inr refl) tt
at_fault bytes blank (Some n) =
    next_if (nat_lt HEAD_LIMIT (blank + n)) (Refused 431) (with_length (blank + n) (judged (take n (drop blank bytes)))) (inr refl)
    (with_fault (blank + n) (judged (take n (drop blank bytes))) (judged_fault (take n (drop blank bytes))))

next_fault : (bytes : List ℕ) → FaultOf (next_request bytes)
unfolding next_request
next_fault bytes = at_fault bytes (blank_length bytes) (head_length (drop (blank_length bytes) bytes))

fault_code : (status : ℕ) → IsFault status → code (refused_with status) ≡ status
fault_code status (inl is) = ap (λ (n : ℕ). code (refused_with n)) is ∙ sym is
fault_code status (inr is) = ap (λ (n : ℕ). code (refused_with n)) is ∙ sym is

-- the answer to a refused head
abbrev pub refusing_with : ℕ → Queued
refusing_with status = record { asking = asks.Refused (refused_with status); without_body = false; closes = true }

refused_text_is : (history : List (List Triple)) (server : Serving) (bytes : List ℕ) (status : ℕ) → next_request bytes ≡ Refused status
    → queued_text server.config (refusing_with status) ≡ head_answer (answering history server.config) (Rejected status) (Served server.version)
unfolding answer_of
refused_text_is history server bytes status is =
    ap (λ (n : ℕ). answer_text (refusal n) false true) (fault_code status (subst FaultOf is (next_fault bytes)))

-- ---- one head

pub refused_reads : (server : Serving) (bytes : List ℕ) (status : ℕ) (before after : List Queued) (held : Held) → next_request bytes ≡ Refused status → after ≡ before ++ refusing_with status ∷ []
    → IsAnswered server bytes before after true held
refused_reads server bytes status before after held is waiting = record {
  head = Rejected status;
  queued = refusing_with status;
  waiting = waiting;
  asked = tt;
  plain = λ history. refl;
  text = λ history last. refused_text_is history server bytes status is;
  heads = heads_at bytes (Refused status) is;
  open_ = λ other. absurd (true≢false other);
  shorter = λ other. absurd (true≢false other);
}

pub taken_reads : (server : Serving) (bytes : List ℕ) (request : Request) (n : ℕ) (before after : List Queued) (queued : Queued) (held : Held)
    → next_request bytes ≡ Taken request n → held ≡ holding (drop n bytes) → is_reload server.config request ≡ false → after ≡ before ++ queued ∷ [] → IsAsked queued.asking
    → answer_of server.config queued.asking ≡ answer_for server (asked_of request.method) request.target → queued.without_body ≡ is_head (asked_of request.method) → queued.closes ≡ request.closes
    → IsAnswered server bytes before after request.closes held
taken_reads server bytes request n before after queued held is holds plain waiting asked answer body ends =
    let rest : held.bytes ≡ drop n bytes = ap (λ (h : Held). h.bytes) holds in
    let within = taken_within bytes request n is in
    record {
      head = Accepted request;
      queued = queued;
      waiting = waiting;
      asked = asked;
      plain = λ history. plain;
      text = λ history last. request_text_is history server request queued last plain answer body ends;
      heads = heads_at bytes (Taken request n) is ∙ ap (λ (l : List ℕ). if request.closes then last_head (Accepted request) else with_head (Accepted request) (heads_of l)) (sym rest);
      open_ = λ other. ap (λ (h : Held). h.refused) holds;
      shorter = λ other. omega (arith, within, ap (λ (l : List ℕ). length l) rest, length-drop n bytes);
    }
