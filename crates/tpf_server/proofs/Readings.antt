-- Heads that are read one after another, and what the feed of requests tells of each.
use Rattle.std.proofs.Common.{◌≡◌, ℕ, Bool, true, false, List, [], ◌∷◌, ◌++◌, None, Result, Ok, Err, refl, ap, ap₂, sym, subst, ◌∙◌, append_assoc, append-nil, drop, if◌then◌else◌}
use Rattle.std.specs.Prelude.{IfOk}
use Rattle.std.specs.List.{AllByRecursion}
use Rattle.std.proofs.lemmas.Bool.{true≢false}
use Rattle.rdf_terms.specs.declared.term.Triple.{Triple}
use Rattle.tpf_base.specs.HttpHeads.{Request, Verdict, NextRequest, Incomplete, Taken, Refused, next_request}
use Rattle.http_wire.specs.declared.message.RequestHead.{RequestHead}
use Rattle.http_wire.specs.declared.message.NextHead.{NextHead}
use Rattle.http_wire.specs.declared.message.NextHead.TheVariants as nexts
use Rattle.http_wire.specs.Requests.{Held, after_answer, after_if, after_next, head_of, holding, next_for, next_of, shown}
use Rattle.tpf_base.specs.HttpConnection.{Heads, heads_of, last_head, with_head}
use Rattle.template_fill.specs.Metadata.{Config}
use Rattle.tpf_base.specs.Marks.{Served}
use Rattle.template_fill.specs.Responses.{Answering, answering, answers, asks_reload, head_answer}
use Rattle.list_laws.proofs.Each.{all_append}
use Rattle.page_responses.specs.Serving.{Serving, IsHistoryOf}
use Rattle.tpf_server.specs.declared.asked.Queued.{Queued}
use Rattle.tpf_server.specs.declared.outcome.Reloaded.{Reloaded}
use Rattle.tpf_server.specs.declared.reading.Reading.{Reading}
use Rattle.tpf_server.specs.declared.reading.HeadRead.{HeadRead}
use Rattle.tpf_server.specs.declared.reading.HeadRead.TheVariants as reads
use Rattle.tpf_server.specs.declared.reading.Reading.TheVariants.{Reads, Waits, Ended}
use Rattle.tpf_server.specs.Asked.{IsAsked}
use Rattle.tpf_server.specs.Owed.{queue_text, queued_text}
use Rattle.tpf_server.specs.Read.{ArePlain, IsAnswered, IsQueued, IsReload, ReadsHead, ReadsHeads, heads_then, served_marks}
use Rattle.tpf_server.specs.Reloads.{ReadsOn, outcome_queued}
use Rattle.tpf_server.proofs.HeadAnswers.{refused_reads, refusing_with, reload_is, taken_reads}

-- ---- what the feed tells

abbrev head_in : RequestHead → NextHead → RequestHead
head_in d (nexts.Head h) = h
head_in d nexts.More = d
head_in d (nexts.Bad status) = d

abbrev status_in : ℕ → NextHead → ℕ
status_in d (nexts.Bad status) = status
status_in d nexts.More = d
status_in d (nexts.Head h) = d

abbrev IsHead : NextHead → Type 0
IsHead nexts.More = ⊥
IsHead (nexts.Head h) = Unit {0}
IsHead (nexts.Bad status) = ⊥

abbrev IsBad : NextHead → Type 0
IsBad nexts.More = ⊥
IsBad (nexts.Head h) = ⊥
IsBad (nexts.Bad status) = Unit {0}

open_next : (held : Held) → held.refused ≡ None → next_of held ≡ next_request held.bytes
open_next held open_ = ap (next_for held.bytes) open_

open_after : (held : Held) → held.refused ≡ None → after_next held ≡ after_answer held (next_request held.bytes)
open_after held open_ = ap (after_if held) open_

bad_next : (server : Serving) (held new : Held) (before later : List Queued) (status : ℕ) (next : NextRequest) → next_request held.bytes ≡ next → nexts.Bad status ≡ shown next → later ≡ before ++ refusing_with status ∷ []
    → IsAnswered server held.bytes before later true new
bad_next server held new before later status Incomplete next is waiting = absurd (subst IsBad is tt)
bad_next server held new before later status (Taken r n) next is waiting = absurd (subst IsBad is tt)
bad_next server held new before later status (Refused s) next is waiting =
    refused_reads server held.bytes status before later new (next ∙ ap Refused (sym (ap (status_in status) is))) waiting

pub refused_next : (server : Serving) (held new : Held) (before later : List Queued) (status : ℕ) → held.refused ≡ None → nexts.Bad status ≡ shown (next_of held) → later ≡ before ++ refusing_with status ∷ []
    → IsAnswered server held.bytes before later true new
refused_next server held new before later status open_ is waiting = bad_next server held new before later status (next_request held.bytes) refl (is ∙ ap shown (open_next held open_)) waiting

taken_queued : (server : Serving) (held new : Held) (before later : List Queued) (read : HeadRead) (r : Request) (n : ℕ) → next_request held.bytes ≡ Taken r n → new ≡ holding (drop n held.bytes)
    → IsQueued server (head_of r) before later read → ReadsHead server held before later read new
taken_queued server held new before later reads.Nothing r n next holds queued = absurd queued
taken_queued server held new before later (reads.Answered ends) r n next holds q =
    subst (λ (l : Bool). IsAnswered server held.bytes before later l new) (sym q.1.1.1.0)
    (taken_reads server held.bytes r n before later q.0 new next holds (sym (reload_is server r) ∙ q.1.1.1.1.0) q.1.0 q.1.1.0 q.1.1.1.1.1.0 q.1.1.1.1.1.1.0 q.1.1.1.1.1.1.1)
taken_queued server held new before later (reads.Reload ends) r n next holds q = (
  record {
    request = r;
    count = n;
    next = next;
    asks = sym (reload_is server r) ∙ q.1.1;
    last = sym q.1.0;
    behind = ap (λ (h : Held). h.bytes) holds;
  },
  (ap (λ (h : Held). h.refused) holds, q.0),
)

good_next : (server : Serving) (held new : Held) (before later : List Queued) (head : RequestHead) (read : HeadRead) (next : NextRequest) → next_request held.bytes ≡ next → nexts.Head head ≡ shown next
    → new ≡ after_answer held next → IsQueued server head before later read → ReadsHead server held before later read new
good_next server held new before later head read Incomplete next is after queued = absurd (subst IsHead is tt)
good_next server held new before later head read (Refused s) next is after queued = absurd (subst IsHead is tt)
good_next server held new before later head read (Taken r n) next is after queued =
    taken_queued server held new before later read r n next after (subst (λ (h : RequestHead). IsQueued server h before later read) (ap (head_in head) is) queued)

pub taken_next : (server : Serving) (held new : Held) (before later : List Queued) (head : RequestHead) (read : HeadRead) → held.refused ≡ None → nexts.Head head ≡ shown (next_of held)
    → new ≡ after_next held → IsQueued server head before later read → ReadsHead server held before later read new
taken_next server held new before later head read open_ is after queued =
    good_next server held new before later head read (next_request held.bytes) refl (is ∙ ap shown (open_next held open_)) (after ∙ open_after held open_) queued

-- ---- head after head

abbrev AllAsked : List Queued → Type 0
AllAsked waiting = AllByRecursion (λ (queued : Queued). IsAsked queued.asking) waiting

pub queue_more : (config : Config) (before : List Queued) (queued : Queued) → queue_text config (before ++ queued ∷ []) ≡ queue_text config before ++ queued_text config queued
queue_more config [] queued = append-nil (queued_text config queued)
queue_more config (q ∷ before) queued =
    ap (λ (l : List ℕ). queued_text config q ++ l) (queue_more config before queued)
    ∙ sym (append_assoc (queued_text config q) (queue_text config before) (queued_text config queued))

-- one more head over the same version
answers_more : (server : Answering) (version : ℕ) (heads : List Verdict) (head : Verdict)
    → answers server (heads ++ head ∷ []) (served_marks version (heads ++ head ∷ [])) ≡ answers server heads (served_marks version heads) ++ head_answer server head (Served version)
answers_more server version [] head = append-nil (head_answer server head (Served version))
answers_more server version (h ∷ heads) head =
    ap (λ (l : List ℕ). head_answer server h (Served version) ++ l) (answers_more server version heads head)
    ∙ sym (append_assoc (head_answer server h (Served version)) (answers server heads (served_marks version heads)) (head_answer server head (Served version)))

pub then_head : (heads : List Verdict) (head : Verdict) (more : Heads) → heads_then heads (with_head head more) ≡ heads_then (heads ++ head ∷ []) more
then_head heads head more = ap (λ (l : List Verdict). record { heads = l; unread = more.unread; closed = more.closed }) (sym (append_assoc heads (head ∷ []) more.heads))

-- some heads at the front of the bytes were read
pub record Progress (server : Serving) (bytes : List ℕ) (before waiting : List Queued) (held : Held) : Type 0 where
  pub heads : List Verdict
  pub plain : ArePlain server.config heads
  pub text : (history : List (List Triple)) → IsHistoryOf history server
      → queue_text server.config waiting ≡ queue_text server.config before ++ answers (answering history server.config) heads (served_marks server.version heads)
  pub asked : AllAsked before → AllAsked waiting
  pub behind : (later : List Queued) × (waiting ≡ before ++ later)
  pub on : heads_of bytes ≡ heads_then heads (heads_of held.bytes)
  pub open_ : held.refused ≡ None

pub begins : (server : Serving) (before : List Queued) (held : Held) → held.refused ≡ None → Progress server held.bytes before before held
begins server before held open_ = record {
  heads = [];
  plain = λ history. tt;
  text = λ history last. sym (append-nil (queue_text server.config before));
  asked = λ h. h;
  behind = ([], sym (append-nil before));
  on = refl;
  open_ = open_;
}

module _ (server : Serving) (bytes : List ℕ) (before waiting later : List Queued) (held new : Held) where
  read_text : (last : Bool) (p : Progress server bytes before waiting held) (r : IsAnswered server held.bytes waiting later last new) (history : List (List Triple)) → IsHistoryOf history server
      → queue_text server.config later ≡ queue_text server.config before ++ answers (answering history server.config) (p.heads ++ r.head ∷ []) (served_marks server.version (p.heads ++ r.head ∷ []))
  read_text last p r history is =
      ap (λ (q : List Queued). queue_text server.config q) r.waiting
      ∙ queue_more server.config waiting r.queued
      ∙ ap₂ (λ (a b : List ℕ). a ++ b) (p.text history is) (r.text history is)
      ∙ append_assoc (queue_text server.config before) (answers (answering history server.config) p.heads (served_marks server.version p.heads)) (head_answer (answering history server.config) r.head (Served server.version))
      ∙ ap (λ (l : List ℕ). queue_text server.config before ++ l) (sym (answers_more (answering history server.config) server.version p.heads r.head))

  read_plain : (last : Bool) (p : Progress server bytes before waiting held) (r : IsAnswered server held.bytes waiting later last new) → ArePlain server.config (p.heads ++ r.head ∷ [])
  read_plain last p r history = all_append (λ (head : Verdict). asks_reload (answering history server.config) head ≡ false) p.heads (r.head ∷ []) (p.plain history) (r.plain history, tt)

  read_asked : (last : Bool) → Progress server bytes before waiting held → IsAnswered server held.bytes waiting later last new → AllAsked before → AllAsked later
  read_asked last p r all = subst AllAsked (sym r.waiting) (all_append (λ (queued : Queued). IsAsked queued.asking) waiting (r.queued ∷ []) (p.asked all) (r.asked, tt))

  read_behind : (last : Bool) → Progress server bytes before waiting held → IsAnswered server held.bytes waiting later last new → (more : List Queued) × (later ≡ before ++ more)
  read_behind last p r = (p.behind.0 ++ r.queued ∷ [], r.waiting ∙ ap (λ (l : List Queued). l ++ r.queued ∷ []) p.behind.1 ∙ append_assoc before p.behind.0 (r.queued ∷ []))

  pub goes_on : (last : Bool) → last ≡ false → Progress server bytes before waiting held → IsAnswered server held.bytes waiting later last new → Progress server bytes before later new
  goes_on last goes p r = record {
    heads = p.heads ++ r.head ∷ [];
    plain = read_plain last p r;
    text = read_text last p r;
    asked = read_asked last p r;
    behind = read_behind last p r;
    on = p.on ∙ ap (heads_then p.heads) (r.heads ∙ ap (λ (l : Bool). if l then last_head r.head else with_head r.head (heads_of new.bytes)) goes) ∙ then_head p.heads r.head (heads_of new.bytes);
    open_ = r.open_ goes;
  }

  pub ends : (last : Bool) → last ≡ true → Progress server bytes before waiting held → IsAnswered server held.bytes waiting later last new → ReadsHeads server bytes before later Ended new
  ends last ended p r = record {
    heads = p.heads ++ r.head ∷ [];
    plain = read_plain last p r;
    text = read_text last p r;
    asked = read_asked last p r;
    behind = read_behind last p r;
    stands = p.on ∙ ap (heads_then p.heads) (r.heads ∙ ap (λ (l : Bool). if l then last_head r.head else with_head r.head (heads_of new.bytes)) ended);
    open_ = tt;
  }

stops_at : (server : Serving) (bytes : List ℕ) (before waiting : List Queued) (held : Held) → Progress server bytes before waiting held → next_request held.bytes ≡ Incomplete → ReadsHeads server bytes before waiting Reads held
stops_at server bytes before waiting held p none = record { heads = p.heads; plain = p.plain; text = p.text; asked = p.asked; behind = p.behind; stands = (p.on, none); open_ = p.open_ }

pub stops : (server : Serving) (bytes : List ℕ) (before waiting later : List Queued) (held new : Held) → Progress server bytes before waiting held → next_request held.bytes ≡ Incomplete → new ≡ held → later ≡ waiting
    → ReadsHeads server bytes before later Reads new
stops server bytes before waiting later held new p none same queue =
    subst (λ (h : Held). ReadsHeads server bytes before later Reads h) (sym same)
    (subst (λ (q : List Queued). ReadsHeads server bytes before q Reads held) (sym queue) (stops_at server bytes before waiting held p none))

waits_at : (server : Serving) (bytes : List ℕ) (before waiting : List Queued) (held new : Held) (last : Bool) → Progress server bytes before waiting held → IsReload server.config held.bytes last new.bytes → new.refused ≡ None
    → ReadsHeads server bytes before waiting (Waits last) new
waits_at server bytes before waiting held new last p reload open_ = record { heads = p.heads; plain = p.plain; text = p.text; asked = p.asked; behind = p.behind; stands = (held.bytes, (p.on, reload)); open_ = open_ }

pub waits : (server : Serving) (bytes : List ℕ) (before waiting later : List Queued) (held new : Held) (last : Bool) → Progress server bytes before waiting held → IsReload server.config held.bytes last new.bytes → new.refused ≡ None → later ≡ waiting
    → ReadsHeads server bytes before later (Waits last) new
waits server bytes before waiting later held new last p reload open_ queue =
    subst (λ (q : List Queued). ReadsHeads server bytes before q (Waits last) new) (sym queue) (waits_at server bytes before waiting held new last p reload open_)

-- what a call read
pub at_read : (server : Serving) (held new : Held) (before later : List Queued) (read is : HeadRead) → read ≡ is → ReadsHead server held before later read new → ReadsHead server held before later is new
at_read server held new before later read is same h = subst (λ (r : HeadRead). ReadsHead server held before later r new) same h

pub if_ok : {T E : Type 0} {P Q : T → Type 0} (r : Result T E) → ((x : T) → P x → Q x) → IfOk r P → IfOk r Q
if_ok (Ok x) f p = f x p
if_ok (Err e) f p = tt

-- ---- behind a reload request

pub reads_last : (server : Serving) (outcome : Reloaded) (last : Bool) (bytes : List ℕ) (before after : List Queued) (queued : Queued) (held : Held) → last ≡ true → queued ≡ outcome_queued outcome last → after ≡ before ++ queued ∷ []
    → ReadsOn server outcome last bytes before after Ended held
reads_last server outcome true bytes before after queued held is same waiting = (refl, waiting ∙ ap (λ (q : Queued). before ++ q ∷ []) same)
reads_last server outcome false bytes before after queued held is same waiting = absurd (true≢false (sym is))

pub reads_behind : (server : Serving) (outcome : Reloaded) (last : Bool) (bytes : List ℕ) (before middle after : List Queued) (queued : Queued) (reading : Reading) (held : Held) → last ≡ false → queued ≡ outcome_queued outcome last → middle ≡ before ++ queued ∷ []
    → ReadsHeads server bytes middle after reading held → ReadsOn server outcome last bytes before after reading held
reads_behind server outcome true bytes before middle after queued reading held is same waiting heads = absurd (true≢false is)
reads_behind server outcome false bytes before middle after queued reading held is same waiting heads =
    subst (λ (q : List Queued). ReadsHeads server bytes q after reading held) (waiting ∙ ap (λ (q : Queued). before ++ q ∷ []) same) heads
