-- How the heads of requests are read: up to the first that closes, or that asks for a reload.
use Rattle.std.specs.Prelude.{ℕ, ◌≡◌, ◌<◌, ◌&&◌, Bool, true, false, List, [], ◌∷◌, ◌++◌, map, drop, length, None, if◌then◌else◌}
use Rattle.std.specs.List.{AllByRecursion}
use Rattle.http_wire.specs.Requests.{Held}
use Rattle.http_wire.specs.declared.message.RequestHead.{RequestHead}
use Rattle.template_fill.specs.ReadAddress.{path_of}
use Rattle.rdf_terms.specs.declared.term.Triple.{Triple}
use Rattle.tpf_base.specs.HttpHeads.{Request, Verdict, Incomplete, Taken, next_request}
use Rattle.tpf_base.specs.HttpConnection.{Heads, heads_of, last_head, with_head}
use Rattle.template_fill.specs.Metadata.{Config}
use Rattle.tpf_base.specs.Marks.{Mark, Served}
use Rattle.template_fill.specs.Answers.{is_path_of_reload, is_reload}
use Rattle.template_fill.specs.Responses.{answering, answers, asks_reload, head_answer}
use Rattle.page_responses.specs.Serving.{Serving, IsHistoryOf}
use Rattle.tpf_server.specs.declared.asked.Queued.{Queued}
use Rattle.tpf_server.specs.declared.reading.Reading.{Reading}
use Rattle.tpf_server.specs.declared.reading.Reading.TheVariants.{Reads, Waits, Ended}
use Rattle.tpf_server.specs.declared.reading.HeadRead.{HeadRead}
use Rattle.tpf_server.specs.declared.reading.HeadRead.TheVariants.{Nothing, Answered, Reload}
use Rattle.tpf_server.specs.Asked.{IsAsked, answer_for, answer_of, is_head, is_other}
use Rattle.tpf_server.specs.Owed.{queue_text, queued_text}

-- some heads, and then those that follow
abbrev pub heads_then : List Verdict → Heads → Heads
heads_then first more = record { heads = first ++ more.heads; unread = more.unread; closed = more.closed }

-- these heads, of which the last closes
abbrev pub closed_heads : List Verdict → Heads
closed_heads heads = record { heads = heads; unread = []; closed = true }

-- the head at the front of the bytes asks for a reload; the rest is held
pub record IsReload (config : Config) (bytes : List ℕ) (closes : Bool) (rest : List ℕ) : Type 0 where
  pub request : Request
  pub count : ℕ
  pub next : next_request bytes ≡ Taken request count
  pub asks : is_reload config request ≡ true
  pub last : request.closes ≡ closes
  pub behind : rest ≡ drop count bytes

-- of all heads these were read: those behind them are still to come, or the next asks for a reload, or the last of them closes
abbrev pub Stands : Config → Heads → List Verdict → Reading → List ℕ → Type 0
Stands config all heads Reads unread = (all ≡ heads_then heads (heads_of unread)) × (next_request unread ≡ Incomplete)
Stands config all heads (Waits closes) unread = (bytes : List ℕ) × ((all ≡ heads_then heads (heads_of bytes)) × IsReload config bytes closes unread)
Stands config all heads Ended unread = all ≡ closed_heads heads

-- none of the heads asks for a reload
abbrev pub ArePlain : Config → List Verdict → Type 0
ArePlain config heads = (history : List (List Triple)) → AllByRecursion (λ (head : Verdict). asks_reload (answering history config) head ≡ false) heads

-- each head answered over one version
abbrev pub served_marks : ℕ → List Verdict → List Mark
served_marks version heads = map (λ (head : Verdict). Served version) heads

-- a head asks for a reload, as the feed of requests tells it
abbrev pub asks_for : Serving → RequestHead → Bool
asks_for server head = is_other head.method && is_path_of_reload server.config.reload (path_of head.target)

-- the answer to the head at the front of the bytes was queued, which is the last one or not
pub record IsAnswered (server : Serving) (bytes : List ℕ) (before after : List Queued) (last : Bool) (held : Held) : Type 0 where
  pub head : Verdict
  pub queued : Queued
  pub waiting : after ≡ before ++ queued ∷ []
  pub asked : IsAsked queued.asking
  pub plain : (history : List (List Triple)) → asks_reload (answering history server.config) head ≡ false
  pub text : (history : List (List Triple)) → IsHistoryOf history server → queued_text server.config queued ≡ head_answer (answering history server.config) head (Served server.version)
  pub heads : heads_of bytes ≡ (if last then last_head head else with_head head (heads_of held.bytes))
  pub open_ : last ≡ false → held.refused ≡ None
  pub shorter : last ≡ false → length held.bytes < length bytes

-- the head at the front of the bytes, if there is one, was answered, unless it asks for a reload
abbrev pub ReadsHead : Serving → Held → List Queued → List Queued → HeadRead → Held → Type 0
ReadsHead server old before after Nothing held = (next_request old.bytes ≡ Incomplete) × ((held ≡ old) × (after ≡ before))
ReadsHead server old before after (Answered closes) held = IsAnswered server old.bytes before after closes held
ReadsHead server old before after (Reload closes) held = IsReload server.config old.bytes closes held.bytes × ((held.refused ≡ None) × (after ≡ before))

-- what is still held is not refused, unless the heads ended
abbrev pub IsOpen : Reading → Held → Type 0
IsOpen Reads held = held.refused ≡ None
IsOpen (Waits closes) held = held.refused ≡ None
IsOpen Ended held = Unit {0}

-- the answers to the heads at the front of the bytes were queued, up to the first that closes or asks for a reload
pub record ReadsHeads (server : Serving) (bytes : List ℕ) (before after : List Queued) (reading : Reading) (held : Held) : Type 0 where
  pub heads : List Verdict
  pub plain : ArePlain server.config heads
  pub text : (history : List (List Triple)) → IsHistoryOf history server
      → queue_text server.config after ≡ queue_text server.config before ++ answers (answering history server.config) heads (served_marks server.version heads)
  pub asked : AllByRecursion (λ (queued : Queued). IsAsked queued.asking) before → AllByRecursion (λ (queued : Queued). IsAsked queued.asking) after
  pub behind : (later : List Queued) × (after ≡ before ++ later)
  pub stands : Stands server.config (heads_of bytes) heads reading held.bytes
  pub open_ : IsOpen reading held

-- the answer to a head was queued, unless it asks for a reload
abbrev pub IsQueued : Serving → RequestHead → List Queued → List Queued → HeadRead → Type 0
IsQueued server head before after Nothing = ⊥
IsQueued server head before after (Answered closes) =
    (queued : Queued) × ((after ≡ before ++ queued ∷ []) × (IsAsked queued.asking × ((closes ≡ head.closes)
    × ((asks_for server head ≡ false) × ((answer_of server.config queued.asking ≡ answer_for server head.method head.target) × ((queued.without_body ≡ is_head head.method) × (queued.closes ≡ head.closes)))))))
IsQueued server head before after (Reload closes) = (after ≡ before) × ((closes ≡ head.closes) × (asks_for server head ≡ true))
