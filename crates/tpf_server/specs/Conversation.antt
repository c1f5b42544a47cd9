-- What is known of one connection of a server.
use Rattle.std.specs.Prelude.{ℕ, ◌≡◌, ◌⊎◌, ◌≤◌, ◌||◌, Bool, true, false, List, [], ◌∷◌, ◌++◌, length}
use Rattle.std.specs.List.{AllByRecursion}
use Rattle.rdf_terms.specs.declared.term.Triple.{Triple}
use Rattle.tpf_base.specs.declared.limits.TheConstants.{ENOUGH_PENDING}
use Rattle.tpf_base.specs.HttpHeads.{Verdict}
use Rattle.tpf_base.specs.HttpConnection.{heads_of}
use Rattle.template_fill.specs.Metadata.{Config}
use Rattle.tpf_base.specs.Marks.{Mark, Served}
use Rattle.template_fill.specs.Responses.{AreMarks, answering, answers, reload_versions}
use Rattle.page_responses.specs.declared.rest.Rest.{Rest}
use Rattle.page_responses.specs.declared.rest.Rest.TheVariants.{Nothing}
use Rattle.page_responses.specs.Serving.{Serving, IsHistoryOf}
use Rattle.tpf_server.specs.declared.asked.Queued.{Queued}
use Rattle.tpf_server.specs.declared.outcome.Reloaded.{Reloaded}
use Rattle.tpf_server.specs.declared.reading.Reading.{Reading}
use Rattle.tpf_server.specs.declared.reading.Reading.TheVariants.{Reads}
use Rattle.tpf_server.specs.Owed.{debt_left, debt_text}
use Rattle.tpf_server.specs.Read.{Stands}
use Rattle.tpf_server.specs.Reading.{is_ended, waits, when_starved}
use Rattle.tpf_server.specs.Reloads.{outcome_mark, outcome_numbers}

-- the bytes of which no head is made yet, what becomes of the heads that come, what is owed, the bytes that are made and not taken, and whether memory was wanting
pub record Conversation : Type 0 where
  pub unread : List ℕ
  pub reading : Reading
  pub rest : Rest
  pub waiting : List Queued
  pub pending : List ℕ
  pub starved : Bool

-- before a byte came
abbrev pub opening : Conversation
opening = record { unread = []; reading = Reads; rest = Nothing; waiting = []; pending = []; starved = false }

-- an answer that closes was given
abbrev pub closing : Conversation → Bool
closing c = is_ended c.reading

-- the first head that is not read asks for a reload
abbrev pub wants_reload : Conversation → Bool
wants_reload c = waits c.reading

-- bytes of the response are still to be made
abbrev pub owes : Conversation → Bool
owes c = c.starved || debt_left c.rest c.waiting

-- the bytes of the response that are not made yet
abbrev pub owed_text : Config → Conversation → List ℕ
owed_text config c = debt_text config c.rest c.waiting

-- for want of memory all is dropped but what is pending
abbrev pub starved_at : Conversation → Conversation
starved_at c = record { unread = []; reading = when_starved c.reading; rest = Nothing; waiting = []; pending = c.pending; starved = true }

-- Of the bytes that were fed, the heads up to the first that closes, or before the first that waits for a reload, have these marks. What was taken, what is pending and what is owed are the answers to them.
pub record Answers (history : List (List Triple)) (config : Config) (fed taken : List ℕ) (marks : List Mark) (c : Conversation) : Type 0 where
  pub heads : List Verdict
  pub stands : Stands config (heads_of fed) heads c.reading c.unread
  pub marked : AreMarks (answering history config) heads marks
  pub text : taken ++ c.pending ++ owed_text config c ≡ answers (answering history config) heads marks

-- each mark is this version
abbrev pub AreServed : ℕ → List Mark → Type 0
AreServed version marks = AllByRecursion (λ (mark : Mark). mark ≡ Served version) marks

-- Behind these marks stand the first ones, and then those of the heads that were read over the version that is served. Of the reload requests among them these numbers were told.
pub record ReadsFurther (history : List (List Triple)) (server : Serving) (fed taken : List ℕ) (marks : List Mark) (piece : List ℕ) (first : List Mark) (numbers : List ℕ) (new : Conversation) : Type 0 where
  pub later : List Mark
  pub served : AreServed server.version later
  pub answers : Answers history server.config (fed ++ piece) taken (marks ++ (first ++ later)) new
  pub told : reload_versions (answering history server.config) (heads_of (fed ++ piece)).heads (marks ++ (first ++ later))
      ≡ reload_versions (answering history server.config) (heads_of fed).heads marks ++ numbers

-- more bytes were fed; over any history whose last version is the one that is served, the heads that were read are answered over that version
pub record Feeds (server : Serving) (piece : List ℕ) (old new : Conversation) : Type 0 where
  pub pending : new.pending ≡ old.pending
  pub starved : new.starved ≡ false
  pub reads : (history : List (List Triple)) (fed taken : List ℕ) (marks : List Mark) → IsHistoryOf history server
      → Answers history server.config fed taken marks old → ReadsFurther history server fed taken marks piece [] [] new

-- the reload request was answered by how it came out, and the heads behind it over the version that is served
pub record Reloads (server : Serving) (outcome : Reloaded) (old new : Conversation) : Type 0 where
  pub pending : new.pending ≡ old.pending
  pub starved : new.starved ≡ false
  pub left : owes new ≡ true
  pub reads : (history : List (List Triple)) (fed taken : List ℕ) (marks : List Mark) → IsHistoryOf history server
      → Answers history server.config fed taken marks old
      → ReadsFurther history server fed taken marks [] (outcome_mark server.version outcome ∷ []) (outcome_numbers outcome) new

-- further bytes were made, until at least ENOUGH_PENDING are pending or nothing is owed
pub record Makes (config : Config) (old new : Conversation) : Type 0 where
  pub part : List ℕ
  pub owed : owed_text config old ≡ part ++ owed_text config new
  pub pending : new.pending ≡ old.pending ++ part
  pub enough : (ENOUGH_PENDING ≤ length new.pending) ⊎ (owes new ≡ false)
  pub unread : new.unread ≡ old.unread
  pub reading : new.reading ≡ old.reading
  pub starved : new.starved ≡ false
