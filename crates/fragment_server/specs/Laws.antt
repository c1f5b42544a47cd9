-- Serves proofs alone: what a connection of a server of fragments does, in the words of any kind of connection.
use Rattle.std.specs.Prelude.{ℕ, ◌≡◌, ◌≤◌, ◌<◌, Bool, true, false, List, [], ◌∷◌, ◌++◌, length, take, drop, if◌then◌else◌}
use Rattle.std.specs.List.{AllByRecursion}
use Rattle.std.proofs.Common.{refl, sym, ap, ap₂, subst, ◌∙◌, arith, append_assoc, append-nil, length-append}
use Rattle.std.proofs.lemmas.Bool.{true≢false}
use Rattle.std.proofs.lemmas.List.{take-append-drop}
use Rattle.rdf_terms.specs.declared.term.Triple.{Triple}
use Rattle.tpf_base.specs.HttpHeads.{Verdict, Incomplete}
use Rattle.tpf_base.specs.HttpConnection.{Heads, closes, heads_of}
use Rattle.tpf_base.specs.Marks.{Mark, Served, Failed, Starved, version_at}
use Rattle.template_fill.specs.Metadata.{Config}
use Rattle.template_fill.specs.Responses.{AreMarks, IsVersion, answering, answers, asks_reload, padding, reload_versions, response_by}
use Rattle.template_fill.proofs.Histories.{versions_stay}
use Rattle.http_wire.proofs.ConnectionLemmas.{heads_at, more_heads}
use Rattle.http_ends.proofs.Marks.{padded}
use Rattle.http_ends.proofs.Growing.{longer_heads}
use Rattle.connections.specs.Versions.{IsHistory}
use Rattle.connections.specs.Kinds.{BeginsResponse, Feeds, Fills, Grows, IsNoFailure, IsWhole, Opens, Reads, Reloads}
use Rattle.connections.specs.declared.reloaded.Reloaded.{Reloaded}
use Rattle.connections.specs.declared.reloaded.Reloaded.TheVariants as outcomes
use Rattle.page_responses.specs.Serving as core
use Rattle.page_responses.specs.Serving.{IsHistoryOf}
use Rattle.tpf_server.specs.Read.{Stands, heads_then}
use Rattle.tpf_server.specs.Reading.{is_ended, waits}
use Rattle.tpf_server.specs.Conversation as conversations
use Rattle.tpf_server.specs.Conversation.{Answers, Conversation, Makes, ReadsFurther, opening, owed_text, owes, wants_reload}
use Rattle.tpf_server.specs.declared.reading.Reading.{Reading}
use Rattle.tpf_server.specs.declared.reading.Reading.TheVariants.{Reads as Going, Waits, Ended}
use Rattle.tpf_server.proofs.HeadsLaws.{left_heads}
use Rattle.tpf_server.proofs.MarkLaws.{numbers_front}
use Rattle.tpf_server.proofs.ConversationLaws.{none_owed}
use Rattle.fragment_server.specs.declared.connection.FragmentConnection.{FragmentConnection}
use Rattle.fragment_server.specs.Fragments.{fragments, numbers_told, outcome_of, serving_of}
use Rattle.fragment_server.specs.Alike.{IsAlike, answers_alike, fits_alike, numbers_alike}

-- ---- heads

-- the heads that were read, and those behind them
pub heads_behind : (config : Config) (fed more : List ℕ) (heads : List Verdict) (reading : Reading) (unread : List ℕ) → Stands config (heads_of fed) heads reading unread → (left : List Verdict) × ((heads_of (fed ++ more)).heads ≡ heads ++ left)
heads_behind config fed more heads reading unread stands =
    let first = left_heads config (heads_of fed) heads reading unread stands in
    let h = heads_of fed in
    let behind = longer_heads h.closed h.heads h.unread more in
    (first.0 ++ behind.0, ap (λ (x : Heads). x.heads) (more_heads fed more) ∙ behind.1 ∙ ap (λ (l : List Verdict). l ++ behind.0) first.1 ∙ append_assoc heads first.0 behind.0)

-- where no reload waits, all heads were read
all_read : (config : Config) (all : Heads) (heads : List Verdict) (reading : Reading) (unread : List ℕ) → Stands config all heads reading unread → waits reading ≡ false → (all.heads ≡ heads) × (is_ended reading ≡ all.closed)
all_read config all heads Going unread s none =
    let is : all ≡ record { heads = heads ++ []; unread = unread; closed = false } = s.0 ∙ ap (heads_then heads) (heads_at unread Incomplete s.1) in
    (ap (λ (h : Heads). h.heads) is ∙ append-nil heads, sym (ap (λ (h : Heads). h.closed) is))
all_read config all heads (Waits last) unread s none = absurd (true≢false none)
all_read config all heads Ended unread s none = (ap (λ (h : Heads). h.heads) s, sym (ap (λ (h : Heads). h.closed) s))

-- ---- a longer history

stays_alike : (history more : List (List Triple)) (marks : List Mark) → AllByRecursion (IsVersion (length history)) marks → AllByRecursion (IsAlike history (history ++ more)) marks
stays_alike history more [] all = tt
stays_alike history more (m ∷ marks) all =
    (versions_stay history more (version_at m) all.0.high (omega (arith, all.0.low, all.0.high)), stays_alike history more marks all.1)

more_versions : (history more : List (List Triple)) (marks : List Mark) → AllByRecursion (IsVersion (length history)) marks → AllByRecursion (IsVersion (length (history ++ more))) marks
more_versions history more [] all = tt
more_versions history more (m ∷ marks) all =
    (record { low = all.0.low; high = omega (arith, all.0.high, length-append history more) }, more_versions history more marks all.1)

pub all_grow : Grows fragments
all_grow history more config fed taken marks c a = record {
  heads = a.heads;
  stands = a.stands;
  marked = record {
    fits = fits_alike history (history ++ more) config a.heads marks a.marked.fits;
    versions = more_versions history more marks a.marked.versions;
    rising = a.marked.rising;
  };
  text = a.text ∙ sym (answers_alike history (history ++ more) config a.heads marks (stays_alike history more marks a.marked.versions));
}

-- ---- a front of the response

padded_mark : (b : Bool) (version : ℕ) → IsNoFailure (if b then Starved version else Served version)
padded_mark true version = tt
padded_mark false version = tt

no_failures : (history : List (List Triple)) (config : Config) (version : ℕ) (heads : List Verdict) → AllByRecursion IsNoFailure (padding (answering history config) version heads)
no_failures history config version [] = tt
no_failures history config version (h ∷ heads) = (padded_mark (asks_reload (answering history config) h) version, no_failures history config version heads)

padded_level : (b : Bool) (version : ℕ) → version ≤ version_at (if b then Starved version else Served version)
padded_level true version = omega arith
padded_level false version = omega arith

padded_latest : (history : List (List Triple)) (config : Config) (version : ℕ) (heads : List Verdict) → AllByRecursion (λ (mark : Mark). version ≤ version_at mark) (padding (answering history config) version heads)
padded_latest history config version [] = tt
padded_latest history config version (h ∷ heads) = (padded_level (asks_reload (answering history config) h) version, padded_latest history config version heads)

below : (most : ℕ) (marks : List Mark) → AllByRecursion (IsVersion most) marks → AllByRecursion (λ (mark : Mark). version_at mark ≤ most) marks
below most [] all = tt
below most (m ∷ marks) all = (all.0.high, below most marks all.1)

front_taken : (taken pending owed : List ℕ) (n : ℕ) → taken ++ pending ++ owed ≡ (taken ++ take n pending) ++ (drop n pending ++ owed)
front_taken taken pending owed n =
    ap (λ (l : List ℕ). taken ++ l ++ owed) (sym (take-append-drop n pending))
    ∙ ap (λ (l : List ℕ). l ++ owed) (sym (append_assoc taken (take n pending) (drop n pending)))
    ∙ append_assoc (taken ++ take n pending) (drop n pending) owed

-- the numbers told to the heads that were read are those told to all that were fed
pub numbers_read : (history : List (List Triple)) (config : Config) (fed taken : List ℕ) (marks : List Mark) (c : Conversation) (a : Answers history config fed taken marks c)
    → reload_versions (answering history config) a.heads marks ≡ numbers_told config fed marks
numbers_read history config fed taken marks c a =
    let left = left_heads config (heads_of fed) a.heads c.reading c.unread a.stands in
    sym (ap (λ (h : List Verdict). reload_versions (answering history config) h marks) left.1 ∙ numbers_front (answering history config) a.heads left.0 marks a.marked.fits)
    ∙ sym (numbers_alike history [] config (heads_of fed).heads marks)

pub all_begins : BeginsResponse fragments
all_begins history config fed taken marks c some a more n within =
    let server = answering history config in
    let left = heads_behind config fed more a.heads c.connection.reading c.connection.unread a.stands in
    let pad = padding server (length history) left.0 in
    let all = padded server (fed ++ more) a.heads left.0 marks (length history) left.1 a.marked some (omega arith) (below (length history) marks a.marked.versions) in
    let owed = owed_text config c.connection in
    let pending = c.connection.pending in
    record {
      all = marks ++ pad;
      padding = pad;
      rest = (drop n pending ++ owed) ++ answers server left.0 pad;
      split = refl;
      no_failure = no_failures history config (length history) left.0;
      latest = padded_latest history config (length history) left.0;
      marked = all.marked;
      text =
          all.text
          ∙ ap (λ (l : List ℕ). l ++ answers server left.0 pad) (sym a.text ∙ front_taken taken pending owed n)
          ∙ append_assoc (taken ++ take n pending) (drop n pending ++ owed) (answers server left.0 pad);
      numbers = numbers_alike history [] config (heads_of (fed ++ more)).heads (marks ++ pad) ∙ all.reloads ∙ numbers_read history config fed taken marks c.connection a;
    }

-- ---- the whole response

pub all_whole : IsWhole fragments
unfolding response_by closes
all_whole history config fed taken marks c a none owing waiting =
    let server = answering history config in
    let read = all_read config (heads_of fed) a.heads c.connection.reading c.connection.unread a.stands waiting in
    let taken_all : taken ++ c.connection.pending ++ owed_text config c.connection ≡ taken =
    ap₂ (λ (p o : List ℕ). taken ++ p ++ o) none (none_owed c.connection config owing) ∙ append-nil (taken ++ []) ∙ append-nil taken in
    record {
      marked = subst (λ (l : List Verdict). AreMarks server l marks) (sym read.0) a.marked;
      text = sym taken_all ∙ a.text ∙ ap (λ (l : List Verdict). answers server l marks) (sym read.0);
      closing = read.1;
    }

-- a connection that ended waits for nothing
ended_waits : (reading : Reading) → is_ended reading ≡ true → waits reading ≡ false
ended_waits Going ended = refl
ended_waits (Waits last) ended = absurd (true≢false (sym ended))
ended_waits Ended ended = refl

pub closing_waits : (c : FragmentConnection) → conversations.closing c.connection ≡ true → wants_reload c.connection ≡ false
closing_waits c ended = ended_waits c.connection.reading ended

-- ---- the calls

-- heads without marks were told no number
none_told : (config : Config) (heads : List Verdict) → reload_versions (answering [] config) heads [] ≡ []
none_told config [] = refl
none_told config (h ∷ heads) = refl

pub opens_as : (c : FragmentConnection) → c.connection ≡ opening → ((history : List (List Triple)) (config : Config) → Answers history config [] [] [] c.connection) → Opens fragments c
opens_as c is answers = record {
  pending = ap (λ (x : Conversation). x.pending) is;
  wants = ap wants_reload is;
  owes = ap owes is;
  answers = answers;
  numbers = λ config. none_told config (heads_of []).heads;
}

history_as : (history : List (List Triple)) (server : core.Serving) → IsHistory history (serving_of server) → IsHistoryOf history server
history_as history server last = record { count = last.count; before = last.before; last = last.last }

reads_as : (history : List (List Triple)) (server : core.Serving) (fed taken : List ℕ) (marks : List Mark) (piece : List ℕ) (first : List Mark) (numbers : List ℕ) (new : FragmentConnection)
    → ReadsFurther history server fed taken marks piece first numbers new.connection → Reads fragments history (serving_of server) fed taken marks piece first numbers new
reads_as history server fed taken marks piece first numbers new r = record {
  later = r.later;
  served = r.served;
  answers = r.answers;
  numbers =
      numbers_alike history [] server.config (heads_of (fed ++ piece)).heads (marks ++ (first ++ r.later))
      ∙ r.told
      ∙ ap (λ (l : List ℕ). l ++ numbers) (sym (numbers_alike history [] server.config (heads_of fed).heads marks));
}

pub feeds_as : (server : core.Serving) (piece : List ℕ) (old new : FragmentConnection) → conversations.Feeds server piece old.connection new.connection → Feeds fragments (serving_of server) piece old new
feeds_as server piece old new f = record {
  pending = f.pending;
  reads = λ history fed taken marks last a. reads_as history server fed taken marks piece [] [] new (f.reads history fed taken marks (history_as history server last) a);
}

no_front : (xs ys : List ℕ) → xs ++ ys ≡ [] → xs ≡ []
no_front [] ys none = refl
no_front (x ∷ xs) ys none = absurd (cc)

pub fills_as : (server : core.Serving) (old new : FragmentConnection) → Makes server.config old.connection new.connection
    → ((history : List (List Triple)) (fed taken : List ℕ) (marks : List Mark) → Answers history server.config fed taken marks old.connection → Answers history server.config fed taken marks new.connection)
    → (owes old.connection ≡ true → 0 < length new.connection.pending) → Fills fragments (serving_of server) old new
fills_as server old new makes answers some = record {
  answers = answers;
  more = makes.part;
  pending = makes.pending;
  idle = λ none. no_front makes.part (owed_text server.config new.connection) (sym makes.owed ∙ none_owed old.connection server.config none);
  enough = makes.enough;
  some = some;
  wants = ap waits makes.reading;
  closing = ap is_ended makes.reading;
}

pub reloads_as : (server : core.Serving) (outcome : Reloaded) (old new : FragmentConnection) → conversations.Reloads server (outcome_of outcome) old.connection new.connection → Reloads fragments (serving_of server) outcome old new
reloads_as server (outcomes.Version number) old new r = record {
  pending = r.pending;
  owes = r.left;
  reads = λ history fed taken marks last a. reads_as history server fed taken marks [] (Served server.version ∷ []) (number ∷ []) new (r.reads history fed taken marks (history_as history server last) a);
}
reloads_as server outcomes.Failed old new r = record {
  pending = r.pending;
  owes = r.left;
  reads = λ history fed taken marks last a. reads_as history server fed taken marks [] (Failed server.version ∷ []) [] new (r.reads history fed taken marks (history_as history server last) a);
}
reloads_as server outcomes.OutOfMemory old new r = record {
  pending = r.pending;
  owes = r.left;
  reads = λ history fed taken marks last a. reads_as history server fed taken marks [] (Starved server.version ∷ []) [] new (r.reads history fed taken marks (history_as history server last) a);
}
