-- Serves proofs alone: the response where each reload request is answered as one that failed.
use Rattle.std.specs.Prelude.{ℕ, ◌≡◌, ◌-◌, Bool, true, false, List, [], ◌∷◌, ◌++◌, length, map, replicate, if◌then◌else◌}
use Rattle.std.specs.List.{AllByRecursion, AllZip}
use Rattle.std.proofs.Common.{refl, sym, ap, ap₂, subst, ◌∙◌, arith, append_assoc, length-append}
use Rattle.std.proofs.lemmas.Bool.{true≢false}
use Rattle.std.proofs.lemmas.List.{length-map, length-replicate, map-append}
use Rattle.rdf_terms.specs.declared.term.Triple.{Triple}
use Rattle.tpf_base.specs.HttpHeads.{Verdict, Accepted, Rejected}
use Rattle.tpf_base.specs.HttpConnection.{heads_of, Heads}
use Rattle.tpf_base.specs.Marks.{Mark, Served, Failed, Starved, version_at}
use Rattle.template_fill.specs.Metadata.{Config}
use Rattle.template_fill.specs.Bodies.{version_of}
use Rattle.template_fill.specs.Responses.{FitsHead, answering, answers, asks_reload, reload_version, reload_versions, response_by}
use Rattle.template_fill.proofs.Histories.{last_served}
use Rattle.http_wire.proofs.ConnectionLemmas.{more_heads}
use Rattle.http_ends.proofs.Growing.{answers_append, longer_heads}
use Rattle.connections.specs.Versions.{IsHistory, Serving}
use Rattle.loop_wire.specs.Response.{BeginsAt, IsOf, IsResponse, Lasts}
use Rattle.tpf_server.specs.Conversation.{owed_text}
use Rattle.tpf_server.proofs.HeadsLaws.{left_heads}
use Rattle.fragment_server.specs.Fragments.{fragments}
use Rattle.fragment_server.specs.Failing.{failing_mark, failing_marks, failing_response, history_to}
use Rattle.fragment_server.specs.Alike.{IsAlike, answers_alike, numbers_alike}
use Rattle.fragment_server.specs.Laws.{numbers_read}

-- ---- marks of one version that tell no number are these

no_item : (n : ℕ) (numbers : List ℕ) → n ∷ numbers ≡ [] → ⊥
no_item n numbers is = omega (arith, ap (λ (l : List ℕ). length l) is)

none_first : (a b : List ℕ) → a ++ b ≡ [] → a ≡ []
none_first [] b is = refl
none_first (x ∷ a) b is = absurd (no_item x (a ++ b) is)

none_second : (a b : List ℕ) → a ++ b ≡ [] → b ≡ []
none_second [] b is = is
none_second (x ∷ a) b is = absurd (no_item x (a ++ b) is)

mark_is : (version : ℕ) (asks : Bool) (mark : Mark) → (reload_version asks mark ≡ []) → IsOf version mark → ((v : ℕ) → mark ≡ Failed v → asks ≡ true) → mark ≡ (if asks then Failed version else Served version)
mark_is version true (Served v) none is fits = absurd (no_item v [] none)
mark_is version false (Served v) none is fits = ap Served is
mark_is version true (Failed v) none is fits = ap Failed is
mark_is version false (Failed v) none is fits = absurd (true≢false (sym (fits v refl)))
mark_is version asks (Starved v) none is fits = absurd is

fits_failed : (history : List (List Triple)) (config : Config) (head : Verdict) (mark : Mark) → FitsHead (answering history config) head mark → (v : ℕ) → mark ≡ Failed v → asks_reload (answering history config) head ≡ true
fits_failed history config head mark fits v is = subst (FitsHead (answering history config) head) is fits

failing_are : (history : List (List Triple)) (config : Config) (version : ℕ) (heads : List Verdict) (marks : List Mark) → AllZip (FitsHead (answering history config)) heads marks → AllByRecursion (IsOf version) marks
    → reload_versions (answering history config) heads marks ≡ [] → marks ≡ map (λ (head : Verdict). if asks_reload (answering history config) head then Failed version else Served version) heads
failing_are history config version [] [] fits of none = refl
failing_are history config version [] (m ∷ marks) fits of none = absurd fits
failing_are history config version (h ∷ heads) [] fits of none = absurd fits
failing_are history config version (h ∷ heads) (m ∷ marks) fits of none =
    let asks = asks_reload (answering history config) h in
    let told = reload_version asks m in
    let later = reload_versions (answering history config) heads marks in
    ap₂ (λ (x : Mark) (l : List Mark). x ∷ l)
    (mark_is version asks m (none_first told later none) of.0 (fits_failed history config h m fits.0))
    (failing_are history config version heads marks fits.1 of.1 (none_second told later none))

-- the same over any history
asks_any : (one other : List (List Triple)) (config : Config) (head : Verdict) → asks_reload (answering one config) head ≡ asks_reload (answering other config) head
asks_any one other config (Rejected status) = refl
asks_any one other config (Accepted request) = refl

failing_any : (history : List (List Triple)) (config : Config) (version : ℕ) (heads : List Verdict)
    → map (λ (head : Verdict). if asks_reload (answering history config) head then Failed version else Served version) heads ≡ failing_marks config version heads
failing_any history config version [] = refl
failing_any history config version (h ∷ heads) =
    ap₂ (λ (b : Bool) (l : List Mark). (if b then Failed version else Served version) ∷ l) (asks_any history [] config h) (failing_any history config version heads)

-- ---- the history does not matter

version_if : (version : ℕ) (b : Bool) → version_at (if b then Failed version else Served version) ≡ version
version_if version true = refl
version_if version false = refl

failing_alike : (one other : List (List Triple)) (config : Config) (version : ℕ) (heads : List Verdict) → version_of other version ≡ version_of one version → AllByRecursion (IsAlike one other) (failing_marks config version heads)
failing_alike one other config version [] same = tt
failing_alike one other config version (h ∷ heads) same =
    (subst (λ (v : ℕ). version_of other v ≡ version_of one v) (sym (version_if version (asks_reload (answering [] config) h))) same, failing_alike one other config version heads same)

history_last : (history : List (List Triple)) (serving : Serving (List Triple) Config) → IsHistory history serving → version_of history serving.version ≡ serving.data_set
history_last history serving last = last_served history serving.version serving.data_set (record { count = last.count; before = last.before; last = last.last })

served_last : (history : List (List Triple)) (serving : Serving (List Triple) Config) → IsHistory history serving → version_of (history_to serving) serving.version ≡ serving.data_set
served_last history serving last =
    last_served (history_to serving) serving.version serving.data_set (record {
      count = omega (arith, last.count, ap (λ (h : List (List Triple)). length h) last.last, length-append last.before (serving.data_set ∷ []), length-append (replicate (serving.version - 1) []) (serving.data_set ∷ []), length-replicate {A = List Triple} (serving.version - 1) []);
      before = replicate (serving.version - 1) [];
      last = refl;
    })

failing_answers : (history : List (List Triple)) (serving : Serving (List Triple) Config) (heads : List Verdict) (marks : List Mark) → IsHistory history serving
    → AllZip (FitsHead (answering history serving.config)) heads marks → AllByRecursion (IsOf serving.version) marks → reload_versions (answering history serving.config) heads marks ≡ []
    → answers (answering history serving.config) heads marks ≡ answers (answering (history_to serving) serving.config) heads (failing_marks serving.config serving.version heads)
failing_answers history serving heads marks last fits of none =
    let config = serving.config in
    ap (answers (answering history config) heads) (failing_are history config serving.version heads marks fits of none ∙ failing_any history config serving.version heads)
    ∙ answers_alike (history_to serving) history config heads (failing_marks config serving.version heads)
    (failing_alike (history_to serving) history config serving.version heads (history_last history serving last ∙ sym (served_last history serving last)))

-- ---- the laws

pub is_failing : IsResponse fragments failing_response
unfolding failing_response response_by
is_failing history serving fed marks last marked of none =
    failing_answers history serving (heads_of fed).heads marks last marked.fits of (numbers_alike [] history serving.config (heads_of fed).heads marks ∙ none)

-- the answers to more heads begin with those to fewer
failing_more : (serving : Serving (List Triple) Config) (all heads left : List Verdict) → all ≡ heads ++ left
    → answers (answering (history_to serving) serving.config) all (failing_marks serving.config serving.version all)
    ≡ answers (answering (history_to serving) serving.config) heads (failing_marks serving.config serving.version heads) ++ answers (answering (history_to serving) serving.config) left (failing_marks serving.config serving.version left)
failing_more serving all heads left is =
    let server = answering (history_to serving) serving.config in
    let mark = failing_mark serving.config serving.version in
    ap (λ (h : List Verdict). answers server h (map mark h)) is
    ∙ ap (answers server (heads ++ left)) (map-append mark heads left)
    ∙ answers_append server heads left (map mark heads) (map mark left) (length-map heads mark)

pub lasts : Lasts failing_response
unfolding failing_response response_by
lasts serving fed more =
    let h = heads_of fed in
    let behind = longer_heads h.closed h.heads h.unread more in (
      answers (answering (history_to serving) serving.config) behind.0 (failing_marks serving.config serving.version behind.0),
      failing_more serving (heads_of (fed ++ more)).heads h.heads behind.0 (ap (λ (x : Heads). x.heads) (more_heads fed more) ∙ behind.1),
    )

pub begins_there : BeginsAt fragments failing_response
unfolding failing_response response_by
begins_there history serving fed taken c last answering_ =
    let config = serving.config in
    let a = answering_.answers in
    let owed = owed_text config c.connection in
    let pending = c.connection.pending in
    let left = left_heads config (heads_of fed) a.heads c.connection.reading c.connection.unread a.stands in
    let more = answers (answering (history_to serving) config) left.0 (failing_marks config serving.version left.0) in (
      owed ++ more,
      failing_more serving (heads_of fed).heads a.heads left.0 left.1
          ∙ ap (λ (l : List ℕ). l ++ more)
          (sym (failing_answers history serving a.heads answering_.marks last a.marked.fits answering_.versions (numbers_read history config fed taken answering_.marks c.connection a ∙ answering_.numbers))
          ∙ sym a.text ∙ append_assoc taken pending owed)
          ∙ append_assoc taken (pending ++ owed) more
          ∙ ap (λ (l : List ℕ). taken ++ l) (append_assoc pending owed more),
    )
