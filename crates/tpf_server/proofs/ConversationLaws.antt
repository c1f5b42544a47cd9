-- What each call does to a conversation.
use Rattle.std.proofs.Common.{◌≡◌, ℕ, zero, suc, ◌+◌, ◌-◌, ◌<◌, ◌≤◌, ◌⊎◌, Bool, true, false, List, [], ◌∷◌, ◌++◌, length, take, drop, Option, None, refl, ap, ap₂, sym, subst, ◌∙◌, inl, inr, arith, append_assoc, append-nil, length-append, length-drop, if◌then◌else◌}
use Rattle.std.specs.Prelude.{nat_lt, ◌||◌, ◌&&◌, not, bytes_eq, codes}
use Rattle.std.proofs.lemmas.List.{drop-drop, take-append-drop}
use Rattle.std.proofs.lemmas.Bool.{or_cases, or_parts, true≢false}
use Rattle.std.proofs.lemmas.Slice.Zip.{AllZip-long}
use Rattle.rdf_terms.specs.declared.term.Triple.{Triple}
use Rattle.tpf_base.specs.declared.limits.TheConstants.{ENOUGH_PENDING}
use Rattle.tpf_base.specs.HttpHeads.{Request, Verdict, Accepted}
use Rattle.tpf_base.specs.HttpConnection.{heads_of}
use Rattle.tpf_base.proofs.Heads.{no_request}
use Rattle.http_wire.specs.Requests.{Held, fed, fed_to, holding}
use Rattle.template_fill.specs.Metadata.{Config}
use Rattle.template_fill.specs.HttpAnswer.{Answer, answer_text, head_text}
use Rattle.tpf_base.specs.Marks.{Mark, Served, version_at}
use Rattle.template_fill.specs.Answers.{answer_to, is_reload, reload_answer, version_answer}
use Rattle.template_fill.specs.Responses.{AreMarks, FitsHead, answering, answers, head_answer, reload_version, reload_versions}
use Rattle.http_ends.proofs.Growing.{answers_append}
use Rattle.page_responses.specs.declared.rest.Rest.{Rest}
use Rattle.page_responses.specs.declared.rest.Rest.TheVariants.{Nothing}
use Rattle.page_responses.specs.Statuses.{version_line}
use Rattle.page_responses.specs.Serving.{Serving, IsHistoryOf, data_of}
use Rattle.page_responses.specs.Rests.{is_left, rest_text}
use Rattle.page_responses.proofs.LeftLaws.{long_rest}
use Rattle.tpf_server.specs.declared.asked.Queued.{Queued}
use Rattle.tpf_server.specs.declared.outcome.Reloaded.{Reloaded}
use Rattle.tpf_server.specs.declared.outcome.Reloaded.TheVariants as outcomes
use Rattle.tpf_server.specs.declared.reading.Reading.{Reading}
use Rattle.tpf_server.specs.declared.reading.Reading.TheVariants.{Reads, Waits, Ended}
use Rattle.tpf_server.specs.Asked.{answer_of}
use Rattle.tpf_server.specs.Owed.{Fills, Fits, debt_left, debt_text, queue_text, queued_text}
use Rattle.tpf_server.specs.Read.{ReadsHeads, Stands, served_marks}
use Rattle.tpf_server.specs.Reading.{is_ended, waits, when_starved}
use Rattle.tpf_server.specs.Reloads.{IsOutcome, ReadsOn, outcome_asking, outcome_mark, outcome_numbers, outcome_queued}
use Rattle.tpf_server.specs.Conversation.{Answers, AreServed, Conversation, Feeds, Makes, ReadsFurther, Reloads, opening, owed_text, owes}
use Rattle.tpf_server.proofs.Readings.{queue_more}
use Rattle.tpf_server.proofs.DebtLaws.{debt_done, long_head}
use Rattle.tpf_server.proofs.HeadsLaws.{ended_on, left_heads, reads_on, reload_ends, reload_goes, stands_kept, waits_on}
use Rattle.tpf_server.proofs.MarkLaws.{AreAt, are_served, marked_before, marks_behind, numbers_append, numbers_front, plain_none, served_at, served_marked}

-- ---- at the beginning

nothing_owed : (config : Config) → debt_text config Nothing [] ≡ []
unfolding debt_text rest_text
nothing_owed config = refl

opening_answers : (history : List (List Triple)) (config : Config) → Answers history config [] [] [] opening
opening_answers history config = record {
  heads = [];
  stands = (refl, no_request);
  marked = record { fits = tt; versions = tt; rising = tt };
  text = nothing_owed config;
}

pub opened_answers : (history : List (List Triple)) (config : Config) (held : Held) (rest : Rest) (waiting : List Queued) (bytes : List ℕ) → held ≡ holding [] → rest ≡ Nothing → waiting ≡ [] → bytes ≡ []
    → Answers history config [] [] [] (record { unread = held.bytes; reading = Reads; rest = rest; waiting = waiting; pending = bytes; starved = false })
opened_answers history config held rest waiting bytes h r w b =
    subst (Answers history config [] [] []) (sym (
    ap (λ (x : Held). record { unread = x.bytes; reading = Reads; rest = rest; waiting = waiting; pending = bytes; starved = false }) h
    ∙ ap (λ (x : Rest). record { unread = []; reading = Reads; rest = x; waiting = waiting; pending = bytes; starved = false }) r
    ∙ ap (λ (x : List Queued). record { unread = []; reading = Reads; rest = Nothing; waiting = x; pending = bytes; starved = false }) w
    ∙ ap (λ (x : List ℕ). record { unread = []; reading = Reads; rest = Nothing; waiting = []; pending = x; starved = false }) b
    )) (opening_answers history config)

-- ---- memory is wanting

abbrev pub wanting : List ℕ → Reading → Rest → List Queued → List ℕ → Conversation
wanting unread reading rest waiting pending = record { unread = unread; reading = reading; rest = rest; waiting = waiting; pending = pending; starved = true }

dropped_front : (g n : ℕ) (xs : List ℕ) → drop g (take (g + n) xs) ≡ take n (drop g xs)
dropped_front zero n xs = let e : 0 + n ≡ n = omega arith in ap (λ (m : ℕ). take m xs) e
dropped_front (suc g) zero [] = let e : suc g + 0 ≡ suc g = omega arith in ap (λ (m : ℕ). drop (suc g) (take m [])) e
dropped_front (suc g) (suc n) [] = let e : suc g + suc n ≡ suc (g + suc n) = omega arith in ap (λ (m : ℕ). drop (suc g) (take m [])) e
dropped_front (suc g) n (x ∷ xs) = let e : suc g + n ≡ suc (g + n) = omega arith in ap (λ (m : ℕ). drop (suc g) (take m (x ∷ xs))) e ∙ dropped_front g n xs

pub starve_is : (unread : List ℕ) (reading stopped : Reading) (old_rest rest : Rest) (old_waiting waiting : List Queued) (bytes cut kept : List ℕ) (given left pending : ℕ) (starved : Bool) (held : Held) (old : Conversation)
    → (let view : Conversation = record { unread = unread; reading = reading; rest = old_rest; waiting = old_waiting; pending = drop given bytes; starved = starved } in view ≡ old)
    → cut ≡ take (given + pending) bytes → drop left kept ≡ drop given cut → held ≡ holding [] → stopped ≡ when_starved reading → rest ≡ Nothing → waiting ≡ []
    → wanting held.bytes stopped rest waiting (drop left kept) ≡ wanting [] (when_starved old.reading) Nothing [] (take pending old.pending)
starve_is unread reading stopped old_rest rest old_waiting waiting bytes cut kept given left pending starved held old same c k h s r w =
    ap (λ (x : Held). wanting x.bytes stopped rest waiting (drop left kept)) h
    ∙ ap (λ (x : Reading). wanting [] x rest waiting (drop left kept)) s
    ∙ ap (λ (x : Rest). wanting [] (when_starved reading) x waiting (drop left kept)) r
    ∙ ap (λ (x : List Queued). wanting [] (when_starved reading) Nothing x (drop left kept)) w
    ∙ ap (λ (x : List ℕ). wanting [] (when_starved reading) Nothing [] x) (k ∙ ap (drop given) c ∙ dropped_front given pending bytes)
    ∙ ap (λ (x : Conversation). wanting [] (when_starved x.reading) Nothing [] (take pending x.pending)) same

-- ---- further heads are read

-- what is owed more where answers were queued
debt_more : (config : Config) (rest : Rest) (before after : List Queued) (text : List ℕ) → queue_text config after ≡ queue_text config before ++ text
    → debt_text config rest after ≡ debt_text config rest before ++ text
unfolding debt_text
debt_more config rest before after text more =
    ap (λ (l : List ℕ). rest_text rest ++ l) more ∙ sym (append_assoc (rest_text rest) (queue_text config before) text)

module _ (history : List (List Triple)) (server : Serving) (bytes taken : List ℕ) (marks : List Mark) (piece : List ℕ) (first : List Mark) (numbers : List ℕ) (old new : Conversation) where
  further_text : (more : List Verdict) (later : List Mark) (answers_ : Answers history server.config bytes taken marks old) → new.pending ≡ old.pending
      → owed_text server.config new ≡ owed_text server.config old ++ answers (answering history server.config) more (first ++ later)
      → taken ++ new.pending ++ owed_text server.config new ≡ answers (answering history server.config) (answers_.heads ++ more) (marks ++ (first ++ later))
  further_text more later a pending owed =
      ap₂ (λ (p o : List ℕ). taken ++ p ++ o) pending owed
      ∙ sym (append_assoc (taken ++ old.pending) (owed_text server.config old) (answers (answering history server.config) more (first ++ later)))
      ∙ ap (λ (l : List ℕ). l ++ answers (answering history server.config) more (first ++ later)) a.text
      ∙ sym (answers_append (answering history server.config) a.heads more marks (first ++ later) (AllZip-long (FitsHead (answering history server.config)) a.heads marks a.marked.fits))

  further_numbers : (more : List Verdict) (later : List Mark) (answers_ : Answers history server.config bytes taken marks old) (all : List Mark) → all ≡ first ++ later
      → AreMarks (answering history server.config) (answers_.heads ++ more) (marks ++ all)
      → (left : List Verdict) × ((heads_of (bytes ++ piece)).heads ≡ (answers_.heads ++ more) ++ left)
      → reload_versions (answering history server.config) more all ≡ numbers
      → reload_versions (answering history server.config) (heads_of (bytes ++ piece)).heads (marks ++ all) ≡ reload_versions (answering history server.config) (heads_of bytes).heads marks ++ numbers
  further_numbers more later a all same marked left told =
      let server_ = answering history server.config in
      let old_left = left_heads server.config (heads_of bytes) a.heads old.reading old.unread a.stands in
      ap (λ (h : List Verdict). reload_versions server_ h (marks ++ all)) left.1
      ∙ numbers_front server_ (a.heads ++ more) left.0 (marks ++ all) marked.fits
      ∙ numbers_append server_ a.heads more marks all a.marked.fits
      ∙ ap₂ (λ (x y : List ℕ). x ++ y)
      (sym (ap (λ (h : List Verdict). reload_versions server_ h marks) old_left.1 ∙ numbers_front server_ a.heads old_left.0 marks a.marked.fits))
      told

  pub further : (more : List Verdict) (later : List Mark) (answers_ : Answers history server.config bytes taken marks old) → IsHistoryOf history server → AreServed server.version later
      → AreMarks (answering history server.config) more (first ++ later) → AreAt server.version (first ++ later)
      → reload_versions (answering history server.config) more (first ++ later) ≡ numbers
      → new.pending ≡ old.pending
      → owed_text server.config new ≡ owed_text server.config old ++ answers (answering history server.config) more (first ++ later)
      → Stands server.config (heads_of (bytes ++ piece)) (answers_.heads ++ more) new.reading new.unread
      → ReadsFurther history server bytes taken marks piece first numbers new
  further more later a last served marked at told pending owed stands =
      let all = marks_behind (answering history server.config) server.version a.heads more marks (first ++ later) last.count a.marked marked at in
      record {
        later = later;
        served = served;
        answers = record { heads = a.heads ++ more; stands = stands; marked = all; text = further_text more later a pending owed };
        told = further_numbers more later a (first ++ later) refl all (left_heads server.config (heads_of (bytes ++ piece)) (a.heads ++ more) new.reading new.unread stands) told;
      }

-- the server's version is one of the history
version_low : (history : List (List Triple)) (server : Serving) → IsHistoryOf history server → 1 ≤ server.version
version_low history server last =
    omega (arith, last.count, ap (λ (h : List (List Triple)). length h) last.last, length-append last.before (data_of server ∷ []))

version_high : (history : List (List Triple)) (server : Serving) → IsHistoryOf history server → server.version ≤ length history
version_high history server last = omega (arith, last.count)

-- ---- more bytes are fed

abbrev pub conversation : List ℕ → Reading → Rest → List Queued → List ℕ → Bool → Conversation
conversation unread reading rest waiting pending starved = record { unread = unread; reading = reading; rest = rest; waiting = waiting; pending = pending; starved = starved }

feeds_at : (server : Serving) (piece unread : List ℕ) (rest : Rest) (before after : List Queued) (pending : List ℕ) (starved : Bool) (old_reading reading : Reading) (held kept : Held) → old_reading ≡ Reads → starved ≡ false
    → ReadsHeads server (unread ++ piece) before after reading held → (is_ended reading ≡ false → kept ≡ held)
    → Feeds server piece (record { unread = unread; reading = old_reading; rest = rest; waiting = before; pending = pending; starved = starved }) (record { unread = kept.bytes; reading = reading; rest = rest; waiting = after; pending = pending; starved = starved })
feeds_at server piece unread rest before after pending starved old_reading reading held kept open_ fits r keeps = record {
  pending = refl;
  starved = fits;
  reads = λ history fed taken marks last a.
      further history server fed taken marks piece [] [] _ _ r.heads (served_marks server.version r.heads) a last
      (are_served (answering history server.config) server.version r.heads)
      (served_marked (answering history server.config) server.version (version_low history server last) (version_high history server last) r.heads)
      (served_at (answering history server.config) server.version r.heads)
      (plain_none (answering history server.config) server.version r.heads (r.plain history))
      refl
      (debt_more server.config rest before after _ (r.text history last))
      (reads_on server.config fed unread piece a.heads r.heads old_reading reading kept.bytes open_ a.stands
      (stands_kept server.config (heads_of (unread ++ piece)) r.heads reading held.bytes kept.bytes (λ h. ap (λ (x : Held). x.bytes) (keeps h)) r.stands));
}

pub feeds : (server : Serving) (piece unread : List ℕ) (rest new_rest : Rest) (before after : List Queued) (pending : List ℕ) (starved : Bool) (old_reading reading : Reading) (asked held kept : Held) (old : Conversation)
    → record { unread = unread; reading = old_reading; rest = rest; waiting = before; pending = pending; starved = starved } ≡ old → old.reading ≡ Reads → old.starved ≡ false
    → asked ≡ holding (unread ++ piece) → new_rest ≡ rest
    → ReadsHeads server asked.bytes before after reading held → (is_ended reading ≡ false → kept ≡ held)
    → Feeds server piece old (record { unread = kept.bytes; reading = reading; rest = new_rest; waiting = after; pending = pending; starved = starved })
feeds server piece unread rest new_rest before after pending starved old_reading reading asked held kept old same open_ fed_ is stays r keeps =
    let heads = subst (λ (h : Held). ReadsHeads server h.bytes before after reading held) is r in
    subst (λ (x : Rest). Feeds server piece old (record { unread = kept.bytes; reading = reading; rest = x; waiting = after; pending = pending; starved = starved })) (sym stays)
    (subst (λ (c : Conversation). Feeds server piece c (record { unread = kept.bytes; reading = reading; rest = rest; waiting = after; pending = pending; starved = starved })) same
    (feeds_at server piece unread rest before after pending starved old_reading reading held kept (ap (λ (c : Conversation). c.reading) same ∙ open_) (ap (λ (c : Conversation). c.starved) same ∙ fed_) heads keeps))

pub fed_open : (h before : Held) (piece : List ℕ) → before ≡ h → h.refused ≡ None → fed before piece ≡ holding (h.bytes ++ piece)
fed_open h before piece same open_ = ap (λ (x : Held). fed x piece) same ∙ ap (λ (r : Option ℕ). fed_to h.bytes r piece) open_

-- nothing was read
nothing_read : (history : List (List Triple)) (server : Serving) (bytes taken : List ℕ) (marks : List Mark) (piece : List ℕ) (old new : Conversation) (a : Answers history server.config bytes taken marks old) → IsHistoryOf history server
    → new.pending ≡ old.pending → owed_text server.config new ≡ owed_text server.config old
    → Stands server.config (heads_of (bytes ++ piece)) (a.heads ++ []) new.reading new.unread
    → ReadsFurther history server bytes taken marks piece [] [] new
nothing_read history server bytes taken marks piece old new a last pending owed stands =
    further history server bytes taken marks piece [] [] old new [] [] a last tt (record { fits = tt; versions = tt; rising = tt }) tt refl pending (owed ∙ sym (append-nil (owed_text server.config old))) stands

keeps_waiting : (config : Config) (fed unread piece : List ℕ) (first : List Verdict) (reading : Reading) → waits reading ≡ true → Stands config (heads_of fed) first reading unread → Stands config (heads_of (fed ++ piece)) (first ++ []) reading (unread ++ piece)
keeps_waiting config fed unread piece first Reads is s = absurd (true≢false (sym is))
keeps_waiting config fed unread piece first (Waits last) is s = waits_on config fed unread piece first last s
keeps_waiting config fed unread piece first Ended is s = absurd (true≢false (sym is))

keeps_at : (server : Serving) (piece unread new : List ℕ) (reading : Reading) (rest : Rest) (waiting : List Queued) (pending : List ℕ) (starved : Bool) → waits reading ≡ true → starved ≡ false → new ≡ unread ++ piece
    → Feeds server piece (record { unread = unread; reading = reading; rest = rest; waiting = waiting; pending = pending; starved = starved }) (record { unread = new; reading = reading; rest = rest; waiting = waiting; pending = pending; starved = starved })
keeps_at server piece unread new reading rest waiting pending starved is fed_ more = record {
  pending = refl;
  starved = fed_;
  reads = λ history fed taken marks last a.
      nothing_read history server fed taken marks piece _ _ a last refl refl
      (subst (Stands server.config (heads_of (fed ++ piece)) (a.heads ++ []) reading) (sym more) (keeps_waiting server.config fed unread piece a.heads reading is a.stands));
}

pub keeps : (server : Serving) (piece : List ℕ) (held new : Held) (reading : Reading) (rest : Rest) (waiting : List Queued) (pending : List ℕ) (starved : Bool) (old : Conversation)
    → record { unread = held.bytes; reading = reading; rest = rest; waiting = waiting; pending = pending; starved = starved } ≡ old → waits old.reading ≡ true → old.starved ≡ false
    → held.refused ≡ None → new ≡ fed held piece
    → Feeds server piece old (record { unread = new.bytes; reading = reading; rest = rest; waiting = waiting; pending = pending; starved = starved })
keeps server piece held new reading rest waiting pending starved old same is fed_ open_ more =
    subst (λ (c : Conversation). Feeds server piece c (record { unread = new.bytes; reading = reading; rest = rest; waiting = waiting; pending = pending; starved = starved })) same
    (keeps_at server piece held.bytes new.bytes reading rest waiting pending starved (ap (λ (c : Conversation). waits c.reading) same ∙ is) (ap (λ (c : Conversation). c.starved) same ∙ fed_)
    (ap (λ (h : Held). h.bytes) (more ∙ fed_open held held piece refl open_)))

stands_ended : (config : Config) (fed unread piece : List ℕ) (first : List Verdict) (reading : Reading) → reading ≡ Ended → Stands config (heads_of fed) first reading unread → Stands config (heads_of (fed ++ piece)) (first ++ []) reading unread
stands_ended config fed unread piece first reading is s =
    subst (λ (r : Reading). Stands config (heads_of (fed ++ piece)) (first ++ []) r unread) (sym is) (ended_on config fed unread piece first (subst (λ (r : Reading). Stands config (heads_of fed) first r unread) is s))

-- nothing is read behind an answer that closes
pub feeds_nothing : (server : Serving) (piece : List ℕ) (old : Conversation) → old.reading ≡ Ended → old.starved ≡ false → Feeds server piece old old
feeds_nothing server piece old ended fed_ = record {
  pending = refl;
  starved = fed_;
  reads = λ history fed taken marks last a. nothing_read history server fed taken marks piece old old a last refl refl (stands_ended server.config fed old.unread piece a.heads old.reading ended a.stands);
}

-- ---- a reload is answered

outcome_answer : (config : Config) (version : ℕ) (outcome : Reloaded) → IsOutcome version outcome → answer_of config (outcome_asking outcome) ≡ reload_answer (outcome_mark version outcome)
unfolding answer_of reload_answer version_line
outcome_answer config version (outcomes.Version number) is = ap (λ (n : ℕ). reload_answer (Served n)) is
outcome_answer config version outcomes.Failed is = refl
outcome_answer config version outcomes.OutOfMemory is = refl

outcome_at : (version : ℕ) (outcome : Reloaded) → version_at (outcome_mark version outcome) ≡ version
outcome_at version (outcomes.Version number) = refl
outcome_at version outcomes.Failed = refl
outcome_at version outcomes.OutOfMemory = refl

outcome_fits : (history : List (List Triple)) (config : Config) (request : Request) (version : ℕ) (outcome : Reloaded) → is_reload config request ≡ true → FitsHead (answering history config) (Accepted request) (outcome_mark version outcome)
outcome_fits history config request version (outcomes.Version number) is = tt
outcome_fits history config request version outcomes.Failed is = is
outcome_fits history config request version outcomes.OutOfMemory is = is

told_numbers : (version : ℕ) (outcome : Reloaded) → IsOutcome version outcome → reload_version true (outcome_mark version outcome) ≡ outcome_numbers outcome
told_numbers version (outcomes.Version number) is = ap (λ (n : ℕ). n ∷ []) (sym is)
told_numbers version outcomes.Failed is = refl
told_numbers version outcomes.OutOfMemory is = refl

neither : (get head path : Bool) → not (if get then true else head) && path ≡ true → head ≡ false
neither true head path is = absurd (true≢false (sym is))
neither false true path is = absurd (true≢false (sym is))
neither false false path is = refl

no_head : (config : Config) (request : Request) → is_reload config request ≡ true → bytes_eq request.method (codes "HEAD") ≡ false
unfolding is_reload
no_head config request is = neither (bytes_eq request.method (codes "GET")) (bytes_eq request.method (codes "HEAD")) _ is

outcome_text : (history : List (List Triple)) (server : Serving) (request : Request) (outcome : Reloaded) (last : Bool) → is_reload server.config request ≡ true → request.closes ≡ last → IsOutcome server.version outcome
    → queued_text server.config (outcome_queued outcome last) ≡ head_answer (answering history server.config) (Accepted request) (outcome_mark server.version outcome)
unfolding answer_to
outcome_text history server request outcome last is ends of =
    ap (λ (a : Answer). answer_text a false last) (outcome_answer server.config server.version outcome of)
    ∙ ap (λ (b : Bool). answer_text (if b then reload_answer (outcome_mark server.version outcome) else version_answer history (version_at (outcome_mark server.version outcome)) server.config request) false last) (sym is)
    ∙ ap₂ (λ (w l : Bool). answer_text (answer_to history (outcome_mark server.version outcome) server.config request) w l) (sym (no_head server.config request is)) (sym ends)

outcome_owed : (config : Config) (rest : Rest) (before after : List Queued) (queued : Queued) (text more : List ℕ) → queued_text config queued ≡ text → queue_text config after ≡ queue_text config (before ++ queued ∷ []) ++ more
    → debt_text config rest after ≡ debt_text config rest before ++ (text ++ more)
outcome_owed config rest before after queued text more is behind =
    debt_more config rest before after (text ++ more)
    (behind ∙ ap (λ (l : List ℕ). l ++ more) (queue_more config before queued ∙ ap (λ (l : List ℕ). queue_text config before ++ l) is) ∙ append_assoc (queue_text config before) text more)

numbers_before : (history : List (List Triple)) (server : Serving) (request : Request) (outcome : Reloaded) (heads : List Verdict) → is_reload server.config request ≡ true → IsOutcome server.version outcome
    → reload_versions (answering history server.config) heads (served_marks server.version heads) ≡ []
    → reload_versions (answering history server.config) (Accepted request ∷ heads) (outcome_mark server.version outcome ∷ served_marks server.version heads) ≡ outcome_numbers outcome
numbers_before history server request outcome heads is of none =
    ap₂ (λ (a b : List ℕ). a ++ b) (ap (λ (b : Bool). reload_version b (outcome_mark server.version outcome)) is ∙ told_numbers server.version outcome of) none
    ∙ append-nil (outcome_numbers outcome)

module _ (server : Serving) (outcome : Reloaded) (of : IsOutcome server.version outcome) (old new : Conversation) where
  -- the request, and then heads that ask for no reload
  answered : (history : List (List Triple)) (fed taken : List ℕ) (marks : List Mark) (a : Answers history server.config fed taken marks old) → IsHistoryOf history server
      → (request : Request) (last : Bool) → is_reload server.config request ≡ true → request.closes ≡ last
      → (heads : List Verdict) → reload_versions (answering history server.config) heads (served_marks server.version heads) ≡ []
      → new.pending ≡ old.pending
      → owed_text server.config new ≡ owed_text server.config old ++ (queued_text server.config (outcome_queued outcome last) ++ answers (answering history server.config) heads (served_marks server.version heads))
      → Stands server.config (heads_of (fed ++ [])) (a.heads ++ (Accepted request ∷ heads)) new.reading new.unread
      → ReadsFurther history server fed taken marks [] (outcome_mark server.version outcome ∷ []) (outcome_numbers outcome) new
  answered history fed taken marks a is request last reload ends heads none pending owed stands =
      further history server fed taken marks [] (outcome_mark server.version outcome ∷ []) (outcome_numbers outcome) old new (Accepted request ∷ heads) (served_marks server.version heads) a is
      (are_served (answering history server.config) server.version heads)
      (marked_before (answering history server.config) server.version (Accepted request) (outcome_mark server.version outcome) heads (version_low history server is) (version_high history server is) (outcome_fits history server.config request server.version outcome reload) (outcome_at server.version outcome))
      (outcome_at server.version outcome, served_at (answering history server.config) server.version heads)
      (numbers_before history server request outcome heads reload of none)
      pending
      (owed ∙ ap (λ (l : List ℕ). owed_text server.config old ++ (l ++ answers (answering history server.config) heads (served_marks server.version heads))) (outcome_text history server request outcome last reload ends of))
      stands

long_queue_of : (before : List Queued) (queued : Queued) (later : List Queued) → nat_lt 0 (length ((before ++ queued ∷ []) ++ later)) ≡ true
long_queue_of [] queued later = grind arith
long_queue_of (q ∷ before) queued later = grind arith

left_of : (rest : Rest) (before after : List Queued) (queued : Queued) → (later : List Queued) × (after ≡ (before ++ queued ∷ []) ++ later) → debt_left rest after ≡ true
left_of rest before after queued more = ap (debt_left rest) more.1 ∙ some (is_left rest) _ (long_queue_of before queued more.0)
  where
    some : (a b : Bool) → b ≡ true → (a || b) ≡ true
    some true b is = refl
    some false b is = is

reloads_last : (server : Serving) (outcome : Reloaded) (unread : List ℕ) (rest : Rest) (before after : List Queued) (pending : List ℕ) (starved : Bool) (reading : Reading) (kept : Held) → IsOutcome server.version outcome → starved ≡ false
    → reading ≡ Ended → after ≡ before ++ outcome_queued outcome true ∷ []
    → Reloads server outcome (record { unread = unread; reading = Waits true; rest = rest; waiting = before; pending = pending; starved = starved }) (record { unread = kept.bytes; reading = reading; rest = rest; waiting = after; pending = pending; starved = starved })
reloads_last server outcome unread rest before after pending starved reading kept of fed_ ended waiting = record {
  pending = refl;
  starved = fed_;
  left = ap (λ (b : Bool). b || debt_left rest after) fed_ ∙ left_of rest before after (outcome_queued outcome true) ([], waiting ∙ sym (append-nil (before ++ outcome_queued outcome true ∷ [])));
  reads = λ history fed taken marks last a.
      let r = a.stands.1.1 in
      answered server outcome of _ _ history fed taken marks a last r.request true r.asks r.last [] refl refl
      (outcome_owed server.config rest before after (outcome_queued outcome true) _ [] refl (ap (queue_text server.config) waiting ∙ sym (append-nil (queue_text server.config (before ++ outcome_queued outcome true ∷ [])))))
      (subst (λ (x : Reading). Stands server.config (heads_of (fed ++ [])) (a.heads ++ (Accepted r.request ∷ [])) x kept.bytes) (sym ended) (reload_ends server.config fed a.stands.0 unread a.heads r a.stands.1.0 kept.bytes));
}

reloads_on : (server : Serving) (outcome : Reloaded) (unread : List ℕ) (rest : Rest) (before after : List Queued) (pending : List ℕ) (starved : Bool) (reading : Reading) (held kept : Held) → IsOutcome server.version outcome → starved ≡ false
    → ReadsHeads server unread (before ++ outcome_queued outcome false ∷ []) after reading held → (is_ended reading ≡ false → kept ≡ held)
    → Reloads server outcome (record { unread = unread; reading = Waits false; rest = rest; waiting = before; pending = pending; starved = starved }) (record { unread = kept.bytes; reading = reading; rest = rest; waiting = after; pending = pending; starved = starved })
reloads_on server outcome unread rest before after pending starved reading held kept of fed_ heads keeps_ = record {
  pending = refl;
  starved = fed_;
  left = ap (λ (b : Bool). b || debt_left rest after) fed_ ∙ left_of rest before after (outcome_queued outcome false) heads.behind;
  reads = λ history fed taken marks last a.
      let r = a.stands.1.1 in
      answered server outcome of _ _ history fed taken marks a last r.request false r.asks r.last heads.heads (plain_none (answering history server.config) server.version heads.heads (heads.plain history)) refl
      (outcome_owed server.config rest before after (outcome_queued outcome false) _ _ refl (heads.text history last))
      (reload_goes server.config fed a.stands.0 unread a.heads heads.heads reading kept.bytes r a.stands.1.0
      (stands_kept server.config (heads_of unread) heads.heads reading held.bytes kept.bytes (λ h. ap (λ (x : Held). x.bytes) (keeps_ h)) heads.stands));
}

reloads_at : (server : Serving) (outcome : Reloaded) (unread : List ℕ) (rest : Rest) (before after : List Queued) (pending : List ℕ) (starved last : Bool) (reading : Reading) (held kept : Held) → IsOutcome server.version outcome → starved ≡ false
    → ReadsOn server outcome last unread before after reading held → (is_ended reading ≡ false → kept ≡ held)
    → Reloads server outcome (record { unread = unread; reading = Waits last; rest = rest; waiting = before; pending = pending; starved = starved }) (record { unread = kept.bytes; reading = reading; rest = rest; waiting = after; pending = pending; starved = starved })
reloads_at server outcome unread rest before after pending starved true reading held kept of fed_ r keeps_ = reloads_last server outcome unread rest before after pending starved reading kept of fed_ r.0 r.1
reloads_at server outcome unread rest before after pending starved false reading held kept of fed_ r keeps_ = reloads_on server outcome unread rest before after pending starved reading held kept of fed_ r keeps_

pub reloads : (server : Serving) (outcome : Reloaded) (unread : List ℕ) (rest new_rest : Rest) (before after : List Queued) (pending : List ℕ) (starved last : Bool) (old_reading reading : Reading) (asked held kept : Held) (old : Conversation)
    → record { unread = unread; reading = old_reading; rest = rest; waiting = before; pending = pending; starved = starved } ≡ old → IsOutcome server.version outcome → old.reading ≡ Waits last → old.starved ≡ false
    → asked.bytes ≡ unread → new_rest ≡ rest
    → ReadsOn server outcome last asked.bytes before after reading held → (is_ended reading ≡ false → kept ≡ held)
    → Reloads server outcome old (record { unread = kept.bytes; reading = reading; rest = new_rest; waiting = after; pending = pending; starved = starved })
reloads server outcome unread rest new_rest before after pending starved last old_reading reading asked held kept old same of waits_ fed_ is stays r keeps_ =
    let own = subst (λ (l : List ℕ). ReadsOn server outcome last l before after reading held) is r in
    let old_is : record { unread = unread; reading = Waits last; rest = rest; waiting = before; pending = pending; starved = starved } ≡ old =
    ap (λ (x : Reading). record { unread = unread; reading = x; rest = rest; waiting = before; pending = pending; starved = starved }) (sym (ap (λ (c : Conversation). c.reading) same ∙ waits_)) ∙ same in
    subst (λ (x : Rest). Reloads server outcome old (record { unread = kept.bytes; reading = reading; rest = x; waiting = after; pending = pending; starved = starved })) (sym stays)
    (subst (λ (c : Conversation). Reloads server outcome c (record { unread = kept.bytes; reading = reading; rest = rest; waiting = after; pending = pending; starved = starved })) old_is
    (reloads_at server outcome unread rest before after pending starved last reading held kept of (ap (λ (c : Conversation). c.starved) same ∙ fed_) own keeps_))

-- ---- bytes are made

makes_at : (config : Config) (unread : List ℕ) (rest new_rest : Rest) (before after : List Queued) (bytes made : List ℕ) (given : ℕ) (reading : Reading) (starved : Bool) → given ≤ length bytes → starved ≡ false
    → Fills (debt_text config rest before) (debt_text config new_rest after) given bytes made
    → (ENOUGH_PENDING ≤ length made - given) ⊎ (debt_left new_rest after ≡ false)
    → Makes config (record { unread = unread; reading = reading; rest = rest; waiting = before; pending = drop given bytes; starved = starved }) (record { unread = unread; reading = reading; rest = new_rest; waiting = after; pending = drop given made; starved = starved })
makes_at config unread rest new_rest before after bytes made given reading starved within fed fills enough = record {
  part = fills.part;
  owed = fills.owed;
  pending = ap (drop given) fills.made ∙ drop_front given bytes fills.part within;
  enough = elim enough as (λ e. (ENOUGH_PENDING ≤ length (drop given made)) ⊎ ((starved || debt_left new_rest after) ≡ false)) [ inl h ↦ inl (omega (arith, h, length-drop given made)) | inr h ↦ inr (ap (λ (b : Bool). b || debt_left new_rest after) fed ∙ h) ];
  unread = refl;
  reading = refl;
  starved = fed;
}
  where
    drop_front : (n : ℕ) (xs ys : List ℕ) → n ≤ length xs → drop n (xs ++ ys) ≡ drop n xs ++ ys
    drop_front zero xs ys h = refl
    drop_front (suc n) [] ys h = absurd (omega arith)
    drop_front (suc n) (x ∷ xs) ys h = drop_front n xs ys (omega arith)

pub makes : (config : Config) (unread : List ℕ) (rest new_rest : Rest) (before after : List Queued) (bytes made : List ℕ) (given : ℕ) (reading : Reading) (starved : Bool) (old : Conversation)
    → record { unread = unread; reading = reading; rest = rest; waiting = before; pending = drop given bytes; starved = starved } ≡ old → given ≤ length bytes → old.starved ≡ false
    → Fills (debt_text config rest before) (debt_text config new_rest after) given bytes made
    → (ENOUGH_PENDING ≤ length made - given) ⊎ (debt_left new_rest after ≡ false)
    → Makes config old (record { unread = unread; reading = reading; rest = new_rest; waiting = after; pending = drop given made; starved = starved })
makes config unread rest new_rest before after bytes made given reading starved old same within fed fills enough =
    subst (λ (c : Conversation). Makes config c (record { unread = unread; reading = reading; rest = new_rest; waiting = after; pending = drop given made; starved = starved })) same
    (makes_at config unread rest new_rest before after bytes made given reading starved within (ap (λ (c : Conversation). c.starved) same ∙ fed) fills enough)

pub owes_left : (view old : Conversation) (left : Bool) → view ≡ old → view.starved ≡ false → left ≡ debt_left view.rest view.waiting → owes old ≡ left
owes_left view old left same fed_ is = sym (ap owes same) ∙ ap (λ (b : Bool). b || debt_left view.rest view.waiting) fed_ ∙ sym is

-- with nothing owed nothing is made
pub idle_makes : (config : Config) (view old : Conversation) (left : Bool) → view ≡ old → view.starved ≡ false → left ≡ debt_left view.rest view.waiting → left ≡ false → Makes config old old
idle_makes config view old left same fed_ is none = record {
  part = [];
  owed = refl;
  pending = sym (append-nil old.pending);
  enough = inr (owes_left view old left same fed_ is ∙ none);
  unread = refl;
  reading = refl;
  starved = sym (ap (λ (c : Conversation). c.starved) same) ∙ fed_;
}

pub makes_answer : (config : Config) (old new : Conversation) → Makes config old new → (history : List (List Triple)) (fed taken : List ℕ) (marks : List Mark) → Answers history config fed taken marks old → Answers history config fed taken marks new
makes_answer config old new makes history fed taken marks a = record {
  heads = a.heads;
  stands = subst (λ (u : List ℕ). Stands config (heads_of fed) a.heads new.reading u) (sym makes.unread) (subst (λ (r : Reading). Stands config (heads_of fed) a.heads r old.unread) (sym makes.reading) a.stands);
  marked = a.marked;
  text =
      ap (λ (p : List ℕ). taken ++ p ++ owed_text config new) makes.pending
      ∙ ap (λ (l : List ℕ). l ++ owed_text config new) (sym (append_assoc taken old.pending makes.part))
      ∙ append_assoc (taken ++ old.pending) makes.part (owed_text config new)
      ∙ ap (λ (l : List ℕ). taken ++ old.pending ++ l) (sym makes.owed)
      ∙ a.text;
}

-- ---- bytes are taken

pub take_answer : (history : List (List Triple)) (config : Config) (n : ℕ) (old new : Conversation) → new ≡ record old { pending = drop n old.pending } → (fed taken : List ℕ) (marks : List Mark) → Answers history config fed taken marks old
    → Answers history config fed (taken ++ take n old.pending) marks new
take_answer history config n old new same fed taken marks a =
    subst (Answers history config fed (taken ++ take n old.pending) marks) (sym same) (record {
      heads = a.heads;
      stands = a.stands;
      marked = a.marked;
      text =
          ap (λ (l : List ℕ). l ++ owed_text config old) (append_assoc taken (take n old.pending) (drop n old.pending) ∙ ap (λ (l : List ℕ). taken ++ l) (take-append-drop n old.pending))
          ∙ a.text;
    })

pub taken_is : (unread : List ℕ) (reading : Reading) (rest : Rest) (waiting : List Queued) (bytes kept : List ℕ) (given left n : ℕ) (starved : Bool) (old : Conversation)
    → conversation unread reading rest waiting (drop given bytes) starved ≡ old → drop left kept ≡ drop (given + n) bytes
    → conversation unread reading rest waiting (drop left kept) starved ≡ record old { pending = drop n old.pending }
taken_is unread reading rest waiting bytes kept given left n starved old same k =
    ap (λ (p : List ℕ). conversation unread reading rest waiting p starved) (k ∙ sym (drop-drop n given bytes))
    ∙ ap (λ (c : Conversation). record c { pending = drop n c.pending }) same

-- ---- something is owed

long_answer : (config : Config) (queued : Queued) → 0 < length (queued_text config queued)
unfolding answer_text
long_answer config queued =
    let a = answer_of config queued.asking in
    let head = head_text a.status a.media_type (length a.body) queued.closes in
    omega (arith, long_head a.status a.media_type (length a.body) queued.closes, length-append head (if queued.without_body then [] else a.body))

long_queue : (config : Config) (waiting : List Queued) → nat_lt 0 (length waiting) ≡ true → 0 < length (queue_text config waiting)
long_queue config [] some = absurd (true≢false (sym some))
long_queue config (q ∷ waiting) some = omega (arith, long_answer config q, length-append (queued_text config q) (queue_text config waiting))

pub long_debt : (config : Config) (rest : Rest) (waiting : List Queued) → Fits rest waiting → debt_left rest waiting ≡ true → 0 < length (debt_text config rest waiting)
unfolding debt_text
long_debt config rest waiting fits left =
    let sum = length-append (rest_text rest) (queue_text config waiting) in
    elim (or_cases (is_left rest) (nat_lt 0 (length waiting)) left) as (λ e. 0 < length (rest_text rest ++ queue_text config waiting)) [
      | inl h ↦ omega (arith, sum, long_rest rest fits.range h)
      | inr h ↦ omega (arith, sum, long_queue config waiting h)
    ]

-- where something is owed, a byte is made
pub makes_some : (config : Config) (old new : Conversation) → Makes config old new → Fits old.rest old.waiting → old.starved ≡ false → owes old ≡ true → 0 < length new.pending
makes_some config old new makes fits fed_ left =
    let some = long_debt config old.rest old.waiting fits (sym (ap (λ (b : Bool). b || debt_left old.rest old.waiting) fed_) ∙ left) in
    let both = ap (λ (l : List ℕ). length l) makes.owed in
    let sum = length-append makes.part (owed_text config new) in
    let more = ap (λ (l : List ℕ). length l) makes.pending ∙ length-append old.pending makes.part in
    elim makes.enough as (λ e. 0 < length new.pending) [
      | inl h ↦ omega (arith, h)
      | inr h ↦ omega (arith, some, both, sum, more, none_left new h)
    ]
  where
    none_left : (c : Conversation) → owes c ≡ false → length (owed_text config c) ≡ 0
    none_left c h = ap (λ (l : List ℕ). length l) (debt_done config c.rest c.waiting (or_parts c.starved (debt_left c.rest c.waiting) h).1)

pub none_owed : (c : Conversation) (config : Config) → owes c ≡ false → owed_text config c ≡ []
none_owed c config h = debt_done config c.rest c.waiting (or_parts c.starved (debt_left c.rest c.waiting) h).1

pub some_owed : (c : Conversation) (config : Config) → Fits c.rest c.waiting → owes c ≡ true → c.starved ≡ false → owed_text config c ≡ [] → ⊥
some_owed c config fits left fed_ none =
    let some = long_debt config c.rest c.waiting fits (sym (ap (λ (b : Bool). b || debt_left c.rest c.waiting) fed_) ∙ left) in
    no_zero (owed_text config c) some none
  where
    no_zero : (l : List ℕ) → 0 < length l → l ≡ [] → ⊥
    no_zero l some none = omega (arith, some, ap (λ (x : List ℕ). length x) none)
