-- The response to whole requests: by induction over the requests, with the law that the heads of bytes are the next and then those of what follows.
use Rattle.std.proofs.Common.{append-nil, ◌≡◌, ℕ, ◌+◌, ◌<◌, ◌≤◌, Bool, true, false, List, [], ◌∷◌, ◌++◌, length, take, drop, refl, sym, ap, ap₂, if◌then◌else◌, ◌∙◌, arith, append_assoc, length-append, inl, inr}
use Rattle.std.specs.Prelude.{◌⊎◌, slice_index}
use Rattle.std.specs.List.{AllByRecursion, AllZip}
use Rattle.std.proofs.lemmas.Bool.{cases_lt}
use Rattle.std.proofs.lemmas.List.{drop_at, length-map, take-append-drop, length-take-le}
use Rattle.list_laws.proofs.Lists.{zip_length}
use Rattle.tpf_base.specs.HttpHeads.{Request, Verdict, Accepted, NextRequest, Taken, next_request}
use Rattle.tpf_base.specs.HttpReply.{Whole, Bad, TooLong, BadStatus, BadMediaType, ReplyFault, reply_of}
use Rattle.http_wire.proofs.StayLemmas.{taken_stays}
use Rattle.template_fill.specs.HttpAnswer.{Answer, MediaType, NQuads, PlainText, answer_text, head_text}
use Rattle.tpf_base.specs.Marks.{Mark}
use Rattle.tpf_base.specs.HttpConnection.{Heads, with_head, last_head, heads_from, after_taken, heads_up_to, heads_of, closes, unread_of}
use Rattle.template_fill.specs.Responses.{Answering, asks_head, FitsHead, head_answer, answers, response_by}
use Rattle.http_wire.proofs.ConnectionLemmas.{heads_read}
use Rattle.http_ends.specs.Requests.{request_for}
use Rattle.http_ends.specs.Answers.{IsStatus, HasStatuses, AnswerIsRead}
use Rattle.http_ends.specs.Cuts.{Sent, IsSent, bytes_of, heads_for, RequestIsSent, answer_for, whole_answers, ResponseIsCut, PartsAreNotOwed, Answered, sent_of, received_of, IsAnswered, IsAnswerOver, RepliesAreCut, NextIsCut, NextAnswerIsCut}
use Rattle.http_ends.proofs.Requests.{request_is_read}
use Rattle.http_ends.proofs.Stays.{readings_stay}
use Rattle.http_ends.proofs.Answers.{status_case, answers_are_read, long_heads_are_refused}

pub request_is_sent : RequestIsSent
request_is_sent text address is fits = record {
  next = ap next_request (sym (append-nil (request_for address))) ∙ (request_is_read text address is fits).next [];
  stays = refl;
}

-- ---- heads

-- these heads come first
abbrev pub behind : List Verdict → Heads → Heads
behind first h = record { heads = first ++ h.heads; unread = h.unread; closed = h.closed }

taken_from : (bytes : List ℕ) (request : Request) (n : ℕ) (h : Heads) → request.closes ≡ false → heads_from bytes (Taken request n) h ≡ with_head (Accepted request) h
taken_from bytes request n h stays = ap (λ (v : Bool). if v then last_head (Accepted request) else with_head (Accepted request) h) stays

one_head : (sent : Sent) (rest : List ℕ) → IsSent sent → heads_of (sent.bytes ++ rest) ≡ with_head (Accepted sent.request) (heads_of rest)
one_head sent rest is =
    let next : next_request (sent.bytes ++ rest) ≡ Taken sent.request (length sent.bytes) = taken_stays sent.bytes rest sent.request (length sent.bytes) is.next in
    heads_read (sent.bytes ++ rest)
    ∙ ap (λ (n : NextRequest). heads_from (sent.bytes ++ rest) n (heads_of (after_taken (sent.bytes ++ rest) n))) next
    ∙ taken_from (sent.bytes ++ rest) sent.request (length sent.bytes) (heads_of (drop (length sent.bytes) (sent.bytes ++ rest))) is.stays
    ∙ ap (λ (t : List ℕ). with_head (Accepted sent.request) (heads_of t)) (drop_at sent.bytes rest (length sent.bytes) refl)

pub all_heads : (all : List Sent) (rest : List ℕ) → AllByRecursion IsSent all → heads_of (bytes_of all ++ rest) ≡ behind (heads_for all) (heads_of rest)
all_heads [] rest are = refl
all_heads (sent ∷ all) rest are =
    ap heads_of (append_assoc sent.bytes (bytes_of all) rest) ∙ one_head sent (bytes_of all ++ rest) are.0 ∙ ap (with_head (Accepted sent.request)) (all_heads all rest are.1)

-- ---- answers

module _ (server : Answering) where
  accepted_answer : (sent : Sent) (mark : Mark) → IsSent sent → head_answer server (Accepted sent.request) mark ≡ answer_for server sent mark
  accepted_answer sent mark is = ap (answer_text (server.answer mark sent.request) (asks_head sent.request)) is.stays

  all_answers : (all : List Sent) (heads : List Verdict) (marks later : List Mark) → AllByRecursion IsSent all → length marks ≡ length all
      → answers server (heads_for all ++ heads) (marks ++ later) ≡ whole_answers server all marks ++ answers server heads later
  all_answers [] heads [] later are same = refl
  all_answers [] heads (m ∷ marks) later are same = absurd (omega arith)
  all_answers (sent ∷ all) heads [] later are same = absurd (omega arith)
  all_answers (sent ∷ all) heads (m ∷ marks) later are same =
      ap₂ (λ (a b : List ℕ). a ++ b) (accepted_answer sent m are.0) (all_answers all heads marks later are.1 (omega arith))
      ∙ sym (append_assoc (answer_for server sent m) (whole_answers server all marks) (answers server heads later))

pub response_is_cut : ResponseIsCut
unfolding response_by closes unread_of
response_is_cut server all rest are =
    let whole = all_heads all rest are in
    record {
      heads = ap (λ (h : Heads). h.heads) whole;
      closing = ap (λ (h : Heads). h.closed) whole;
      unread = ap (λ (h : Heads). h.unread) whole;
      owed = λ marks later same. ap (λ (h : Heads). answers server h.heads (marks ++ later)) whole ∙ all_answers server all (heads_of rest).heads marks later are same;
      marked = λ marks is. sym (zip_length (FitsHead server) (heads_of (bytes_of all ++ rest)).heads marks is.fits) ∙ ap (λ (h : Heads). length h.heads) whole ∙ length-append (heads_for all) (heads_of rest).heads ∙ ap (λ (n : ℕ). n + length (heads_of rest).heads) (length-map all (λ sent. Accepted sent.request));
    }

pub parts_are_not_owed : PartsAreNotOwed
unfolding response_by closes unread_of
parts_are_not_owed server text address part more is fits split some =
    let whole : heads_of part ≡ record { heads = []; unread = part; closed = false } =
    heads_read part ∙ ap (λ (n : NextRequest). heads_from part n (heads_of (after_taken part n))) ((request_is_read text address is fits).incomplete part more split some) in
    record {
      heads = ap (λ (h : Heads). h.heads) whole;
      closing = ap (λ (h : Heads). h.closed) whole;
      unread = ap (λ (h : Heads). h.unread) whole;
      owed = λ marks. ap (λ (h : Heads). answers server h.heads marks) whole;
    }

-- ---- what was received

same_length : (a b x y : List ℕ) → length a ≡ length b → a ++ x ≡ b ++ y → (a ≡ b) × (x ≡ y)
same_length [] [] x y same is = (refl, is)
same_length [] (c ∷ b) x y same is = absurd (omega arith)
same_length (c ∷ a) [] x y same is = absurd (omega arith)
same_length (c ∷ a) (d ∷ b) x y same is =
    let first : c ≡ d = ap (λ (t : List ℕ). slice_index t 0) is in
    let rest = same_length a b x y (omega arith) (ap (drop 1) is) in
    (ap₂ (λ (z : ℕ) (zs : List ℕ). z ∷ zs) first rest.0, rest.1)

length_read : (a b : List ℕ) (n m : ℕ) (k l : Bool) → Whole a n k ≡ Whole b m l → (n ≡ m) × (a ≡ b)
length_read a b n m k l is = (cc, cc)

not_whole : (fault : ReplyFault) (body : List ℕ) (n : ℕ) (keeps : Bool) → Bad fault ≡ Whole body n keeps → ⊥
not_whole fault body n keeps is = cc

media_case : (media : MediaType) → (media ≡ NQuads) ⊎ (media ≡ PlainText)
media_case NQuads = inl refl
media_case PlainText = inr refl

module _ (limit : ℕ) (received body : List ℕ) (keeps : Bool) (whole : reply_of received false limit ≡ Whole body (length received) keeps) where
  -- an answer and more is a whole reply and more: they are cut at the same place
  abbrev IsSame : Answer → List ℕ → List ℕ → Type 0
  IsSame answer x y = (answer_text answer false false ≡ received) × (x ≡ y) × (answer.status ≡ 200) × (body ≡ answer.body) × (answer.media_type ≡ NQuads)

  -- a refusal in the head is none of a whole reply
  refused_head : (answer : Answer) (x y : List ℕ) (fault : ReplyFault) → reply_of (head_text answer.status answer.media_type (length answer.body) false ++ (answer.body ++ x)) false limit ≡ Bad fault
      → answer_text answer false false ++ x ≡ received ++ y → ⊥
  unfolding answer_text
  refused_head answer x y fault refused same =
      not_whole fault body (length received) keeps
      (sym refused ∙ ap (λ (t : List ℕ). reply_of t false limit) (sym (append_assoc (head_text answer.status answer.media_type (length answer.body) false) answer.body x) ∙ same) ∙ (readings_stay limit received).whole body (length received) keeps whole y false)

  cut_case : (answer : Answer) (x y : List ℕ) → AnswerIsRead limit answer false → answer_text answer false false ++ x ≡ received ++ y
      → length (head_text answer.status answer.media_type (length answer.body) false) ≤ 65536
      → (answer.status ≡ 200) ⊎ (answer.status ≡ 200 → ⊥) → (answer.media_type ≡ NQuads) ⊎ (answer.media_type ≡ PlainText) → (limit < length answer.body) ⊎ (length answer.body ≤ limit) → IsSame answer x y
  cut_case answer x y read same fits (inr other) media size = absurd (refused_head answer x y (BadStatus answer.status) (read.other other (answer.body ++ x) false) same)
  cut_case answer x y read same fits (inl ok) (inr text) size = absurd (refused_head answer x y BadMediaType (read.text ok text fits (answer.body ++ x) false) same)
  cut_case answer x y read same fits (inl ok) (inl media) (inl over) = absurd (refused_head answer x y TooLong (read.long ok media over (answer.body ++ x) false) same)
  cut_case answer x y read same fits (inl ok) (inl media) (inr within) =
      let count = length_read answer.body body (length (answer_text answer false false)) (length received) true keeps
      (sym (read.whole ok media within x false) ∙ ap (λ (t : List ℕ). reply_of t false limit) same ∙ (readings_stay limit received).whole body (length received) keeps whole y false) in
      let parts = same_length (answer_text answer false false) received x y count.0 same in
      (parts.0, parts.1, ok, sym count.1, media)

  fit_case : (answer : Answer) (x y : List ℕ) → IsStatus answer.status → answer_text answer false false ++ x ≡ received ++ y
      → (65536 < length (head_text answer.status answer.media_type (length answer.body) false)) ⊎ (length (head_text answer.status answer.media_type (length answer.body) false) ≤ 65536) → IsSame answer x y
  fit_case answer x y is same (inl long) = absurd (refused_head answer x y TooLong (long_heads_are_refused limit answer.status answer.media_type (length answer.body) false is long (answer.body ++ x) false) same)
  fit_case answer x y is same (inr fits) = cut_case answer x y (answers_are_read limit answer false is fits) same fits (status_case answer.status is) (media_case answer.media_type) (cases_lt limit (length answer.body))

  answer_is_cut : (answer : Answer) (x y : List ℕ) → IsStatus answer.status → answer_text answer false false ++ x ≡ received ++ y → IsSame answer x y
  answer_is_cut answer x y is same = fit_case answer x y is same (cases_lt 65536 (length (head_text answer.status answer.media_type (length answer.body) false)))

module _ (limit : ℕ) (server : Answering) (statuses : HasStatuses server) where
  cut_all : (all : List Answered) (marks : List Mark) (owed came : List ℕ)
      → AllByRecursion (IsAnswered limit) all → length marks ≡ length all
      → whole_answers server (sent_of all) marks ++ owed ≡ received_of all ++ came
      → AllZip (IsAnswerOver server) all marks × (owed ≡ came)
  cut_all [] [] owed came are count same = (tt, same)
  cut_all [] (m ∷ marks) owed came are count same = absurd (omega arith)
  cut_all (k ∷ all) [] owed came are count same = absurd (omega arith)
  cut_all (k ∷ all) (m ∷ marks) owed came are count same =
      let for_body : answer_for server k.sent m ≡ answer_text (server.answer m k.sent.request) false false =
      ap (λ (v : Bool). answer_text (server.answer m k.sent.request) v false) are.0.not_head in
      let cut = answer_is_cut limit k.received k.body are.0.keeps are.0.whole (server.answer m k.sent.request)
      (whole_answers server (sent_of all) marks ++ owed) (received_of all ++ came)
      (statuses m k.sent.request)
      (ap (λ (t : List ℕ). t ++ (whole_answers server (sent_of all) marks ++ owed)) (sym for_body)
      ∙ sym (append_assoc (answer_for server k.sent m) (whole_answers server (sent_of all) marks) owed) ∙ same ∙ append_assoc k.received (received_of all) came) in
      let rest = cut_all all marks owed came are.1 (omega arith) cut.1 in
      ((record { received = sym cut.0 ∙ sym for_body; status = cut.2; body = cut.3; media_type = cut.4 }, rest.0), rest.1)

  all_sent : (all : List Answered) → AllByRecursion (IsAnswered limit) all → AllByRecursion IsSent (sent_of all)
  all_sent [] are = tt
  all_sent (k ∷ all) are = (are.0.sent, all_sent all are.1)

pub replies_are_cut : RepliesAreCut
replies_are_cut limit server all rest marks came statuses are marked same =
    let n = length all in
    let cut = response_is_cut server (sent_of all) rest (all_sent limit server statuses all are) in
    let count : length marks ≡ length (sent_of all) + length (heads_of rest).heads = cut.marked marks marked in
    let sents : length (sent_of all) ≡ length all = length-map all (λ answered. answered.sent) in
    let split : take (length all) marks ++ drop (length all) marks ≡ marks = take-append-drop (length all) marks in
    let some : length (take (length all) marks) ≡ length all = length-take-le (length all) marks (omega arith) in
    let owed = cut.owed (take (length all) marks) (drop (length all) marks) (some ∙ sym sents) in
    let parts = cut_all limit server statuses all (take (length all) marks) (response_by server rest (drop (length all) marks)) came are some
    (sym owed ∙ ap (response_by server (bytes_of (sent_of all) ++ rest)) split ∙ same) in
    record { first = take (length all) marks; later = drop (length all) marks; split = sym split; each = parts.0; left = sym parts.1 }

-- ---- the next answer

heads_of_one : (next : Sent) → IsSent next → heads_of next.bytes ≡ with_head (Accepted next.request) (heads_of [])
heads_of_one next is = ap heads_of (sym (append-nil next.bytes)) ∙ one_head next [] is

one_owed : (server : Answering) (next : Sent) (mark : Mark) → IsSent next → response_by server next.bytes (mark ∷ []) ≡ answer_for server next mark
unfolding response_by heads_up_to
one_owed server next mark is =
    ap (λ (h : Heads). answers server h.heads (mark ∷ [])) (heads_of_one next is) ∙ append-nil (head_answer server (Accepted next.request) mark) ∙ accepted_answer server next mark is

one_count : (next : Sent) → IsSent next → length (heads_of next.bytes).heads ≡ 1
unfolding heads_up_to
one_count next is = ap (λ (h : Heads). length h.heads) (heads_of_one next is)

one_later : (server : Answering) (before : List Answered) (next : Sent) (marks : List Mark) (came : List ℕ) → IsSent next
    → (first later : List Mark) → marks ≡ first ++ later → AllZip (IsAnswerOver server) before first → came ≡ response_by server next.bytes later → length later ≡ 1
    → NextIsCut server before next marks came
one_later server before next marks came is first [] split each left count = absurd (omega arith)
one_later server before next marks came is first (m ∷ []) split each left count =
    record { first = first; last = m; split = split; each = each; next = left ∙ one_owed server next m is }
one_later server before next marks came is first (m ∷ n ∷ later) split each left count = absurd (omega arith)

pub next_answer_is_cut : NextAnswerIsCut
next_answer_is_cut limit server before next marks came statuses are is marked same =
    let cut = replies_are_cut limit server before next.bytes marks came statuses are marked same in
    let all = (response_is_cut server (sent_of before) next.bytes (all_sent limit server statuses before are)).marked marks marked in
    let sents : length (sent_of before) ≡ length before = length-map before (λ answered. answered.sent) in
    let one = one_count next is in
    let firsts = zip_length (IsAnswerOver server) before cut.first cut.each in
    let whole : length marks ≡ length cut.first + length cut.later = ap (λ (t : List Mark). length t) cut.split ∙ length-append cut.first cut.later in
    one_later server before next marks came is cut.first cut.later cut.split cut.each cut.left (omega arith)
