-- A request past the limit of heads is refused, and its refusal is no reply.
use Rattle.std.proofs.Common.{append-nil, ◌≡◌, ℕ, ◌+◌, ◌<◌, ◌≤◌, Bool, true, false, List, [], ◌∷◌, ◌++◌, length, refl, sym, ap, subst, ◌∙◌, arith, append_assoc, length-append, Some, inl, inr}
use Rattle.std.specs.List.{AllByRecursion}
use Rattle.std.proofs.lemmas.Bool.{cases_lt}
use Rattle.std.proofs.lemmas.List.{length-map}
use Rattle.tpf_base.specs.declared.limits.TheConstants.{HEAD_LIMIT}
use Rattle.tpf_base.specs.Addresses.{Address, authority_of, target_of}
use Rattle.tpf_base.specs.HttpHeads.{Rejected, NextRequest, Refused, next_request, blank_length}
use Rattle.tpf_base.specs.HttpReply.{Whole, reply_of}
use Rattle.tpf_base.specs.HttpConnection.{Heads, last_head, heads_from, after_taken, heads_of}
use Rattle.tpf_base.specs.Marks.{Mark}
use Rattle.http_wire.proofs.FeedLemmas.{next_long}
use Rattle.http_wire.proofs.StayLemmas.{refused_stays}
use Rattle.http_wire.proofs.ConnectionLemmas.{heads_read}
use Rattle.template_fill.specs.HttpAnswer.{answer_text}
use Rattle.template_fill.specs.Responses.{Answering, answers, asks_head, response_by, IsMarkedBy}
use Rattle.http_ends.specs.Requests.{request_for, AddressesArePlain}
use Rattle.http_ends.specs.Answers.{AnswersAreRead, HeadsAreShort, HasStatuses}
use Rattle.http_ends.specs.Cuts.{Answered, Sent, IsSent, IsAnswered, IsAnswerOver, RequestIsSent, ResponseIsCut, RepliesAreCut, sent_for, bytes_of, sent_of, received_of}
use Rattle.http_ends.proofs.EmptyLines.{EndsOnce, head_is_all}
use Rattle.http_ends.proofs.Requests.{request_ends}
use Rattle.list_laws.proofs.Each.{all_append}
use Rattle.list_laws.proofs.Lists.{zip_length}
use Rattle.pool_laws.specs.Following.{IsWebAddress, IsReplied}
use Rattle.pool_laws.proofs.Following.{sent_more, received_more}
use Rattle.pool_laws.proofs.WholeReplies.{too_long, no_too_long, no_nothing}

blank_none : (address : Address) → blank_length (request_for address) ≡ 0
unfolding blank_length
blank_none address = refl

request_once : AddressesArePlain → (address : Address) → IsWebAddress address → EndsOnce (request_for address)
request_once plain address is = let p = plain is.0 address is.1 in request_ends (authority_of address) (target_of address) p.authority p.target

long_next : AddressesArePlain → (address : Address) (more : List ℕ) → IsWebAddress address → HEAD_LIMIT < length (request_for address) → next_request (request_for address ++ more) ≡ Refused 431
long_next plain address more is long =
    refused_stays (request_for address) more 431
    (next_long (request_for address) 0 (Some (length (request_for address))) (length (request_for address)) (sym (blank_none address)) (sym (head_is_all (request_for address) (request_once plain address is))) refl (omega (arith, long)))

-- nothing behind it is read
long_heads : AddressesArePlain → (address : Address) (more : List ℕ) → IsWebAddress address → HEAD_LIMIT < length (request_for address) → heads_of (request_for address ++ more) ≡ last_head (Rejected 431)
long_heads plain address more is long =
    heads_read (request_for address ++ more)
    ∙ ap (λ (n : NextRequest). heads_from (request_for address ++ more) n (heads_of (after_taken (request_for address ++ more) n))) (long_next plain address more is long)

long_response : AddressesArePlain → (server : Answering) (address : Address) (more : List ℕ) (marks : List Mark) → IsWebAddress address → HEAD_LIMIT < length (request_for address)
    → response_by server (request_for address ++ more) marks ≡ answers server (Rejected 431 ∷ []) marks
unfolding response_by
long_response plain server address more marks is long = ap (λ (h : Heads). answers server h.heads marks) (long_heads plain address more is long)

module _ (plain : AddressesArePlain) (reads : AnswersAreRead) (shorts : HeadsAreShort) (limit : ℕ) (server : Answering) where
  refusal_case : (marks : List Mark) (received rest body : List ℕ) (n : ℕ) (keeps at_end : Bool) → reply_of received at_end limit ≡ Whole body n keeps → received ++ rest ≡ answers server (Rejected 431 ∷ []) marks → ⊥
  refusal_case [] received rest body n keeps at_end whole is = no_nothing limit received body n keeps at_end whole rest is
  refusal_case (m ∷ marks) received rest body n keeps at_end whole is = no_too_long reads shorts limit received rest body n keeps at_end whole (sym (append-nil (answer_text too_long false true)) ∙ sym is)

  -- no whole reply stands at the front of the response to it
  pub long_none : (address : Address) (more : List ℕ) (marks : List Mark) (received rest body : List ℕ) (n : ℕ) (keeps at_end : Bool) → IsWebAddress address → HEAD_LIMIT < length (request_for address)
      → reply_of received at_end limit ≡ Whole body n keeps → received ++ rest ≡ response_by server (request_for address ++ more) marks → ⊥
  long_none address more marks received rest body n keeps at_end is long whole same =
      refusal_case marks received rest body n keeps at_end whole (same ∙ long_response plain server address more marks is long)

  -- the response to it alone, with one mark, is its refusal
  one_refusal : (marks : List Mark) (came : List ℕ) → came ≡ answers server (Rejected 431 ∷ []) marks → length marks ≡ 1 → came ≡ answer_text too_long false true
  one_refusal [] came is count = absurd (omega (arith, count))
  one_refusal (m ∷ marks) came is count = is ∙ append-nil (answer_text too_long false true)

  -- ---- so each request that was answered by a whole reply is within the limit

  module _ (sends : RequestIsSent) (cut : RepliesAreCut) (statuses : HasStatuses server) (marks : List Mark) where
    answered_by : (x : Answered) → IsReplied limit x → (r : (a : Address) × IsWebAddress a × (x.sent ≡ sent_for a)) → length (request_for r.0) ≤ HEAD_LIMIT → IsAnswered limit x
    answered_by x h r short = record {
      sent = subst IsSent (sym r.2) (sends r.1.0 r.0 r.1.1 short);
      not_head = ap (λ (s : Sent). asks_head s.request) r.2;
      keeps = h.keeps;
      whole = h.whole;
    }

    all_answered : (all before : List Answered) (tail came : List ℕ) → AllByRecursion (IsAnswered limit) before → AllByRecursion (IsReplied limit) all
        → IsMarkedBy server (bytes_of (sent_of before) ++ (bytes_of (sent_of all) ++ tail)) marks
        → response_by server (bytes_of (sent_of before) ++ (bytes_of (sent_of all) ++ tail)) marks ≡ received_of before ++ (received_of all ++ came)
        → AllByRecursion (IsAnswered limit) all
    all_answered [] before tail came are replied marked same = tt
    all_answered (x ∷ all) before tail came are replied marked same =
        let h = replied.0 in
        let request : x.sent.bytes ≡ request_for h.address = ap (λ (s : Sent). s.bytes) h.sent in
        let bytes : (x.sent.bytes ++ bytes_of (sent_of all)) ++ tail ≡ request_for h.address ++ (bytes_of (sent_of all) ++ tail) =
        append_assoc x.sent.bytes (bytes_of (sent_of all)) tail ∙ ap (λ (t : List ℕ). t ++ (bytes_of (sent_of all) ++ tail)) request in
        elim (cases_lt HEAD_LIMIT (length (request_for h.address))) [
          | inl long ↦ absurd (
              let c = cut limit server before (bytes_of (sent_of (x ∷ all)) ++ tail) marks (received_of (x ∷ all) ++ came) statuses are marked same in
              long_none h.address (bytes_of (sent_of all) ++ tail) c.later x.received (received_of all ++ came) x.body (length x.received) h.keeps false h.is_address long h.whole
              (sym (append_assoc x.received (received_of all) came) ∙ c.left ∙ ap (λ (t : List ℕ). response_by server t c.later) bytes))
          | inr short ↦ (
              let is = answered_by x h (h.address, h.is_address, h.sent) short in
              let sent : bytes_of (sent_of before) ++ ((x.sent.bytes ++ bytes_of (sent_of all)) ++ tail) ≡ bytes_of (sent_of (before ++ x ∷ [])) ++ (bytes_of (sent_of all) ++ tail) =
              ap (λ (t : List ℕ). bytes_of (sent_of before) ++ t) (append_assoc x.sent.bytes (bytes_of (sent_of all)) tail)
              ∙ sym (append_assoc (bytes_of (sent_of before)) x.sent.bytes (bytes_of (sent_of all) ++ tail)) ∙ ap (λ (t : List ℕ). t ++ (bytes_of (sent_of all) ++ tail)) (sym (sent_more before x)) in
              let got : received_of before ++ ((x.received ++ received_of all) ++ came) ≡ received_of (before ++ x ∷ []) ++ (received_of all ++ came) =
              ap (λ (t : List ℕ). received_of before ++ t) (append_assoc x.received (received_of all) came)
              ∙ sym (append_assoc (received_of before) x.received (received_of all ++ came)) ∙ ap (λ (t : List ℕ). t ++ (received_of all ++ came)) (sym (received_more before x)) in (
                is,
                all_answered all (before ++ x ∷ []) tail came (all_append (IsAnswered limit) before (x ∷ []) are (is, tt)) replied.1
                    (subst (λ (t : List ℕ). IsMarkedBy server t marks) sent marked)
                    (ap (λ (t : List ℕ). response_by server t marks) (sym sent) ∙ same ∙ got),
              ))
        ]

    -- the requests before the next one
    pub before_answered : (before : List Answered) (tail came : List ℕ) → AllByRecursion (IsReplied limit) before → IsMarkedBy server (bytes_of (sent_of before) ++ tail) marks
        → response_by server (bytes_of (sent_of before) ++ tail) marks ≡ received_of before ++ came → AllByRecursion (IsAnswered limit) before
    before_answered before tail came replied marked same = all_answered before [] tail came tt replied marked same

    -- and so is the next one
    pub next_short : (before : List Answered) (address : Address) (received rest body : List ℕ) (n : ℕ) (keeps at_end : Bool) → IsWebAddress address → AllByRecursion (IsAnswered limit) before
        → IsMarkedBy server (bytes_of (sent_of before) ++ request_for address) marks → response_by server (bytes_of (sent_of before) ++ request_for address) marks ≡ received_of before ++ (received ++ rest)
        → reply_of received at_end limit ≡ Whole body n keeps → length (request_for address) ≤ HEAD_LIMIT
    next_short before address received rest body n keeps at_end is are marked same whole =
        elim (cases_lt HEAD_LIMIT (length (request_for address))) [
          | inr short ↦ short
          | inl long ↦ absurd (
              let c = cut limit server before (request_for address) marks (received ++ rest) statuses are marked same in
              long_none address [] c.later received rest body n keeps at_end is long whole (c.left ∙ ap (λ (t : List ℕ). response_by server t c.later) (sym (append-nil (request_for address)))))
        ]

    all_sent : (all : List Answered) → AllByRecursion (IsAnswered limit) all → AllByRecursion IsSent (sent_of all)
    all_sent [] are = tt
    all_sent (x ∷ all) are = (are.0.sent, all_sent all are.1)

    -- and where the next one is not, what comes is its refusal
    pub next_refused : ResponseIsCut → (before : List Answered) (address : Address) (came : List ℕ) → IsWebAddress address → HEAD_LIMIT < length (request_for address) → AllByRecursion (IsAnswered limit) before
        → IsMarkedBy server (bytes_of (sent_of before) ++ request_for address) marks → response_by server (bytes_of (sent_of before) ++ request_for address) marks ≡ received_of before ++ came
        → came ≡ answer_text too_long false true
    next_refused responses before address came is long are marked same =
        let c = cut limit server before (request_for address) marks came statuses are marked same in
        let count : length marks ≡ length (sent_of before) + length (heads_of (request_for address)).heads = (responses server (sent_of before) (request_for address) (all_sent before are)).marked marks marked in
        let sents : length (sent_of before) ≡ length before = length-map before (λ answered. answered.sent) in
        let one : length (heads_of (request_for address)).heads ≡ 1 =
        ap (λ (t : List ℕ). length (heads_of t).heads) (sym (append-nil (request_for address))) ∙ ap (λ (h : Heads). length h.heads) (long_heads plain address [] is long) in
        let firsts : length before ≡ length c.first = zip_length (IsAnswerOver server) before c.first c.each in
        let split : length marks ≡ length c.first + length c.later = ap (λ (t : List Mark). length t) c.split ∙ length-append c.first c.later in
        one_refusal c.later came (c.left ∙ ap (λ (t : List ℕ). response_by server t c.later) (sym (append-nil (request_for address))) ∙ long_response plain server address [] c.later is long)
        (omega (arith, count, sents, one, firsts, split))
