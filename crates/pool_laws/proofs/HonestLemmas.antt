-- A refused reply is an answer whose body is too long.
use Rattle.std.proofs.Common.{ℕ, ◌≡◌, List, ◌++◌, length, false, refl, sym, ◌∙◌, ap, subst, append_assoc}
use Rattle.std.specs.List.{AllByRecursion}
use Rattle.list_laws.proofs.Each.{all_last}
use Rattle.rdf_terms.specs.declared.term.Triple.{Triple}
use Rattle.tpf_base.specs.Addresses.{Address}
use Rattle.http_wire.specs.Replies.{shown_fault}
use Rattle.template_fill.specs.HttpAnswer.{Answer}
use Rattle.template_fill.specs.Metadata.{Config}
use Rattle.tpf_base.specs.Marks.{Mark, Served, version_at}
use Rattle.template_fill.specs.Answers.{is_reload, answer_to}
use Rattle.template_fill.specs.Responses.{answering, response, IsMarked, IsVersion}
use Rattle.http_ends.specs.Requests.{request_for, asks}
use Rattle.http_ends.specs.Answers.{AnswersHaveStatus, PagesAreNQuads, ServerAnswersAreRead, ReadingsStay}
use Rattle.http_ends.specs.Cuts.{RequestIsSent, NextAnswerIsCut, sent_for, bytes_of, sent_of, received_of}
use Rattle.exchange.specs.Exchanges.{request_of}
use Rattle.pool_laws.specs.Honest.{RefusedAsTooLongAlone}
use Rattle.pool_laws.proofs.WholeReplies.{page_refusal, page_is_long}

request_is : request_of ≡ request_for
unfolding request_of
request_is = refl

-- what is owed behind the replies before is the answer to the request
owed_is : (history : List (List Triple)) (config : Config) (marks : List Mark) (all request s r o before received rest : List ℕ)
    → s ≡ all ++ request → r ≡ before ++ received → o ≡ r ++ rest → o ≡ response history config s marks
    → response history config (all ++ request) marks ≡ before ++ (received ++ rest)
owed_is history config marks all request s r o before received rest is_sent is_received front owed =
    ap (λ t. response history config t marks) (sym is_sent) ∙ sym owed ∙ front ∙ ap (λ t. t ++ rest) is_received ∙ append_assoc before received rest

-- the request for an address asks for no reload, so its answer is one over a version
pub no_reload : (config : Config) (address : Address) → is_reload config (asks address) ≡ false
unfolding is_reload
no_reload config address = refl

pub over_version : (history : List (List Triple)) (mark : Mark) (config : Config) (address : Address) → answer_to history mark config (asks address) ≡ answer_to history (Served (version_at mark)) config (asks address)
unfolding answer_to is_reload
over_version history mark config address = refl

pub refused_as_too_long : NextAnswerIsCut → RequestIsSent → AnswersHaveStatus → PagesAreNQuads → ServerAnswersAreRead → ReadingsStay → RefusedAsTooLongAlone
refused_as_too_long next is_sent statuses pages reads stays history config before limit text old new wire wire' fault received refused told receives owes stands answered address short small every =
    let request : request_of new.address ≡ request_for new.address = ap (λ f. f new.address) request_is in
    let sent : told.0.sent ≡ bytes_of (sent_of before) ++ request_for new.address =
    refused.ends.sent_is _ _ stands told.0.sent told.0.is_sent ∙ ap (λ t. bytes_of (sent_of before) ++ t) request in
    let came : told.0.received ≡ received_of before ++ received = refused.ends.received_is _ _ stands told.0.received told.0.is_received in
    let front = receives told.0.received told.1.0 told.0.is_received told.1.1 in
    let owed = owes told.0.sent told.1.0 told.0.is_sent told.1.1 in
    let marked : IsMarked history config (bytes_of (sent_of before) ++ request_for new.address) owed.0 = subst (λ (t : List ℕ). IsMarked history config t owed.0) sent owed.1.0 in
    let cut = next limit (answering history config) before (sent_for new.address) owed.0 (received ++ front.0) (statuses history config) answered (is_sent text new.address address short) marked
    (owed_is history config owed.0 (bytes_of (sent_of before)) (request_for new.address) told.0.sent told.0.received told.1.0 (received_of before) received front.0 sent came front.1 owed.1.1) in
    let version = all_last (IsVersion (length history)) cut.first cut.last (subst (λ (m : List Mark). AllByRecursion (IsVersion (length history)) m) cut.split marked.versions) in
    let status : (answer_to history cut.last config (asks new.address)).status ≡ 200 =
    ap (λ (a : Answer). a.status) (over_version history cut.last config new.address) ∙ every (version_at cut.last) version.low version.high in
    let page = pages history cut.last config (asks new.address) (no_reload config new.address) status in
    let bad = (stays new.limit received).bad refused.why refused.bad front.0 false in
    let answer = answer_to history cut.last config (asks new.address) in
    let read = reads new.limit history cut.last config (asks new.address) false small in (
      refused.is_fault ∙ ap shown_fault (page_refusal new.limit answer (received ++ front.0) refused.why read status page cut.next bad),
      record { mark = cut.last; version = version; long = page_is_long new.limit answer (received ++ front.0) refused.why read status page cut.next bad },
    )
