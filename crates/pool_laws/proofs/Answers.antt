-- A reply that comes is an answer of the honest end of its link.
use Rattle.std.proofs.Common.{ℕ, ◌≡◌, ◌<◌, ◌≤◌, ◌++◌, List, [], ◌∷◌, length, Option, Some, Bool, true, false, refl, sym, ◌∙◌, ap, subst, inl, inr, append_assoc}
use Rattle.std.specs.Prelude.{◌^◌}
use Rattle.std.specs.List.{AllByRecursion}
use Rattle.std.proofs.lemmas.Bool.{cases_lt}
use Rattle.rdf_terms.specs.declared.term.Triple.{Triple}
use Rattle.tpf_base.specs.declared.limits.TheConstants.{HEAD_LIMIT}
use Rattle.tpf_base.specs.Addresses.{Address}
use Rattle.tpf_base.specs.HttpReply.{ReplyFault, TooLong, More, Whole, Bad, reply_of}
use Rattle.tpf_base.specs.Links.{All, Tells, WireState, IsToldBy, told_by, some_left}
use Rattle.tpf_base.specs.Marks.{Mark, version_at}
use Rattle.http_wire.specs.declared.message.ReplyFault.{ReplyFault as Refusal}
use Rattle.http_wire.specs.Replies.{shown_fault}
use Rattle.template_fill.specs.Authorities.{AuthoritiesAreHostsAndPorts}
use Rattle.template_fill.specs.HttpAnswer.{Answer, answer_text}
use Rattle.template_fill.specs.Metadata.{Config}
use Rattle.template_fill.specs.Answers.{answer_to}
use Rattle.template_fill.specs.Responses.{Answering, answering, response_by, IsMarkedBy, IsVersion, IsHonestAt}
use Rattle.http_ends.specs.Requests.{request_for, asks}
use Rattle.http_ends.specs.Cuts.{Answered, sent_for, bytes_of, sent_of, received_of}
use Rattle.http_ends.proofs.Answers.{status_case}
use Rattle.pool_laws.specs.Honest.{IsAnsweredByAll}
use Rattle.request_pool.specs.declared.fault.PoolFault.TheVariants as faults
use Rattle.list_laws.proofs.Each.{all_last, all_always}
use Rattle.pool_laws.proofs.HonestLemmas.{no_reload, over_version}
use Rattle.pool_laws.specs.Ends.{EndsAreTrue}
use Rattle.pool_laws.specs.Following.{IsWebAddress, IsReplied}
use Rattle.pool_laws.specs.Causes.{RepliedOn}
use Rattle.pool_laws.specs.Answers.{TellsAll, IsHonestOver, IsBodyOf, IsBodyOver, HasLongBody, IsLongPage, IsRefusedOver, RepliesAreAnswers, RefusalsAreTooLong, CutsAreFaults}
use Rattle.pool_laws.proofs.WholeReplies.{status_is, page_body_is, page_refusal, page_is_long, other_refusal, left_some, rest_some, too_long, refusal_some}
use Rattle.pool_laws.proofs.LongRequests.{before_answered, next_short, next_refused}
use Rattle.pool_laws.proofs.Causes.{replies_are_read, faults_have_causes}

-- ---- what was received on one link

-- what is owed behind the replies before
owed_is : (server : Answering) (marks : List Mark) (all request s r o before received rest : List ℕ)
    → s ≡ all ++ request → r ≡ before ++ received → o ≡ r ++ rest → o ≡ response_by server s marks
    → response_by server (all ++ request) marks ≡ before ++ (received ++ rest)
owed_is server marks all request s r o before received rest is_sent is_received front owed =
    ap (λ t. response_by server t marks) (sym is_sent) ∙ sym owed ∙ front ∙ ap (λ t. t ++ rest) is_received ∙ append_assoc before received rest

-- ---- what is owed on its link

told_all : (tells : Tells) (peer : List ℕ × ℕ) → tells ≡ All → told_by tells peer ≡ Some peer
told_all tells peer e = ap (λ (x : Tells). told_by x peer) e

-- what is owed is the response to the requests, of which this was received
pub record IsOwed (history : List (List Triple)) (config : Config) (before : List Answered) (address : Address) (received : List ℕ) (owed : Option (List ℕ)) (had : Option (List ℕ)) : Type 0 where
  marks : List Mark
  rest : List ℕ
  marked : IsMarkedBy (answering history config) (bytes_of (sent_of before) ++ request_for address) marks
  same : response_by (answering history config) (bytes_of (sent_of before) ++ request_for address) marks ≡ received_of before ++ (received ++ rest)
  all : List ℕ
  is_had : had ≡ Some all
  is_owed : owed ≡ Some (all ++ rest)

-- and so over marks of served versions
record IsOwedOver (history : List (List Triple)) (config : Config) (served : ℕ → Bool) (before : List Answered) (address : Address) (received : List ℕ) (owed : Option (List ℕ)) (had : Option (List ℕ)) : Type 0 where
  is_owed : IsOwed history config before address received owed had
  are_served : AllByRecursion (λ mark. served (version_at mark) ≡ true) is_owed.marks

-- where each version may be served
pub over_any : (allows : List ℕ → ℕ → List ℕ → List ℕ → Type 0) (host : List ℕ) (port : ℕ) (history : List (List Triple)) (config : Config) → IsHonestAt allows host port (answering history config) → IsHonestOver allows host port history config (λ version. true)
over_any allows host port history config honest = λ sent owed may.
    let o = honest sent owed may in
    record { marks = o.0; marked = o.1.0; are_served = all_always (λ mark. true ≡ true) (λ mark. refl) o.0; owed_is = o.1.1 }

module _ (allows : List ℕ → ℕ → List ℕ → List ℕ → Type 0) (history : List (List Triple)) (config : Config) (limit : ℕ) (address : Address) (received : List ℕ) (after : WireState) where
  owed_over : (served : ℕ → Bool) (on : RepliedOn limit address received after) → TellsAll allows after → IsHonestOver allows address.host address.port history config served
      → IsOwedOver history config served on.before address received (after.links on.k).owed (after.links on.k).received
  owed_over served on tells honest =
      let told : IsToldBy All (after.links on.k) = subst (λ (x : Tells). IsToldBy x (after.links on.k)) tells.all (tells.told on.k) in
      let sent : told.0.sent ≡ bytes_of (sent_of on.before) ++ request_for address = on.sent_is told.0.sent told.0.is_sent in
      let came : told.0.received ≡ received_of on.before ++ received = on.received_is told.0.received told.0.is_received in
      let front = tells.received on.k told.0.received told.1.0 told.0.is_received told.1.1 in
      let peer : (after.links on.k).peer ≡ Some (address.host, address.port) = on.peer ∙ told_all after.nature.tells (address.host, address.port) tells.all in
      let owed = honest told.0.sent told.1.0 (tells.owed on.k address.host address.port told.0.sent told.1.0 peer told.0.is_sent told.1.1) in
      record {
        is_owed = record {
          marks = owed.marks;
          rest = front.0;
          marked = subst (λ (t : List ℕ). IsMarkedBy (answering history config) t owed.marks) sent owed.marked;
          same = owed_is (answering history config) owed.marks (bytes_of (sent_of on.before)) (request_for address) told.0.sent told.0.received told.1.0 (received_of on.before) received front.0 sent came front.1 owed.owed_is;
          all = told.0.received;
          is_had = told.0.is_received;
          is_owed = told.1.1 ∙ ap (λ (t : List ℕ). Some t) front.1;
        };
        are_served = owed.are_served;
      }

  pub owed_on : (on : RepliedOn limit address received after) → TellsAll allows after → IsHonestAt allows address.host address.port (answering history config)
      → IsOwed history config on.before address received (after.links on.k).owed (after.links on.k).received
  owed_on on tells honest = (owed_over (λ version. true) on tells (over_any allows address.host address.port history config honest)).is_owed

-- what is owed to a request within the limit is the answer to it, over the last of the marks
record IsAnswer (history : List (List Triple)) (config : Config) (marks : List Mark) (address : Address) (text : List ℕ) : Type 0 where
  first : List Mark
  mark : Mark
  split : marks ≡ first ++ mark ∷ []
  version : IsVersion (length history) mark
  same : text ≡ answer_text (answer_to history mark config (asks address)) false false

-- a body of an answer, over the last of the marks
record IsBodyAmong (history : List (List Triple)) (config : Config) (marks : List Mark) (address : Address) (body : List ℕ) : Type 0 where
  is_body : IsBodyOf history config address body
  first : List Mark
  split : marks ≡ first ++ is_body.mark ∷ []

last_served : (served : ℕ → Bool) (marks first : List Mark) (mark : Mark) → marks ≡ first ++ mark ∷ [] → AllByRecursion (λ m. served (version_at m) ≡ true) marks → served (version_at mark) ≡ true
last_served served marks first mark split are = all_last (λ (m : Mark). served (version_at m) ≡ true) first mark (subst (λ (l : List Mark). AllByRecursion (λ m. served (version_at m) ≡ true) l) split are)

module _ (laws : EndsAreTrue) (history : List (List Triple)) (config : Config) (limit : ℕ) (address : Address) (received : List ℕ) (is : IsWebAddress address) where
  next_is : (before : List Answered) (owed had : Option (List ℕ)) → AllByRecursion (IsReplied limit) before → length (request_for address) ≤ HEAD_LIMIT → (o : IsOwed history config before address received owed had) → IsAnswer history config o.marks address (received ++ o.rest)
  next_is before owed had replied short o =
      let server = answering history config in
      let statuses = laws.status history config in
      let are = before_answered laws.plain laws.reads laws.short limit server laws.sends laws.replies statuses o.marks before (request_for address) (received ++ o.rest) replied o.marked o.same in
      let cut = laws.next limit server before (sent_for address) o.marks (received ++ o.rest) statuses are (laws.sends is.0 address is.1 short) o.marked o.same in
      record {
        first = cut.first;
        mark = cut.last;
        split = cut.split;
        version = all_last (IsVersion (length history)) cut.first cut.last (subst (λ (m : List Mark). AllByRecursion (IsVersion (length history)) m) cut.split o.marked.versions);
        same = cut.next;
      }

  -- a request that a whole reply follows is within the limit
  whole_short : (before : List Answered) (owed had : Option (List ℕ)) (body : List ℕ) (n : ℕ) (keeps at_end : Bool) → AllByRecursion (IsReplied limit) before → IsOwed history config before address received owed had
      → reply_of received at_end limit ≡ Whole body n keeps → length (request_for address) ≤ HEAD_LIMIT
  whole_short before owed had body n keeps at_end replied o whole =
      let server = answering history config in
      let statuses = laws.status history config in
      let are = before_answered laws.plain laws.reads laws.short limit server laws.sends laws.replies statuses o.marks before (request_for address) (received ++ o.rest) replied o.marked o.same in
      next_short laws.plain laws.reads laws.short limit server laws.sends laws.replies statuses o.marks before address received o.rest body n keeps at_end is are o.marked o.same whole

  -- ---- a reply

  whole_body : limit < 2 ^ 64 → (before : List Answered) (owed had : Option (List ℕ)) (body : List ℕ) (n : ℕ) (keeps at_end : Bool) → AllByRecursion (IsReplied limit) before → (o : IsOwed history config before address received owed had)
      → reply_of received at_end limit ≡ Whole body n keeps → IsBodyAmong history config o.marks address body
  whole_body small before owed had body n keeps at_end replied o whole =
      let a = next_is before owed had replied (whole_short before owed had body n keeps at_end replied o whole) o in
      let answer = answer_to history a.mark config (asks address) in
      let known = laws.status history config a.mark (asks address) in
      let read = laws.server limit history a.mark config (asks address) false small in
      let ok = status_is limit received body n keeps at_end whole laws.long answer o.rest known read (sym a.same) (status_case answer.status known) in
      let page = laws.pages history a.mark config (asks address) (no_reload config address) ok in
      record {
        is_body = record {
          mark = a.mark;
          version = a.version;
          no_reload = no_reload config address;
          served = over_version history a.mark config address;
          status = ok;
          media_type = page;
          body_is = page_body_is limit received body n keeps at_end whole answer o.rest read ok page (sym a.same);
        };
        first = a.first;
        split = a.split;
      }

  whole_over : limit < 2 ^ 64 → (served : ℕ → Bool) (before : List Answered) (owed had : Option (List ℕ)) (body : List ℕ) (n : ℕ) (keeps at_end : Bool) → AllByRecursion (IsReplied limit) before → IsOwedOver history config served before address received owed had
      → reply_of received at_end limit ≡ Whole body n keeps → IsBodyOver history config served address body
  whole_over small served before owed had body n keeps at_end replied o whole =
      let b = whole_body small before owed had body n keeps at_end replied o.is_owed whole in
      record { is_body = b.is_body; is_served = last_served served o.is_owed.marks b.first b.is_body.mark b.split o.are_served }

  -- ---- a refusal

  ok_at : IsAnsweredByAll history config address → (mark : Mark) → IsVersion (length history) mark → (answer_to history mark config (asks address)).status ≡ 200
  ok_at every mark version = ap (λ (a : Answer). a.status) (over_version history mark config address) ∙ every (version_at mark) version.low version.high

  refused_why : limit < 2 ^ 64 → (before : List Answered) (owed had : Option (List ℕ)) (why : ReplyFault) → AllByRecursion (IsReplied limit) before → (o : IsOwed history config before address received owed had) → length (request_for address) ≤ HEAD_LIMIT
      → IsAnsweredByAll history config address → reply_of received false limit ≡ Bad why → why ≡ TooLong
  refused_why small before owed had why replied o short every bad =
      let a = next_is before owed had replied short o in
      let answer = answer_to history a.mark config (asks address) in
      let ok = ok_at every a.mark a.version in
      let page = laws.pages history a.mark config (asks address) (no_reload config address) ok in
      page_refusal limit answer (received ++ o.rest) why (laws.server limit history a.mark config (asks address) false small) ok page a.same ((laws.stays limit received).bad why bad o.rest false)

  refused_long : limit < 2 ^ 64 → (before : List Answered) (owed had : Option (List ℕ)) (why : ReplyFault) → AllByRecursion (IsReplied limit) before → (o : IsOwed history config before address received owed had) → length (request_for address) ≤ HEAD_LIMIT
      → IsAnsweredByAll history config address → reply_of received false limit ≡ Bad why → HasLongBody history config limit address received
  refused_long small before owed had why replied o short every bad =
      let a = next_is before owed had replied short o in
      let answer = answer_to history a.mark config (asks address) in
      let ok = ok_at every a.mark a.version in
      let page = laws.pages history a.mark config (asks address) (no_reload config address) ok in
      record {
        body = answer.body;
        is_body = record {
          mark = a.mark;
          version = a.version;
          no_reload = no_reload config address;
          served = over_version history a.mark config address;
          status = ok;
          media_type = page;
          body_is = refl;
        };
        long = page_is_long limit answer (received ++ o.rest) why (laws.server limit history a.mark config (asks address) false small) ok page a.same ((laws.stays limit received).bad why bad o.rest false);
        rest = o.rest;
        answer_is = sym a.same;
      }

  -- a page is refused as too long
  long_page : limit < 2 ^ 64 → (mark : Mark) (why : ReplyFault) (rest : List ℕ) → IsVersion (length history) mark → received ++ rest ≡ answer_text (answer_to history mark config (asks address)) false false
      → reply_of (received ++ rest) false limit ≡ Bad why → (answer_to history mark config (asks address)).status ≡ 200 → IsLongPage history config limit (shown_fault why) mark address received
  long_page small mark why rest version same bad ok =
      let answer = answer_to history mark config (asks address) in
      let page = laws.pages history mark config (asks address) (no_reload config address) ok in
      let read = laws.server limit history mark config (asks address) false small in
      record {
        fault_is = ap shown_fault (page_refusal limit answer (received ++ rest) why read ok page same bad);
        long = record {
          body = answer.body;
          is_body = record {
            mark = mark;
            version = version;
            no_reload = no_reload config address;
            served = over_version history mark config address;
            status = ok;
            media_type = page;
            body_is = refl;
          };
          long = page_is_long limit answer (received ++ rest) why read ok page same bad;
          rest = rest;
          answer_is = sym same;
        };
        same = refl;
      }

  refused_over : limit < 2 ^ 64 → (served : ℕ → Bool) (before : List Answered) (owed had : Option (List ℕ)) (why : ReplyFault) → AllByRecursion (IsReplied limit) before → IsOwedOver history config served before address received owed had
      → length (request_for address) ≤ HEAD_LIMIT → reply_of received false limit ≡ Bad why → IsRefusedOver history config served limit (shown_fault why) address received
  refused_over small served before owed had why replied o short bad =
      let a = next_is before owed had replied short o.is_owed in
      let answer = answer_to history a.mark config (asks address) in
      let all = (laws.stays limit received).bad why bad o.is_owed.rest false in
      record {
        mark = a.mark;
        version = a.version;
        is_served = last_served served o.is_owed.marks a.first a.mark a.split o.are_served;
        over = over_version history a.mark config address;
        page = λ ok. long_page small a.mark why o.is_owed.rest a.version a.same all ok;
        other = λ no. ap shown_fault (other_refusal limit answer (received ++ o.is_owed.rest) why (laws.server limit history a.mark config (asks address) false small) no a.same all);
      }

  -- ---- a cut

  -- what is owed to a request past the limit is its refusal
  refusal_is : (before : List Answered) (owed had : Option (List ℕ)) → AllByRecursion (IsReplied limit) before → HEAD_LIMIT < length (request_for address) → (o : IsOwed history config before address received owed had) → received ++ o.rest ≡ answer_text too_long false true
  refusal_is before owed had replied long o =
      let server = answering history config in
      let statuses = laws.status history config in
      let are = before_answered laws.plain laws.reads laws.short limit server laws.sends laws.replies statuses o.marks before (request_for address) (received ++ o.rest) replied o.marked o.same in
      next_refused laws.plain laws.reads laws.short limit server laws.sends laws.replies statuses o.marks laws.responses before address (received ++ o.rest) is long are o.marked o.same

  cut_answer : (at_end : Bool) → limit < 2 ^ 64 → (before : List Answered) (owed had : Option (List ℕ)) → AllByRecursion (IsReplied limit) before → IsOwed history config before address received owed had → length (request_for address) ≤ HEAD_LIMIT
      → reply_of received at_end limit ≡ More → some_left had owed ≡ true
  cut_answer at_end small before owed had replied o short more =
      let a = next_is before owed had replied short o in
      let answer = answer_to history a.mark config (asks address) in
      left_some owed had o.all o.rest o.is_had o.is_owed
      (rest_some limit at_end received o.rest answer (laws.server limit history a.mark config (asks address) false small) (laws.pages history a.mark config (asks address) (no_reload config address)) a.same more
      (status_case answer.status (laws.status history config a.mark (asks address))))

  -- a part of either was not received
  pub cut_short : (at_end : Bool) → limit < 2 ^ 64 → (before : List Answered) (owed had : Option (List ℕ)) → AllByRecursion (IsReplied limit) before → IsOwed history config before address received owed had
      → reply_of received at_end limit ≡ More → some_left had owed ≡ true
  cut_short at_end small before owed had replied o more =
      elim (cases_lt HEAD_LIMIT (length (request_for address))) [
        | inr short ↦ cut_answer at_end small before owed had replied o short more
        | inl long ↦ left_some owed had o.all o.rest o.is_had o.is_owed (refusal_some laws.reads laws.short limit at_end received o.rest (refusal_is before owed had replied long o) more)
      ]

-- ---- steps

pub replies_are_answers : EndsAreTrue → AuthoritiesAreHostsAndPorts → (allows : List ℕ → ℕ → List ℕ → List ℕ → Type 0) (after : WireState) → RepliesAreAnswers allows after
replies_are_answers laws one allows after ticket address answer old new before given suits so_far small tells steps =
    let r = replies_are_read one ticket address answer old new before after given suits so_far steps in
    record {
      hands = r.hands;
      body = λ history config honest. (whole_body laws history config old.limit r.hands.ask.address r.received r.on.is_address small r.on.before _ _ answer.body r.n answer.keeps r.at_end r.on.replied
          (owed_on allows history config old.limit r.hands.ask.address r.received after r.on tells honest) r.whole).is_body;
      over = λ history config served honest. whole_over laws history config old.limit r.hands.ask.address r.received r.on.is_address small served r.on.before _ _ answer.body r.n answer.keeps r.at_end r.on.replied
          (owed_over allows history config old.limit r.hands.ask.address r.received after served r.on tells honest) r.whole;
    }

pub refusals_are_too_long : EndsAreTrue → AuthoritiesAreHostsAndPorts → (allows : List ℕ → ℕ → List ℕ → List ℕ → Type 0) (after : WireState) → RefusalsAreTooLong allows after
refusals_are_too_long laws one allows after fault received old new before given suits so_far small tells steps =
    let r = faults_have_causes one (faults.Reply fault received) old new before after given suits so_far steps in
    record {
      refused = r;
      too_long = λ history config honest short every. r.is_fault ∙ ap shown_fault (refused_why laws history config old.limit r.loses.ask.address received r.loses.on.is_address small r.loses.on.before _ _ r.why r.loses.on.replied
          (owed_on allows history config old.limit r.loses.ask.address received after r.loses.on tells honest) short every r.bad);
      long = λ history config honest short every. refused_long laws history config old.limit r.loses.ask.address received r.loses.on.is_address small r.loses.on.before _ _ r.why r.loses.on.replied
          (owed_on allows history config old.limit r.loses.ask.address received after r.loses.on tells honest) short every r.bad;
      over = λ history config served honest short.
          subst (λ (f : Refusal). IsRefusedOver history config served old.limit f r.loses.ask.address received) (sym r.is_fault)
          (refused_over laws history config old.limit r.loses.ask.address received r.loses.on.is_address small served r.loses.on.before _ _ r.why r.loses.on.replied
          (owed_over allows history config old.limit r.loses.ask.address received after served r.loses.on tells honest) short r.bad);
    }

pub cuts_are_faults : EndsAreTrue → AuthoritiesAreHostsAndPorts → (allows : List ℕ → ℕ → List ℕ → List ℕ → Type 0) (after : WireState) → CutsAreFaults allows after
cuts_are_faults laws one allows after received old new before given suits so_far small tells steps =
    let r = faults_have_causes one (faults.Cut received) old new before after given suits so_far steps in
    record {
      cut = r;
      rose = λ history config honest. r.short (cut_short laws history config old.limit r.loses.ask.address received r.loses.on.is_address true small r.loses.on.before _ _ r.loses.on.replied
          (owed_on allows history config old.limit r.loses.ask.address received after r.loses.on tells honest) r.more);
    }
