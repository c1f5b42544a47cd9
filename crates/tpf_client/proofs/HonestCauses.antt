-- Why a call that is covered by an offer fails.
use Rattle.std.proofs.Common.{ℕ, ◌≡◌, ◌<◌, ◌^◌, ◌⊎◌, inl, inr, List, length, Option, Some, refl, sym, ap, subst, ◌∙◌}
use Rattle.std.specs.List.{Contains}
use Rattle.std.proofs.lemmas.Bool.{cases_eq}
use Rattle.std.proofs.lemmas.List.Sorted.{IsPermutation-sym, Contains-permutation}
use Rattle.list_laws.proofs.Told.{all_in}
use Rattle.list_laws.proofs.Members.{at_head}
use Rattle.tpf_base.specs.Addresses.{Address}
use Rattle.tpf_base.specs.Links.{WireState}
use Rattle.tpf_base.specs.Marks.{version_at}
use Rattle.http_wire.specs.declared.message.Reply.{Reply}
use Rattle.http_wire.specs.declared.message.ReplyFault.{ReplyFault}
use Rattle.http_wire.specs.declared.message.ReplyFault.TheVariants as refusals
use Rattle.http_ends.specs.Requests.{asks}
use Rattle.request_plan.specs.Evaluations.{HasHome}
use Rattle.template_fill.specs.HttpAnswer.{Answer}
use Rattle.template_fill.specs.Answers.{answer_to}
use Rattle.fragment_page.specs.declared.page.PageFault.{PageFault}
use Rattle.control_reader.specs.Takes.{Takes, Faults}
use Rattle.bgp_core.specs.Queries.{QueryData}
use Rattle.request_pool.specs.declared.fault.PoolFault.TheVariants as pool
use Rattle.request_pool.specs.Pools.{Ask, held}
use Rattle.pool_laws.specs.Answers.{IsHonestOver, IsBodyOf, IsBodyOver, Brings, IsTooLong, IsRefusedOver, HasLongBody}
use Rattle.tpf_client.specs.declared.options.Options.{Options}
use Rattle.tpf_client.specs.declared.fault.ClientFault.{ClientFault}
use Rattle.tpf_client.specs.declared.fault.ClientFault.TheVariants as faults
use Rattle.tpf_client.specs.Traffic.{Came, Broke, EndsWith, IsLawful, without_fault, Comes, StepBreaks}
use Rattle.tpf_client.specs.Turns.{asked_in}
use Rattle.tpf_client.specs.Sources.{Sources}
use Rattle.tpf_client.specs.Offers.{Publisher, Offer}
use Rattle.tpf_client.specs.Honest.{Laws}
use Rattle.tpf_client.specs.Requests.{TrafficLaws}
use Rattle.tpf_client.specs.Causes.{IsNoPage, IsChanged}
use Rattle.tpf_client.specs.Plans.{AtEach, AtChosen, IsShort, IsAnswerable, IsAnsweredAt, IsReadByAll, IsLongAnswer, IsPageGone, RefusesLong, MissesPage, ChangesVersion, IsHonestCause, answer_at}
use Rattle.tpf_client.specs.Acts.{IsHonestCauseOf}
use Rattle.tpf_client.proofs.Endings.{ending, lost-in}
use Rattle.tpf_client.proofs.Gone.{gone}
use Rattle.tpf_client.proofs.Caused.{distinct-after}
use Rattle.tpf_client.proofs.Distinct.{one-ask, none-distinct}
use Rattle.tpf_client.proofs.Known.{begun, knows-so}
use Rattle.tpf_client.proofs.Covered.{Covered}
use Rattle.tpf_client.proofs.Answered.{replies-answer, refusals-long}
use Rattle.tpf_client.proofs.Planned.{RunOf, ExplainedRun, in-plan}
use Rattle.tpf_client.proofs.Rises.{tells-on, small-limit}
use Rattle.tpf_client.proofs.Truth.{ReadsVersion, reads}

module _ (laws : Laws) (traffic : TrafficLaws) (allows : List ℕ → ℕ → List ℕ → List ℕ → Type 0) (options : Options) (since now : WireState) (lawful : IsLawful allows since) (limit : options.max_body < 2 ^ 64) (starts : List Address)
    (sources : Sources) (offer : Offer) (q : QueryData) (covered : Covered sources offer allows options since now starts q) where
  abbrev Run : ClientFault → Type 0
  Run fault = ExplainedRun allows offer options since now starts fault

  -- an ask of the call has the authority of a start
  pub own-ask : (run : RunOf allows options starts since now) (ask : Ask) → Contains (asked_in run.events) ask → HasHome starts ask.address
  own-ask run ask c = all_in (λ (a : Ask). HasHome starts a.address) (asked_in run.events) ask run.asks c

  -- ---- a refused reply

  -- it is the answer to an address of the plan by the server that stands there, over a version that is served
  pub record RefusedAt (fault : ReplyFault) (received : List ℕ) (x : Run (faults.Reply fault received)) : Type 0 where
    pub address : Address
    pub own : HasHome starts address
    pub inside : Contains (offer.addresses x.planned.choice) address
    pub over : IsShort address → IsRefusedOver (covered.stands address own).server.history (covered.stands address own).server.config (covered.stands address own).served options.max_body fault address received
    pub too_long : IsAnswerable (covered.stands address own).server address → fault ≡ refusals.TooLong
    pub long : IsAnswerable (covered.stands address own).server address → HasLongBody (covered.stands address own).server.history (covered.stands address own).server.config options.max_body address received

  pub refused-at : (fault : ReplyFault) (received : List ℕ) (x : Run (faults.Reply fault received)) → RefusedAt fault received x
  refused-at fault received x =
      let run = x.planned.run in
      let e = ending laws traffic allows options since now lawful starts run.events (Broke (pool.Reply fault received)) run.pool x.explains run.runs run.asks in
      let h : StepBreaks (pool.Reply fault received) e.mid run.pool e.between run.runs.between = e.last.happens in
      let tells = tells-on allows options since starts covered.tells (length (asked_in run.events)) run.pool run.runs.between
      (knows-so laws traffic starts options allows since lawful run.events run.pool run.runs.between run.asks run.runs.travels) e.last.lawful in
      let small = small-limit options limit e.mid.limit e.limit in
      let t : IsTooLong allows fault received e.mid (without_fault run.pool) e.between run.runs.between =
      refusals-long laws allows run.runs.between fault received e.mid (without_fault run.pool) e.between e.given e.suits e.knows.answers small tells h.steps in
      let ask = t.refused.loses.ask in
      let asked = lost-in laws traffic allows options since now lawful starts run.events (Broke (pool.Reply fault received)) run.pool run.runs e (without_fault run.pool) ask h.had_none t.refused.loses.others in
      let own = own-ask run ask asked in
      let s = covered.stands ask.address own in
      record {
        address = ask.address;
        own = own;
        inside = in-plan offer (asked_in run.events) x.planned.choice x.planned.of_plan ask asked;
        over = λ short. subst (λ (n : ℕ). IsRefusedOver s.server.history s.server.config s.served n fault ask.address received) e.limit (t.over s.server.history s.server.config s.served s.is_over short);
        too_long = λ a. t.too_long s.server.history s.server.config s.is_honest a.short a.answered;
        long = λ a. subst (λ (n : ℕ). HasLongBody s.server.history s.server.config n ask.address received) e.limit (t.long s.server.history s.server.config s.is_honest a.short a.answered);
      }

  -- the choice's version there answers the address: the reply is too long, or its page is gone
  why-refused : (fault : ReplyFault) (received : List ℕ) (x : Run (faults.Reply fault received)) (r : RefusedAt fault received x) → IsAnsweredAt (covered.stands r.address r.own).server (x.versions r.address) r.address
      → IsLongAnswer (covered.stands r.address r.own).server options.max_body r.address fault received ⊎ IsPageGone offer x.planned.choice (covered.stands r.address r.own).server r.address fault
  why-refused fault received x r at =
      let s = covered.stands r.address r.own in
      let o = r.over at.short in
      let version = version_at o.mark in
      let same : (answer_to s.server.history o.mark s.server.config (asks r.address)).status ≡ (answer_at s.server version r.address).status = ap (λ (a : Answer). a.status) o.over in
      elim (cases_eq (answer_to s.server.history o.mark s.server.config (asks r.address)).status 200) [
        | inl ok ↦ (let l = o.page ok in inl (record { is_fault = l.fault_is; long = l.long }))
        | inr otherwise ↦ (
            let g = gone laws.answered s.server r.address (x.versions r.address) version at (λ e. otherwise (same ∙ e)) in
            inr (record {
              is_fault = o.other otherwise ∙ ap (λ (n : ℕ). refusals.Status n) (same ∙ g.is_status);
              version = x.versions r.address;
              has = x.has r.address r.own;
              other = version;
              is_other = record { low = o.version.low; high = o.version.high };
              fewer = g.fewer;
            })
            )
      ]

  refuses : (fault : ReplyFault) (received : List ℕ) → Run (faults.Reply fault received) → RefusesLong offer options fault received
  refuses fault received x =
      let choice = x.planned.choice in
      let r = refused-at fault received x in
      let s = covered.stands r.address r.own in
      record {
        choice = choice;
        is_choice = x.planned.of_plan.is_choice;
        too_long = λ all. r.too_long (all_in (AtEach offer IsAnswerable) (offer.addresses choice) r.address all r.inside s.server s.stands);
        long = λ all. record {
          address = r.address;
          is_asked = r.inside;
          server = s.server;
          stands = s.stands;
          long = r.long (all_in (AtEach offer IsAnswerable) (offer.addresses choice) r.address all r.inside s.server s.stands);
        };
        why = λ all. record {
          address = r.address;
          is_asked = r.inside;
          server = s.server;
          stands = s.stands;
          why = why-refused fault received x r (all_in (AtChosen offer choice IsAnsweredAt) (offer.addresses choice) r.address all r.inside s.server (x.versions r.address) s.stands (x.has r.address r.own));
        };
      }

  -- ---- a body

  -- a body of an answer that each version gives as a page has no fault
  no-fault : (server : Publisher) (address : Address) (reply body : List ℕ) (fault : PageFault) → IsBodyOf server.history server.config address reply → reply ≡ body → IsReadByAll server address → Faults body address fault → ⊥
  no-fault server address reply body fault b same all why =
      let version = version_at b.mark in
      let page = all version (record { low = b.version.low; high = b.version.high }) (sym (ap (λ (a : Answer). a.status) b.served) ∙ b.status) in
      let is : (answer_at server version address).body ≡ body = sym (ap (λ (a : Answer). a.body) b.served) ∙ (sym b.body_is ∙ same) in
      laws.never_both body address page.0 fault (subst (λ (l : List ℕ). Takes l address page.0) is page.1) why

  -- the ask of the reply that came last was put in the call
  pub came-asked : (run : RunOf allows options starts since now) (ask : Ask) (reply : Reply) → EndsWith (Came ask reply) run.events → Contains (asked_in run.events) ask
  came-asked run ask reply last =
      let e = ending laws traffic allows options since now lawful starts run.events (Came ask reply) run.pool last run.runs run.asks in
      let h : Comes ask reply e.mid run.pool e.between run.runs.between = e.last.happens in
      lost-in laws traffic allows options since now lawful starts run.events (Came ask reply) run.pool run.runs e run.pool ask h.had_none h.others

  -- the body of a reply is that of an answer by the server that stands at its address, over a version that is served
  pub record AnswersFrom (ask : Ask) (reply : Reply) : Type 0 where
    pub own : HasHome starts ask.address
    pub body : IsBodyOver (covered.stands ask.address own).server.history (covered.stands ask.address own).server.config (covered.stands ask.address own).served ask.address reply.body

  -- so is the body of the reply that came last
  pub answer-from : (run : RunOf allows options starts since now) (ask : Ask) (reply : Reply) → EndsWith (Came ask reply) run.events → AnswersFrom ask reply
  answer-from run ask reply last =
      let e = ending laws traffic allows options since now lawful starts run.events (Came ask reply) run.pool last run.runs run.asks in
      let h : Comes ask reply e.mid run.pool e.between run.runs.between = e.last.happens in
      let tells = tells-on allows options since starts covered.tells (length (asked_in run.events)) run.pool run.runs.between
      (knows-so laws traffic starts options allows since lawful run.events run.pool run.runs.between run.asks run.runs.travels) e.last.lawful in
      let small = small-limit options limit e.mid.limit e.limit in
      let b : Brings allows ask.ticket ask.address reply e.mid run.pool = replies-answer laws allows run.runs.between ask.ticket ask.address reply e.mid run.pool e.between e.given e.suits e.knows.answers small tells h.steps in
      let theirs : Contains (held e.mid) b.hands.ask = Contains-permutation _ _ b.hands.ask (IsPermutation-sym _ _ b.hands.others) (at_head b.hands.ask (held run.pool)) in
      let mine : Contains (held e.mid) ask = Contains-permutation _ _ ask (IsPermutation-sym _ _ h.others) (at_head ask (held run.pool)) in
      let distinct = distinct-after allows e.before (begun options) e.mid since e.between (λ none. none-distinct) e.first h.had_none in
      let same : b.hands.ask ≡ ask = one-ask (held e.mid) b.hands.ask ask distinct theirs mine b.hands.is_ticket in
      let own = own-ask run ask (came-asked run ask reply last) in
      let s = covered.stands ask.address own in
      record {
        own = own;
        body = subst (λ (a : Ask). IsBodyOver s.server.history s.server.config s.served a.address reply.body) same
            (b.over s.server.history s.server.config s.served (subst (λ (a : Ask). IsHonestOver allows a.address.host a.address.port s.server.history s.server.config s.served) (sym same) s.is_over));
      }

  misses : (fault : PageFault) (body : List ℕ) → Run (faults.Page fault body) → MissesPage offer
  misses fault body x =
      let run = x.planned.run in
      let choice = x.planned.choice in
      let n : IsNoPage fault body run.events = x.explains in
      let inside = in-plan offer (asked_in run.events) choice x.planned.of_plan n.ask (came-asked run n.ask n.reply n.last) in
      let a = answer-from run n.ask n.reply n.last in
      let s = covered.stands n.ask.address a.own in
      record {
        choice = choice;
        is_choice = x.planned.of_plan.is_choice;
        unread = λ all. no-fault s.server n.ask.address n.reply.body body fault a.body.is_body n.body_is (all_in (AtEach offer IsReadByAll) (offer.addresses choice) n.ask.address all inside s.server s.stands) n.why;
      }

  -- ---- a version

  changes : (first other : Option ℕ) → Run (faults.Changed first other) → ChangesVersion offer first other
  changes first other x =
      let run = x.planned.run in
      let c : IsChanged (λ address. Some (x.versions address)) first other run.events = x.explains in
      let a = answer-from run c.ask c.reply c.last in
      let s = covered.stands c.ask.address a.own in
      let r : ReadsVersion laws.given laws.answered laws.only laws.worlds laws.forms laws.pages laws.kept laws.addresses s.server.history s.server.config s.is_history s.is_config c.page (version_at a.body.is_body.mark) =
      reads laws.given laws.answered laws.only laws.worlds laws.forms laws.pages laws.kept laws.addresses s.server.history s.server.config s.is_history s.is_config c.ask.address c.reply.body c.page a.body.is_body c.taken in
      record {
        choice = x.planned.choice;
        is_choice = x.planned.of_plan.is_choice;
        address = c.ask.address;
        server = s.server;
        stands = s.stands;
        versions = record {
          one = x.versions c.ask.address;
          two = version_at a.body.is_body.mark;
          is_first = c.first_is;
          is_other = sym c.version ∙ r.told;
          is_one = covered.numbers x.planned.choice x.planned.of_plan.is_choice c.ask.address s.server (x.versions c.ask.address) s.stands (x.has c.ask.address a.own);
          is_two = r.is_version;
          differ = λ same. c.differs (c.first_is ∙ (ap (λ (n : ℕ). Some n) same ∙ (sym r.told ∙ c.version)));
        };
        is_chosen = x.has c.ask.address a.own;
      }

  pub honest-cause : (fault : ClientFault) → Run fault → IsHonestCause offer options fault
  honest-cause faults.Exchange x = tt
  honest-cause faults.Stalled x = tt
  honest-cause (faults.Cut received) x = tt
  honest-cause (faults.Reply fault received) x = refuses fault received x
  honest-cause (faults.Page fault body) x = misses fault body x
  honest-cause (faults.Changed first other) x = changes first other x
  honest-cause (faults.Budget n) x = tt
  honest-cause faults.Sink x = tt
  honest-cause faults.OutOfMemory x = tt

  -- it is said of the choice of the run
  pub honest-cause-of : (fault : ClientFault) (x : Run fault) → IsHonestCauseOf offer options x.planned.choice fault (honest-cause fault x)
  unfolding honest-cause refuses misses changes
  honest-cause-of faults.Exchange x = tt
  honest-cause-of faults.Stalled x = tt
  honest-cause-of (faults.Cut received) x = tt
  honest-cause-of (faults.Reply fault received) x = refl
  honest-cause-of (faults.Page fault body) x = refl
  honest-cause-of (faults.Changed first other) x = refl
  honest-cause-of (faults.Budget n) x = tt
  honest-cause-of faults.Sink x = tt
  honest-cause-of faults.OutOfMemory x = tt
