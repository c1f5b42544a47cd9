-- The causes of the faults of a call.
use Rattle.std.proofs.Common.{ℕ, ◌≡◌, ◌<◌, ◌≤◌, ◌++◌, Bool, true, false, List, [], ◌∷◌, Option, None, refl, sym, ap, subst, ◌∙◌, arith}
use Rattle.tpf_base.specs.Causes.{Rose}
use Rattle.tpf_base.specs.Addresses.{Address}
use Rattle.tpf_base.specs.Links.{WireState}
use Rattle.tpf_base.specs.declared.wire.TheConstants.{MOST_IDLE}
use Rattle.tpf_base.specs.HttpReply as replies
use Rattle.tpf_base.specs.HttpReply.{reply_of}
use Rattle.std.specs.List.{Contains}
use Rattle.http_wire.specs.Replies.{shown_fault}
use Rattle.http_wire.specs.declared.message.Reply.{Reply}
use Rattle.http_wire.specs.declared.message.ReplyFault.{ReplyFault}
use Rattle.tpf_base.specs.Sending.{Holds}
use Rattle.pool_laws.specs.Causes.{RepliedOn, IsRead, IsCut, IsRefused}
use Rattle.fragment_page.specs.declared.page.PageFault.{PageFault}
use Rattle.control_reader.specs.Takes.{Takes, Faults}
use Rattle.std.proofs.lemmas.List.Sorted.{IsPermutation-sym, Contains-permutation}
use Rattle.list_laws.proofs.Members.{at_head}
use Rattle.request_pool.specs.declared.fault.PoolFault.TheVariants as pool
use Rattle.request_pool.specs.Pools.{Pooled, Ask, IsOverBudget, held}
use Rattle.bgp_core.specs.Queries.{QueryData}
use Rattle.tpf_client.specs.declared.options.Options.{Options}
use Rattle.tpf_client.specs.declared.fault.ClientFault.{ClientFault}
use Rattle.tpf_client.specs.declared.fault.ClientFault.TheVariants as faults
use Rattle.tpf_client.specs.Traffic.{PoolEvent, Came, Broke, Travels, EndsWith, IsLawful, AreDistinct, without_fault, Comes, StepBreaks}
use Rattle.tpf_client.specs.Causes.{Explains, Versions, IsNoPage, IsChanged}
use Rattle.tpf_client.specs.Told.{told_at}
use Rattle.tpf_client.specs.Sources.{Sources}
use Rattle.tpf_client.specs.Starts.{versions_of}
use Rattle.tpf_client.specs.Turns.{AsksAt, asked_in}
use Rattle.tpf_client.specs.Calls.{WritesSome, Before, Behind, AtEnd, RunsPool, Happened, AreThese, IsCause, IsCutShort, IsRefusedReply, IsReplyBody, IsNoPageOf, IsOtherVersion}
use Rattle.tpf_client.specs.Honest.{Laws}
use Rattle.tpf_client.specs.Requests.{TrafficLaws}
use Rattle.tpf_client.proofs.Distinct.{one-ask, none-distinct}
use Rattle.tpf_client.proofs.Known.{begun}
use Rattle.tpf_client.proofs.Received.{replied-closed}
use Rattle.tpf_client.proofs.Endings.{travels-onward, Ending, ending, lost-in, same-bounds}
use Rattle.tpf_client.proofs.Going.{explains-later}

still-below : (k n m : ℕ) → k < n → m ≡ n → k < m
still-below k n m l e = omega (arith, l, e)

pub distinct-after : (allows : List ℕ → ℕ → List ℕ → List ℕ → Type 0) (events : List PoolEvent) (p q : Pooled) (v w : WireState) → (p.fault ≡ None → AreDistinct (held p)) → Travels allows events p q v w → q.fault ≡ None → AreDistinct (held q)
distinct-after allows [] p q v w d t none = subst (λ (x : Pooled). AreDistinct (held x)) (sym t.0) (d (ap (λ (x : Pooled). x.fault) (sym t.0) ∙ none))
distinct-after allows (event ∷ events) p q v w d t none = distinct-after allows events t.0.pool q t.0.wire w t.1.distinct t.2 none

-- ---- why a call ended with a fault

pub record CausedBy (budget : ℕ) (fault : ClientFault) (events : List PoolEvent) : Type 0 where
  pub versions : Versions
  pub explains : Explains versions budget fault events

module _ (starts : List Address) (events : List PoolEvent) (pool : Pooled) (sources : Sources) (q : QueryData) (budget : ℕ) (fault : ClientFault) (t u : Option (List ℕ)) where
  at-these : (versions : Versions) (first later : List PoolEvent) → first ++ later ≡ events → Explains versions budget fault later → CausedBy budget fault events
  at-these versions first later e x = record { versions = versions; explains = subst (λ (l : List PoolEvent). Explains versions budget fault l) e (explains-later versions budget fault first later x) }

  pub some-caused : WritesSome (AreThese events pool) sources q starts budget fault t u → CausedBy budget fault events
  some-caused (Before b) = record { versions = λ address. None; explains = subst (λ (l : List PoolEvent). Explains (λ address. None) budget fault l) b.runs.events_are (b.explains (λ address. None)) }
  some-caused (Behind b) = at-these (told_at starts (versions_of b.told)) b.first b.later b.runs.events_are b.explains
  some-caused (AtEnd b) = at-these (told_at starts (versions_of b.told)) b.first b.later b.runs.events_are b.explains

-- ---- each cause

module _ (laws : Laws) (traffic : TrafficLaws) (allows : List ℕ → ℕ → List ℕ → List ℕ → Type 0) (options : Options) (since now : WireState) (lawful : IsLawful allows since) (starts : List Address) where
  ends : (events : List PoolEvent) (event : PoolEvent) (p : Pooled) → EndsWith event events → (r : RunsPool allows options since now events p) → AsksAt starts events → Ending laws traffic allows options since now lawful starts events event p r
  ends events event p e r a = ending laws traffic allows options since now lawful starts events event p e r a

  rose-of : (events : List PoolEvent) (p : Pooled) → EndsWith (Broke pool.Exchange) events → RunsPool allows options since now events p → AsksAt starts events → Rose since.faults now.faults
  rose-of events p e r a =
      let x = ends events (Broke pool.Exchange) p e r a in
      let h : StepBreaks pool.Exchange x.mid p x.between r.between = x.last.happens in
      let c : Rose x.between.faults r.between.faults = traffic.causes pool.Exchange x.mid (without_fault p) x.between r.between x.given x.suits x.knows.answers h.steps in
      let o = travels-onward allows x.before (begun options) x.mid since x.between x.first in
      let same = r.closes.faults in
      let early = o.faults in
      omega (arith, c, early, same)

  idle-of : (events : List PoolEvent) (p : Pooled) → EndsWith (Broke pool.Stalled) events → RunsPool allows options since now events p → AsksAt starts events → (MOST_IDLE ≤ now.idle) × (since.nature.lively ≡ true → ⊥)
  idle-of events p e r a =
      let x = ends events (Broke pool.Stalled) p e r a in
      let h : StepBreaks pool.Stalled x.mid p x.between r.between = x.last.happens in
      let long : MOST_IDLE ≤ r.between.idle = traffic.causes pool.Stalled x.mid (without_fault p) x.between r.between x.given x.suits x.knows.answers h.steps in
      let same = r.closes.idle in
      let o = travels-onward allows events (begun options) p since r.between r.travels in
      (omega (arith, long, same), λ lively. let short = x.last.lawful.lively (ap (λ n. n.lively) o.nature ∙ lively) in omega (arith, long, short))

  spent-of : (events : List PoolEvent) (p : Pooled) → EndsWith (Broke pool.Budget) events → RunsPool allows options since now events p → AsksAt starts events → options.budget ≤ p.started
  spent-of events p e r a =
      let x = ends events (Broke pool.Budget) p e r a in
      let h : StepBreaks pool.Budget x.mid p x.between r.between = x.last.happens in
      let c : IsOverBudget (without_fault p) = traffic.causes pool.Budget x.mid (without_fault p) x.between r.between x.given x.suits x.knows.answers h.steps in
      let spent : p.budget ≤ p.started = c.spent in
      let b = same-bounds laws traffic allows options since now lawful starts events p a r in
      omega (arith, spent, b)

  cut-at : (limit : ℕ) → limit ≡ options.max_body → (events : List PoolEvent) (p : Pooled) → RunsPool allows options since now events p → (ask : Ask) → Contains (asked_in events) ask → (received : List ℕ) (on : RepliedOn limit ask.address received now) → since.given ≤ on.k → on.k < now.given
      → Holds (now.links on.k).ended true → reply_of received true limit ≡ replies.More → IsCutShort options events since now received
  cut-at limit e events p r ask asked received =
      subst (λ (n : ℕ). (on : RepliedOn n ask.address received now) → since.given ≤ on.k → on.k < now.given → Holds (now.links on.k).ended true → reply_of received true n ≡ replies.More → IsCutShort options events since now received) (sym e)
      (λ on fresh below ended more. record { is_received = record { ask = ask; asked = asked; on = on; fresh = fresh; below = below }; ended = ended; more = more })

  refused-at : (limit : ℕ) → limit ≡ options.max_body → (events : List PoolEvent) (p : Pooled) → RunsPool allows options since now events p → (ask : Ask) → Contains (asked_in events) ask → (fault : ReplyFault) (received : List ℕ) (on : RepliedOn limit ask.address received now) → since.given ≤ on.k → on.k < now.given
      → (why : replies.ReplyFault) → fault ≡ shown_fault why → reply_of received false limit ≡ replies.Bad why → IsRefusedReply options events since now fault received
  refused-at limit e events p r ask asked fault received =
      subst (λ (n : ℕ). (on : RepliedOn n ask.address received now) → since.given ≤ on.k → on.k < now.given → (why : replies.ReplyFault) → fault ≡ shown_fault why → reply_of received false n ≡ replies.Bad why → IsRefusedReply options events since now fault received) (sym e)
      (λ on fresh below why is bad. record { is_received = record { ask = ask; asked = asked; on = on; fresh = fresh; below = below }; why = why; is_fault = is; bad = bad })

  cut-of : (received : List ℕ) (events : List PoolEvent) (p : Pooled) → EndsWith (Broke (pool.Cut received)) events → RunsPool allows options since now events p → AsksAt starts events → IsCutShort options events since now received
  cut-of received events p e r a =
      let x = ends events (Broke (pool.Cut received)) p e r a in
      let h : StepBreaks (pool.Cut received) x.mid p x.between r.between = x.last.happens in
      let c : IsCut received x.mid (without_fault p) x.between r.between = traffic.causes (pool.Cut received) x.mid (without_fault p) x.between r.between x.given x.suits x.knows.answers h.steps in
      let on = replied-closed x.mid.limit c.loses.ask.address received r.between now x.told r.closes.nature c.loses.on in
      cut-at x.mid.limit x.limit events p r c.loses.ask
      (lost-in laws traffic allows options since now lawful starts events (Broke (pool.Cut received)) p r x (without_fault p) c.loses.ask h.had_none c.loses.others) received on
      (c.loses.fresh since.given (record { given = x.knows.owns.gives.later; none = x.knows.owns.none_before })) (still-below c.loses.on.k r.between.given now.given c.loses.given r.closes.given)
      (subst (λ (o : Option Bool). Holds o true) (sym (x.told c.loses.on.k).ended) c.ended) c.more

  refused-of : (fault : ReplyFault) (received : List ℕ) (events : List PoolEvent) (p : Pooled) → EndsWith (Broke (pool.Reply fault received)) events → RunsPool allows options since now events p → AsksAt starts events → IsRefusedReply options events since now fault received
  refused-of fault received events p e r a =
      let x = ends events (Broke (pool.Reply fault received)) p e r a in
      let h : StepBreaks (pool.Reply fault received) x.mid p x.between r.between = x.last.happens in
      let c : IsRefused fault received x.mid (without_fault p) x.between r.between = traffic.causes (pool.Reply fault received) x.mid (without_fault p) x.between r.between x.given x.suits x.knows.answers h.steps in
      let on = replied-closed x.mid.limit c.loses.ask.address received r.between now x.told r.closes.nature c.loses.on in
      refused-at x.mid.limit x.limit events p r c.loses.ask
      (lost-in laws traffic allows options since now lawful starts events (Broke (pool.Reply fault received)) p r x (without_fault p) c.loses.ask h.had_none c.loses.others) fault received on
      (c.loses.fresh since.given (record { given = x.knows.owns.gives.later; none = x.knows.owns.none_before })) (still-below c.loses.on.k r.between.given now.given c.loses.given r.closes.given) c.why c.is_fault c.bad

  -- the body of the reply to an ask
  abbrev IsBodyTo : List PoolEvent → Ask → List ℕ → Type 0
  IsBodyTo events ask body = (replied : IsReplyBody options events since now body) × (replied.is_received.ask ≡ ask)

  body-at : (limit : ℕ) → limit ≡ options.max_body → (events : List PoolEvent) (p : Pooled) → RunsPool allows options since now events p → (ask : Ask) → Contains (asked_in events) ask → (body received : List ℕ) (at_end : Bool) (n : ℕ) (keeps : Bool) (on : RepliedOn limit ask.address received now)
      → since.given ≤ on.k → on.k < now.given → (at_end ≡ true → Holds (now.links on.k).ended true) → reply_of received at_end limit ≡ replies.Whole body n keeps → IsBodyTo events ask body
  body-at limit e events p r ask asked body received at_end n keeps =
      subst (λ (m : ℕ). (on : RepliedOn m ask.address received now) → since.given ≤ on.k → on.k < now.given → (at_end ≡ true → Holds (now.links on.k).ended true) → reply_of received at_end m ≡ replies.Whole body n keeps → IsBodyTo events ask body) (sym e)
      (λ on fresh below ended whole. (
        record {
          received = received;
          is_received = record { ask = ask; asked = asked; on = on; fresh = fresh; below = below };
          at_end = at_end;
          n = n;
          keeps = keeps;
          whole = whole;
          ended = ended;
        },
        refl,
      ))

  -- the reply that came last
  last-body : (ask : Ask) (reply : Reply) (events : List PoolEvent) (p : Pooled) → EndsWith (Came ask reply) events → RunsPool allows options since now events p → AsksAt starts events → IsBodyTo events ask reply.body
  last-body ask reply events p e r a =
      let x = ends events (Came ask reply) p e r a in
      let h : Comes ask reply x.mid p x.between r.between = x.last.happens in
      let c : IsRead ask.ticket ask.address reply x.mid p x.between r.between = traffic.replies ask.ticket ask.address reply x.mid p x.between r.between x.given x.suits x.knows.answers h.steps in
      let theirs : Contains (held x.mid) c.hands.ask = Contains-permutation (c.hands.ask ∷ held p) (held x.mid) c.hands.ask (IsPermutation-sym (held x.mid) (c.hands.ask ∷ held p) c.hands.others) (at_head c.hands.ask (held p)) in
      let mine : Contains (held x.mid) ask = Contains-permutation (ask ∷ held p) (held x.mid) ask (IsPermutation-sym (held x.mid) (ask ∷ held p) h.others) (at_head ask (held p)) in
      let distinct = distinct-after allows x.before (begun options) x.mid since x.between (λ z. none-distinct) x.first h.had_none in
      let same : c.hands.ask ≡ ask = one-ask (held x.mid) c.hands.ask ask distinct theirs mine c.hands.is_ticket in
      let on = replied-closed x.mid.limit c.hands.ask.address c.received r.between now x.told r.closes.nature c.on in
      subst (λ (y : Ask). IsBodyTo events y reply.body) same
      (body-at x.mid.limit x.limit events p r c.hands.ask (lost-in laws traffic allows options since now lawful starts events (Came ask reply) p r x p c.hands.ask h.had_none c.hands.others) reply.body c.received c.at_end c.n reply.keeps on
      (c.fresh since.given (record { given = x.knows.owns.gives.later; none = x.knows.owns.none_before })) (still-below c.on.k r.between.given now.given c.given r.closes.given)
      (λ at. subst (λ (o : Option Bool). Holds o true) (sym (x.told c.on.k).ended) (c.ended at).0) c.whole)

  page-of : (fault : PageFault) (body : List ℕ) (events : List PoolEvent) (p : Pooled) → IsNoPage fault body events → RunsPool allows options since now events p → AsksAt starts events → IsNoPageOf options events since now fault body
  page-of fault body events p e r a =
      let l : IsBodyTo events e.ask body = subst (λ (b : List ℕ). IsBodyTo events e.ask b) e.body_is (last-body e.ask e.reply events p e.last r a) in
      record { replied = l.0; why = subst (λ (y : Ask). Faults body y.address fault) (sym l.1) e.why }

  version-of : (versions : Versions) (first other : Option ℕ) (events : List PoolEvent) (p : Pooled) → IsChanged versions first other events → RunsPool allows options since now events p → AsksAt starts events → IsOtherVersion options events since now first other
  version-of versions first other events p e r a =
      let l = last-body e.ask e.reply events p e.last r a in
      record { body = e.reply.body; replied = l.0; page = e.page; taken = subst (λ (y : Ask). Takes e.reply.body y.address e.page) (sym l.1) e.taken; version = e.version; differs = e.differs }

  cause-of : (fault : ClientFault) (versions : Versions) (events : List PoolEvent) (p : Pooled) → Explains versions options.budget fault events → RunsPool allows options since now events p → AsksAt starts events → IsCause options events p since now fault
  cause-of faults.Exchange versions events p e r a = rose-of events p e r a
  cause-of faults.Stalled versions events p e r a = idle-of events p e r a
  cause-of (faults.Cut received) versions events p e r a = cut-of received events p e r a
  cause-of (faults.Reply fault received) versions events p e r a = refused-of fault received events p e r a
  cause-of (faults.Page fault body) versions events p e r a = page-of fault body events p e r a
  cause-of (faults.Changed first other) versions events p e r a = version-of versions first other events p e r a
  cause-of (faults.Budget n) versions events p e r a = (e.0, spent-of events p e.1 r a)
  cause-of faults.Sink versions events p e r a = tt
  cause-of faults.OutOfMemory versions events p e r a = tt

  pub fault-caused : (h : Happened allows options starts since now) (sources : Sources) (q : QueryData) (fault : ClientFault) (t u : Option (List ℕ)) → WritesSome (AreThese h.events h.pool) sources q starts options.budget fault t u → IsCause options h.events h.pool since now fault
  fault-caused h sources q fault t u w =
      let x = some-caused starts h.events h.pool sources q options.budget fault t u w in
      cause-of fault x.versions h.events h.pool x.explains h.runs h.asks
