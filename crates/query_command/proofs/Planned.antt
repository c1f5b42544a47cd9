-- How a query ends over the wire in one process to a server, within the limits of the program.
use Rattle.std.proofs.Common.{ℕ, ◌≡◌, ◌≢◌, ◌+◌, ◌*◌, ◌^◌, ◌<◌, ◌≤◌, ◌++◌, [], ◌∷◌, List, length, count_by, Option, Some, Result, Ok, Err, IfOk, IfErr, refl, sym, ap, subst, ◌∙◌, arith}
use Rattle.std.specs.List.{AllByRecursion}
use Rattle.std.specs.List.Sorted.{IsPermutation}
use Rattle.list_laws.proofs.Tests.{all_numbers}
use Rattle.list_laws.proofs.Told.{all_in}
use Rattle.rdf_terms.specs.declared.term.Triple.{Triple}
use Rattle.tpf_base.specs.Addresses.{Address}
use Rattle.tpf_base.specs.Marks.{Served, version_at}
use Rattle.template_fill.specs.HttpAnswer.{Answer}
use Rattle.template_fill.specs.Metadata.{Config}
use Rattle.bgp_core.specs.Queries.{QueryData}
use Rattle.pool_laws.specs.Answers.{HasLongBody}
use Rattle.pool_laws.specs.Requested.{over_links, whole_requests}
use Rattle.loop_wire.specs.Looped.{Looped, CountsDue}
use Rattle.fragment_server.specs.declared.server.FragmentServer.{FragmentServer}
use Rattle.data_servers.specs.Servers.{serving}
use Rattle.tpf_client.specs.declared.options.Options.{Options}
use Rattle.tpf_client.specs.declared.options.Report.{Report}
use Rattle.tpf_client.specs.declared.fault.ClientFault.{ClientFault}
use Rattle.tpf_client.specs.declared.fault.ClientFault.TheVariants as faults
use Rattle.tpf_client.specs.Calls.{most_asked, IsCause}
use Rattle.tpf_client.specs.Acts.{ActsOnWire}
use Rattle.tpf_client.specs.Ends.{ends_in_blocks}
use Rattle.tpf_client.specs.Offers.{Publisher, publisher, IsVersionOf, Offer, addresses_in_blocks, offer_in_blocks}
use Rattle.tpf_client.specs.Honest.{IsHonestWire}
use Rattle.tpf_client.specs.Requested.{CallRequests, RequestsPlan, AnswersPlan}
use Rattle.tpf_client.specs.Plans.{AsksPlan, IsSmallByAll, HasLongPage, answer_at}
use Rattle.plan_laws.specs.Fitting.{IsRead}
use Rattle.query_command.specs.Answers.{WritesOver, FailsOver}
use Rattle.query_command.specs.Loops.{LoopsServer, allows_of, wire_of, begun, local_base}
use Rattle.query_command.specs.Plans.{plan_of, offer_of, SendsPlan, BoundsRequests, MayEndBy, EndsAsPlanned, IsWithin}
use Rattle.query_command.proofs.Failing.{not_often, not_passed}
use Rattle.query_command.proofs.Fitting.{one_version, at_version}
use Rattle.query_command.proofs.Ending.{IsOfOne, are_read_all, published, counts_plan, may_end_by}

-- what was sent on a wire that had given no link
pub sends_plan : (server : FragmentServer) (seed n : ℕ) (after : Looped FragmentServer) (q : QueryData) (options : Options)
    → AsksPlan (offer_of options (serving server).data_set (serving server).config q) (wire_of (begun server seed n)) (wire_of after) → SendsPlan options (serving server).data_set (serving server).config q (wire_of after)
sends_plan server seed n after q options a = record {
  asked = a.asked;
  rest = a.rest;
  plan_is = subst (λ (v : ℕ). IsPermutation (addresses_in_blocks options.block (publisher ((serving server).data_set ∷ []) (serving server).config) q local_base v) (a.asked ++ a.rest)) (sym (one_version (serving server).data_set a.choice a.is_choice)) a.plan_is;
  sent = λ k below. a.sent k (omega arith) below;
}

-- how often it was sent
pub bounds_requests : (server : FragmentServer) (seed n : ℕ) (after : Looped FragmentServer) (q : QueryData) (options : Options)
    → RequestsPlan (offer_of options (serving server).data_set (serving server).config q) options (wire_of (begun server seed n)) (wire_of after) → BoundsRequests options (serving server).data_set (serving server).config q (wire_of after)
bounds_requests server seed n after q options r =
    let all = subst (λ (v : ℕ). CallRequests options (addresses_in_blocks options.block (publisher ((serving server).data_set ∷ []) (serving server).config) q local_base v) (wire_of (begun server seed n)) (wire_of after)) (sym (one_version (serving server).data_set r.choice r.is_choice)) r.requests in
    record {
      on = all.on;
      told = λ k below. all.told k (omega arith) below;
      few = λ test.
          subst (λ (links : ℕ). over_links (λ k. count_by test (whole_requests (all.on k))) 0 links ≤ (options.retries + 1) * count_by test (plan_of options (serving server).data_set (serving server).config q)) (all_numbers (wire_of after).given) (all.few test);
    }

-- what a call did on a wire that was made for a server
abbrev pub ActsThere : FragmentServer → ℕ → ℕ → Looped FragmentServer → QueryData → Options → Result Report ClientFault → Type 0
ActsThere server seed n after q options result =
    ActsOnWire (allows_of (begun server seed n)) (ends_in_blocks options.block q local_base) options (local_base ∷ []) (most_asked options q) result (λ report. report) (wire_of (begun server seed n)) (wire_of after)

-- the plan is that of each version
same_plan : (server : FragmentServer) (q : QueryData) (options : Options) (version : ℕ) → IsVersionOf ((serving server).data_set ∷ []) version
    → addresses_in_blocks options.block (published server) q local_base version ≡ plan_of options (serving server).data_set (serving server).config q
same_plan server q options = at_version options.block (serving server).data_set (serving server).config q local_base

-- ---- the call as it ended

pub sends_from : (server : FragmentServer) (seed n : ℕ) (after : Looped FragmentServer) (q : QueryData) (options : Options)
    → (result : Result Report ClientFault) → ActsThere server seed n after q options result
    → IsHonestWire (allows_of (begun server seed n)) local_base ((serving server).data_set ∷ []) (serving server).config (wire_of (begun server seed n))
    → LoopsServer server seed n (Some after) (λ old new. SendsPlan options (serving server).data_set (serving server).config q (wire_of new))
sends_from server seed n after q options result acts honest = record {
  after = after;
  is_inside = refl;
  says = sends_plan server seed n after q options (acts.plan.asked (publisher ((serving server).data_set ∷ []) (serving server).config) honest);
}

pub requests_from : (server : FragmentServer) (seed n : ℕ) (after : Looped FragmentServer) (q : QueryData) (options : Options)
    → (result : Result Report ClientFault) → ActsThere server seed n after q options result
    → IsHonestWire (allows_of (begun server seed n)) local_base ((serving server).data_set ∷ []) (serving server).config (wire_of (begun server seed n))
    → LoopsServer server seed n (Some after) (λ old new. BoundsRequests options (serving server).data_set (serving server).config q (wire_of new))
requests_from server seed n after q options result acts honest = record {
  after = after;
  is_inside = refl;
  says = bounds_requests server seed n after q options (acts.plan.requested (publisher ((serving server).data_set ∷ []) (serving server).config) honest);
}

same_some : {A : Type 0} (x y : A) → ◌≡◌ {A = Option A} (Some x) (Some y) → x ≡ y
same_some x y e = cc

pub ends_from : (server : FragmentServer) (seed n : ℕ) (after : Looped FragmentServer) (q : QueryData) (options : Options) (out out' : ℕ) (taken taken' : Option (List ℕ)) (result : Result Report ClientFault)
    → IsHonestWire (allows_of (begun server seed n)) local_base ((serving server).data_set ∷ []) (serving server).config (wire_of (begun server seed n))
    → AllByRecursion (IsRead ((serving server).data_set ∷ []) (Served 1) (serving server).config) (plan_of options (serving server).data_set (serving server).config q)
    → CountsDue after.counts.failing after.counts.dials after.counts.faults after.provoked → options.budget < 2 ^ 63
    → IfOk result (λ report. LoopsServer server seed n (Some after) (λ wire wire'. WritesOver (allows_of wire) q local_base options report (wire_of wire) (wire_of wire') taken taken'))
    → IfErr result (λ fault. LoopsServer server seed n (Some after) (λ wire wire'. FailsOver (allows_of wire) q local_base options fault (wire_of wire) (wire_of wire') out out' taken taken'))
    → EndsAsPlanned n options (serving server).data_set (serving server).config q result
ends_from server seed n after q options out out' taken taken' (Ok report) honest reads due small ok err =
    let w : WritesOver (allows_of (begun server seed n)) q local_base options report (wire_of (begun server seed n)) (wire_of after) taken taken' =
    subst (λ (wire : Looped FragmentServer). WritesOver (allows_of (begun server seed n)) q local_base options report (wire_of (begun server seed n)) (wire_of wire) taken taken') (same_some ok.after after (sym ok.is_inside)) ok.says in
    counts_plan server seed n after options (λ p. offer_in_blocks options.block p q local_base) (plan_of options (serving server).data_set (serving server).config q) _ (same_plan server q options) honest due small w.acts.moves w.acts.dials report w.acts.plan
ends_from server seed n after q options out out' taken taken' (Err fault) honest reads due small ok err =
    let f : FailsOver (allows_of (begun server seed n)) q local_base options fault (wire_of (begun server seed n)) (wire_of after) out out' taken taken' =
    subst (λ (wire : Looped FragmentServer). FailsOver (allows_of (begun server seed n)) q local_base options fault (wire_of (begun server seed n)) (wire_of wire) out out' taken taken') (same_some err.after after (sym err.is_inside)) err.says in
    let acts = f.acts in
    may_end_by server seed n after options (λ p. offer_in_blocks options.block p q local_base) (plan_of options (serving server).data_set (serving server).config q) _ (same_plan server q options) honest due small acts.moves acts.dials
    (are_read_all (serving server).data_set (serving server).config (offer_of options (serving server).data_set (serving server).config q) (λ address p stands. stands) (plan_of options (serving server).data_set (serving server).config q) reads) fault acts.plan
    (λ most is. (subst (IsCause options acts.happened.events acts.happened.pool (wire_of (begun server seed n)) (wire_of after)) is acts.cause).0)

-- what was answered
pub answers_from : (server : FragmentServer) (seed n : ℕ) (after : Looped FragmentServer) (q : QueryData) (options : Options) (taken taken' : Option (List ℕ)) (result : Result Report ClientFault)
    → IsHonestWire (allows_of (begun server seed n)) local_base ((serving server).data_set ∷ []) (serving server).config (wire_of (begun server seed n))
    → IfOk result (λ report. LoopsServer server seed n (Some after) (λ wire wire'. WritesOver (allows_of wire) q local_base options report (wire_of wire) (wire_of wire') taken taken'))
    → IfOk result (λ report. LoopsServer server seed n (Some after) (λ wire wire'. AnswersPlan (offer_of options (serving server).data_set (serving server).config q) options report (wire_of wire) (wire_of wire')))
answers_from server seed n after q options taken taken' (Ok report) honest ok = record { after = ok.after; is_inside = ok.is_inside; says = ok.says.acts.plan.replied (publisher ((serving server).data_set ∷ []) (serving server).config) honest }
answers_from server seed n after q options taken taken' (Err fault) honest ok = tt

-- ---- completeness

-- no body is longer than each may be, where the one server of these data stands at each address
module _ (triples : List Triple) (config : Config) (offer : Offer) (one : IsOfOne triples config offer)
    (most : ℕ) (list : List Address) (received : List ℕ) (small : AllByRecursion (IsSmallByAll most (publisher (triples ∷ []) config)) list) where
  long_on : (h : HasLongPage offer most list received) → HasLongBody (triples ∷ []) config most h.address received → ⊥
  long_on h page =
      let b = page.is_body in
      let fits = all_in (IsSmallByAll most (publisher (triples ∷ []) config)) list h.address small h.is_asked in
      let served = b.served in
      let status : (answer_at (publisher (triples ∷ []) config) (version_at b.mark) h.address).status ≡ 200 = ap (λ (a : Answer). a.status) (sym served) ∙ b.status in
      let within = fits (version_at b.mark) (record { low = b.version.low; high = b.version.high }) status in
      let body : length page.body ≡ length (answer_at (publisher (triples ∷ []) config) (version_at b.mark) h.address).body = ap length (b.body_is ∙ ap (λ (a : Answer). a.body) served) in
      let long = page.long in
      omega (arith, within, body, long)

  pub long_body : HasLongPage offer most list received → ⊥
  long_body h = long_on h (subst (λ (p : Publisher). HasLongBody p.history p.config most h.address received) (one h.address h.server h.stands) h.long)

-- none of the causes is there, and the output did not fail
pub is_memory : (n : ℕ) (options : Options) (triples : List Triple) (config : Config) (offer : Offer) → IsOfOne triples config offer → (plan : List Address) (fault : ClientFault)
    → IsWithin n options (publisher (triples ∷ []) config) plan → fault ≢ faults.Sink → MayEndBy n options offer plan fault → fault ≡ faults.OutOfMemory
is_memory n options triples config offer one plan faults.Exchange p sink h = absurd (not_often n options.retries (length plan) p.calm h)
is_memory n options triples config offer one plan faults.Stalled p sink h = absurd h
is_memory n options triples config offer one plan (faults.Cut received) p sink h = absurd (not_often n options.retries (length plan) p.calm h)
is_memory n options triples config offer one plan (faults.Reply fault received) p sink h = absurd (long_body triples config offer one options.max_body plan received p.small h.1)
is_memory n options triples config offer one plan (faults.Page fault body) p sink h = absurd h
is_memory n options triples config offer one plan (faults.Changed first other) p sink h = absurd h
is_memory n options triples config offer one plan (faults.Budget m) p sink h = absurd (not_passed n options.retries options.budget (length plan) p.calm p.none p.some h.1)
is_memory n options triples config offer one plan faults.Sink p sink h = absurd (sink refl)
is_memory n options triples config offer one plan faults.OutOfMemory p sink h = refl
