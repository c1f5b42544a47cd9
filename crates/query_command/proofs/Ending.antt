-- How a call that asks a server in one process by a plan ends, within the limits of the program.
use Rattle.std.proofs.Common.{ℕ, ◌≡◌, ◌≤◌, ◌+◌, ◌*◌, ◌<◌, ◌^◌, [], ◌∷◌, List, length, Option, Some, Result, Ok, Err, refl, sym, ap, subst, ◌∙◌, arith}
use Rattle.std.specs.List.{AllByRecursion}
use Rattle.list_laws.proofs.Each.{all_so}
use Rattle.rdf_terms.specs.declared.term.Triple.{Triple}
use Rattle.tpf_base.specs.Addresses.{Address}
use Rattle.tpf_base.specs.Links.{Nature}
use Rattle.tpf_base.specs.Marks.{Served}
use Rattle.template_fill.specs.Metadata.{Config}
use Rattle.loop_wire.specs.Looped.{Looped, CountsDue, FewFaults, every_of}
use Rattle.fragment_server.specs.declared.server.FragmentServer.{FragmentServer}
use Rattle.data_servers.specs.Servers.{serving}
use Rattle.plan_laws.specs.Fitting.{IsRead}
use Rattle.tpf_client.specs.declared.options.Options.{Options}
use Rattle.tpf_client.specs.declared.options.Report.{Report}
use Rattle.tpf_client.specs.declared.fault.ClientFault.{ClientFault}
use Rattle.tpf_client.specs.declared.fault.ClientFault.TheVariants as faults
use Rattle.tpf_client.specs.Acts.{ActsByPlan}
use Rattle.tpf_client.specs.Ends.{publisher_ends}
use Rattle.tpf_client.specs.Failing.{SpendsPlan}
use Rattle.tpf_client.specs.Honest.{IsHonestWire}
use Rattle.tpf_client.specs.Offers.{Publisher, Offer, publisher}
use Rattle.tpf_client.specs.Plans.{AtEach, IsAnswerable, IsReadByAll, HasLongPage, TellsVersions, ChangesVersion, OverrunsPlan}
use Rattle.tpf_client.specs.Requests.{MovesOn, DialsAtMost}
use Rattle.query_command.specs.Loops.{allows_of, wire_of, begun, local_base}
use Rattle.query_command.specs.Plans.{CountsRequests, PassesBudget, MayEndBy}
use Rattle.query_command.proofs.Failing.{FewFailed, few_failed, counts_requests, fails_often, passes_budget}
use Rattle.query_command.proofs.Fitting.{one_told, answered_one, read_one}

-- these data stand, in one version, at each address of an offer
abbrev pub IsOfOne : List Triple → Config → Offer → Type 0
IsOfOne triples config offer = (address : Address) (server : Publisher) → offer.StandsAt address server → server ≡ publisher (triples ∷ []) config

-- All addresses of a list are answered with pages that are read, and two versions are never told.
pub record AreReadAll (offer : Offer) (list : List Address) : Type 0 where
  pub answered : AllByRecursion (AtEach offer IsAnswerable) list
  pub read : AllByRecursion (AtEach offer IsReadByAll) list
  pub one : (first other : Option ℕ) → ChangesVersion offer first other → ⊥

pub are_read_all : (triples : List Triple) (config : Config) (offer : Offer) → IsOfOne triples config offer → (list : List Address) → AllByRecursion (IsRead (triples ∷ []) (Served 1) config) list → AreReadAll offer list
are_read_all triples config offer stands list reads = record {
  answered =
      all_so (IsRead (triples ∷ []) (Served 1) config) (AtEach offer IsAnswerable)
      (λ address r server at. subst (λ (p : Publisher). IsAnswerable p address) (sym (stands address server at)) (answered_one triples config address r)) list reads;
  read =
      all_so (IsRead (triples ∷ []) (Served 1) config) (AtEach offer IsReadByAll)
      (λ address r server at. subst (λ (p : Publisher). IsReadByAll p address) (sym (stands address server at)) (read_one triples config address r)) list reads;
  one = λ first other c. one_told triples first other (subst (λ (p : Publisher). TellsVersions p.history first other) (stands c.address c.server c.stands) c.versions);
}

-- who publishes the data of a server
abbrev pub published : FragmentServer → Publisher
published server = publisher ((serving server).data_set ∷ []) (serving server).config

-- The call of one plan over the wire that was made for a server: what is offered, the plan, which is that of each choice, and how many requests were started.
module _ (server : FragmentServer) (seed n : ℕ) (after : Looped FragmentServer) (options : Options) (offered : Publisher → Offer) (plan : List Address) (Started : ℕ → Type 0)
    (same : (choice : (offered (published server)).Choice) → (offered (published server)).IsChoice choice → (offered (published server)).addresses choice ≡ plan)
    (honest : IsHonestWire (allows_of (begun server seed n)) local_base ((serving server).data_set ∷ []) (serving server).config (wire_of (begun server seed n)))
    (due : CountsDue after.counts.failing after.counts.dials after.counts.faults after.provoked) (small : options.budget < 2 ^ 63)
    (moves : MovesOn (wire_of (begun server seed n)) (wire_of after)) (dials : DialsAtMost options.budget (wire_of (begun server seed n)) (wire_of after)) where
  abbrev pub offer : Offer
  offer = offered (published server)

  abbrev pub Acts : Result Report ClientFault → Type 0
  Acts result = ActsByPlan (allows_of (begun server seed n)) (publisher_ends local_base offered) Started options result (λ report. report) (wire_of (begun server seed n)) (wire_of after)

  length_is : (choice : offer.Choice) → offer.IsChoice choice → length (offer.addresses choice) ≡ length plan
  length_is choice is = ap (λ (list : List Address). length list) (same choice is)

  few : (result : Result Report ClientFault) → Acts result → FewFailed n (length plan) (wire_of after).faults
  few result acts =
      let spares = acts.unprovoked (published server) honest refl (λ k. refl) (omega (arith, small)) in
      let every : every_of after.counts.failing ≡ Some n = ap (λ (x : Nature). x.every) moves.nature in
      let f : FewFaults n (wire_of after).dials (wire_of after).faults (wire_of after).provoked = due n every (omega (arith, dials, small)) in
      let counted = acts.counted (published server) honest refl in
      few_failed n (length plan) (wire_of after).faults (wire_of after).dials (wire_of after).provoked counted.rises options.budget f spares.provoked small dials counted.rose
      (subst (λ (k : ℕ). (wire_of after).dials ≤ 0 + (k + counted.rises)) (length_is counted.choice counted.is_choice) counted.dials)

  -- an answer
  pub counts_plan : (report : Report) → Acts (Ok report) → CountsRequests n options.retries (length plan) report.requests
  counts_plan report acts =
      let paced = acts.paced (published server) honest refl in
      let tries = acts.requests (published server) honest in
      let size = length_is paced.choice paced.is_choice in
      counts_requests n options.retries (length plan) (wire_of after).faults (few (Ok report) acts) report.requests paced.rises
      (subst (λ (k : ℕ). k ≤ report.requests) size paced.each) paced.rose (subst (λ (k : ℕ). report.requests ≤ k + paced.rises) size paced.few)
      (λ quiet. paced.exact quiet ∙ size)
      (subst (λ (k : ℕ). report.requests ≤ (options.retries + 1) * k) (length_is tries.choice tries.is_choice) tries.few)

  passes : (fault : ClientFault) → Acts (Err fault) → OverrunsPlan offer options (wire_of (begun server seed n)) (wire_of after) → SpendsPlan offer options → PassesBudget n options.retries options.budget (length plan)
  passes fault acts o s =
      passes_budget n options.retries (length plan) (wire_of after).faults (few (Err fault) acts) options.budget o.rises o.rose (subst (λ (k : ℕ). options.budget < k + o.rises) (length_is o.choice o.is_choice) o.over)
      (subst (λ (k : ℕ). options.budget < (options.retries + 1) * k) (length_is s.choice s.is_choice) s.tries)

  -- a fault; a budget that is spent is told whole
  pub may_end_by : AreReadAll offer plan → (fault : ClientFault) → Acts (Err fault) → ((most : ℕ) → fault ≡ faults.Budget most → most ≡ options.budget) → MayEndBy n options offer plan fault
  may_end_by reads faults.Exchange acts told = fails_often n options.retries (length plan) (wire_of after).faults (few (Err faults.Exchange) acts) (acts.lively_cause (published server) honest refl)
  may_end_by reads faults.Stalled acts told = acts.lively_cause (published server) honest refl
  may_end_by reads (faults.Cut received) acts told = fails_often n options.retries (length plan) (wire_of after).faults (few (Err (faults.Cut received)) acts) (acts.lively_cause (published server) honest refl)
  may_end_by reads (faults.Reply fault received) acts told =
      let c = acts.honest_cause (published server) honest in
      let answered = subst (AllByRecursion (AtEach offer IsAnswerable)) (sym (same c.choice c.is_choice)) reads.answered in
      (c.too_long answered, subst (λ (list : List Address). HasLongPage offer options.max_body list received) (same c.choice c.is_choice) (c.long answered))
  may_end_by reads (faults.Page fault body) acts told =
      let c = acts.honest_cause (published server) honest in
      c.unread (subst (AllByRecursion (AtEach offer IsReadByAll)) (sym (same c.choice c.is_choice)) reads.read)
  may_end_by reads (faults.Changed first other) acts told = reads.one first other (acts.honest_cause (published server) honest)
  may_end_by reads (faults.Budget most) acts told =
      (told most refl, passes (faults.Budget most) acts (acts.lively_cause (published server) honest refl) (acts.spent_plan (published server) honest))
  may_end_by reads faults.Sink acts told = tt
  may_end_by reads faults.OutOfMemory acts told = tt
