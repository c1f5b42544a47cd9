-- What a call for a query with groups over the wire that was made for a server says.
use Rattle.std.proofs.Common.{ℕ, ◌≡◌, ◌<◌, ◌^◌, ◌∷◌, [], true, List, length, Option, Some, Result, Ok, Err, IfOk, IfErr, OnErr, refl, ap, subst}
use Rattle.std.specs.List.Sorted.{IsPermutation}
use Rattle.rdf_terms.specs.declared.term.Triple.{Triple}
use Rattle.tpf_base.specs.Addresses.{Address}
use Rattle.tpf_base.specs.Causes.{Rose}
use Rattle.tpf_base.specs.Links.{WireState, SameAllowed}
use Rattle.tpf_base.specs.Wrote.{SinkState}
use Rattle.template_fill.specs.Configurations.{IsConfig, IsValidDataSet}
use Rattle.group_query.specs.Trees.{GroupData}
use Rattle.group_rows.specs.Evaluation.{answers}
use Rattle.group_patterns.specs.Texts.{WritesGroup, WritesGroupPrefix, WritesGroupAnswers, WritesGroupAnswersFront}
use Rattle.group_patterns.specs.Acts.{IsGroupCause}
use Rattle.group_patterns.specs.Plans.{group_offer}
use Rattle.group_patterns.specs.Ended.{EndsGroups}
use Rattle.group_patterns.specs.Still.{GroupSucceedsStill}
use Rattle.loop_wire.specs.Looped.{Looped, CountsDue}
use Rattle.fragment_server.specs.declared.server.FragmentServer.{FragmentServer}
use Rattle.plan_laws.specs.Fitting.{AreServable, PlansAreRead, BasesAreRead}
use Rattle.tpf_client.specs.declared.options.Options.{Options}
use Rattle.tpf_client.specs.declared.options.Report.{Report}
use Rattle.tpf_client.specs.declared.fault.ClientFault.{ClientFault}
use Rattle.tpf_client.specs.Honest.{IsHonestWire}
use Rattle.tpf_client.specs.Offers.{publisher}
use Rattle.tpf_client.specs.Plans.{OverHonest, RisesFew, PlanFits, MayStill}
use Rattle.tpf_client.specs.Sinks.{LeavesSink}
use Rattle.data_servers.specs.Servers.{serving}
use Rattle.query_command.specs.Loops.{LoopsServer, allows_of, wire_of, begun, local_base}
use Rattle.query_command.specs.Groups.{WritesGroupOver, FailsGroupOver, WritesGroupAnswer, WritesGroupAnswerFront, WritesGroupLooped, FailsGroupLooped, EndsGroupOver, CountsGroupOver, AsksGroupPlan, AnswersGroupPlan, group_plan_of, group_offer_of}
use Rattle.query_command.specs.Over.{AreValidBlocks, AreAskableBlocks, AsksGroups}
use Rattle.query_command.proofs.Honest.{honest_wire, loops_honest, version_is}
use Rattle.query_command.proofs.Ending.{are_read_all, published, counts_plan, may_end_by}
use Rattle.query_command.proofs.GroupPlans.{same_plan, group_is_read}

-- what the call for a query with groups promises
pub record Called (allows : List ℕ → ℕ → List ℕ → List ℕ → Type 0) (g : GroupData) (options : Options) (result : Result Report ClientFault) (since now : WireState) (out out' : SinkState) (start : Address) : Type 0 where
  pub whole : IfOk result (λ report. WritesGroup g report.rows out.taken out'.taken)
  pub front : OnErr result (WritesGroupPrefix g out.taken out'.taken)
  pub ended : EndsGroups allows options start g result since now out out'
  pub headline : OverHonest allows start since (λ history config. IfOk result (λ report. WritesGroupAnswers history g report.version report.rows out.taken out'.taken))
  pub prefix : OverHonest allows start since (λ history config. OnErr result (WritesGroupAnswersFront history g out.taken out'.taken))
  pub complete : OverHonest allows start since (λ history config. since.nature.lively ≡ true → (rise : ℕ) → RisesFew options rise since now → PlanFits (group_offer (publisher history config) g start) options rise → (Rose out.faults out'.faults → ⊥) → IfErr result (MayStill (group_offer (publisher history config) g start)))
  pub still : GroupSucceedsStill allows options g start since now (Rose out.faults out'.faults) result
  pub sink : LeavesSink out out' result

module _ (allows : List ℕ → ℕ → List ℕ → List ℕ → Type 0) (g : GroupData) (start : Address) (options : Options) (old new : WireState) (out out' : SinkState) where
  pub wrote : (report : Report) → Called allows g options (Ok report) old new out out' start → WritesGroupOver allows g start options report old new out.faults out'.faults out.taken out'.taken
  wrote report k = record { whole = k.whole; acts = k.ended.acts; gathered = k.ended.ok; headline = k.headline }

  pub failed : (fault : ClientFault) → Called allows g options (Err fault) old new out out' start → FailsGroupOver allows g start options fault old new out.faults out'.faults out.taken out'.taken
  failed fault k = record { front = k.front; acts = k.ended.acts; gathered = k.ended.err; headline = k.prefix; sink = λ e. k.sink.sink (ap Err e); complete = k.complete; still = k.still }

-- the answers over the one data set
answer_of_one : (triples : List Triple) (g : GroupData) (reported : Option ℕ) (n : ℕ) (taken taken' : Option (List ℕ)) → WritesGroupAnswers (triples ∷ []) g reported n taken taken' → WritesGroupAnswer triples g n taken taken'
answer_of_one triples g reported n taken taken' s = record {
  rows = s.rows;
  rows_are = subst (λ (ts : List Triple). IsPermutation (answers ts g) s.rows) (version_is triples s.version s.is_version.low s.is_version.high) s.rows_are;
  text = s.text;
  count = s.count;
}

front_of_one : (triples : List Triple) (g : GroupData) (taken taken' : Option (List ℕ)) → WritesGroupAnswersFront (triples ∷ []) g taken taken' → WritesGroupAnswerFront triples g taken taken'
front_of_one triples g taken taken' s = record {
  rows = s.rows;
  rows_are = subst (λ (ts : List Triple). IsPermutation (answers ts g) s.rows) (version_is triples s.version s.is_version.low s.is_version.high) s.rows_are;
  text = s.text;
}

-- the call as it was made over the wire, from the start at the base
from_begun : (server : FragmentServer) (seed n : ℕ) (old after : Looped FragmentServer) → old ≡ begun server seed n → (g : GroupData) (options : Options) (start : Address) → start ≡ local_base → (result : Result Report ClientFault) (out out' : SinkState)
    → Called (allows_of old) g options result (wire_of old) (wire_of after) out out' start → Called (allows_of (begun server seed n)) g options result (wire_of (begun server seed n)) (wire_of after) out out' local_base
from_begun server seed n old after is g options start same result out out' k =
    subst (λ (wire : Looped FragmentServer). Called (allows_of wire) g options result (wire_of wire) (wire_of after) out out' local_base) is
    (subst (Called (allows_of old) g options result (wire_of old) (wire_of after) out out') same k)

module _ (server : FragmentServer) (seed n : ℕ) (after : Looped FragmentServer) (g : GroupData) (options : Options) (out out' : SinkState)
    (honest : IsHonestWire (allows_of (begun server seed n)) local_base ((serving server).data_set ∷ []) (serving server).config (wire_of (begun server seed n))) where
  abbrev Called_here : Result Report ClientFault → Type 0
  Called_here result = Called (allows_of (begun server seed n)) g options result (wire_of (begun server seed n)) (wire_of after) out out' local_base

  answers_here : (result : Result Report ClientFault) → Called_here result → IfOk result (λ report. LoopsServer server seed n (Some after) (WritesGroupLooped g options report out out'))
  answers_here (Ok report) k = record { after = after; is_inside = refl; says = wrote (allows_of (begun server seed n)) g local_base options (wire_of (begun server seed n)) (wire_of after) out out' report k }
  answers_here (Err fault) k = tt

  cause_here : (result : Result Report ClientFault) → Called_here result → IfErr result (λ fault. LoopsServer server seed n (Some after) (FailsGroupLooped g options fault out out'))
  cause_here (Ok report) k = tt
  cause_here (Err fault) k = record { after = after; is_inside = refl; says = failed (allows_of (begun server seed n)) g local_base options (wire_of (begun server seed n)) (wire_of after) out out' fault k }

  answer_here : (result : Result Report ClientFault) → Called_here result → IfOk result (λ report. WritesGroupAnswer (serving server).data_set g report.rows out.taken out'.taken)
  answer_here (Ok report) k = answer_of_one (serving server).data_set g report.version report.rows out.taken out'.taken (k.headline ((serving server).data_set ∷ []) (serving server).config honest)
  answer_here (Err fault) k = tt

  front_here : (result : Result Report ClientFault) → Called_here result → OnErr result (WritesGroupAnswerFront (serving server).data_set g out.taken out'.taken)
  front_here (Ok report) k = tt
  front_here (Err fault) k = front_of_one (serving server).data_set g out.taken out'.taken (k.prefix ((serving server).data_set ∷ []) (serving server).config honest)

  asked_here : (result : Result Report ClientFault) → Called_here result → LoopsServer server seed n (Some after) (AsksGroupPlan options g)
  asked_here result k = record { after = after; is_inside = refl; says = record { asked = k.ended.acts.plan.asked (published server) honest; requested = k.ended.acts.plan.requested (published server) honest } }

  replied_here : (result : Result Report ClientFault) → Called_here result → IfOk result (λ report. LoopsServer server seed n (Some after) (AnswersGroupPlan options g report))
  replied_here (Ok report) k = record { after = after; is_inside = refl; says = k.ended.acts.plan.replied (published server) honest }
  replied_here (Err fault) k = tt

  counted_here : CountsDue after.counts.failing after.counts.dials after.counts.faults after.provoked → (result : Result Report ClientFault) → Called_here result → options.budget < 2 ^ 63
      → IfOk result (λ report. LoopsServer server seed n (Some after) (CountsGroupOver n options g report))
  counted_here due (Ok report) k small = record {
    after = after;
    is_inside = refl;
    says =
        let acts = k.ended.acts in
        counts_plan server seed n after options (λ p. group_offer p g local_base) (group_plan_of (serving server).data_set (serving server).config g) _ (same_plan (serving server).data_set (serving server).config g local_base) honest due small acts.moves acts.dials report acts.plan;
  }
  counted_here due (Err fault) k small = tt

  ends_here : PlansAreRead → BasesAreRead → (serving server).config.base ≡ local_base → IsValidDataSet (serving server).data_set → IsConfig (serving server).config
      → CountsDue after.counts.failing after.counts.dials after.counts.faults after.provoked → (result : Result Report ClientFault) → Called_here result
      → AreServable (serving server).data_set → AreAskableBlocks g → options.budget < 2 ^ 63 → IfErr result (λ fault. LoopsServer server seed n (Some after) (EndsGroupOver n options g fault))
  ends_here plans bases base valid config due (Ok report) k servable askable small = tt
  ends_here plans bases base valid config due (Err fault) k servable askable small = record {
    after = after;
    is_inside = refl;
    says =
        let acts = k.ended.acts in
        may_end_by server seed n after options (λ p. group_offer p g local_base) (group_plan_of (serving server).data_set (serving server).config g) _ (same_plan (serving server).data_set (serving server).config g local_base) honest due small acts.moves acts.dials
        (are_read_all (serving server).data_set (serving server).config (group_offer_of (serving server).data_set (serving server).config g) (λ address p stands. stands) (group_plan_of (serving server).data_set (serving server).config g)
        (group_is_read plans bases (serving server).data_set (serving server).config g base valid config servable askable)) fault acts.plan
        (λ most is. subst (IsGroupCause options (wire_of (begun server seed n)) (wire_of after) out.faults out'.faults) is acts.cause);
  }

pub asks_groups : (server : FragmentServer) (seed n : ℕ) (old after : Looped FragmentServer) → old ≡ begun server seed n → (g : GroupData) (options : Options) (start : Address) → start ≡ local_base → (result : Result Report ClientFault) (out out' : SinkState)
    → Called (allows_of old) g options result (wire_of old) (wire_of after) out out' start → SameAllowed (allows_of old) (allows_of after) → AreValidBlocks g
    → (serving server).version ≡ 1 → (serving server).config.base ≡ local_base → IsValidDataSet (serving server).data_set → IsConfig (serving server).config → length (serving server).data_set < 2 ^ 64
    → PlansAreRead → BasesAreRead → CountsDue after.counts.failing after.counts.dials after.counts.faults after.provoked → AsksGroups server seed n options g result (Some after) out out'
asks_groups server seed n old after is g options start same result out out' called allowed blocks first base valid config few plans bases due =
    let k = from_begun server seed n old after is g options start same result out out' called in
    let everywhere = honest_wire server seed n first valid config few in
    let honest = everywhere local_base in
    let s = called.sink in
    record {
      valid = blocks;
      answers = answers_here server seed n after g options out out' honest result k;
      cause = cause_here server seed n after g options out out' honest result k;
      answer = answer_here server seed n after g options out out' honest result k;
      front = front_here server seed n after g options out out' honest result k;
      asked = asked_here server seed n after g options out out' honest result k;
      replied = replied_here server seed n after g options out out' honest result k;
      counted = counted_here server seed n after g options out out' honest due result k;
      ends = ends_here server seed n after g options out out' honest plans bases base valid config due result k;
      honest = loops_honest server seed n old after is allowed everywhere;
      output = record { later = s.later; faultless = s.faultless; spared = λ fine. (s.spared fine).0 };
      spared = λ fine. (s.spared fine).1;
    }
