-- What a call over the wire that was made for a server says.
use Rattle.std.proofs.Common.{ℕ, ◌≡◌, ◌<◌, ◌^◌, ◌∷◌, [], true, List, length, Option, Some, Result, Ok, Err, IfOk, IfErr, OnErr, refl, sym, ap, subst}
use Rattle.rdf_terms.specs.declared.term.Triple.{Triple}
use Rattle.tpf_base.specs.Addresses.{Address}
use Rattle.tpf_base.specs.Causes.{Rose}
use Rattle.template_fill.specs.Metadata.{Config}
use Rattle.template_fill.specs.Configurations.{IsConfig, IsValidDataSet}
use Rattle.loop_wire.specs.Looped.{Looped}
use Rattle.fragment_server.specs.declared.server.FragmentServer.{FragmentServer}
use Rattle.bgp_core.specs.Queries.{QueryData}
use Rattle.tpf_client.specs.declared.options.Options.{Options}
use Rattle.tpf_client.specs.declared.options.Report.{Report}
use Rattle.tpf_client.specs.declared.fault.ClientFault.{ClientFault}
use Rattle.tpf_client.specs.declared.fault.ClientFault.TheVariants as clients
use Rattle.tpf_client.specs.Offers.{publisher, offer_in_blocks}
use Rattle.tpf_client.specs.Ends.{ends_in_blocks}
use Rattle.tpf_client.specs.Acts.{ActsOnWire}
use Rattle.tpf_client.specs.Sources.{world_sources}
use Rattle.tpf_client.specs.Calls.{AreThese, WritesResult, WritesPrefix, WritesAll, most_asked}
use Rattle.tpf_client.specs.Ended.{FailsShown}
use Rattle.tpf_client.specs.Still.{SucceedsStill}
use Rattle.tpf_client.specs.Honest.{IsHonestWire, WritesSolutions, WritesSolutionsFront}
use Rattle.tpf_client.specs.Plans.{OverHonest, RisesFew, PlanFits, MayStill}
use Rattle.data_servers.specs.Servers.{serving}
use Rattle.page_responses.specs.Serving as core
use Rattle.query_command.specs.Answers.{WritesOver, FailsOver}
use Rattle.query_command.specs.Loops.{LoopsServer, WritesAnswer, WritesAnswerFront, allows_of, wire_of, begun}
use Rattle.query_command.proofs.Honest.{honest_wire, answer_of_one, front_of_one}

-- what a server serves is valid
pub valid_served : (server : FragmentServer) (inner : core.Serving) → inner ≡ server.server → IsValidDataSet (core.data_of inner) → IsValidDataSet (serving server).data_set
valid_served server inner is h = subst (λ (s : core.Serving). IsValidDataSet (core.data_of s)) is h

pub config_served : (server : FragmentServer) (inner : core.Serving) → inner ≡ server.server → IsConfig inner.config → IsConfig (serving server).config
config_served server inner is h = subst (λ (s : core.Serving). IsConfig s.config) is h

module _ (server : FragmentServer) (seed fail_every : ℕ) (old after : Looped FragmentServer) (is : old ≡ begun server seed fail_every) (q : QueryData) (asked start : Address) (same : asked ≡ start) (options : Options) (out out' : ℕ) (taken taken' : Option (List ℕ)) where
  abbrev Wrote : Looped FragmentServer → Address → Report → Type 0
  Wrote wire at report = WritesOver (allows_of wire) q at options report (wire_of wire) (wire_of after) taken taken'

  abbrev Failed : Looped FragmentServer → Address → ClientFault → Type 0
  Failed wire at fault = FailsOver (allows_of wire) q at options fault (wire_of wire) (wire_of after) out out' taken taken'

  pub loops_ok : (result : Result Report ClientFault)
      → IfOk result (λ report. WritesResult q report.rows taken taken')
      → (acts : ActsOnWire (allows_of old) (ends_in_blocks options.block q asked) options (asked ∷ []) (most_asked options q) result (λ report. report) (wire_of old) (wire_of after))
      → IfOk result (λ report. WritesAll (AreThese acts.happened.events acts.happened.pool) (world_sources options.block) q (asked ∷ []) report taken taken')
      → ((history : List (List Triple)) (config : Config) → IsHonestWire (allows_of old) asked history config (wire_of old) → IfOk result (λ report. WritesSolutions (offer_in_blocks options.block (publisher history config) q asked) q report.version report.rows taken taken'))
      → IfOk result (λ report. LoopsServer server seed fail_every (Some after) (λ wire wire'. WritesOver (allows_of wire) q start options report (wire_of wire) (wire_of wire') taken taken'))
  loops_ok (Ok report) whole acts all headline = record {
    after = after;
    is_inside = refl;
    says = subst (λ (wire : Looped FragmentServer). Wrote wire start report) is (subst (λ (at : Address). Wrote old at report) same (record { whole = whole; acts = acts; writes = all; headline = headline }));
  }
  loops_ok (Err fault) whole acts all headline = tt

  pub loops_err : (result : Result Report ClientFault)
      → OnErr result (WritesPrefix q taken taken')
      → (acts : ActsOnWire (allows_of old) (ends_in_blocks options.block q asked) options (asked ∷ []) (most_asked options q) result (λ report. report) (wire_of old) (wire_of after))
      → IfErr result (λ fault. FailsShown (AreThese acts.happened.events acts.happened.pool) acts.happened.pool.started (allows_of old) (ends_in_blocks options.block q asked) options (world_sources options.block) q (asked ∷ []) fault (wire_of old) (wire_of after) out out' taken taken')
      → ((history : List (List Triple)) (config : Config) → IsHonestWire (allows_of old) asked history config (wire_of old) → OnErr result (WritesSolutionsFront (offer_in_blocks options.block (publisher history config) q asked) q taken taken'))
      → (result ≡ Err clients.Sink → Rose out out')
      → OverHonest (allows_of old) asked (wire_of old) (λ history config. (wire_of old).nature.lively ≡ true → (rise : ℕ) → RisesFew options rise (wire_of old) (wire_of after) → PlanFits (offer_in_blocks options.block (publisher history config) q asked) options rise → (Rose out out' → ⊥) → IfErr result (MayStill (offer_in_blocks options.block (publisher history config) q asked)))
      → SucceedsStill (allows_of old) options q asked (wire_of old) (wire_of after) (Rose out out') result
      → IfErr result (λ fault. LoopsServer server seed fail_every (Some after) (λ wire wire'. FailsOver (allows_of wire) q start options fault (wire_of wire) (wire_of wire') out out' taken taken'))
  loops_err (Ok report) front acts fails headline sink complete still = tt
  loops_err (Err fault) front acts fails headline sink complete still = record {
    after = after;
    is_inside = refl;
    says = subst (λ (wire : Looped FragmentServer). Failed wire start fault) is
        (subst (λ (at : Address). Failed old at fault) same (record { front = front; acts = acts; fails = fails; headline = headline; sink = λ e. sink (ap Err e); complete = complete; still = still }));
  }

  -- what it did on the wire as it was made
  pub keeps : (result : Result Report ClientFault) → ActsOnWire (allows_of old) (ends_in_blocks options.block q asked) options (asked ∷ []) (most_asked options q) result (λ report. report) (wire_of old) (wire_of after)
      → ActsOnWire (allows_of (begun server seed fail_every)) (ends_in_blocks options.block q start) options (start ∷ []) (most_asked options q) result (λ report. report) (wire_of (begun server seed fail_every)) (wire_of after)
  keeps result acts =
      subst (λ (wire : Looped FragmentServer). ActsOnWire (allows_of wire) (ends_in_blocks options.block q start) options (start ∷ []) (most_asked options q) result (λ (report : Report). report) (wire_of wire) (wire_of after)) is
      (subst (λ (at : Address). ActsOnWire (allows_of old) (ends_in_blocks options.block q at) options (at ∷ []) (most_asked options q) result (λ (report : Report). report) (wire_of old) (wire_of after)) same acts)

  honest_old : (serving server).version ≡ 1 → IsValidDataSet (serving server).data_set → IsConfig (serving server).config → length (serving server).data_set < 2 ^ 64
      → IsHonestWire (allows_of old) asked ((serving server).data_set ∷ []) (serving server).config (wire_of old)
  honest_old first valid config few =
      subst (λ (wire : Looped FragmentServer). IsHonestWire (allows_of wire) asked ((serving server).data_set ∷ []) (serving server).config (wire_of wire)) (sym is) (honest_wire server seed fail_every first valid config few asked)

  pub solves : (result : Result Report ClientFault)
      → (serving server).version ≡ 1 → IsValidDataSet (serving server).data_set → IsConfig (serving server).config → length (serving server).data_set < 2 ^ 64
      → ((history : List (List Triple)) (config : Config) → IsHonestWire (allows_of old) asked history config (wire_of old) → IfOk result (λ report. WritesSolutions (offer_in_blocks options.block (publisher history config) q asked) q report.version report.rows taken taken'))
      → IfOk result (λ report. WritesAnswer (serving server).data_set q report.rows taken taken')
  solves (Ok report) first valid config few headline = answer_of_one options.block (serving server).data_set (serving server).config q asked report taken taken' (headline ((serving server).data_set ∷ []) (serving server).config (honest_old first valid config few))
  solves (Err fault) first valid config few headline = tt

  pub solves_front : (result : Result Report ClientFault)
      → (serving server).version ≡ 1 → IsValidDataSet (serving server).data_set → IsConfig (serving server).config → length (serving server).data_set < 2 ^ 64
      → ((history : List (List Triple)) (config : Config) → IsHonestWire (allows_of old) asked history config (wire_of old) → OnErr result (WritesSolutionsFront (offer_in_blocks options.block (publisher history config) q asked) q taken taken'))
      → OnErr result (WritesAnswerFront (serving server).data_set q taken taken')
  solves_front (Ok report) first valid config few headline = tt
  solves_front (Err fault) first valid config few headline = front_of_one options.block (serving server).data_set (serving server).config q asked taken taken' (headline ((serving server).data_set ∷ []) (serving server).config (honest_old first valid config few))
