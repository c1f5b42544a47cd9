-- What a call gave is of what is offered, where it is covered by that.
use Rattle.std.proofs.Common.{ℕ, List}
use Rattle.std.specs.Prelude.{Result, IfOk, OnErr}
use Rattle.std.proofs.lemmas.Result.{IfOk-weaker}
use Rattle.tpf_base.specs.Addresses.{Address}
use Rattle.tpf_base.specs.Links.{WireState}
use Rattle.tpf_base.specs.Wrote.{SinkState}
use Rattle.bgp_core.specs.Queries.{QueryData}
use Rattle.bgp_core.specs.Solutions.{Places}
use Rattle.result_json.specs.Pieces.{PiecesMakeTheText, RowsGoOn}
use Rattle.tpf_client.specs.declared.options.Options.{Options}
use Rattle.tpf_client.specs.declared.options.Report.{Report}
use Rattle.tpf_client.specs.declared.fault.ClientFault.{ClientFault}
use Rattle.tpf_client.specs.Sources.{Sources}
use Rattle.tpf_client.specs.Calls.{AreThese}
use Rattle.tpf_client.specs.Offers.{Offer}
use Rattle.tpf_client.specs.Ends.{Ends}
use Rattle.tpf_client.specs.Honest.{WritesSolutions, WritesSolutionsFront, IsSolutions}
use Rattle.tpf_client.specs.Ended.{WritesOverEnds, GivesOverEnds}
use Rattle.tpf_client.proofs.Shutting.{on-err-of}
use Rattle.tpf_client.proofs.Planned.{these-run}
use Rattle.tpf_client.proofs.Covered.{Covered, solutions-written, solutions-given, front-written}

module _ (allows : List ℕ → ℕ → List ℕ → List ℕ → Type 0) (options : Options) (since now : WireState) (starts : List Address) (sources : Sources) (q : QueryData) (offer : Offer) (covered : Covered sources offer allows options since now starts q) (ends : Ends) (most : ℕ) where
  -- the text of its rows was written whole
  pub text-offered : (result : Result Report ClientFault) (out out' : SinkState) → WritesOverEnds allows ends sources q starts options most result since now out out' → IfOk result (λ report. WritesSolutions offer q report.version report.rows out.taken out'.taken)
  text-offered result out out' w =
      IfOk-weaker result _ _ (λ report x.
      solutions-written sources offer allows options since now starts q covered (AreThese w.acts.happened.events w.acts.happened.pool) (these-run allows options since now starts w.acts.happened) report out.taken out'.taken x) w.ok

  -- or a front of it
  pub front-offered : PiecesMakeTheText → RowsGoOn → (result : Result Report ClientFault) (out out' : SinkState) → WritesOverEnds allows ends sources q starts options most result since now out out' → OnErr result (WritesSolutionsFront offer q out.taken out'.taken)
  front-offered pieces goes_on result out out' w =
      on-err-of result _ _ (λ fault x.
      front-written sources offer allows options since now starts q covered (AreThese w.acts.happened.events w.acts.happened.pool) (these-run allows options since now starts w.acts.happened) pieces goes_on options.budget fault out.taken out'.taken x.fails.some) w.err

  -- its rows were given
  pub rows-offered : {A : Type 0} (result : Result A ClientFault) (told : A → Report) (rows : A → List Places) → GivesOverEnds allows ends sources q starts options most result told rows since now → IfOk result (λ x. IsSolutions offer (told x).version (rows x))
  rows-offered result told rows w =
      IfOk-weaker result _ _ (λ x r.
      solutions-given sources offer allows options since now starts q covered (AreThese w.acts.happened.events w.acts.happened.pool) (these-run allows options since now starts w.acts.happened) (told x) (rows x) r) w.ok
