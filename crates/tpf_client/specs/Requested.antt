-- How often each address was requested in a call, and answered, on the links that were given in it.
use Rattle.std.specs.Prelude.{ℕ, ◌≡◌, ◌≤◌, ◌<◌, ◌+◌, ◌*◌, Bool, true, List, length, count_by}
use Rattle.tpf_base.specs.Addresses.{Address}
use Rattle.tpf_base.specs.Causes.{Rose}
use Rattle.tpf_base.specs.Links.{WireState}
use Rattle.pool_laws.specs.Requested.{LinkRequests, TellsRequests, SentByRises, count_sent, count_answered, any}
use Rattle.tpf_client.specs.declared.options.Options.{Options}
use Rattle.tpf_client.specs.declared.options.Report.{Report}
use Rattle.tpf_client.specs.Offers.{Offer}

-- The requests on the links that were given in the call, where the wire tells them. Of any addresses no more whole requests were sent than they stand among these, each time as often as it may be tried.
pub record CallRequests (options : Options) (addresses : List Address) (since now : WireState) : Type 0 where
  pub on : ℕ → LinkRequests
  pub told : (k : ℕ) → since.given ≤ k → k < now.given → TellsRequests options.max_body (now.links k) (on k)
  pub few : (test : Address → Bool) → count_sent test on since now ≤ (options.retries + 1) * count_by test addresses

-- These, for what one of the choices has to ask for. Over a lively wire there are no more whole requests in all than addresses and rises of the wire's faults.
pub record RequestsPlan (offer : Offer) (options : Options) (since now : WireState) : Type 0 where
  pub choice : offer.Choice
  pub is_choice : offer.IsChoice choice
  pub requests : CallRequests options (offer.addresses choice) since now
  pub rises : since.nature.lively ≡ true
      → SentByRises since.faults (length (offer.addresses choice)) (count_sent any requests.on since now) now.faults

-- Each address that the choice that is reported has to ask for was answered as often as that, or more. Over a lively wire whose faults did not rise it was requested exactly as often.
pub record AnswersPlan (offer : Offer) (options : Options) (report : Report) (since now : WireState) : Type 0 where
  pub choice : offer.Choice
  pub is_choice : offer.IsChoice choice
  pub is_reported : offer.IsReported choice report.version
  pub requests : CallRequests options (offer.addresses choice) since now
  pub answered : (test : Address → Bool) → count_by test (offer.addresses choice) ≤ count_answered test requests.on since now
  pub exact : since.nature.lively ≡ true → (Rose since.faults now.faults → ⊥)
      → (test : Address → Bool) → count_sent test requests.on since now ≡ count_by test (offer.addresses choice)
