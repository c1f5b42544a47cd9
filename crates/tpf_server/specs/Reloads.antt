-- How a reload request is answered.
use Rattle.std.specs.Prelude.{ℕ, ◌≡◌, Bool, true, false, List, [], ◌∷◌, ◌++◌}
use Rattle.http_wire.specs.Requests.{Held}
use Rattle.tpf_base.specs.Marks.{Mark, Served, Failed, Starved}
use Rattle.page_responses.specs.declared.status.Status.TheVariants.{InternalServerError, ServiceUnavailable}
use Rattle.page_responses.specs.Serving.{Serving}
use Rattle.tpf_server.specs.declared.asked.Asking.{Asking}
use Rattle.tpf_server.specs.declared.asked.Asking.TheVariants as asks
use Rattle.tpf_server.specs.declared.asked.Queued.{Queued}
use Rattle.tpf_server.specs.declared.outcome.Reloaded.{Reloaded}
use Rattle.tpf_server.specs.declared.outcome.Reloaded.TheVariants as outcomes
use Rattle.tpf_server.specs.declared.reading.Reading.{Reading}
use Rattle.tpf_server.specs.declared.reading.Reading.TheVariants.{Ended}
use Rattle.tpf_server.specs.Read.{ReadsHeads}

-- a version that was reached is the one that is served
abbrev pub IsOutcome : ℕ → Reloaded → Type 0
IsOutcome version (outcomes.Version number) = number ≡ version
IsOutcome version outcomes.Failed = Unit {0}
IsOutcome version outcomes.OutOfMemory = Unit {0}

-- the mark of a reload request, where this version is served
abbrev pub outcome_mark : ℕ → Reloaded → Mark
outcome_mark version (outcomes.Version number) = Served version
outcome_mark version outcomes.Failed = Failed version
outcome_mark version outcomes.OutOfMemory = Starved version

-- the number that it is told
abbrev pub outcome_numbers : Reloaded → List ℕ
outcome_numbers (outcomes.Version number) = number ∷ []
outcome_numbers outcomes.Failed = []
outcome_numbers outcomes.OutOfMemory = []

-- what is answered
abbrev pub outcome_asking : Reloaded → Asking
outcome_asking (outcomes.Version number) = asks.Reloaded number
outcome_asking outcomes.Failed = asks.Refused InternalServerError
outcome_asking outcomes.OutOfMemory = asks.Refused ServiceUnavailable

abbrev pub outcome_queued : Reloaded → Bool → Queued
outcome_queued outcome closes = record { asking = outcome_asking outcome; without_body = false; closes = closes }

-- the answer was queued, and then those to the heads behind it unless it closes
abbrev pub ReadsOn : Serving → Reloaded → Bool → List ℕ → List Queued → List Queued → Reading → Held → Type 0
ReadsOn server outcome true bytes before after reading held = (reading ≡ Ended) × (after ≡ before ++ outcome_queued outcome true ∷ [])
ReadsOn server outcome false bytes before after reading held = ReadsHeads server bytes (before ++ outcome_queued outcome false ∷ []) after reading held
