-- What a call leaves of its sink.
use Rattle.std.specs.Prelude.{◌≡◌, ◌≤◌, true, None, Result, OnOk, IsErrOf}
use Rattle.tpf_base.specs.Causes.{Rose, HasCause, DoesNotFail}
use Rattle.tpf_base.specs.Wrote.{SinkState}
use Rattle.tpf_base.specs.declared.fault.Fault.{Fault}
use Rattle.tpf_client.specs.declared.fault.ClientFault.{ClientFault}
use Rattle.tpf_client.specs.declared.fault.ClientFault.TheVariants as faults

-- where nothing stands behind: a sink that tells nothing and never fails
abbrev pub no_sink : SinkState
no_sink = record { taken = None; faults = 0; faultless = true }

-- Bytes were handed on: a fault has its cause, and a sink that never fails did not fail.
pub record KeepsSink {T : Type 0} (old new : SinkState) (result : Result T Fault) : Type 0 where
  pub cause : HasCause old.faults new.faults result
  pub faultless : new.faultless ≡ old.faultless
  pub spared : old.faultless ≡ true → DoesNotFail old.faults new.faults result

-- The same of a part of a call. Where it answers no fault the sink did not fail, and `Sink` comes only where its count of faults rose.
pub record LeavesSink {T : Type 0} (old new : SinkState) (result : Result T ClientFault) : Type 0 where
  pub later : old.faults ≤ new.faults
  pub success : OnOk result (new.faults ≡ old.faults)
  pub sink : IsErrOf result faults.Sink → Rose old.faults new.faults
  pub faultless : new.faultless ≡ old.faultless
  pub spared : old.faultless ≡ true → (new.faults ≡ old.faults) × (IsErrOf result faults.Sink → ⊥)
