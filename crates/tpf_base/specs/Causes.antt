-- Counts that never fall, kept as u64, and the causes of an answer.
use Rattle.std.specs.Prelude.{ℕ, ◌≡◌, ◌≢◌, ◌+◌, ◌-◌, ◌^◌, ◌≤◌, min, Result, OnOk, IsErrOf, Err}
use Rattle.tpf_base.specs.declared.fault.Fault.{Fault}
use Rattle.tpf_base.specs.declared.fault.Fault.TheVariants.{Failed, OutOfMemory}

-- n more, where a count stands still at its last value
abbrev pub counted_by : ℕ → ℕ → ℕ
counted_by n count = min (count + n) (2 ^ 64 - 1)

-- one more
abbrev pub counted : ℕ → ℕ
counted count = counted_by 1 count

-- the count rose by at least n, or stands at its last value
abbrev pub RoseBy : ℕ → ℕ → ℕ → Type 0
RoseBy n before now = counted_by n before ≤ now

-- the count rose, or stands at its last value
abbrev pub Rose : ℕ → ℕ → Type 0
Rose before now = RoseBy 1 before now

-- `Failed` comes only with a rise of the count, success and out of memory leave the count, and no call lowers it.
pub record HasCause {T : Type 0} (before now : ℕ) (result : Result T Fault) : Type 0 where
  pub later : before ≤ now
  pub success : OnOk result (now ≡ before)
  pub failed : IsErrOf result Failed → Rose before now
  pub memory : IsErrOf result OutOfMemory → now ≡ before

-- a call did not fail: the count is as before, and the answer is another than `Failed`
pub record DoesNotFail {T : Type 0} (before now : ℕ) (result : Result T Fault) : Type 0 where
  pub same : now ≡ before
  pub answer : result ≢ Err Failed
