-- What honest other ends do in a step of a pool, whatever the wire is after it: the laws of the pool over the laws of both ends of HTTP.
use Rattle.std.proofs.Common.{ℕ, List}
use Rattle.tpf_base.specs.Links.{WireState}
use Rattle.pool_laws.specs.Answers.{RepliesAreAnswers, RefusalsAreTooLong}
use Rattle.pool_laws.specs.Rising.{StepsRoseBySome}
use Rattle.pool_laws.specs.Provoking.{NoneHangBySome}
use Rattle.pool_laws.specs.Ends.{EndsAreTrue}
use Rattle.pool_laws.proofs.Answers.{replies_are_answers, refusals_are_too_long}
use Rattle.pool_laws.proofs.Rising.{steps_rose_by_some}
use Rattle.pool_laws.proofs.Provoking.{none_hang_by_some}
use Rattle.tpf_client.specs.Honest.{Laws}

module _ (laws : Laws) where
  ends : EndsAreTrue
  ends = record {
    plain = laws.plain;
    reads = laws.reads;
    long = laws.long;
    short = laws.short;
    status = laws.status;
    server = laws.server;
    pages = laws.quads;
    sends = laws.sends;
    responses = laws.responses;
    replies = laws.replies;
    next = laws.next;
    stays = laws.stays;
  }

  -- a reply is the answer to its request
  pub replies-answer : (allows : List ℕ → ℕ → List ℕ → List ℕ → Type 0) (after : WireState) → RepliesAreAnswers allows after
  replies-answer allows after = replies_are_answers ends laws.authorities allows after

  -- one that is refused is too long
  pub refusals-long : (allows : List ℕ → ℕ → List ℕ → List ℕ → Type 0) (after : WireState) → RefusalsAreTooLong allows after
  refusals-long allows after = refusals_are_too_long ends laws.authorities allows after

  -- each failure is a rise of the wire's faults
  pub failures-rise : (allows : List ℕ → ℕ → List ℕ → List ℕ → Type 0) (after : WireState) → StepsRoseBySome allows after
  failures-rise allows after = steps_rose_by_some ends laws.authorities allows after

  -- no exchange hangs
  pub none-hang : (allows : List ℕ → ℕ → List ℕ → List ℕ → Type 0) (after : WireState) → NoneHangBySome allows after
  none-hang allows after = none_hang_by_some ends allows after
