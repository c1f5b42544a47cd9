-- The tickets that are held are those before this one.
use Rattle.tpf_base.specs.Links.{WireState}
use Rattle.request_pool.specs.Pools.{held}
use Rattle.request_pool.specs.Owned.{SuitsWire}
use Rattle.client_cases.proofs.PoolLemmas.{AreBelow}
use Rattle.client_cases.proofs.stepping.put_all.Given as goal

abbrev pub invariant-loop-place : goal.invariant-loop-place
invariant-loop-place l = record {
  tickets : AreBelow l.place (held l.pool);
  suits : (wire : WireState) → SuitsWire l.initial.pool wire → SuitsWire l.pool wire;
}
