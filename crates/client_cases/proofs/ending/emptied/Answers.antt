use Rattle.client_cases.proofs.PoolLemmas.{closed_holds, closed_suits}
use Rattle.client_cases.proofs.ending.emptied.Goals as goal

pub returns-then-held-eq0 : goal.returns-then-held-eq0
returns-then-held-eq0 g c = record {
  none = closed_holds c.args.pool.now _ c.close.ensures.empty;
  suits = λ wire. closed_suits c.args.pool.now _ wire c.close.ensures.empty;
}

pub returns-else-held-eq0 : goal.returns-else-held-eq0
returns-else-held-eq0 g c = record {
  none = closed_holds c.args.pool.now _ c.close.ensures.empty;
  suits = λ wire. closed_suits c.args.pool.now _ wire c.close.ensures.empty;
}
