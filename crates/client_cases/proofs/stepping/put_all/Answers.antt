use Rattle.std.proofs.Common.{refl}
use Rattle.client_cases.proofs.PoolLemmas.{put_below}
use Rattle.client_cases.proofs.stepping.put_all.Goals as goal

pub returns-in_err-put : goal.returns-in_err-put
returns-in_err-put c = record { suits = λ wire s. c.put.ensures.suits wire (c.loop-place.invariant.suits wire s) }

pub loop-place-preserved : goal.loop-place-preserved
loop-place-preserved c = record {
  tickets = put_below c.loop-place.place c.loop-place.pool c.put.new.self _ c.loop-place.invariant.tickets c.in_ok-put.ensures.ok refl;
  suits = λ wire s. c.put.ensures.suits wire (c.loop-place.invariant.suits wire s);
}
