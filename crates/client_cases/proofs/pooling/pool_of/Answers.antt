use Rattle.client_cases.proofs.pooling.pool_of.Goals as goal

pub returns : goal.returns
returns c = record { suits = λ wire. c.put_all.ensures.suits wire (c.new-pool.ensures.suits wire) }
