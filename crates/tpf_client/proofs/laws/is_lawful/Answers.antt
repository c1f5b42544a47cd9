use Rattle.tpf_client.proofs.laws.is_lawful.Goals as goal

pub returns : goal.returns
returns g c = record {
  told = λ k. g.met.W.Wire.told c.args.wire.now k;
  given = g.met.W.Wire.given_alone c.args.wire.now;
  received = λ k. g.met.W.Wire.received_is_owed c.args.wire.now k;
  owed = λ k. g.met.W.Wire.owed_is_allowed c.args.wire.now k;
  lively = g.met.W.Wire.is_lively c.args.wire.now;
}
