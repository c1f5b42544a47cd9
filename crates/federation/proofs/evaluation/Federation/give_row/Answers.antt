use Rattle.std.proofs.Common.{refl, subst}
use Rattle.federation.specs.Federations.{FederationData}
use Rattle.federation.specs.Steps.{GivesOne}
use Rattle.federation.proofs.Giving.{with-join}
use Rattle.federation.proofs.evaluation.Federation.give_row.Goals as goal

pub returns : goal.returns
returns c =
    let i = c.self.inside in
    let seen : FederationData = record { join = i.join; rounds = i.rounds.items; given = i.given; awaited = i.awaited; most = i.most } in
    let gives : GivesOne seen (with-join seen c.take_row.new.self) c.take_row.result = record {
      join = c.take_row.new.self;
      done = refl;
      takes = c.take_row.ensures;
    } in
    subst (λ (f : FederationData). GivesOne f (with-join seen c.take_row.new.self) c.take_row.result) c.self.view_is gives
