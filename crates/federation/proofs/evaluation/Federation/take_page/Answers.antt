use Rattle.std.proofs.Common.{ℕ, ◌≡◌, ◌-◌, inr, ◌⊎◌, List, Option, ap, subst}
use Rattle.joint_pages.specs.Gatherings.{GatheringData}
use Rattle.federation.specs.Federations.{FederationData}
use Rattle.federation.specs.Changes.{AwaitsIn, TakesIn, ComesOut}
use Rattle.federation.specs.Steps.{TakesOne, TakesLast}
use Rattle.federation.proofs.Answering.{with-last}
use Rattle.federation.proofs.evaluation.Federation.take_page.Goals as goal

pub returns-in_ok-join_round-in-Some-take : goal.returns-in_ok-join_round-in-Some-take
returns-in_ok-join_round-in-Some-take c =
    let i = c.self.inside in
    let j = c.join_round.new.join in
    let rounds = c.take.new.rounds.items in
    let seen : FederationData = record { join = i.join; rounds = i.rounds.items; given = i.given; awaited = i.awaited; most = i.most } in
    let after : FederationData = record { join = j; rounds = rounds; given = i.given; awaited = c.saturating_sub-self-inside.result; most = i.most } in
    let awaits : AwaitsIn i.rounds.items c.in-Some.spot c.args.ticket = subst (λ (l : List GatheringData). AwaitsIn l c.in-Some.spot c.args.ticket) c.as_slice.ensures.value c.in-Some.ensures.some in
    let comes : ComesOut i.rounds.items rounds c.args.ticket c.args.page c.in-Some-take.round = subst (λ (o : Option GatheringData). TakesIn i.rounds.items rounds c.args.ticket c.args.page o) c.in-Some-take.is (c.take.ensures c.args.ticket awaits) in
    let less : c.saturating_sub-self-inside.result ≡ i.awaited - 1 = c.saturating_sub-self-inside.ensures in
    let done : after ≡ with-last seen j rounds = ap (λ (n : ℕ). record { join = j; rounds = rounds; given = i.given; awaited = n; most = i.most }) less in
    let last : TakesLast seen after c.args.ticket c.args.page = record {
      join = j;
      rounds = rounds;
      after = c.in-Some-take.round;
      answered = c.in_ok-join_round-in-Some-take.field-0;
      comes = comes;
      joins = c.in_ok-join_round-in-Some-take.ensures.joins;
      done = done;
    } in
    subst (λ (f : FederationData). TakesOne f after c.args.ticket c.args.page ⊎ TakesLast f after c.args.ticket c.args.page) c.self.view_is (inr last)
