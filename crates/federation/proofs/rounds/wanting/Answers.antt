use Rattle.std.proofs.Common.{◌≡◌, ◌<◌, ◌≤◌, List, [], length, subst, arith}
use Rattle.std.specs.List.{All}
use Rattle.std.proofs.lemmas.List.{take_all}
use Rattle.std.proofs.lemmas.List.Elements.{All-more}
use Rattle.joint_pages.specs.Gatherings.{GatheringData}
use Rattle.federation.proofs.rounds.wanting.Goals as goal

pub loop-place-preserved : goal.loop-place-preserved
loop-place-preserved c =
    let below : c.loop-place.place < length c.args.rounds.now = omega arith in
    All-more (λ (g : GatheringData). g.wanted ≡ []) c.args.rounds.now c.loop-place.place c.index-rounds-place.result below c.loop-place.invariant
    (subst (λ (g : GatheringData). g.wanted ≡ []) c.index-rounds-place.is (c.wants.ensures.none c.if-wants.false))

pub returns-clause-none : goal.returns-clause-none
returns-clause-none c =
    let past : length c.args.rounds.now ≤ c.loop-place.place = omega arith in
    subst (λ (l : List GatheringData). All (λ g. g.wanted ≡ []) l) (take_all c.loop-place.place c.args.rounds.now past) c.loop-place.invariant
