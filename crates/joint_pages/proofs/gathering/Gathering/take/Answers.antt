use Rattle.std.proofs.Common.{refl, sym, subst}
use Rattle.std.specs.Option.{option_map}
use Rattle.std.specs.Rc.{rc_value}
use Rattle.request_plan.specs.Rounds.{taken_of}
use Rattle.joint_pages.specs.Gatherings.{GatheringData, AwaitsAt, TakesPart}
use Rattle.joint_pages.proofs.Places.{take-part}
use Rattle.joint_pages.proofs.gathering.Gathering.take.Goals as goal

pub put_at-requires : goal.put_at-requires
put_at-requires c = (subst (λ (g : GatheringData). AwaitsAt g.parts c.args.place c.requires.0) (sym c.self.view_is) c.requires.1).within

pub returns : goal.returns
returns c = λ ticket a.
    let i = c.self.inside in
    let seen : GatheringData = record { number = i.number; wanted = i.wanted.items; parts = i.parts.items; taken = taken_of (option_map rc_value i.taken) } in
    let after : GatheringData = record { number = i.number; wanted = i.wanted.items; parts = c.put_at.new.parts.items; taken = taken_of (option_map rc_value i.taken) } in
    let own : AwaitsAt i.parts.items c.args.place ticket = subst (λ (g : GatheringData). AwaitsAt g.parts c.args.place ticket) (sym c.self.view_is) a in
    subst (λ (g : GatheringData). TakesPart g after ticket c.args.page) c.self.view_is (take-part seen after c.args.place ticket c.args.page own (c.put_at.ensures own.part own.there) refl refl refl)
