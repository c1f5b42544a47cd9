use Rattle.std.proofs.Common.{Option, subst}
use Rattle.tpf_base.specs.Addresses.{Address}
use Rattle.request_plan.specs.declared.round.RoundAsk.{RoundAsk}
use Rattle.join_core.specs.Outcomes.{AskDone, AskNumbered, AskStarts}
use Rattle.join_core.specs.Sound.{AsksRoundAtHome}
use Rattle.joint_pages.specs.Gatherings.{GatheringData, HandsPart, HandsNext}
use Rattle.federation.proofs.evaluation.begin_round.Goals as goal

pub returns-in-Some-2-clause-begins : goal.returns-in-Some-2-clause-begins
returns-in-Some-2-clause-begins c =
    let old = c.args.join.now in
    let new = c.next_round.new.self in
    let asked = c.in_ok-ask.ensures in
    let handed : HandsNext c.in_ok-gathering.gathering c.hand_out.new.self c.args.ticket c.in_ok-hand_out.field-0 = c.in_ok-hand_out.ensures in
    record {
      ask = c.in-Some.ask;
      joins = record {
        handed = λ w s. subst (λ (o : Option RoundAsk). AskDone w old new o) c.in-Some.is (asked.asks w s);
        numbered = subst (λ (o : Option RoundAsk). AskNumbered old new o) c.in-Some.is asked.numbered;
        starts = subst (λ (o : Option RoundAsk). AskStarts old new o) c.in-Some.is asked.starts;
        keeps = asked.keeps;
        at_home = λ terms k. subst (λ (o : Option RoundAsk). AsksRoundAtHome terms.homes o) c.in-Some.is (asked.at_home terms k);
        small = asked.small;
      };
      hands = subst (λ (g : GatheringData). HandsPart g c.hand_out.new.self c.args.ticket c.in-Some-2.address) c.in_ok-gathering.ensures.begun
          (subst (λ (o : Option Address). HandsNext c.in_ok-gathering.gathering c.hand_out.new.self c.args.ticket o) c.in-Some-2.is handed);
    }
