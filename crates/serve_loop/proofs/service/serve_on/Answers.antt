-- Each turn is one more, with what follows it.
use Rattle.std.proofs.Common.{refl, ◌∙◌, ap, arith}
use Rattle.std.proofs.lemmas.Result.{IfOk-from_err, err_from_is_err_and}
use Rattle.connections.proofs.Histories.{some_history}
use Rattle.serve_loop.proofs.ServeLemmas.{serves_none, serves_turn, serves_follow, serves_failed, serves_carries, serves_fault, less_if, first_if, zero_if}
use Rattle.serve_loop.proofs.CallLemmas.{alone_none, alone_then}
use Rattle.serve_loop.proofs.ServeLemmas.{begins_at}
use Rattle.serve_loop.proofs.ServiceLemmas.{so_far_none, so_far_more, links_after, count_after, takes_turn, serves_turns, fails_turn, rose_from, wire_from, fault_as}
use Rattle.serve_loop.proofs.GreetLemmas.{between_same, comes_after, follows_between, follows_count, follows_turns, fails_after, failed_carries}
use Rattle.serve_loop.proofs.AskedLemmas.{asked_more, asked_none, asks_once, failed_asks, none_asked, none_given}
use Rattle.serve_loop.proofs.RoundLemmas.{after_last, is_after, next_part, rests_as, stands_more, stands_none}
use Rattle.std.specs.Prelude.{is_some}
use Rattle.serve_loop.proofs.service.serve_on.Goals as goal

pub loop-init : goal.loop-init
loop-init g c = record {
  alone = alone_none _;
  calm = refl;
  few = omega (arith, c.requires.empty);
  suits = c.requires.suits;
  serves = λ first since t r. serves_none _ _ _ _ _ _ _ _ r;
  so_far = so_far_none _ _ c.args.stop_after _ _ _ c.requires.empty (stands_none _ _ c.new-round.ensures);
  asked = asked_none _ _ _ _ _ c.requires.empty (stands_none _ _ c.new-round.ensures);
  fewer = zero_if c.args.stop_after;
  follows = g.met.C.Server.Serves.follows_itself c.args.server.now;
  keeps = g.met.S.Supply.keeps_itself c.args.supply.now;
  same = λ d. (λ x. x, λ x. x);
}

pub loop-preserved : goal.loop-preserved
loop-preserved g c = record {
  alone = alone_then _ _ _ (alone_then _ _ _ c.loop.invariant.alone c.in_ok-turned.ensures.alone) c.in_ok-follow.ensures.alone;
  calm = c.in_ok-follow.ensures.calm ∙ (c.in_ok-turned.ensures.calm ∙ c.loop.invariant.calm);
  few = c.in_ok-follow.ensures.few;
  suits = c.in_ok-follow.ensures.suits;
  serves = λ first since t r. serves_follow _ _ first since t _ _ _ _ _ _ _ _
      (serves_turn _ _ _ _ _ _ c.loop.served _ _ _ _ _ _ _ _ _ c.loop.invariant.same c.with-served.ensures (c.loop.invariant.serves first since t r) (λ u q. c.in_ok-turned.ensures.turns first since u q))
      (λ u q. follows_turns _ _ first since _ _ _ _ _ _ _ c.in_ok-follow.ensures.follows u q);
  so_far =
      let s = some_history (g.C.Server.Serves.serving c.args.server.now) (g.met.C.Server.Serves.numbered c.args.server.now) in
      let p = c.loop.invariant.serves s.0 _ _ (begins_at _ _ s.0 _ _ _ _ _ c.requires.empty c.requires.none s.1) in
      let turn = takes_turn _ _ _ _ _ _ c.part_before-part.result c.in_ok-turned.turned _ _ _ _ _ refl p.relates c.loop.invariant.so_far.links
      (next_part _ _ _ _ _ _ _ _ _ _ c.part_before-part.result p.relates c.loop.invariant.so_far.stands c.part_before-part.ensures.first c.part_before-part.ensures.newest c.part_before-part.ensures.narrow c.part_before-part.ensures.wide) c.in_ok-turned.ensures.busy c.in_ok-turned.ensures.idle in
      let links = links_after _ _ _ _ _ _ _ c.loop.invariant.so_far.links c.in_ok-turned.ensures.count in
      let begun = c.beyond-begun.ensures.within _ c.loop.invariant.suits.given in
      so_far_more _ _ c.args.stop_after c.loop.served.connections _ _ _ c.part_before-part.result c.in_ok-turned.turned _ _ _ _ _ _ c.loop.invariant.so_far turn
      (comes_after _ _ _ _ _ _ _ _ (rests_as _ _ _ _ c.part_before-part.result c.in_ok-turned.turned _ c.loop.invariant.so_far.stands c.is_quiet.ensures) c.in_ok-follow.ensures.follows links c.in_ok-follow.ensures.few)
      (ap (λ s. s.connections) c.with-served.ensures)
      (count_after _ _ _ _ _ _ _ c.in_ok-turned.ensures.count (follows_count _ _ _ _ _ _ c.in_ok-follow.ensures.follows)) c.is_reached.ensures.fits (c.is_reached.ensures.fewer c.if-is_reached.false)
      (stands_more _ _ _ _ _ _ _ _ _ _ _ c.part_before-part.result c.in_ok-turned.turned _ _ _ p.relates c.in_ok-turned.ensures.busy (follows_between _ _ _ _ _ _ c.in_ok-follow.ensures.follows) c.loop.invariant.so_far.stands begun
      c.beyond-begun.ensures.less c.after-round.ensures);
  asked =
      let s = some_history (g.C.Server.Serves.serving c.args.server.now) (g.met.C.Server.Serves.numbered c.args.server.now) in
      let p = c.loop.invariant.serves s.0 _ _ (begins_at _ _ s.0 _ _ _ _ _ c.requires.empty c.requires.none s.1) in
      let begun = c.beyond-begun.ensures.within _ c.loop.invariant.suits.given in
      asked_more _ _ _ s.0 _ _ _ _ _ c.part_before-part.result c.in_ok-turned.turned _ _ _ _ _ _ _ _ _ c.loop.invariant.asked p.relates (λ d. (c.loop.invariant.same d).0)
      (takes_turn _ _ _ _ _ _ c.part_before-part.result c.in_ok-turned.turned _ _ _ _ _ refl p.relates c.loop.invariant.asked.links
      (next_part _ _ _ _ _ _ _ _ _ _ c.part_before-part.result p.relates c.loop.invariant.asked.stands c.part_before-part.ensures.first c.part_before-part.ensures.newest c.part_before-part.ensures.narrow c.part_before-part.ensures.wide) c.in_ok-turned.ensures.busy c.in_ok-turned.ensures.idle)
      (c.in_ok-turned.ensures.asks (g.W.Wire.state c.args.wire.now)) (follows_between _ _ _ _ _ _ c.in_ok-follow.ensures.follows)
      (count_after _ _ _ _ _ _ _ c.in_ok-turned.ensures.count (follows_count _ _ _ _ _ _ c.in_ok-follow.ensures.follows))
      (stands_more _ _ _ _ _ _ _ _ _ _ _ c.part_before-part.result c.in_ok-turned.turned _ _ _ p.relates c.in_ok-turned.ensures.busy (follows_between _ _ _ _ _ _ c.in_ok-follow.ensures.follows) c.loop.invariant.asked.stands begun
      c.beyond-begun.ensures.less c.after-round.ensures);
  fewer = less_if c.args.stop_after _ (c.is_reached.ensures.fewer c.if-is_reached.false);
  follows = g.met.C.Server.Serves.follows_then _ _ _ c.loop.invariant.follows c.in_ok-turned.ensures.follows;
  keeps = g.met.S.Supply.keeps_then _ _ _ c.loop.invariant.keeps c.in_ok-turned.ensures.keeps;
  same = λ d. (λ x. (c.loop.invariant.same d).0 ((c.in_ok-turned.ensures.same d).0 x), λ x. (c.in_ok-turned.ensures.same d).1 ((c.loop.invariant.same d).1 x));
}

pub returns-then-is_reached-clause-serves : goal.returns-then-is_reached-clause-serves
returns-then-is_reached-clause-serves g c = λ first since t r.
    serves_turn _ _ _ _ _ _ c.loop.served _ _ _ _ _ _ _ _ _ c.loop.invariant.same c.with-served.ensures (c.loop.invariant.serves first since t r) (λ u q. c.in_ok-turned.ensures.turns first since u q)

pub returns-then-is_reached-clause-carries : goal.returns-then-is_reached-clause-carries
returns-then-is_reached-clause-carries g c = λ first since t r. serves_carries _ _ _ _ _ _ _ _ _ _
    (serves_turn _ _ _ _ _ _ c.loop.served _ _ _ _ _ _ _ _ _ c.loop.invariant.same c.with-served.ensures (c.loop.invariant.serves first since t r) (λ u q. c.in_ok-turned.ensures.turns first since u q))

pub returns-then-is_reached-clause-first : goal.returns-then-is_reached-clause-first
returns-then-is_reached-clause-first g c = first_if c.args.stop_after c.loop.served.connections _ _ (ap (λ s. s.connections) c.with-served.ensures) c.in_ok-turned.ensures.most c.loop.invariant.fewer

pub returns-in_err-turned-clause-carries : goal.returns-in_err-turned-clause-carries
returns-in_err-turned-clause-carries g c = λ first since t r. serves_fault _ _ _ _ _ _ _ _ _ _ _ _ _ _ c.loop.invariant.same (c.loop.invariant.serves first since t r)
    (λ u q. c.in_err-turned.ensures.err first since u q)

pub returns-in_err-follow-clause-carries : goal.returns-in_err-follow-clause-carries
returns-in_err-follow-clause-carries g c = λ first since t r. serves_failed _ _ first since t _ _ _ _ _ _ _ _
    (serves_turn _ _ _ _ _ _ c.loop.served _ _ _ _ _ _ _ _ _ c.loop.invariant.same c.with-served.ensures (c.loop.invariant.serves first since t r) (λ u q. c.in_ok-turned.ensures.turns first since u q))
    (λ u q. failed_carries _ _ first since _ _ _ _ _ _ _ _ c.in_err-follow.ensures.fails u q)

pub returns-in_err-follow-clause-keeps : goal.returns-in_err-follow-clause-keeps
returns-in_err-follow-clause-keeps g c = g.met.S.Supply.keeps_then _ _ _ c.loop.invariant.keeps c.in_ok-turned.ensures.keeps

pub returns-in_err-follow-clause-follows : goal.returns-in_err-follow-clause-follows
returns-in_err-follow-clause-follows g c = g.met.C.Server.Serves.follows_then _ _ _ c.loop.invariant.follows c.in_ok-turned.ensures.follows

pub returns-in_err-turned-clause-wire : goal.returns-in_err-turned-clause-wire
returns-in_err-turned-clause-wire g c =
    let p = err_from_is_err_and c.from_residual.result c.from_residual.ensures.1 in
    wire_from _ _ p.0 _ _ _ p.1 p.2 c.loop.invariant.alone c.in_err-turned.ensures.fails.cause

pub returns-in_err-follow-clause-wire : goal.returns-in_err-follow-clause-wire
returns-in_err-follow-clause-wire g c =
    let p = err_from_is_err_and c.from_residual-in_err-follow.result c.from_residual-in_err-follow.ensures.1 in
    fault_as _ _ p.0 _ p.1 p.2 (λ e. rose_from _ _ _ (alone_then _ _ _ c.loop.invariant.alone c.in_ok-turned.ensures.alone) (c.in_err-follow.ensures.wire e))

pub returns-then-is_reached-clause-turns : goal.returns-then-is_reached-clause-turns
returns-then-is_reached-clause-turns g c =
    let s = some_history (g.C.Server.Serves.serving c.args.server.now) (g.met.C.Server.Serves.numbered c.args.server.now) in
    let p = c.loop.invariant.serves s.0 _ _ (begins_at _ _ s.0 _ _ _ _ _ c.requires.empty c.requires.none s.1) in
    serves_turns _ _ c.args.stop_after c.loop.served.connections _ _ c.part_before-part.result c.in_ok-turned.turned _ _ _ _ c.loop.invariant.so_far (takes_turn _ _ _ _ _ _ c.part_before-part.result c.in_ok-turned.turned _ _ _ _ _ refl p.relates c.loop.invariant.so_far.links
    (next_part _ _ _ _ _ _ _ _ _ _ c.part_before-part.result p.relates c.loop.invariant.so_far.stands c.part_before-part.ensures.first c.part_before-part.ensures.newest c.part_before-part.ensures.narrow c.part_before-part.ensures.wide) c.in_ok-turned.ensures.busy c.in_ok-turned.ensures.idle)
    (ap (λ s. s.connections) c.with-served.ensures)

pub returns-in_err-turned-clause-fails : goal.returns-in_err-turned-clause-fails
returns-in_err-turned-clause-fails g c =
    let p = err_from_is_err_and c.from_residual.result c.from_residual.ensures.1 in
    fault_as _ _ p.0 _ p.1 p.2 (fails_turn _ _ c.args.stop_after _ c.loop.served.connections _ _ _ _ _ c.loop.invariant.so_far c.in_err-turned.ensures.fails)

pub returns-in_err-follow-clause-fails : goal.returns-in_err-follow-clause-fails
returns-in_err-follow-clause-fails g c =
    let s = some_history (g.C.Server.Serves.serving c.args.server.now) (g.met.C.Server.Serves.numbered c.args.server.now) in
    let p = c.loop.invariant.serves s.0 _ _ (begins_at _ _ s.0 _ _ _ _ _ c.requires.empty c.requires.none s.1) in
    let e = err_from_is_err_and c.from_residual-in_err-follow.result c.from_residual-in_err-follow.ensures.1 in
    fault_as _ _ e.0 _ e.1 e.2 (fails_after _ _ c.args.stop_after _ c.loop.served.connections _ _ _ _ _ _ _ _ _ _ c.loop.invariant.so_far
    (takes_turn _ _ _ _ _ _ c.part_before-part.result c.in_ok-turned.turned _ _ _ _ _ refl p.relates c.loop.invariant.so_far.links
    (next_part _ _ _ _ _ _ _ _ _ _ c.part_before-part.result p.relates c.loop.invariant.so_far.stands c.part_before-part.ensures.first c.part_before-part.ensures.newest c.part_before-part.ensures.narrow c.part_before-part.ensures.wide) c.in_ok-turned.ensures.busy c.in_ok-turned.ensures.idle)
    (rests_as _ _ _ _ c.part_before-part.result c.in_ok-turned.turned _ c.loop.invariant.so_far.stands c.is_quiet.ensures)
    (links_after _ _ _ _ _ _ _ c.loop.invariant.so_far.links c.in_ok-turned.ensures.count) c.in_err-follow.ensures.few c.in_err-follow.ensures.fails)

pub returns-then-is_reached-clause-asks : goal.returns-then-is_reached-clause-asks
returns-then-is_reached-clause-asks g c =
    let s = some_history (g.C.Server.Serves.serving c.args.server.now) (g.met.C.Server.Serves.numbered c.args.server.now) in
    let p = c.loop.invariant.serves s.0 _ _ (begins_at _ _ s.0 _ _ _ _ _ c.requires.empty c.requires.none s.1) in
    let begun = c.beyond-begun.ensures.within _ c.loop.invariant.suits.given in
    asks_once _ _ _ _ _ _ _ _ _
    (asked_more _ _ _ s.0 _ _ _ _ _ c.part_before-part.result c.in_ok-turned.turned _ _ _ _ _ _ _ _ _ c.loop.invariant.asked p.relates (λ d. (c.loop.invariant.same d).0)
    (takes_turn _ _ _ _ _ _ c.part_before-part.result c.in_ok-turned.turned _ _ _ _ _ refl p.relates c.loop.invariant.asked.links
    (next_part _ _ _ _ _ _ _ _ _ _ c.part_before-part.result p.relates c.loop.invariant.asked.stands c.part_before-part.ensures.first c.part_before-part.ensures.newest c.part_before-part.ensures.narrow c.part_before-part.ensures.wide) c.in_ok-turned.ensures.busy c.in_ok-turned.ensures.idle)
    (c.in_ok-turned.ensures.asks (g.W.Wire.state c.args.wire.now)) (between_same _) c.in_ok-turned.ensures.count
    (stands_more _ _ _ _ _ _ _ _ _ c.loop.round (after_last c.loop.round c.part_before-part.result c.in_ok-turned.turned c.beyond-begun.result) c.part_before-part.result c.in_ok-turned.turned _ _ _ p.relates c.in_ok-turned.ensures.busy (between_same _)
    c.loop.invariant.asked.stands begun c.beyond-begun.ensures.less (is_after _ _ _ _)))
    refl refl (none_given _)

pub returns-in_err-turned-clause-asks : goal.returns-in_err-turned-clause-asks
returns-in_err-turned-clause-asks g c =
    let same = none_asked _ _ _ _ _ (c.in_err-turned.ensures.unasked (g.W.Wire.state c.args.wire.now)) in
    asks_once _ _ _ _ _ _ _ _ _ c.loop.invariant.asked same.0 same.1 c.in_err-turned.ensures.fails.none

pub returns-in_err-follow-clause-asks : goal.returns-in_err-follow-clause-asks
returns-in_err-follow-clause-asks g c =
    let s = some_history (g.C.Server.Serves.serving c.args.server.now) (g.met.C.Server.Serves.numbered c.args.server.now) in
    let p = c.loop.invariant.serves s.0 _ _ (begins_at _ _ s.0 _ _ _ _ _ c.requires.empty c.requires.none s.1) in
    let begun = c.beyond-begun.ensures.within _ c.loop.invariant.suits.given in
    failed_asks _ _ _ _ (after_last c.loop.round c.part_before-part.result c.in_ok-turned.turned c.beyond-begun.result) _ _ _ _ _ _ _ c.in_err-follow.ensures.fails (λ m left between count.
    asked_more _ _ _ s.0 _ _ _ _ left c.part_before-part.result c.in_ok-turned.turned _ _ _ _ _ _ _ _ m c.loop.invariant.asked p.relates (λ d. (c.loop.invariant.same d).0)
    (takes_turn _ _ _ _ _ _ c.part_before-part.result c.in_ok-turned.turned _ _ _ _ _ refl p.relates c.loop.invariant.asked.links
    (next_part _ _ _ _ _ _ _ _ _ _ c.part_before-part.result p.relates c.loop.invariant.asked.stands c.part_before-part.ensures.first c.part_before-part.ensures.newest c.part_before-part.ensures.narrow c.part_before-part.ensures.wide) c.in_ok-turned.ensures.busy c.in_ok-turned.ensures.idle)
    (c.in_ok-turned.ensures.asks (g.W.Wire.state c.args.wire.now)) between (count_after _ _ _ _ _ _ _ c.in_ok-turned.ensures.count count)
    (stands_more _ _ _ _ _ _ _ _ _ c.loop.round (after_last c.loop.round c.part_before-part.result c.in_ok-turned.turned c.beyond-begun.result) c.part_before-part.result c.in_ok-turned.turned _ _ _ p.relates c.in_ok-turned.ensures.busy between
    c.loop.invariant.asked.stands begun c.beyond-begun.ensures.less (is_after _ _ _ _)))

pub part_before-part-requires : goal.part_before-part-requires
part_before-part-requires g c = c.beyond-begun.ensures

pub turn-requires-clause-listens : goal.turn-requires-clause-listens
turn-requires-clause-listens g c = ap is_some c.loop.invariant.alone.place ∙ c.requires.listens

pub turn-requires-clause-few : goal.turn-requires-clause-few
turn-requires-clause-few g c = c.loop.invariant.few

pub turn-requires-clause-suits : goal.turn-requires-clause-suits
turn-requires-clause-suits g c = c.loop.invariant.suits

pub returns-in_err-turned-clause-alone : goal.returns-in_err-turned-clause-alone
returns-in_err-turned-clause-alone g c = alone_then _ _ _ c.loop.invariant.alone c.turn.ensures.alone

pub returns-in_err-turned-clause-suits : goal.returns-in_err-turned-clause-suits
returns-in_err-turned-clause-suits g c = c.turn.ensures.suits

pub returns-in_err-turned-clause-serves : goal.returns-in_err-turned-clause-serves
returns-in_err-turned-clause-serves g c = IfOk-from_err _ _ c.from_residual.ensures.0

pub returns-in_err-turned-clause-turns : goal.returns-in_err-turned-clause-turns
returns-in_err-turned-clause-turns g c = IfOk-from_err _ _ c.from_residual.ensures.0

pub returns-in_err-turned-clause-stops : goal.returns-in_err-turned-clause-stops
returns-in_err-turned-clause-stops g c = IfOk-from_err _ _ c.from_residual.ensures.0

pub returns-in_err-turned-clause-first : goal.returns-in_err-turned-clause-first
returns-in_err-turned-clause-first g c = IfOk-from_err _ _ c.from_residual.ensures.0

pub returns-in_err-turned-clause-never : goal.returns-in_err-turned-clause-never
returns-in_err-turned-clause-never g c = IfOk-from_err _ _ c.from_residual.ensures.0

pub returns-in_err-turned-clause-calm : goal.returns-in_err-turned-clause-calm
returns-in_err-turned-clause-calm g c = IfOk-from_err _ _ c.from_residual.ensures.0

pub returns-in_err-turned-clause-follows : goal.returns-in_err-turned-clause-follows
returns-in_err-turned-clause-follows g c = g.met.C.Server.Serves.follows_then _ _ _ c.loop.invariant.follows c.turn.ensures.follows

pub returns-in_err-turned-clause-keeps : goal.returns-in_err-turned-clause-keeps
returns-in_err-turned-clause-keeps g c = g.met.S.Supply.keeps_then _ _ _ c.loop.invariant.keeps c.turn.ensures.keeps

pub returns-in_err-turned-clause-same : goal.returns-in_err-turned-clause-same
returns-in_err-turned-clause-same g c = λ d. (λ x. (c.loop.invariant.same d).0 ((c.turn.ensures.same d).0 x), λ x. (c.turn.ensures.same d).1 ((c.loop.invariant.same d).1 x))

pub returns-then-is_reached-clause-alone : goal.returns-then-is_reached-clause-alone
returns-then-is_reached-clause-alone g c = alone_then _ _ _ c.loop.invariant.alone c.turn.ensures.alone

pub returns-then-is_reached-clause-suits : goal.returns-then-is_reached-clause-suits
returns-then-is_reached-clause-suits g c = c.turn.ensures.suits

pub returns-then-is_reached-clause-fails : goal.returns-then-is_reached-clause-fails
returns-then-is_reached-clause-fails g c = tt

pub returns-then-is_reached-clause-stops : goal.returns-then-is_reached-clause-stops
returns-then-is_reached-clause-stops g c = c.is_reached.ensures.reached c.if-is_reached.true

pub returns-then-is_reached-clause-never : goal.returns-then-is_reached-clause-never
returns-then-is_reached-clause-never g c = c.is_reached.ensures.some c.if-is_reached.true

pub returns-then-is_reached-clause-calm : goal.returns-then-is_reached-clause-calm
returns-then-is_reached-clause-calm g c = c.in_ok-turned.ensures.calm ∙ c.loop.invariant.calm

pub returns-then-is_reached-clause-wire : goal.returns-then-is_reached-clause-wire
returns-then-is_reached-clause-wire g c = tt

pub returns-then-is_reached-clause-follows : goal.returns-then-is_reached-clause-follows
returns-then-is_reached-clause-follows g c = g.met.C.Server.Serves.follows_then _ _ _ c.loop.invariant.follows c.turn.ensures.follows

pub returns-then-is_reached-clause-keeps : goal.returns-then-is_reached-clause-keeps
returns-then-is_reached-clause-keeps g c = g.met.S.Supply.keeps_then _ _ _ c.loop.invariant.keeps c.turn.ensures.keeps

pub returns-then-is_reached-clause-same : goal.returns-then-is_reached-clause-same
returns-then-is_reached-clause-same g c = λ d. (λ x. (c.loop.invariant.same d).0 ((c.turn.ensures.same d).0 x), λ x. (c.turn.ensures.same d).1 ((c.loop.invariant.same d).1 x))

pub follow-requires-clause-listens : goal.follow-requires-clause-listens
follow-requires-clause-listens g c = ap is_some (c.turn.ensures.alone.place ∙ c.loop.invariant.alone.place) ∙ c.requires.listens

pub follow-requires-clause-few : goal.follow-requires-clause-few
follow-requires-clause-few g c = c.turn.ensures.few

pub follow-requires-clause-suits : goal.follow-requires-clause-suits
follow-requires-clause-suits g c = c.turn.ensures.suits

pub returns-in_err-follow-clause-alone : goal.returns-in_err-follow-clause-alone
returns-in_err-follow-clause-alone g c = alone_then _ _ _ (alone_then _ _ _ c.loop.invariant.alone c.turn.ensures.alone) c.follow.ensures.alone

pub returns-in_err-follow-clause-suits : goal.returns-in_err-follow-clause-suits
returns-in_err-follow-clause-suits g c = c.follow.ensures.suits

pub returns-in_err-follow-clause-serves : goal.returns-in_err-follow-clause-serves
returns-in_err-follow-clause-serves g c = IfOk-from_err _ _ c.from_residual-in_err-follow.ensures.0

pub returns-in_err-follow-clause-turns : goal.returns-in_err-follow-clause-turns
returns-in_err-follow-clause-turns g c = IfOk-from_err _ _ c.from_residual-in_err-follow.ensures.0

pub returns-in_err-follow-clause-stops : goal.returns-in_err-follow-clause-stops
returns-in_err-follow-clause-stops g c = IfOk-from_err _ _ c.from_residual-in_err-follow.ensures.0

pub returns-in_err-follow-clause-first : goal.returns-in_err-follow-clause-first
returns-in_err-follow-clause-first g c = IfOk-from_err _ _ c.from_residual-in_err-follow.ensures.0

pub returns-in_err-follow-clause-never : goal.returns-in_err-follow-clause-never
returns-in_err-follow-clause-never g c = IfOk-from_err _ _ c.from_residual-in_err-follow.ensures.0

pub returns-in_err-follow-clause-calm : goal.returns-in_err-follow-clause-calm
returns-in_err-follow-clause-calm g c = IfOk-from_err _ _ c.from_residual-in_err-follow.ensures.0

pub returns-in_err-follow-clause-same : goal.returns-in_err-follow-clause-same
returns-in_err-follow-clause-same g c = λ d. (λ x. (c.loop.invariant.same d).0 ((c.turn.ensures.same d).0 x), λ x. (c.turn.ensures.same d).1 ((c.loop.invariant.same d).1 x))
