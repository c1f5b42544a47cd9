-- The step of a key whose connection is one of the part is a step of the traffic; another key has none.
use Rattle.std.proofs.Common.{sym, ◌∙◌, refl, arith}
use Rattle.serve_loop.proofs.AskLemmas.{answers_vacant, answers_as}
use Rattle.serve_loop.proofs.LastLemmas.{goes_on_stays}
use Rattle.serve_loop.proofs.PartLemmas.{calls_none, calls_as}
use Rattle.serve_loop.proofs.RelatesLemmas.{none_some}
use Rattle.serve_loop.proofs.TurnLemmas.{turns_none, turns_stays, turns_ends, suits_stays, suits_ends, others_taken, others_written, fewer_taken, fewer_written}
use Rattle.serve_loop.proofs.turn.step_among.Goals as goal

-- ---- no connection of the part

pub returns-then-not-is_among-clause-room : goal.returns-then-not-is_among-clause-room
returns-then-not-is_among-clause-room g c = refl

pub returns-then-not-is_among-clause-suits : goal.returns-then-not-is_among-clause-suits
returns-then-not-is_among-clause-suits g c = c.requires.suits

pub returns-then-not-is_among-clause-others : goal.returns-then-not-is_among-clause-others
returns-then-not-is_among-clause-others g c = λ other n. refl

pub returns-then-not-is_among-clause-len : goal.returns-then-not-is_among-clause-len
returns-then-not-is_among-clause-len g c = omega arith

pub returns-then-not-is_among-clause-turns : goal.returns-then-not-is_among-clause-turns
returns-then-not-is_among-clause-turns g c = λ first since t r. turns_none _ _ _ _ _ _ _ _ r

pub returns-then-not-is_among-clause-asks : goal.returns-then-not-is_among-clause-asks
returns-then-not-is_among-clause-asks g c = λ w. answers_vacant _ _ _ _ (c.is_among.ensures.no c.if-not-is_among.true)

pub returns-then-not-is_among-clause-calls : goal.returns-then-not-is_among-clause-calls
returns-then-not-is_among-clause-calls g c = calls_none _ _ _ (c.is_among.ensures.no c.if-not-is_among.true)

pub returns-then-not-is_among-clause-lasts : goal.returns-then-not-is_among-clause-lasts
returns-then-not-is_among-clause-lasts g c = λ l m e f. absurd (none_some l (sym (c.is_among.ensures.no c.if-not-is_among.true) ∙ e))

pub returns-then-not-is_among-clause-follows : goal.returns-then-not-is_among-clause-follows
returns-then-not-is_among-clause-follows g c = g.met.C.Server.Serves.follows_itself c.args.server.now

pub returns-then-not-is_among-clause-keeps : goal.returns-then-not-is_among-clause-keeps
returns-then-not-is_among-clause-keeps g c = g.met.S.Supply.keeps_itself c.args.supply.now

pub returns-then-not-is_among-clause-same : goal.returns-then-not-is_among-clause-same
returns-then-not-is_among-clause-same g c = λ d. (λ x. x, λ x. x)

pub step-stepped-requires-clause-room : goal.step-stepped-requires-clause-room
step-stepped-requires-clause-room g c = c.requires.room

pub step-stepped-requires-clause-most : goal.step-stepped-requires-clause-most
step-stepped-requires-clause-most g c = c.requires.most

pub step-stepped-requires-clause-is_open : goal.step-stepped-requires-clause-is_open
step-stepped-requires-clause-is_open g c = c.requires.suits.is_open c.args.key _ (sym c.in-Some.ensures.value)

pub step-stepped-requires-clause-suits : goal.step-stepped-requires-clause-suits
step-stepped-requires-clause-suits g c = c.requires.suits.suits c.args.key _ (sym c.in-Some.ensures.value)

pub returns-in-None-clause-room : goal.returns-in-None-clause-room
returns-in-None-clause-room g c = refl

pub returns-in-None-clause-suits : goal.returns-in-None-clause-suits
returns-in-None-clause-suits g c = c.requires.suits

pub returns-in-None-clause-others : goal.returns-in-None-clause-others
returns-in-None-clause-others g c = λ other n. refl

pub returns-in-None-clause-len : goal.returns-in-None-clause-len
returns-in-None-clause-len g c = omega arith

pub returns-in-None-clause-turns : goal.returns-in-None-clause-turns
returns-in-None-clause-turns g c = λ first since t r. turns_none _ _ _ _ _ _ _ _ r

pub returns-in-None-clause-asks : goal.returns-in-None-clause-asks
returns-in-None-clause-asks g c = λ w. answers_vacant _ _ _ _ (c.is_among.ensures.yes c.if-not-is_among.false ∙ sym c.in-None.ensures.value)

pub returns-in-None-clause-calls : goal.returns-in-None-clause-calls
returns-in-None-clause-calls g c = calls_none _ _ _ (c.is_among.ensures.yes c.if-not-is_among.false ∙ sym c.in-None.ensures.value)

pub returns-in-None-clause-lasts : goal.returns-in-None-clause-lasts
returns-in-None-clause-lasts g c = λ l m e f. absurd (none_some l (c.in-None.ensures.value ∙ (sym (c.is_among.ensures.yes c.if-not-is_among.false) ∙ e)))

pub returns-in-None-clause-follows : goal.returns-in-None-clause-follows
returns-in-None-clause-follows g c = g.met.C.Server.Serves.follows_itself c.args.server.now

pub returns-in-None-clause-keeps : goal.returns-in-None-clause-keeps
returns-in-None-clause-keeps g c = g.met.S.Supply.keeps_itself c.args.supply.now

pub returns-in-None-clause-same : goal.returns-in-None-clause-same
returns-in-None-clause-same g c = λ d. (λ x. x, λ x. x)

pub returns-then-ends-clause-room : goal.returns-then-ends-clause-room
returns-then-ends-clause-room g c = c.step-stepped.ensures.room

pub returns-then-ends-clause-suits : goal.returns-then-ends-clause-suits
returns-then-ends-clause-suits g c = suits_ends _ _ _ c.args.live.now c.try_remove.new.self c.args.key _ c.step-stepped.new.live c.step-stepped.result _ _ c.requires.suits (sym c.in-Some.ensures.value) c.if-ends.ensures c.try_remove.ensures.updates
    c.step-stepped.ensures.kept c.step-stepped.ensures.only.only c.step-stepped.ensures.is_open c.step-stepped.ensures.suits
    (λ x h. g.met.C.Converses.stays c.args.server.now c.step-stepped.new.server x c.step-stepped.ensures.follows h)

pub returns-then-ends-clause-others : goal.returns-then-ends-clause-others
returns-then-ends-clause-others g c = others_taken c.args.live.now c.try_remove.new.self c.args.key _ c.step-stepped.new.live (sym c.in-Some.ensures.value) c.try_remove.ensures.updates

pub returns-then-ends-clause-len : goal.returns-then-ends-clause-len
returns-then-ends-clause-len g c = fewer_taken c.args.live.now c.try_remove.new.self c.args.key _ c.step-stepped.new.live c.try_remove.result c.step-stepped.result c.if-ends.ensures (sym c.in-Some.ensures.value) c.try_remove.ensures.value c.try_remove.ensures.len

pub returns-then-ends-clause-turns : goal.returns-then-ends-clause-turns
returns-then-ends-clause-turns g c = λ first since t r. turns_ends _ _ _ _ _ c.args.live.now c.try_remove.new.self c.args.key _ c.step-stepped.new.live c.try_remove.result c.step-stepped.result _ _
    c.step-stepped.ensures.steps (sym c.in-Some.ensures.value) c.if-ends.ensures c.try_remove.ensures.value c.try_remove.ensures.updates c.try_remove.ensures.len r

pub returns-then-ends-clause-asks : goal.returns-then-ends-clause-asks
returns-then-ends-clause-asks g c = λ w. answers_as _ _ _ _ _ _ (c.in-Some.ensures.value ∙ sym (c.is_among.ensures.yes c.if-not-is_among.false)) (c.step-stepped.ensures.asks w)

pub returns-then-ends-clause-calls : goal.returns-then-ends-clause-calls
returns-then-ends-clause-calls g c = calls_as _ _ _ _ _ _ (c.in-Some.ensures.value ∙ sym (c.is_among.ensures.yes c.if-not-is_among.false)) (c.step-stepped.ensures.called, c.step-stepped.ensures.only)

pub returns-then-ends-clause-lasts : goal.returns-then-ends-clause-lasts
returns-then-ends-clause-lasts g c = λ l m e f. absurd (none_some m (sym c.try_remove.ensures.updates.changed ∙ f))

pub returns-then-ends-clause-follows : goal.returns-then-ends-clause-follows
returns-then-ends-clause-follows g c = c.step-stepped.ensures.follows

pub returns-then-ends-clause-keeps : goal.returns-then-ends-clause-keeps
returns-then-ends-clause-keeps g c = c.step-stepped.ensures.keeps

pub returns-then-ends-clause-same : goal.returns-then-ends-clause-same
returns-then-ends-clause-same g c = c.step-stepped.ensures.same

pub returns-else-ends-clause-room : goal.returns-else-ends-clause-room
returns-else-ends-clause-room g c = c.step-stepped.ensures.room

pub returns-else-ends-clause-suits : goal.returns-else-ends-clause-suits
returns-else-ends-clause-suits g c = suits_stays _ _ _ c.args.live.now c.args.key _ c.step-stepped.new.live c.step-stepped.result _ _ c.requires.suits (sym c.in-Some.ensures.value) c.if-ends.ensures
    c.step-stepped.ensures.kept c.step-stepped.ensures.only.only c.step-stepped.ensures.is_open c.step-stepped.ensures.suits
    (λ x h. g.met.C.Converses.stays c.args.server.now c.step-stepped.new.server x c.step-stepped.ensures.follows h)

pub returns-else-ends-clause-others : goal.returns-else-ends-clause-others
returns-else-ends-clause-others g c = others_written c.args.live.now c.args.key _ c.step-stepped.new.live (sym c.in-Some.ensures.value)

pub returns-else-ends-clause-len : goal.returns-else-ends-clause-len
returns-else-ends-clause-len g c = fewer_written c.args.live.now c.args.key _ c.step-stepped.new.live c.step-stepped.result c.if-ends.ensures (sym c.in-Some.ensures.value)

pub returns-else-ends-clause-turns : goal.returns-else-ends-clause-turns
returns-else-ends-clause-turns g c = λ first since t r. turns_stays _ _ _ _ _ c.args.live.now c.args.key _ c.step-stepped.new.live c.step-stepped.result _ _
    c.step-stepped.ensures.steps (sym c.in-Some.ensures.value) c.if-ends.ensures r

pub returns-else-ends-clause-asks : goal.returns-else-ends-clause-asks
returns-else-ends-clause-asks g c = λ w. answers_as _ _ _ _ _ _ (c.in-Some.ensures.value ∙ sym (c.is_among.ensures.yes c.if-not-is_among.false)) (c.step-stepped.ensures.asks w)

pub returns-else-ends-clause-calls : goal.returns-else-ends-clause-calls
returns-else-ends-clause-calls g c = calls_as _ _ _ _ _ _ (c.in-Some.ensures.value ∙ sym (c.is_among.ensures.yes c.if-not-is_among.false)) (c.step-stepped.ensures.called, c.step-stepped.ensures.only)

pub returns-else-ends-clause-lasts : goal.returns-else-ends-clause-lasts
returns-else-ends-clause-lasts g c = λ l m e f. goes_on_stays _ c.args.live.now c.args.key _ c.step-stepped.new.live c.step-stepped.result (sym c.in-Some.ensures.value) c.if-ends.ensures c.step-stepped.ensures.lasts l m (sym (c.is_among.ensures.yes c.if-not-is_among.false) ∙ e) f

pub returns-else-ends-clause-follows : goal.returns-else-ends-clause-follows
returns-else-ends-clause-follows g c = c.step-stepped.ensures.follows

pub returns-else-ends-clause-keeps : goal.returns-else-ends-clause-keeps
returns-else-ends-clause-keeps g c = c.step-stepped.ensures.keeps

pub returns-else-ends-clause-same : goal.returns-else-ends-clause-same
returns-else-ends-clause-same g c = c.step-stepped.ensures.same
