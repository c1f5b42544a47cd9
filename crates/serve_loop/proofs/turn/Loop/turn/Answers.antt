-- What the door did, and then the steps. What they leave says each link's prefix, and of those that ended the whole.
use Rattle.std.proofs.Common.{refl, ◌∙◌, arith, ap, inl, inr}
use Rattle.std.proofs.lemmas.Result.{err_from_is_err_and, IfOk-from_err}
use Rattle.serve_loop.proofs.AskLemmas.{answers_welcomed}
use Rattle.serve_loop.proofs.SentenceLemmas.{sentence}
use Rattle.serve_loop.proofs.ServeLemmas.{sentence_turn, speaks_turn}
use Rattle.serve_loop.proofs.CallLemmas.{alone_then}
use Rattle.serve_loop.proofs.LastLemmas.{go_on_welcomed}
use Rattle.serve_loop.proofs.ServiceLemmas.{fault_as}
use Rattle.serve_loop.proofs.WelcomeLemmas.{welcomed, unwelcomed, turns_after, busy, or_true, or_else}
use Rattle.list_laws.proofs.Results.{any_err}
use Rattle.tpf_base.specs.Links.{listens}
use Rattle.serve_loop.proofs.AcceptLemmas.{alone_from, suits_from, counts_given, counts_none}
use Rattle.serve_loop.proofs.turn.Loop.turn.Goals as goal

pub greet-requires-clause-listens : goal.greet-requires-clause-listens
greet-requires-clause-listens g c = ap listens c.look.ensures.same ∙ c.requires.listens

pub greet-requires-clause-few : goal.greet-requires-clause-few
greet-requires-clause-few g c = c.requires.few

pub greet-requires-clause-suits : goal.greet-requires-clause-suits
greet-requires-clause-suits g c = suits_from _ _ _ _ _ c.look.ensures.same c.requires.suits

pub returns-in_err-accepted-clause-alone : goal.returns-in_err-accepted-clause-alone
returns-in_err-accepted-clause-alone g c = alone_from _ _ _ c.look.ensures.same c.greet.ensures.alone

pub returns-in_err-accepted-clause-few : goal.returns-in_err-accepted-clause-few
returns-in_err-accepted-clause-few g c = c.greet.ensures.few

pub returns-in_err-accepted-clause-suits : goal.returns-in_err-accepted-clause-suits
returns-in_err-accepted-clause-suits g c = c.greet.ensures.suits

pub returns-in_err-accepted-clause-turns : goal.returns-in_err-accepted-clause-turns
returns-in_err-accepted-clause-turns g c = IfOk-from_err _ _ c.from_residual.ensures.0

pub returns-in_err-accepted-clause-prefixes : goal.returns-in_err-accepted-clause-prefixes
returns-in_err-accepted-clause-prefixes g c = λ first since t r. sentence _ g.met.C.Converses.begins _ first since t _ _ _ (unwelcomed _ _ _ _ _ _ _ _ _ _ _ _ _ c.in_err-accepted.ensures.err c.in_err-accepted.ensures.len
    (rw c.look.ensures.same at c.in_err-accepted.ensures.fails.none) (rw c.look.ensures.same at c.in_err-accepted.ensures.alone) r)

pub returns-in_err-accepted-clause-whole : goal.returns-in_err-accepted-clause-whole
returns-in_err-accepted-clause-whole g c = IfOk-from_err _ _ c.from_residual.ensures.0

pub returns-in_err-accepted-clause-asks : goal.returns-in_err-accepted-clause-asks
returns-in_err-accepted-clause-asks g c = IfOk-from_err _ _ c.from_residual.ensures.0

pub returns-in_err-accepted-clause-unasked : goal.returns-in_err-accepted-clause-unasked
returns-in_err-accepted-clause-unasked g c = any_err c.from_residual.result _ (λ w. refl)

pub returns-in_err-accepted-clause-calm : goal.returns-in_err-accepted-clause-calm
returns-in_err-accepted-clause-calm g c = IfOk-from_err _ _ c.from_residual.ensures.0

pub returns-in_err-accepted-clause-busy : goal.returns-in_err-accepted-clause-busy
returns-in_err-accepted-clause-busy g c = IfOk-from_err _ _ c.from_residual.ensures.0

pub returns-in_err-accepted-clause-lasts : goal.returns-in_err-accepted-clause-lasts
returns-in_err-accepted-clause-lasts g c = IfOk-from_err _ _ c.from_residual.ensures.0

pub returns-in_err-accepted-clause-idle : goal.returns-in_err-accepted-clause-idle
returns-in_err-accepted-clause-idle g c = IfOk-from_err _ _ c.from_residual.ensures.0

pub returns-in_err-accepted-clause-count : goal.returns-in_err-accepted-clause-count
returns-in_err-accepted-clause-count g c = IfOk-from_err _ _ c.from_residual.ensures.0

pub returns-in_err-accepted-clause-most : goal.returns-in_err-accepted-clause-most
returns-in_err-accepted-clause-most g c = IfOk-from_err _ _ c.from_residual.ensures.0

pub returns-in_err-accepted-clause-waits : goal.returns-in_err-accepted-clause-waits
returns-in_err-accepted-clause-waits g c = c.greet.ensures.waits ∙ ap (λ w. w.waits) c.look.ensures.same

pub returns-in_err-accepted-clause-err : goal.returns-in_err-accepted-clause-err
returns-in_err-accepted-clause-err g c = rw (err_from_is_err_and c.from_residual.result c.from_residual.ensures.1).1 (λ first since t r. unwelcomed _ _ _ _ _ _ _ _ _ _ _ _ _ c.in_err-accepted.ensures.err c.in_err-accepted.ensures.len (rw c.look.ensures.same at c.in_err-accepted.ensures.fails.none)
    (rw c.look.ensures.same at c.in_err-accepted.ensures.alone) r)

pub returns-in_err-accepted-clause-fails : goal.returns-in_err-accepted-clause-fails
returns-in_err-accepted-clause-fails g c = let p = err_from_is_err_and c.from_residual.result c.from_residual.ensures.1 in fault_as _ _ p.0 _ p.1 p.2 (rw c.look.ensures.same at c.in_err-accepted.ensures.fails)

pub returns-in_err-accepted-clause-stay : goal.returns-in_err-accepted-clause-stay
returns-in_err-accepted-clause-stay g c = any_err c.from_residual.result _ c.in_err-accepted.ensures.err

pub returns-in_err-accepted-clause-follows : goal.returns-in_err-accepted-clause-follows
returns-in_err-accepted-clause-follows g c = g.met.C.Server.Serves.follows_itself c.args.server.now

pub returns-in_err-accepted-clause-keeps : goal.returns-in_err-accepted-clause-keeps
returns-in_err-accepted-clause-keeps g c = g.met.S.Supply.keeps_itself c.args.supply.now

pub returns-in_err-accepted-clause-same : goal.returns-in_err-accepted-clause-same
returns-in_err-accepted-clause-same g c = λ d. (λ x. x, λ x. x)

pub step_all-turned-requires-clause-few : goal.step_all-turned-requires-clause-few
step_all-turned-requires-clause-few g c = c.greet.ensures.few

pub step_all-turned-requires-clause-suits : goal.step_all-turned-requires-clause-suits
step_all-turned-requires-clause-suits g c = c.greet.ensures.suits

pub returns-then-accepted-clause-alone : goal.returns-then-accepted-clause-alone
returns-then-accepted-clause-alone g c = alone_then _ _ _ (rw c.look.ensures.same at c.in_ok-accepted.ensures.alone) c.step_all-turned.ensures.all.alone

pub returns-then-accepted-clause-few : goal.returns-then-accepted-clause-few
returns-then-accepted-clause-few g c = omega (arith, c.step_all-turned.ensures.len, c.greet.ensures.few)

pub returns-then-accepted-clause-suits : goal.returns-then-accepted-clause-suits
returns-then-accepted-clause-suits g c = c.step_all-turned.ensures.suits

pub returns-then-accepted-clause-turns : goal.returns-then-accepted-clause-turns
returns-then-accepted-clause-turns g c = λ first since t r. turns_after _ _ _ _ _ c.step_all-turned.result _ _ _ _ _ _ _ _ refl refl
    (welcomed _ _ _ _ _ _ _ _ _ _ _ _ _ _ (rw c.look.ensures.same at c.in_ok-accepted.ensures.welcomes) r) (λ u q. c.step_all-turned.ensures.turns first since u q)

pub returns-then-accepted-clause-prefixes : goal.returns-then-accepted-clause-prefixes
returns-then-accepted-clause-prefixes g c = λ first since t r. sentence_turn _ g.met.C.Converses.begins _ first since t _ _ _ _ _ (returns-then-accepted-clause-turns g c first since t r)

pub returns-then-accepted-clause-whole : goal.returns-then-accepted-clause-whole
returns-then-accepted-clause-whole g c = λ first since t r. speaks_turn _ g.met.C.Converses.begins g.met.C.Converses.whole _ first since t _ _ _ _ _ (omega (arith, c.step_all-turned.ensures.len, c.in_ok-accepted.ensures.few)) (returns-then-accepted-clause-turns g c first since t r)

pub returns-then-accepted-clause-asks : goal.returns-then-accepted-clause-asks
returns-then-accepted-clause-asks g c = λ w. answers_welcomed _ _ _ _ _ _ _ _ _ _ _ _ c.in_ok-accepted.ensures.welcomes (c.step_all-turned.ensures.asks w)

pub returns-then-accepted-clause-calm : goal.returns-then-accepted-clause-calm
returns-then-accepted-clause-calm g c = ap (λ d. d.faults) c.step_all-turned.ensures.all.door ∙ (c.in_ok-accepted.ensures.welcomes.calm ∙ ap (λ w. w.door.faults) c.look.ensures.same)

pub returns-then-accepted-clause-busy : goal.returns-then-accepted-clause-busy
returns-then-accepted-clause-busy g c = busy _ c.args.part c.step_all-turned.result _ _ _ _ _ _ _ _ _ (rw c.look.ensures.same at c.in_ok-accepted.ensures.welcomes) c.requires.suits.given c.step_all-turned.ensures.all
    (c.if-accepted.true ∙ or_true _ _ c.if-accepted.true) refl

pub returns-then-accepted-clause-lasts : goal.returns-then-accepted-clause-lasts
returns-then-accepted-clause-lasts g c = go_on_welcomed _ _ _ _ _ _ _ _ _ _ c.in_ok-accepted.ensures.welcomes c.step_all-turned.ensures.lasts

pub returns-then-accepted-clause-idle : goal.returns-then-accepted-clause-idle
returns-then-accepted-clause-idle g c = λ e. c.step_all-turned.ensures.all.idle (inr (c.in_ok-accepted.ensures.welcomes.given c.if-accepted.true).idle)

pub returns-then-accepted-clause-count : goal.returns-then-accepted-clause-count
returns-then-accepted-clause-count g c = counts_given _ _ _ _ _ _ _ _ c.look.ensures.same (c.in_ok-accepted.ensures.welcomes.more c.if-accepted.true) (c.in_ok-accepted.ensures.welcomes.given c.if-accepted.true).more c.step_all-turned.ensures.all.given c.step_all-turned.ensures.len

pub returns-then-accepted-clause-most : goal.returns-then-accepted-clause-most
returns-then-accepted-clause-most g c = omega (arith, c.step_all-turned.ensures.len, c.greet.ensures.few)

pub returns-then-accepted-clause-waits : goal.returns-then-accepted-clause-waits
returns-then-accepted-clause-waits g c = c.step_all-turned.ensures.all.waits ∙ (c.greet.ensures.waits ∙ ap (λ w. w.waits) c.look.ensures.same)

pub returns-then-accepted-clause-follows : goal.returns-then-accepted-clause-follows
returns-then-accepted-clause-follows g c = c.step_all-turned.ensures.follows

pub returns-then-accepted-clause-keeps : goal.returns-then-accepted-clause-keeps
returns-then-accepted-clause-keeps g c = c.step_all-turned.ensures.keeps

pub returns-then-accepted-clause-same : goal.returns-then-accepted-clause-same
returns-then-accepted-clause-same g c = c.step_all-turned.ensures.same

pub returns-else-accepted-clause-alone : goal.returns-else-accepted-clause-alone
returns-else-accepted-clause-alone g c = alone_then _ _ _ (rw c.look.ensures.same at c.in_ok-accepted.ensures.alone) c.step_all-turned.ensures.all.alone

pub returns-else-accepted-clause-few : goal.returns-else-accepted-clause-few
returns-else-accepted-clause-few g c = omega (arith, c.step_all-turned.ensures.len, c.greet.ensures.few)

pub returns-else-accepted-clause-suits : goal.returns-else-accepted-clause-suits
returns-else-accepted-clause-suits g c = c.step_all-turned.ensures.suits

pub returns-else-accepted-clause-turns : goal.returns-else-accepted-clause-turns
returns-else-accepted-clause-turns g c = λ first since t r. turns_after _ _ _ _ _ c.step_all-turned.result _ _ _ _ _ _ _ _ refl refl
    (welcomed _ _ _ _ _ _ _ _ _ _ _ _ _ _ (rw c.look.ensures.same at c.in_ok-accepted.ensures.welcomes) r) (λ u q. c.step_all-turned.ensures.turns first since u q)

pub returns-else-accepted-clause-prefixes : goal.returns-else-accepted-clause-prefixes
returns-else-accepted-clause-prefixes g c = λ first since t r. sentence_turn _ g.met.C.Converses.begins _ first since t _ _ _ _ _ (returns-else-accepted-clause-turns g c first since t r)

pub returns-else-accepted-clause-whole : goal.returns-else-accepted-clause-whole
returns-else-accepted-clause-whole g c = λ first since t r. speaks_turn _ g.met.C.Converses.begins g.met.C.Converses.whole _ first since t _ _ _ _ _ (omega (arith, c.step_all-turned.ensures.len, c.in_ok-accepted.ensures.few)) (returns-else-accepted-clause-turns g c first since t r)

pub returns-else-accepted-clause-asks : goal.returns-else-accepted-clause-asks
returns-else-accepted-clause-asks g c = λ w. answers_welcomed _ _ _ _ _ _ _ _ _ _ _ _ c.in_ok-accepted.ensures.welcomes (c.step_all-turned.ensures.asks w)

pub returns-else-accepted-clause-calm : goal.returns-else-accepted-clause-calm
returns-else-accepted-clause-calm g c = ap (λ d. d.faults) c.step_all-turned.ensures.all.door ∙ (c.in_ok-accepted.ensures.welcomes.calm ∙ ap (λ w. w.door.faults) c.look.ensures.same)

pub returns-else-accepted-clause-busy : goal.returns-else-accepted-clause-busy
returns-else-accepted-clause-busy g c = busy _ c.args.part c.step_all-turned.result _ _ _ _ _ _ _ _ _ (rw c.look.ensures.same at c.in_ok-accepted.ensures.welcomes) c.requires.suits.given c.step_all-turned.ensures.all
    (or_else _ _ c.if-accepted.false) refl

pub returns-else-accepted-clause-lasts : goal.returns-else-accepted-clause-lasts
returns-else-accepted-clause-lasts g c = go_on_welcomed _ _ _ _ _ _ _ _ _ _ c.in_ok-accepted.ensures.welcomes c.step_all-turned.ensures.lasts

pub returns-else-accepted-clause-idle : goal.returns-else-accepted-clause-idle
returns-else-accepted-clause-idle g c = λ e. c.step_all-turned.ensures.all.idle (inl e)

pub returns-else-accepted-clause-count : goal.returns-else-accepted-clause-count
returns-else-accepted-clause-count g c = counts_none _ _ _ _ _ _ _ _ c.look.ensures.same (c.in_ok-accepted.ensures.welcomes.same c.if-accepted.false) (c.in_ok-accepted.ensures.welcomes.none c.if-accepted.false).given c.step_all-turned.ensures.all.given c.step_all-turned.ensures.len

pub returns-else-accepted-clause-most : goal.returns-else-accepted-clause-most
returns-else-accepted-clause-most g c = omega (arith, c.step_all-turned.ensures.len, c.greet.ensures.few)

pub returns-else-accepted-clause-waits : goal.returns-else-accepted-clause-waits
returns-else-accepted-clause-waits g c = c.step_all-turned.ensures.all.waits ∙ (c.greet.ensures.waits ∙ ap (λ w. w.waits) c.look.ensures.same)

pub returns-else-accepted-clause-follows : goal.returns-else-accepted-clause-follows
returns-else-accepted-clause-follows g c = c.step_all-turned.ensures.follows

pub returns-else-accepted-clause-keeps : goal.returns-else-accepted-clause-keeps
returns-else-accepted-clause-keeps g c = c.step_all-turned.ensures.keeps

pub returns-else-accepted-clause-same : goal.returns-else-accepted-clause-same
returns-else-accepted-clause-same g c = c.step_all-turned.ensures.same
