-- The links that wait, or a wait.
use Rattle.std.proofs.lemmas.Result.{IfErr-weaker, on_ok_weaker}
use Rattle.serve_loop.proofs.GreetLemmas.{greets_alone, greets_calm, greets_rose}
use Rattle.serve_loop.proofs.ServeLemmas.{suits_rests}
use Rattle.std.proofs.Common.{refl, subst}
use Rattle.serve_loop.specs.Greets.{IsGreeted, IsRested, Greeting, Resting}
use Rattle.serve_loop.specs.Service.{HasDoorCause}
use Rattle.serve_loop.proofs.AcceptLemmas.{any_ok}
use Rattle.serve_loop.proofs.service.follow.Goals as goal

pub returns-then-rests-clause-few : goal.returns-then-rests-clause-few
returns-then-rests-clause-few g c = c.requires.few

pub returns-then-rests-clause-suits : goal.returns-then-rests-clause-suits
returns-then-rests-clause-suits g c = suits_rests _ _ _ _ _ c.rest.ensures.only c.requires.suits

pub returns-then-rests-clause-follows : goal.returns-then-rests-clause-follows
returns-then-rests-clause-follows g c = any_ok c.rest.result _ (IsRested c.if-rests.true refl c.rest.ensures.only c.rest.ensures.waits)

pub returns-then-rests-clause-fails : goal.returns-then-rests-clause-fails
returns-then-rests-clause-fails g c = IfErr-weaker c.rest.result _ _ (λ fault h. Resting c.if-rests.true refl c.rest.ensures.only h) c.rest.ensures.fails

pub returns-then-rests-clause-calm : goal.returns-then-rests-clause-calm
returns-then-rests-clause-calm g c = c.rest.ensures.calm

pub returns-then-rests-clause-wire : goal.returns-then-rests-clause-wire
returns-then-rests-clause-wire g c = IfErr-weaker c.rest.result _ _ (λ fault h e. subst (λ f. HasDoorCause f (g.W.Wire.state c.args.wire.now) (g.W.Wire.state c.rest.new.wire)) e h.cause) c.rest.ensures.fails

pub returns-then-rests-clause-alone : goal.returns-then-rests-clause-alone
returns-then-rests-clause-alone g c = c.rest.ensures.only.alone

pub greet-requires-clause-listens : goal.greet-requires-clause-listens
greet-requires-clause-listens g c = c.requires.listens

pub greet-requires-clause-few : goal.greet-requires-clause-few
greet-requires-clause-few g c = c.requires.few

pub greet-requires-clause-suits : goal.greet-requires-clause-suits
greet-requires-clause-suits g c = c.requires.suits

pub returns-clause-few : goal.returns-clause-few
returns-clause-few g c = c.greet.ensures.few

pub returns-clause-suits : goal.returns-clause-suits
returns-clause-suits g c = c.greet.ensures.suits

pub returns-clause-follows : goal.returns-clause-follows
returns-clause-follows g c = on_ok_weaker c.greet.result (λ h. IsGreeted c.if-rests.false h) c.greet.ensures.greets

pub returns-clause-fails : goal.returns-clause-fails
returns-clause-fails g c = IfErr-weaker c.greet.result _ _ (λ fault h. Greeting c.if-rests.false h) c.greet.ensures.fails

pub returns-clause-calm : goal.returns-clause-calm
returns-clause-calm g c = greets_calm _ c.greet.result _ _ _ _ c.greet.ensures.greets

pub returns-clause-wire : goal.returns-clause-wire
returns-clause-wire g c = IfErr-weaker c.greet.result _ _ (λ fault h. greets_rose _ fault _ _ _ _ h) c.greet.ensures.fails

pub returns-clause-alone : goal.returns-clause-alone
returns-clause-alone g c = greets_alone _ c.greet.result _ _ _ _ c.greet.ensures.greets c.greet.ensures.fails
