-- What stands before the rest is whole lines.
use Rattle.std.proofs.Common.{[], ◌++◌, refl, inl, sym, ◌∙◌, subst}
use Rattle.own_controls.specs.Lines.{EndsLine}
use Rattle.own_controls.proofs.Joined.{front_is, more_front}
use Rattle.own_controls.proofs.Nothing.{none_given}
use Rattle.own_controls.proofs.start.cut.Goals as goal

pub returns-in_err-rest-clause-whole : goal.returns-in_err-rest-clause-whole
returns-in_err-rest-clause-whole c = none_given _ _ c.from_residual.ensures

pub returns-in_err-rest-clause-front : goal.returns-in_err-rest-clause-front
returns-in_err-rest-clause-front c = none_given _ _ c.from_residual.ensures

pub loop-rest-smaller : goal.loop-rest-smaller
loop-rest-smaller c = c.in_ok-rest.ensures.shorter

pub loop-rest-init : goal.loop-rest-init
loop-rest-init c = ([], refl, inl refl)

pub loop-rest-preserved : goal.loop-rest-preserved
loop-rest-preserved c =
    let i = c.loop-rest.invariant in
    let line = c.in_ok-rest.ensures.line in
    more_front c.args.body.now i.0 c.loop-rest.rest.now line.0 _ i.1 line.1

pub returns-then-begins_metadata-clause-whole : goal.returns-then-begins_metadata-clause-whole
returns-then-begins_metadata-clause-whole c =
    let i = c.loop-rest.invariant in
    let is = front_is c.args.body.now i.0 c.loop-rest.rest.now i.1 in
    i.1 ∙ (λ k. sym (c.split_at.ensures.front ∙ is.0) k ++ sym (c.split_at.ensures.back ∙ is.1) k)

pub returns-then-begins_metadata-clause-front : goal.returns-then-begins_metadata-clause-front
returns-then-begins_metadata-clause-front c =
    let i = c.loop-rest.invariant in
    let is = front_is c.args.body.now i.0 c.loop-rest.rest.now i.1 in
    subst EndsLine (sym (c.split_at.ensures.front ∙ is.0)) i.2
