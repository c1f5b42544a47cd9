-- The triples are taken one after another, and each adds what it makes of the rows.
use Rattle.std.proofs.Common.{[]}
use Rattle.std.proofs.lemmas.Result.{IfOk-from_err}
use Rattle.request_plan.specs.Plans.{found_by}
use Rattle.request_plan.proofs.Expanding.{flat-more, flat-all}
use Rattle.request_plan.proofs.found.expand_held.Goals as goal

pub loop-triple-init : goal.loop-triple-init
loop-triple-init c = c.new-found.ensures.items

pub add_held-requires : goal.add_held-requires
add_held-requires c = c.requires

pub returns-in_err-add_held : goal.returns-in_err-add_held
returns-in_err-add_held c = IfOk-from_err _ _ c.from_residual.ensures.0

pub loop-triple-preserved : goal.loop-triple-preserved
loop-triple-preserved c = flat-more (λ t. found_by c.args.chosen.now c.args.block.now t) [] _ _ c.args.held.now c.loop-triple.triple-index c.triple-item.result c.loop-triple-test.true c.triple-item.is c.loop-triple.invariant c.in_ok-add_held.ensures

pub returns : goal.returns
returns c = flat-all (λ t. found_by c.args.chosen.now c.args.block.now t) [] _ c.args.held.now c.loop-triple.triple-index c.loop-triple-test.false c.loop-triple.invariant
