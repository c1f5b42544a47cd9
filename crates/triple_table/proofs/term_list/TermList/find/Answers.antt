use Rattle.std.proofs.Common.{◌+◌, ◌-◌, ◌/◌, refl}
use Rattle.triple_table.proofs.TermSearch.{term_up, term_down, term_there, term_absent}
use Rattle.triple_table.proofs.term_list.TermList.find.Goals as goal

pub loop-low-preserved-in-Less : goal.loop-low-preserved-in-Less
loop-low-preserved-in-Less g c =
    term_up c.args.self.now c.requires c.args.term.now c.loop-low.low c.loop-low.high c.args.steps.now c.loop-low.steps _ (c.loop-low.low + (c.loop-low.high - c.loop-low.low) / 2)
    c.compare.ensures.cost refl c.loop-low-test.true c.loop-low.invariant c.in-Less.ensures.value

pub returns-in-Equal-clause-place : goal.returns-in-Equal-clause-place
returns-in-Equal-clause-place g c =
    term_there c.args.self.now c.requires c.args.term.now c.loop-low.low c.loop-low.high c.args.steps.now c.loop-low.steps (c.loop-low.low + (c.loop-low.high - c.loop-low.low) / 2)
    refl c.loop-low-test.true c.loop-low.invariant c.in-Equal.ensures.value

pub loop-low-preserved : goal.loop-low-preserved
loop-low-preserved g c =
    term_down c.args.self.now c.requires c.args.term.now c.loop-low.low c.loop-low.high c.args.steps.now c.loop-low.steps _ (c.loop-low.low + (c.loop-low.high - c.loop-low.low) / 2)
    c.compare.ensures.cost refl c.loop-low-test.true c.loop-low.invariant c.in-Greater.ensures.value

pub returns-clause-place : goal.returns-clause-place
returns-clause-place g c = term_absent c.args.self.now c.requires c.args.term.now c.loop-low.low c.loop-low.high c.args.steps.now c.loop-low.steps c.loop-low-test.false c.loop-low.invariant
