use Rattle.std.proofs.Common.{◌<◌, ◌≤◌, length, refl, arith}
use Rattle.join_core.specs.Events.{has_ask}
use Rattle.join_core.specs.Levels.{nodes_of, plain}
use Rattle.join_core.proofs.Scans.{levels-step, levels-end, if-none}
use Rattle.join_core.proofs.Plain.{plain-long, level-of-plain}
use Rattle.join_core.proofs.levels.place_with_ask.Goals as goal

pub loop-depth-preserved : goal.loop-depth-preserved
loop-depth-preserved c =
    let ls = c.args.levels.now in
    let deep : c.loop-depth.depth < length ls = omega arith in
    let below : c.loop-depth.depth < length (plain ls) = omega (arith, plain-long ls, deep) in
    levels-step (plain ls) (plain ls) has_ask c.loop-depth.depth (nodes_of c.index-levels-depth.result) refl below (level-of-plain ls c.loop-depth.depth c.index-levels-depth.result deep c.index-levels-depth.is) (if-none c.asker.result _ c.in_default.is c.asker.ensures.none) c.loop-depth.invariant

pub returns-clause-none : goal.returns-clause-none
returns-clause-none c =
    let ls = c.args.levels.now in
    let past : length (plain ls) ≤ c.loop-depth.depth = omega (arith, plain-long ls) in
    levels-end (plain ls) has_ask c.loop-depth.depth past c.loop-depth.invariant
