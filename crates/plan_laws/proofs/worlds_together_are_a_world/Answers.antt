use Rattle.plan_laws.proofs.JointWorlds.{joint-is-world}
use Rattle.plan_laws.proofs.worlds_together_are_a_world.Goals as goal

pub returns : goal.returns
returns c = joint-is-world
