use Rattle.std.proofs.Common.{refl, inr}
use Rattle.page_controls.proofs.Homes.{when_true, when_false}
use Rattle.page_controls.proofs.link.check_home.Goals as goal

pub returns-then-is_home : goal.returns-then-is_home
returns-then-is_home c = when_true _ _ c.is_home.result c.if-is_home.true (c.is_home.ensures c.requires.0 c.requires.1)

pub returns-else-is_home : goal.returns-else-is_home
returns-else-is_home c = inr (refl, when_false _ _ c.is_home.result c.if-is_home.false (c.is_home.ensures c.requires.0 c.requires.1))
