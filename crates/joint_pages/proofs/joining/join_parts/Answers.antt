use Rattle.joint_pages.specs.Parts.{pages_in}
use Rattle.joint_pages.proofs.Takings.{made-joined}
use Rattle.joint_pages.proofs.joining.join_parts.Goals as goal

pub returns : goal.returns
returns c = made-joined c.in_ok-take_parts.field-0 c.args.taken (pages_in c.args.parts.items) c.into_page.result c.in_ok-take_parts.ensures c.into_page.ensures
