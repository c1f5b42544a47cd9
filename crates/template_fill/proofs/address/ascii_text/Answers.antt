use Rattle.template_fill.proofs.Addresses.{utf8-ascii}
use Rattle.template_fill.proofs.address.ascii_text.Goals as goal

pub unreachable-requires : goal.unreachable-requires
unreachable-requires c = c.in-Err.ensures.cases.0 (utf8-ascii c.args.bytes.now c.requires)
