use Rattle.template_fill.proofs.Addresses.{ascii-rest}
use Rattle.template_fill.proofs.address.push_target.Goals as goal

pub ascii_text-requires : goal.ascii_text-requires
ascii_text-requires c = ascii-rest c.args.rest.now c.requires
