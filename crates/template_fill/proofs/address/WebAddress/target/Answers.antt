use Rattle.std.specs.String.{string_bytes}
use Rattle.template_fill.proofs.Addresses.{kept_target_of}
use Rattle.template_fill.proofs.address.WebAddress.target.Goals as goal

pub returns : goal.returns
returns c =
    let part = rw c.as_str-text.ensures.value at c.ascii_part.ensures in
    kept_target_of (string_bytes c.self.inside.text) c.ascii_part.result.now c.self.inside.host_len c.self.inside.authority_len c.self.inside.port c.args.self.now c.self.view_is part
