use Rattle.std.specs.String.{string_bytes}
use Rattle.template_fill.specs.Spelled.{spelled_of}
use Rattle.template_fill.proofs.Addresses.{made}
use Rattle.template_fill.proofs.address.WebAddress.normal.Goals as goal

pub invariant_of-result : goal.invariant_of-result
invariant_of-result c =
    let whole = made (spelled_of c.args.parts.now) (string_bytes c.in_ok-text.text) (string_bytes c.push_host.new.out) (string_bytes c.push_port.new.out) (string_bytes c.push_target.new.out) c.requires c.in_ok-text.ensures.ok c.in_ok-push_host.ensures c.in_ok-push_port.ensures c.in_ok-push_target.ensures in
    rw c.as_str-front.ensures.value whole.0
