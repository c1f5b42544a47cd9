use Rattle.std.proofs.Common.{◌∙◌}
use Rattle.std.specs.String.{string_bytes}
use Rattle.template_fill.proofs.Addresses.{query_part, query_in_text}
use Rattle.template_fill.proofs.address.WebAddress.has_query.Goals as goal

pub returns-clause-query : goal.returns-clause-query
returns-clause-query c =
    let part = rw c.as_str-text.ensures.value at c.ascii_part-target.ensures in
    let value = rw c.as_bytes.ensures.value at c.contains.ensures.value in
    value ∙ query_part (string_bytes c.self.inside.text) c.ascii_part-target.result.now c.self.inside.host_len c.self.inside.authority_len c.self.inside.port c.args.self.now c.self.view_is part

pub returns-clause-text : goal.returns-clause-text
returns-clause-text c =
    let part = rw c.as_str-text.ensures.value at c.ascii_part-target.ensures in
    let value = rw c.as_bytes.ensures.value at c.contains.ensures.value in
    value ∙ query_in_text (string_bytes c.self.inside.text) c.ascii_part-target.result.now c.self.inside.host_len c.self.inside.authority_len c.self.inside.port c.args.self.now c.self.invariant c.self.view_is part
