-- The quads are the generated ones.
use Rattle.std.proofs.Common.{Err, ap, ◌∙◌}
use Rattle.data_servers.proofs.Few.{served_of, no_clash_of, not_too_many_of}
use Rattle.data_servers.proofs.generated.generated_table.Goals as goal

pub returns-in-Ok : goal.returns-in-Ok
returns-in-Ok c = served_of c.args.authority.now c.args.persons c.deref.result.now (c.deref.ensures.value ∙ c.in_ok-quads.ensures.quads) _ c.in-Ok.ensures.served

pub unreachable-requires : goal.unreachable-requires
unreachable-requires c = no_clash_of c.args.authority.now c.args.persons c.deref.result.now (c.deref.ensures.value ∙ c.in_ok-quads.ensures.quads) c.in-Err-GenidClash.field-0-0 (c.in-Err-GenidClash.ensures.clash c.in-Err-GenidClash.field-0-0 (ap Err c.in-Err-GenidClash.field-0-is))

pub unreachable-requires-in-Err-TooMany : goal.unreachable-requires-in-Err-TooMany
unreachable-requires-in-Err-TooMany c = not_too_many_of c.args.authority.now c.args.persons c.deref.result.now (c.deref.ensures.value ∙ c.in_ok-quads.ensures.quads) c.requires.few (c.in-Err-TooMany.ensures.too_many (ap Err c.in-Err-TooMany.field-0-is))
