use Rattle.std.proofs.Common.{sym, ◌∙◌, arith}
use Rattle.nquads_text.proofs.Escapes.{item_done}
use Rattle.nquads_text.proofs.escape.resolve_item.Goals as goal

pub returns-then-is_item-clause-value : goal.returns-then-is_item-clause-value
returns-then-is_item-clause-value c =
    let step = (rw c.in-Some.is at c.in_ok-resolve_step.ensures) in
    item_done c.args.iri c.loop-i.place.awaits c.in-Some.next.awaits c.loop-i.place.value c.in-Some.next.value c.loop-i.i c.loop-i.out.items c.resolve_step.new.out.items c.args.bytes.now _ c.loop-i.invariant.0 (omega arith) step.0 (sym c.is_item.ensures ∙ c.if-is_item.true)
