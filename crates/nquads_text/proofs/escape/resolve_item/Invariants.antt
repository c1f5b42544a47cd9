use Rattle.std.proofs.Common.{◌≡◌, ◌≤◌, drop}
use Rattle.nquads_text.specs.declared.scan.Awaits.TheVariants.{Item}
use Rattle.nquads_text.specs.Escape.{resolve_from}
use Rattle.nquads_text.proofs.escape.resolve_item.Given as goal

abbrev pub invariant-loop-i : goal.invariant-loop-i
invariant-loop-i l = (resolve_from l.iri l.initial.out.items Item 0 l.bytes ≡ resolve_from l.iri l.out.items l.place.awaits l.place.value (drop l.i l.bytes)) × (l.place.value ≤ 0x110000)
