use Rattle.std.proofs.Common.{◌≡◌, ◌-◌, length, drop}
use Rattle.std.specs.List.{filter}
use Rattle.rdf_terms.specs.Slots.{order_of, matches}
use Rattle.rdf_terms.specs.Fragments.{sorted}
use Rattle.plain_answers.proofs.plain.plain_fragment.Given as goal

abbrev pub invariant-loop-i : goal.invariant-loop-i
invariant-loop-i l = l.sorted.items ≡ sorted (order_of l.slots) (filter (matches l.slots) (drop (length l.triples - l.i) l.triples))
