use Rattle.std.proofs.Common.{◌≡◌, ◌++◌, take, drop}
use Rattle.rdf_terms.specs.Slots.{order_of}
use Rattle.rdf_terms.specs.Fragments.{put}
use Rattle.plain_answers.proofs.plain.put.Given as goal

abbrev pub invariant-loop-i : goal.invariant-loop-i
invariant-loop-i l = (l.sorted ≡ l.initial.sorted) × (put (order_of l.slots) l.triple l.sorted.items ≡ take l.i l.sorted.items ++ put (order_of l.slots) l.triple (drop l.i l.sorted.items))
