use Rattle.std.proofs.Common.{◌≡◌, drop}
use Rattle.tpf_base.specs.Outside.{content_of}
use Rattle.memory_outside.proofs.mem_shelf.place_of.Given as goal

abbrev pub invariant-loop-i : goal.invariant-loop-i
invariant-loop-i l = content_of l.files l.name ≡ content_of (drop l.i l.files) l.name
