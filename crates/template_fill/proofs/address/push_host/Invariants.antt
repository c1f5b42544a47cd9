use Rattle.std.proofs.Common.{◌≡◌, ◌++◌, map, take}
use Rattle.std.specs.String.{string_bytes}
use Rattle.std.specs.Char.{to_ascii_lowercase}
use Rattle.template_fill.proofs.address.push_host.Given as goal

abbrev pub invariant-loop-b : goal.invariant-loop-b
invariant-loop-b l = string_bytes l.out ≡ string_bytes l.initial.out ++ map to_ascii_lowercase (take l.b-index l.host)
