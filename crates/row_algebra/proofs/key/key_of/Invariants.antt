use Rattle.std.proofs.Common.{◌≡◌, take, map}
use Rattle.std.specs.Prelude.{option_copied}
use Rattle.row_algebra.specs.Finding.{key_of}
use Rattle.row_algebra.proofs.key.key_of.Given as goal

abbrev pub invariant-loop-name : goal.invariant-loop-name
invariant-loop-name l = map option_copied l.key.items ≡ key_of (take l.name-index l.names) l.row
