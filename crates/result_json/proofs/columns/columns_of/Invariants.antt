use Rattle.std.proofs.Common.{◌≡◌, drop}
use Rattle.std.specs.FinMap.{entries}
use Rattle.result_json.specs.Results.{first_numbers}
use Rattle.result_json.proofs.Names.{seen}
use Rattle.result_json.proofs.columns.columns_of.Given as goal

abbrev pub invariant-loop-i : goal.invariant-loop-i
invariant-loop-i l = seen (λ k. k.now) l.firsts.entries ≡ entries (first_numbers l.names (drop l.i l.selected))
