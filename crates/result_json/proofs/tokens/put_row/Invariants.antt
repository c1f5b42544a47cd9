use Rattle.std.proofs.Common.{◌≡◌, ◌++◌, drop, flat_map}
use Rattle.bgp_core.specs.Solutions.{term_at}
use Rattle.result_json.specs.Results.{bound_member, name_at}
use Rattle.result_json.proofs.tokens.put_row.Given as goal

abbrev pub invariant-loop-n : goal.invariant-loop-n
invariant-loop-n l = (l.writer.before ≡ l.initial.writer.before) × (l.writer.tokens ++ flat_map (λ n. bound_member (name_at l.names n) (term_at l.row n)) (drop l.n-index l.columns) ≡ l.initial.writer.tokens ++ flat_map (λ n. bound_member (name_at l.names n) (term_at l.row n)) l.columns)
