use Rattle.std.proofs.Common.{◌≡◌, ◌++◌, drop, map}
use Rattle.json.specs.Token.{string}
use Rattle.result_json.specs.Results.{name_at}
use Rattle.result_json.proofs.tokens.put_names.Given as goal

abbrev pub invariant-loop-n : goal.invariant-loop-n
invariant-loop-n l = (l.writer.before ≡ l.initial.writer.before) × (l.writer.tokens ++ map (λ n. string (name_at l.query.names n)) (drop l.n-index l.selected) ≡ l.initial.writer.tokens ++ map (λ n. string (name_at l.query.names n)) l.selected)
