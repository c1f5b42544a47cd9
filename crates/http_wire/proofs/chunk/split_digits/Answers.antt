use Rattle.std.proofs.Common.{ℕ, take, ap, ◌∙◌, arith}
use Rattle.std.specs.Char.{is_ascii_hexdigit}
use Rattle.http_wire.proofs.ChunkLemmas.{run_front}
use Rattle.http_wire.proofs.chunk.split_digits.Goals as goal

pub returns-clause-digits : goal.returns-clause-digits
returns-clause-digits c =
    let parts = run_front is_ascii_hexdigit c.args.line.now c.after_digits-rest.result.now c.after_digits-rest.ensures in
    c.front.ensures ∙ ap (λ (n : ℕ). take n c.args.line.now) (let within = parts.0 in let count = c.saturating_sub-count.ensures in omega arith) ∙ parts.1
