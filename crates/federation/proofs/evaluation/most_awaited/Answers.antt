use Rattle.std.proofs.Common.{ℕ, ◌*◌, min, length, ap, ◌∙◌}
use Rattle.federation.proofs.Beginning.{capped}
use Rattle.federation.proofs.evaluation.most_awaited.Goals as goal

pub returns : goal.returns
returns c =
    let rows = c.saturating_mul-rows.ensures ∙ ap (λ (n : ℕ). min (n * c.len.result) 18446744073709551615) c.from.ensures ∙ ap (λ (n : ℕ). min (c.args.window * n) 18446744073709551615) c.len.ensures ∙ capped c.args.window (length c.args.forms.now) 18446744073709551615 in
    c.saturating_mul.ensures ∙ ap (λ (n : ℕ). min (c.args.patterns * n) 18446744073709551615) rows ∙ capped c.args.patterns (c.args.window * length c.args.forms.now) 18446744073709551615
