use Rattle.std.proofs.Common.{[], ap, ◌∙◌}
use Rattle.row_algebra.specs.Finding.{news, same_key, flagged}
use Rattle.row_algebra.proofs.Onces.{flagged_once}
use Rattle.row_algebra.proofs.distinct.distinct_rows.Goals as goal

pub returns : goal.returns
returns c =
    c.in_ok-once.ensures ∙ ap (λ l. flagged l c.args.rows.items) c.as_slice-2.ensures.value ∙
    flagged_once c.requires.width.0 c.args.names.now c.args.rows.items c.in_ok-flags.flags.items c.requires.width.1 c.requires.names
    (c.in_ok-flags.ensures ∙ ap (λ l. news (same_key c.args.names.now) [] l) c.as_slice.ensures.value)
