-- What the run did and said keeps all that it promises.
use Rattle.std.proofs.Common.{ℕ, map, string_bytes, sym, subst}
use Rattle.command_endings.specs.Endings.{Says}
use Rattle.command_endings.specs.EndingViews.{ending_view}
use Rattle.tpf_cli.proofs.Promised.{run_keeps}
use Rattle.tpf_cli.proofs.Ranges.{ranges}
use Rattle.tpf_cli.proofs.top.run.Goals as goal

pub returns-clause-keeps : goal.returns-clause-keeps
returns-clause-keeps g c =
    run_keeps _ _ (λ command e. ranges (map string_bytes c.args.words.now) command e) (ending_view c.ending_of-ending.result) c.code.result _ _ c.ending_of-ending.ensures.does
    (subst (λ (n : ℕ). Says n (ending_view c.ending_of-ending.result) (g.E.Sink.state c.args.err.now) (g.E.Sink.state c.say-status.new.err)) (sym c.code.ensures) c.say-status.ensures.says) c.say-status.ensures.keeps
