use Rattle.std.proofs.Common.{ap, List, ℕ, ◌++◌, ◌∙◌}
use Rattle.hydra_controls.proofs.CutLaws.{between}
use Rattle.hydra_controls.proofs.cut.Cut.push.Goals as goal

pub returns-clause-ok : goal.returns-clause-ok
returns-clause-ok c = record {
  behind = c.pass-from.ensures.behind;
  appended =
      c.in_ok-extend_from_slice.ensures.items
      ∙ ap (λ (l : List ℕ). c.args.out.now.items ++ l) (between c.args.self.now c.args.text.now c.pass-from.result.0 c.pass-from.result.1 c.pass-from.ensures.from c.pass-from.ensures.long);
}
