use Rattle.std.proofs.Common.{◌≡◌, true, map}
use Rattle.join_core.specs.Events.{is_idle}
use Rattle.join_core.specs.Levels.{seed_node}
use Rattle.join_core.proofs.Kept.{after-idle}
use Rattle.join_core.proofs.levels.take_made.Goals as goal

pub settle_above-settled-requires-clause-idle : goal.settle_above-settled-requires-clause-idle
settle_above-settled-requires-clause-idle c = after-idle (λ n. is_idle n ≡ true) (map seed_node c.args.made.opened.items) c.args.made.after c.requires.idle

pub settle_deepest-settled-requires-clause-idle : goal.settle_deepest-settled-requires-clause-idle
settle_deepest-settled-requires-clause-idle c = after-idle (λ n. is_idle n ≡ true) (map seed_node c.args.made.opened.items) c.args.made.after c.requires.idle
