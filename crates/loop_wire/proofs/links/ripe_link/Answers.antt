use Rattle.std.proofs.Common.{ℕ, ◌≡◌, ◌<◌, ◌≤◌, false, Option, Some, None, IfNone, get_or, List, arith}
use Rattle.loop_wire.specs.Held.{Held, no_link}
use Rattle.loop_wire.proofs.Talks.{two_sides}
use Rattle.loop_wire.proofs.links.ripe_link.Goals as goal

both : (links : List Held) (n s : ℕ) (r : Option ℕ) → s ≤ n → ((k : ℕ) → k < n → s ≤ k → (get_or links k no_link).ripe ≡ false) → IfNone r ((k : ℕ) → k < s → 0 ≤ k → (get_or links k no_link).ripe ≡ false)
    → IfNone r ((k : ℕ) → k < n → (get_or links k no_link).ripe ≡ false)
both links n s None within above below = λ k few. two_sides (get_or links k no_link).ripe k s (λ h. below k h (omega arith)) (λ h. above k few h)
both links n s (Some x) within above below = tt

pub returns-in-None-clause-none : goal.returns-in-None-clause-none
returns-in-None-clause-none g c = both _ _ c.args.start c.first_ripe-in-None.result c.requires c.in-None.ensures.none c.first_ripe-in-None.ensures.none
