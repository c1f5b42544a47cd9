use Rattle.std.proofs.Common.{◌≡◌, true, sym, subst}
use Rattle.bgp_core.specs.Fits.{fits}
use Rattle.bgp_core.specs.Solutions.{Places}
use Rattle.bgp_core.proofs.Fitting.{extension-none}
use Rattle.request_plan.proofs.binding.extension.Goals as goal

pub returns-then-not-fits-clause-value : goal.returns-then-not-fits-clause-value
returns-then-not-fits-clause-value c = sym (extension-none c.args.pattern.now c.args.row.now c.args.triple (sym c.if-not-fits.ensures))

pub bind_all-requires-clause-allowed : goal.bind_all-requires-clause-allowed
bind_all-requires-clause-allowed c = subst (λ (row : Places). fits c.args.pattern.now row c.args.triple ≡ true) (sym c.in-Ok.ensures) (sym c.if-not-fits.ensures)
