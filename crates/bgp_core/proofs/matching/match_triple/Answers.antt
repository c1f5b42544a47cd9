use Rattle.std.proofs.Common.{sym}
use Rattle.bgp_core.proofs.Fitting.{extension-none}
use Rattle.bgp_core.proofs.matching.match_triple.Goals as goal

pub returns-then-not-fits-clause-value : goal.returns-then-not-fits-clause-value
returns-then-not-fits-clause-value c = sym (extension-none c.args.pattern.now c.args.row.now c.args.triple.now (sym c.if-not-fits.ensures))
