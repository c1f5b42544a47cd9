use Rattle.std.proofs.Common.{sym, ◌∙◌}
use Rattle.control_triples.proofs.Firsts.{data_added}
use Rattle.control_triples.proofs.mark.is_first.Goals as goal

pub returns-clause-seen : goal.returns-clause-seen
returns-clause-seen c = λ t.
    data_added _ _ c.args.quad.now.graph c.args.quad.now.triple t (sym c.is_some.ensures ∙ c.if-is_some.false) (c.in_ok-insert.ensures.updates.0 (record { triple = record { ref_ptr = c.args.quad.ref_ptr; now = t } }))
