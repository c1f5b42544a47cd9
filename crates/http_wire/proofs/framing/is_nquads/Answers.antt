use Rattle.std.proofs.Common.{sym, ◌∙◌}
use Rattle.http_wire.proofs.FramingLemmas.{nquads_one, nquads_other}
use Rattle.http_wire.proofs.framing.is_nquads.Goals as goal

pub returns-in-Some : goal.returns-in-Some
returns-in-Some c = c.is_only_media_type.ensures ∙ sym (nquads_one _ c.in-Some.value.now c.in-Some.ensures.0 c.in-Some.ensures.1)

pub returns-in-None : goal.returns-in-None
returns-in-None c = sym (nquads_other _ c.in-None.ensures)
