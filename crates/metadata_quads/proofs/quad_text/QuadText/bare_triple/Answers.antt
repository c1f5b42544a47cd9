use Rattle.metadata_quads.proofs.TermLaws.{triple_is}
use Rattle.metadata_quads.proofs.quad_text.QuadText.bare_triple.Goals as goal

pub returns-in-Ok-term : goal.returns-in-Ok-term
returns-in-Ok-term c =
    triple_is c.args.self c.in_ok-subject.subject c.in-Ok.predicate c.in-Ok-term.object c.in_ok-subject.ensures c.in-Ok.ensures c.in-Ok-term.ensures
