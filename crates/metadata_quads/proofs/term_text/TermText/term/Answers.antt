use Rattle.metadata_quads.proofs.TermLaws.{term_is}
use Rattle.metadata_quads.proofs.term_text.TermText.term.Goals as goal

pub returns : goal.returns
returns c = term_is c.args.self c.in_ok-text.text c.term_as.result c.in_ok-text.ensures c.term_as.ensures
