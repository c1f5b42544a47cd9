use Rattle.nquads_text.proofs.Labels.{label_parts}
use Rattle.nquads_text.proofs.loose.term_of.Goals as goal

pub copied-requires : goal.copied-requires
copied-requires c = (label_parts c.in-Blank.label.now (rw c.in-Blank.is at c.requires)).utf8
