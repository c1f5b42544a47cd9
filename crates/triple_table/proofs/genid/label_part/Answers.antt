use Rattle.triple_table.proofs.Parts.{label_of_parts}
use Rattle.triple_table.proofs.genid.label_part.Goals as goal

pub returns : goal.returns
returns c = label_of_parts _ _ c.args.authority.now c.in_ok-rest.rest.now c.in_ok-label.label.now c.in_ok-rest.ensures c.in_ok-label.ensures c.after-3.ensures
