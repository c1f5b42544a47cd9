use Rattle.std.proofs.lemmas.Bool.{and_parts}
use Rattle.std.specs.List.{list_all}
use Rattle.rdf_terms.specs.Askable.{askable}
use Rattle.request_plan.proofs.Blanks.{rows-no-blank}
use Rattle.request_plan.proofs.round.FormList.first_round.Goals as goal

pub selection_address-requires-clause-rows : goal.selection_address-requires-clause-rows
selection_address-requires-clause-rows c = rows-no-blank c.args.rows.now (and_parts (list_all askable c.args.rows.now) (askable c.args.slots.now) c.requires).0
