use Rattle.hydra_controls.proofs.Iris.{iri-plain}
use Rattle.metadata_quads.proofs.table.template.Goals as goal

pub plain-requires-clause-front : goal.plain-requires-clause-front
plain-requires-clause-front c = iri-plain c.args.facts.base.now c.requires.base
