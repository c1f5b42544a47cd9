use Rattle.std.proofs.Common.{refl}
use Rattle.template_fill.specs.Metadata.{version_quads}
use Rattle.hydra_controls.specs.Facts.{version_of}
use Rattle.metadata_quads.specs.TermTexts.{quad_of}
use Rattle.metadata_quads.proofs.TableLaws.{alone}
use Rattle.metadata_quads.proofs.table.version.Goals as goal

pub returns-clause-said : goal.returns-clause-said
unfolding version_quads
returns-clause-said c =
    alone (version_of c.args.facts) (quad_of c.says.result) _ _ _ _ _ _ _ c.says.ensures.quad c.data_set.ensures.term c.owl.ensures.term c.digits.ensures.term refl
