use Rattle.std.proofs.Common.{refl, true}
use Rattle.template_fill.specs.Metadata.{graph_at, link_quads}
use Rattle.hydra_controls.specs.Facts.{addresses_on, page_text}
use Rattle.metadata_quads.specs.TermTexts.{quad_of}
use Rattle.metadata_quads.proofs.TableLaws.{alone}
use Rattle.metadata_quads.proofs.table.link.Goals as goal

pub returns-clause-said : goal.returns-clause-said
unfolding link_quads
returns-clause-said c =
    alone (link_quads true (graph_at (addresses_on c.args.facts)) (addresses_on c.args.facts).page c.args.name.now (page_text c.args.facts.first.now c.args.facts.fixed c.args.number)) (quad_of c.says.result) _ _ _ _ _ _ _
    c.says.ensures.quad c.page.ensures.term c.hydra.ensures.term c.page-2.ensures.term refl
