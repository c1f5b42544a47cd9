use Rattle.std.proofs.Common.{◌∙◌, ap}
use Rattle.rdf_terms.specs.Fragments.{last_page_of}
use Rattle.hydra_controls.proofs.LineLaws.{lines_are}
use Rattle.hydra_controls.proofs.lines.MetadataLines.new.Goals as goal

pub returns : goal.returns
returns c =
    lines_are c.args.config.now (record { slots = c.args.slots.now; rows = c.args.rows.now }) c.args.page c.args.count c.args.version c.last_page-last.result c.in_ok-base.base c.in_ok-first.first c.has_fixed-fixed.result
    (c.in_ok-base.ensures ∙ c.base.ensures.base) c.in_ok-first.ensures.text c.has_fixed-fixed.ensures (c.last_page-last.ensures ∙ ap (last_page_of c.args.count) c.page_size.ensures.size)
