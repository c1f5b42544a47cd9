use Rattle.page_responses.specs.Serving.{served}
use Rattle.page_responses.proofs.OpenLaws.{opens_part}
use Rattle.page_responses.proofs.pages.open_page.Goals as goal

pub returns : goal.returns
returns c =
    opens_part (served c.args.snapshot.now c.args.config.now) c.args.slots.now c.args.number c.number-version.result c.triples_length-bytes.result c.in_ok-metadata.metadata c.open_lines.result c.number-version.ensures
    c.args.view.now c.table-table.result.now c.shown_range-triples.result c.table-table.ensures c.requires.page c.shown_range-triples.ensures.part c.shown_range-triples.ensures.triples
    c.in_ok-metadata.ensures c.triples_length-bytes.ensures.length c.open_lines.ensures
