use Rattle.std.specs.Prelude.{slice_index_or}
use Rattle.rdf_terms.specs.Canon.{canonical_line}
use Rattle.hydra_controls.specs.Facts.{quads_of}
use Rattle.hydra_controls.specs.LineTexts.{text_of_line}
use Rattle.hydra_controls.proofs.LineLaws.{part_appended, placed_line, within}
use Rattle.hydra_controls.proofs.lines.MetadataLines.write_cut.Goals as goal

pub line-requires-clause-within : goal.line-requires-clause-within
line-requires-clause-within c = within (quads_of c.facts.result) c.args.self.now c.args.i c.facts.ensures.quads c.requires

pub returns-clause-ok : goal.returns-clause-ok
returns-clause-ok c = λ d.
    (part_appended c.args.from c.args.most c.new-cut.result c.write.new.cut c.args.out.now.items c.write.new.out.items (text_of_line c.line.result) (canonical_line (slice_index_or c.args.self.now c.args.i d))
    c.new-cut.ensures c.in_ok-write.ensures.ok (placed_line (quads_of c.facts.result) c.args.self.now c.args.i d (text_of_line c.line.result) c.facts.ensures.quads (c.line.ensures d))).0

pub returns-clause-more : goal.returns-clause-more
returns-clause-more c = λ d.
    (part_appended c.args.from c.args.most c.new-cut.result c.write.new.cut c.args.out.now.items c.write.new.out.items (text_of_line c.line.result) (canonical_line (slice_index_or c.args.self.now c.args.i d))
    c.new-cut.ensures c.in_ok-write.ensures.ok (placed_line (quads_of c.facts.result) c.args.self.now c.args.i d (text_of_line c.line.result) c.facts.ensures.quads (c.line.ensures d))).1
