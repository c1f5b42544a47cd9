use Rattle.std.proofs.Common.{◌≡◌, ap, sym, ◌∙◌, length, arith}
use Rattle.std.specs.Prelude.{slice_index_or}
use Rattle.rdf_terms.specs.declared.term.Triple.{Triple}
use Rattle.triple_table.specs.Stored.{held_terms, listed, triple_at}
use Rattle.page_responses.specs.Lines.{triple_line}
use Rattle.page_responses.proofs.LineLengths.{next_triple}
use Rattle.page_responses.proofs.lines.triples_length.Goals as goal

pub loop-i-preserved : goal.loop-i-preserved
loop-i-preserved c =
    let triples = listed c.args.table.now c.args.range.now in
    let d : Triple = triple_at (held_terms c.args.table.now) c.at.result in
    let line : length (triple_line (slice_index_or triples c.loop-i.i d)) ≡ c.triple_length-sum.result =
    ap (λ (t : Triple). length (triple_line t)) (c.at.ensures.triple d) ∙ sym c.triple_length-sum.ensures.length in
    let next = next_triple triples c.loop-i.i d (omega (arith, c.count-i-end.ensures.count, c.loop-i-test.true)) in
    (omega (arith, next, line, c.loop-i.invariant.0), omega (arith, c.loop-i.invariant.1, c.triple_length-sum.ensures.small))
