use Rattle.std.proofs.Common.{ap, ◌∙◌}
use Rattle.std.proofs.lemmas.List.{take_all}
use Rattle.triple_table.specs.Ranking.{borrowed_terms}
use Rattle.triple_table.proofs.Copies.{copies_more, lengths_more, valid_more}
use Rattle.triple_table.proofs.build.copies_of.Goals as goal

pub loop-term-preserved : goal.loop-term-preserved
loop-term-preserved c =
    let x = c.term-item.result in
    let old = c.loop-term.copies.items in
    let new = c.push_copy.new.copies.items in
    record {
      copies = copies_more c.args.terms.now c.loop-term.term-index x old new c.loop-term-test.true c.term-item.is c.in_ok-push_copy.ensures.copies c.loop-term.invariant.copies;
      valid = valid_more old new x.now c.in_ok-push_copy.ensures.copies c.in_ok-push_copy.ensures.valid c.loop-term.invariant.valid;
      lengths = lengths_more old new x.now c.loop-term.lengths.items c.push_copy.new.lengths.items c.in_ok-push_copy.ensures.copies c.in_ok-push_copy.ensures.lengths c.loop-term.invariant.lengths;
    }

pub returns : goal.returns
returns c = c.from_vecs.ensures ∙ c.loop-term.invariant.copies ∙ ap borrowed_terms (take_all _ _ c.loop-term-test.false)
