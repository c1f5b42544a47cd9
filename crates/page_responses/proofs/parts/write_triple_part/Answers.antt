use Rattle.std.proofs.Common.{arith, length, sym, ◌∙◌}
use Rattle.triple_table.specs.Stored.{held_terms, triple_at}
use Rattle.page_responses.specs.Parts.{triple_marks}
use Rattle.page_responses.proofs.PartLaws.{line_high, within_on}
use Rattle.page_responses.proofs.GivenParts.{last_part, part_behind, whole_line}
use Rattle.page_responses.proofs.parts.write_triple_part.Goals as goal

pub returns-then-is_short-clause-ok : goal.returns-then-is_short-clause-ok
returns-then-is_short-clause-ok c =
    let short = c.is_short.ensures c.if-is_short.true in
    λ quads. whole_line c.args.table.now quads c.args.ids c.args.from c.args.out.now.items c.write_triple.new.out.items short.0 (omega (arith, short.1, c.triple_length-length.ensures.length)) c.in_ok-write_triple.ensures.ok

pub overflow_add-result : goal.overflow_add-result
overflow_add-result c =
    let t = triple_at (held_terms c.args.table.now) c.args.ids in
    let within = within_on c.args.from (length (triple_marks t)) (sym c.in_ok-cut_triple.ensures.ok.0 ∙ c.if-branch.true) in
    omega (arith, within, line_high t, c.triple_length-length.ensures.length, c.triple_length-length.ensures.small)

pub returns-then-branch-clause-ok : goal.returns-then-branch-clause-ok
returns-then-branch-clause-ok c =
    λ quads. part_behind c.args.table.now quads c.args.ids c.args.from c.args.out.now.items c.cut_triple.new.out.items c.requires.some c.in_ok-cut_triple.ensures.ok.1

pub returns-else-branch-clause-ok : goal.returns-else-branch-clause-ok
returns-else-branch-clause-ok c =
    λ quads. last_part c.args.table.now quads c.args.ids c.args.from c.args.out.now.items c.cut_triple.new.out.items c.requires.some (sym c.in_ok-cut_triple.ensures.ok.0 ∙ c.if-branch.false) c.in_ok-cut_triple.ensures.ok.1
