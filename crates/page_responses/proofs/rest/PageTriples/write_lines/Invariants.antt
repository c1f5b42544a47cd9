use Rattle.std.proofs.Common.{length}
use Rattle.list_laws.specs.Begins.{Begins}
use Rattle.page_responses.specs.Given.{IsMore}
use Rattle.page_responses.specs.PageRests.{ArePart, lines_text}
use Rattle.page_responses.proofs.rest.PageTriples.write_lines.Given as goal

abbrev pub invariant-loop-out : goal.invariant-loop-out
invariant-loop-out l =
    IsMore l.room (lines_text l.table l.initial.self) (lines_text l.table l.self) l.initial.out.items l.out.items
    × ArePart l.table l.self
    × Begins l.initial.out.items l.out.items

abbrev pub decreases-loop-out : goal.decreases-loop-out
decreases-loop-out l = length (lines_text l.table l.self)
