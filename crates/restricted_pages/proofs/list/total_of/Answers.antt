use Rattle.std.proofs.Common.{◌-◌, ◌^◌, List, ap, length, min, ◌∙◌}
use Rattle.std.proofs.lemmas.List.{take_all}
use Rattle.std.proofs.lemmas.List.Elements.{All-get_or}
use Rattle.triple_table.specs.declared.ids.IdPattern.{IdPattern}
use Rattle.triple_table.specs.Stored.{IsIdPattern}
use Rattle.restricted_pages.specs.Patterns.{gathered}
use Rattle.restricted_pages.proofs.Walks.{total_more}
use Rattle.restricted_pages.proofs.list.total_of.Goals as goal

pub range-range-requires : goal.range-range-requires
range-range-requires g c = All-get_or (IsIdPattern c.args.table.now) c.args.patterns.now c.loop-pattern.pattern-index _ c.loop-pattern-test.true c.requires

pub loop-pattern-preserved : goal.loop-pattern-preserved
loop-pattern-preserved g c = total_more c.args.table.now c.args.patterns.now c.loop-pattern.pattern-index _ c.loop-pattern-test.true c.range-range.result c.range-range.ensures.fragment (2 ^ 64 - 1) c.loop-pattern.total c.count.result c.saturating_add-total.result c.loop-pattern.invariant c.count.ensures.count c.saturating_add-total.ensures

pub returns : goal.returns
returns g c = c.loop-pattern.invariant ∙ ap (λ (ps : List IdPattern). min (length (gathered c.args.table.now ps)) (2 ^ 64 - 1)) (take_all _ _ c.loop-pattern-test.false)
