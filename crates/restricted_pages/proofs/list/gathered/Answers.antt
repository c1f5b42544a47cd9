use Rattle.std.proofs.Common.{◌++◌, List, ap, sym, subst, ◌∙◌}
use Rattle.std.proofs.lemmas.List.{take_all}
use Rattle.std.proofs.lemmas.List.Elements.{All-get_or}
use Rattle.triple_table.specs.declared.ids.IdPattern.{IdPattern}
use Rattle.triple_table.specs.Stored.{IsIdPattern, listed}
use Rattle.restricted_pages.specs.Patterns.{AreIdsOf, gathered}
use Rattle.restricted_pages.proofs.Walks.{gathered_more}
use Rattle.restricted_pages.proofs.list.gathered.Goals as goal

pub range-range-requires : goal.range-range-requires
range-range-requires g c = All-get_or (IsIdPattern c.args.table.now) c.args.patterns.now c.loop-pattern.pattern-index _ c.loop-pattern-test.true c.requires

pub loop-pattern-preserved : goal.loop-pattern-preserved
loop-pattern-preserved g c = record {
  each = c.in_ok-push_range.ensures.each;
  are = c.in_ok-push_range.ensures.are ∙ ap (λ xs. xs ++ listed c.args.table.now c.range-range.result) c.loop-pattern.invariant.are
      ∙ sym (gathered_more c.args.table.now c.args.patterns.now c.loop-pattern.pattern-index _ c.loop-pattern-test.true c.range-range.result c.range-range.ensures.fragment);
}

pub returns : goal.returns
returns g c = subst (λ (ps : List IdPattern). AreIdsOf c.args.table.now c.loop-pattern.ids.items (gathered c.args.table.now ps)) (take_all _ _ c.loop-pattern-test.false) c.loop-pattern.invariant
