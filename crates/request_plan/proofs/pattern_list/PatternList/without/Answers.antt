use Rattle.std.proofs.Common.{map, ap, ◌∙◌}
use Rattle.std.specs.List.{remove}
use Rattle.std.specs.Rc.{rc_value}
use Rattle.request_plan.proofs.Valid.{map-remove}
use Rattle.request_plan.proofs.pattern_list.PatternList.without.Goals as goal

pub returns : goal.returns
returns c = ap (λ l. map rc_value l) c.remove.ensures.items ∙ map-remove rc_value c.in_ok-patterns.patterns.items c.args.index ∙ ap (λ l. remove l c.args.index) (c.in_ok-patterns.ensures.patterns ∙ ap (λ l. map rc_value l) c.as_slice.ensures.value ∙ c.self.view_is)
