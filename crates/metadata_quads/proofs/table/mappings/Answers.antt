use Rattle.std.proofs.Common.{◌-◌, ◌∙◌, arith}
use Rattle.metadata_quads.proofs.TableLaws.{second_mapping, third_mapping}
use Rattle.metadata_quads.proofs.table.mappings.Goals as goal

pub returns-then-i-lt6-clause-said : goal.returns-then-i-lt6-clause-said
returns-then-i-lt6-clause-said c = λ d. second_mapping c.args.facts c.args.i (c.args.i - 3) d (omega arith) (omega arith) ∙ c.mapping-then-i-lt6.ensures.said d

pub returns-else-i-lt6-clause-said : goal.returns-else-i-lt6-clause-said
returns-else-i-lt6-clause-said c = λ d. third_mapping c.args.facts c.args.i (c.args.i - 6) d (omega arith) ∙ c.mapping-else-i-lt6.ensures.said d
