use Rattle.std.proofs.Common.{◌-◌, ◌∙◌, arith}
use Rattle.hydra_controls.proofs.TableLaws.{in_counts, in_form, in_links, in_mappings}
use Rattle.metadata_quads.proofs.table.quad.Goals as goal

pub returns-then-i-lt5-clause-said : goal.returns-then-i-lt5-clause-said
returns-then-i-lt5-clause-said c = λ d. in_form c.args.facts c.args.i (c.args.i - 3) d (omega arith) (omega arith) ∙ c.form.ensures.said d

pub returns-then-i-lt14-clause-said : goal.returns-then-i-lt14-clause-said
returns-then-i-lt14-clause-said c = λ d. in_mappings c.args.facts c.args.i (c.args.i - 5) d (omega arith) (omega arith) ∙ c.mappings.ensures.said d

pub returns-then-i-lt18-clause-said : goal.returns-then-i-lt18-clause-said
returns-then-i-lt18-clause-said c = λ d. in_counts c.args.facts c.args.i (c.args.i - 14) d (omega arith) (omega arith) ∙ c.counts.ensures.said d

pub returns-else-i-lt18-clause-said : goal.returns-else-i-lt18-clause-said
returns-else-i-lt18-clause-said c = λ d. in_links c.args.facts c.args.i (c.args.i - 18) d (omega arith) ∙ c.links_and_version.ensures.said d
