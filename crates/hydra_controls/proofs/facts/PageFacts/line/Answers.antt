use Rattle.std.proofs.Common.{◌-◌, ap, ◌∙◌, arith}
use Rattle.rdf_terms.specs.Canon.{canonical_line}
use Rattle.rdf_terms.specs.declared.term.Quad.{Quad}
use Rattle.hydra_controls.proofs.TableLaws.{in_counts, in_form, in_links, in_mappings, in_topic, links_within}
use Rattle.hydra_controls.proofs.facts.PageFacts.line.Goals as goal

pub returns-then-i-lt3 : goal.returns-then-i-lt3
returns-then-i-lt3 c = λ d. ap (λ (q : Quad). canonical_line q) (in_topic c.args.self c.args.i d c.if-i-lt3.true) ∙ c.topic_line.ensures d

pub returns-then-i-lt5 : goal.returns-then-i-lt5
returns-then-i-lt5 c = λ d. ap (λ (q : Quad). canonical_line q) (in_form c.args.self c.args.i (c.args.i - 3) d (omega arith) (omega arith)) ∙ c.form_line.ensures d

pub returns-then-i-lt14 : goal.returns-then-i-lt14
returns-then-i-lt14 c = λ d. ap (λ (q : Quad). canonical_line q) (in_mappings c.args.self c.args.i (c.args.i - 5) d (omega arith) (omega arith)) ∙ c.mapping_line.ensures d

pub returns-then-i-lt18 : goal.returns-then-i-lt18
returns-then-i-lt18 c = λ d. ap (λ (q : Quad). canonical_line q) (in_counts c.args.self c.args.i (c.args.i - 14) d (omega arith) (omega arith)) ∙ c.count_line.ensures d

pub link_line-requires : goal.link_line-requires
link_line-requires c = links_within c.args.self c.args.i c.requires.within c.if-i-lt18.false

pub returns-else-i-lt18 : goal.returns-else-i-lt18
returns-else-i-lt18 c = λ d. ap (λ (q : Quad). canonical_line q) (in_links c.args.self c.args.i (c.args.i - 18) d (omega arith)) ∙ c.link_line.ensures d
