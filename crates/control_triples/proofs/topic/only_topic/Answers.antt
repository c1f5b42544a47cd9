use Rattle.std.proofs.Common.{sym, ◌∙◌}
use Rattle.control_triples.proofs.Topics.{no_topic, two_topics, only_one_topic}
use Rattle.control_triples.proofs.topic.only_topic.Goals as goal

pub returns-in_err-first : goal.returns-in_err-first
returns-in_err-first c = λ quads text all none. rw c.from_residual.ensures (no_topic quads c.args.topics.now all text none c.in_err-first.ensures)

pub returns-then-has_other_topic : goal.returns-then-has_other_topic
returns-then-has_other_topic c = λ quads text all none. two_topics quads c.args.topics.now all text c.in_ok-first.first.now none c.in_ok-first.ensures (sym c.has_other_topic.ensures ∙ c.if-has_other_topic.true)

pub returns : goal.returns
returns c = λ quads text all none. only_one_topic quads c.args.topics.now all text c.in_ok-first.first.now none c.in_ok-first.ensures (sym c.has_other_topic.ensures ∙ c.if-has_other_topic.false)
