use Rattle.std.proofs.Common.{◌≡◌, true, false, refl, subst, ◌∙◌, inl}
use Rattle.std.specs.List.{list_any}
use Rattle.rdf_terms.specs.declared.term.Term.{Term}
use Rattle.control_triples.specs.Parts.{has_same_topic}
use Rattle.control_triples.proofs.Topics.{own_topic}
use Rattle.control_triples.proofs.topic.find_topic.Goals as goal

pub returns-in-Some : goal.returns-in-Some
returns-in-Some c = λ quads text all e.
    (text, c.in-Some.ensures.0 ∙ e, inl (refl, own_topic quads c.args.topics.now all text (subst (λ (t : Term). list_any (has_same_topic t) c.args.topics.now ≡ true) e c.in-Some.ensures.1)))

pub returns-in-None : goal.returns-in-None
returns-in-None c = λ quads text all e. c.only_topic.ensures quads text all (subst (λ (t : Term). list_any (has_same_topic t) c.args.topics.now ≡ false) e c.in-None.ensures)
