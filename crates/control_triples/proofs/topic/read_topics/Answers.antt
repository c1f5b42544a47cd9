-- The topics so far are those of the quads so far, and of one more.
use Rattle.std.proofs.Common.{◌≡◌, ap, subst, sym, ◌∙◌, arith, Option, Vec, Global}
use Rattle.std.specs.Prelude.{option_map}
use Rattle.std.proofs.lemmas.Result.{IfOk-from_err}
use Rattle.control_triples.specs.declared.topic.GraphTopic.{GraphTopic}
use Rattle.control_triples.specs.Parts.{about, abouts, about_of, abouts_of}
use Rattle.control_triples.proofs.Steps.{listed_some, listed_none, all_taken}
use Rattle.control_triples.proofs.topic.read_topics.Goals as goal
use Rattle.control_triples.proofs.topic.read_topics.Goals.{in-Some+in_ok-push, in_default}

pub loop-quad-init : goal.loop-quad-init
loop-quad-init c = ap abouts c.new-topics.ensures.items

pub topic_in-requires : goal.topic_in-requires
topic_in-requires c = c.requires

pub returns-in_err-push : goal.returns-in_err-push
returns-in_err-push c = IfOk-from_err _ _ c.from_residual.ensures.0

pub loop-quad-preserved : goal.loop-quad-preserved
loop-quad-preserved c =
    elim c.match-topic_in.branch [
      | in-Some+in_ok-push w ↦
          listed_some about about_of c.args.quads.now c.loop-quad.quad-index c.quad-item.result c.loop-quad.topics.items c.match-topic_in.topics.items c.loop-quad-test.true c.quad-item.is c.loop-quad.invariant
          w.in-Some.found (sym (subst (λ (r : Option GraphTopic). option_map about r ≡ about_of c.quad-item.result) w.in-Some.is c.topic_in.ensures)) (ap (λ (v : Vec GraphTopic Global). v.items) w.topics-is ∙ w.in_ok-push.ensures.items)
      | in_default w ↦
          listed_none about about_of c.args.quads.now c.loop-quad.quad-index c.quad-item.result c.loop-quad.topics.items c.match-topic_in.topics.items c.loop-quad-test.true c.quad-item.is c.loop-quad.invariant
          (sym (subst (λ (r : Option GraphTopic). option_map about r ≡ about_of c.quad-item.result) w.in_default.is c.topic_in.ensures)) (ap (λ (v : Vec GraphTopic Global). v.items) w.topics-is)
    ]

pub returns : goal.returns
returns c = c.loop-quad.invariant ∙ ap abouts_of (all_taken c.args.quads.now c.loop-quad.quad-index (omega (arith, c.loop-quad-test.false)))
