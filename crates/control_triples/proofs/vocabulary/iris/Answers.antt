-- The terms so far are those of the texts so far, and one more of each.
use Rattle.std.proofs.Common.{ℕ, List, [], ◌∷◌, ◌++◌, ◌∙◌, ap, Bor, arith}
use Rattle.std.proofs.lemmas.Result.{IfOk-from_err}
use Rattle.rdf_terms.specs.declared.term.Term.{Term}
use Rattle.rdf_terms.specs.declared.term.Term.TheVariants.{Iri}
use Rattle.control_triples.proofs.Steps.{map_more_at, all_taken}
use Rattle.control_triples.specs.Vocabulary.{iris_of}
use Rattle.control_triples.proofs.vocabulary.iris.Goals as goal

pub returns-in_err-terms : goal.returns-in_err-terms
returns-in_err-terms c = IfOk-from_err _ _ c.from_residual.ensures.0

pub loop-text-init : goal.loop-text-init
loop-text-init c = c.in_ok-terms.ensures.items

pub returns-in_err-term : goal.returns-in_err-term
returns-in_err-term c = IfOk-from_err _ _ c.from_residual-in_err-term.ensures.0

pub returns-in_err-push : goal.returns-in_err-push
returns-in_err-push c = IfOk-from_err _ _ c.from_residual-in_err-push.ensures.0

pub loop-text-preserved : goal.loop-text-preserved
loop-text-preserved c =
    map_more_at (λ (t : Bor (List ℕ)). Iri t.now) c.args.texts.now c.loop-text.text-index _ c.loop-text.terms.items c.push.new.self.items c.loop-text-test.true c.loop-text.invariant
    (c.in_ok-push.ensures.items ∙ ap (λ (t : Term). c.loop-text.terms.items ++ t ∷ []) c.in_ok-term.ensures)

pub returns : goal.returns
returns c = c.loop-text.invariant ∙ ap iris_of (all_taken c.args.texts.now c.loop-text.text-index (omega (arith, c.loop-text-test.false)))
