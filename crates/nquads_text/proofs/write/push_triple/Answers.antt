use Rattle.std.proofs.Common.{◌∷◌}
use Rattle.list_laws.proofs.Begins.{begins_on}
use Rattle.rdf_terms.specs.Canon.{canonical_term}
use Rattle.nquads_text.proofs.Runs.{three_steps}
use Rattle.nquads_text.proofs.write.push_triple.Goals as goal

pub returns-clause-ok : goal.returns-clause-ok
returns-clause-ok c =
    three_steps c.push_spaced-2.result c.args.out.now.items c.push_term.new.out.items c.push_spaced.new.out.items c.push_spaced-2.new.out.items (canonical_term c.args.triple.now.subject) (32 ∷ canonical_term c.args.triple.now.predicate) (32 ∷ canonical_term c.args.triple.now.object) c.in_ok-push_term.ensures.ok c.in_ok-push_spaced.ensures.ok c.push_spaced-2.ensures.ok

pub returns-in_err-push_spaced-clause-front : goal.returns-in_err-push_spaced-clause-front
returns-in_err-push_spaced-clause-front c = begins_on c.args.out.now.items c.push_term.new.out.items c.push_spaced.new.out.items c.in_ok-push_term.ensures.front c.in_err-push_spaced.ensures.front

pub returns-clause-front : goal.returns-clause-front
returns-clause-front c =
    begins_on c.args.out.now.items c.push_spaced.new.out.items c.push_spaced-2.new.out.items (begins_on c.args.out.now.items c.push_term.new.out.items c.push_spaced.new.out.items c.in_ok-push_term.ensures.front c.in_ok-push_spaced.ensures.front) c.push_spaced-2.ensures.front
