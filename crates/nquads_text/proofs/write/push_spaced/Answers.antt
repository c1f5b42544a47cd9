use Rattle.std.proofs.Common.{[], ◌∷◌}
use Rattle.list_laws.proofs.Begins.{begins_on}
use Rattle.rdf_terms.specs.Canon.{canonical_term}
use Rattle.nquads_text.proofs.Runs.{two_steps}
use Rattle.nquads_text.proofs.write.push_spaced.Goals as goal

pub returns-clause-ok : goal.returns-clause-ok
returns-clause-ok c = two_steps c.push_term.result c.args.out.now.items c.push_one.new.out.items c.push_term.new.out.items (32 ∷ []) (canonical_term c.args.term.now) c.in_ok-push_one.ensures.ok c.push_term.ensures.ok

pub returns-clause-front : goal.returns-clause-front
returns-clause-front c = begins_on c.args.out.now.items c.push_one.new.out.items c.push_term.new.out.items c.in_ok-push_one.ensures.front c.push_term.ensures.front
