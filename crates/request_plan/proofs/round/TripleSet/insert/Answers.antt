use Rattle.std.proofs.Common.{not, List, ap, ◌∙◌}
use Rattle.std.specs.List.{list_any}
use Rattle.std.specs.BTreeMap.{is_at}
use Rattle.std.specs.BTreeSet.{insert_key}
use Rattle.rdf_terms.specs.declared.term.Triple.{Triple}
use Rattle.rdf_terms.specs.Order.{triple_order}
use Rattle.request_plan.proofs.Sets.{insert-put, any-turned}
use Rattle.request_plan.proofs.round.TripleSet.insert.Goals as goal

pub returns-clause-is_new : goal.returns-clause-is_new
returns-clause-is_new c =
    c.in_ok-insert.ensures.added ∙ ap (λ (ks : List Triple). not (list_any (is_at (triple_order c.args.triple)) ks)) c.self.view_is ∙ ap not (any-turned c.args.triple c.args.self.now)

pub returns-clause-put : goal.returns-clause-put
returns-clause-put c = c.in_ok-insert.ensures.keys ∙ ap (λ (ks : List Triple). insert_key triple_order ks c.args.triple) c.self.view_is ∙ insert-put c.args.triple c.args.self.now
