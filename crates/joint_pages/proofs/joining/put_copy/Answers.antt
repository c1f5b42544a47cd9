use Rattle.std.proofs.Common.{◌≡◌, not, subst}
use Rattle.std.specs.Prelude.{IfOk, OnOk}
use Rattle.std.specs.List.{list_any}
use Rattle.rdf_terms.specs.declared.term.Triple.{Triple}
use Rattle.rdf_terms.specs.Fragments.{put}
use Rattle.rdf_terms.specs.Order.{triple_order}
use Rattle.rdf_terms.specs.Same.{triple_eq}
use Rattle.joint_pages.proofs.joining.put_copy.Goals as goal

pub returns-clause-is_new : goal.returns-clause-is_new
returns-clause-is_new c = subst (λ (t : Triple). IfOk c.insert.result (λ is_new. is_new ≡ not (list_any (λ other. triple_eq other t) c.args.set.now))) c.in_ok-copy.ensures c.insert.ensures.is_new

pub returns-clause-put : goal.returns-clause-put
returns-clause-put c = subst (λ (t : Triple). OnOk c.insert.result (c.insert.new.self ≡ put triple_order t c.args.set.now)) c.in_ok-copy.ensures c.insert.ensures.put
