-- Where the row binds the name nothing is added, and else one.
use Rattle.std.proofs.Common.{Option, ◌++◌, ◌∷◌, [], ℕ, append-nil, map, sym, ap, ◌∙◌}
use Rattle.std.proofs.lemmas.Result.{IfOk-from_err}
use Rattle.list_laws.proofs.Lists.{map_snoc}
use Rattle.rdf_terms.specs.declared.term.Term.{Term}
use Rattle.bgp_core.specs.Pairs.{unless_bound}
use Rattle.bgp_core.specs.Rows.{bound_pair}
use Rattle.bgp_core.proofs.row.add_unless_bound.Goals as goal

pub returns-in_err-share-in-None : goal.returns-in_err-share-in-None
returns-in_err-share-in-None c = IfOk-from_err _ _ c.from_residual.ensures.0

pub returns-in_err-push-in-None : goal.returns-in_err-push-in-None
returns-in_err-push-in-None c = IfOk-from_err _ _ c.from_residual-in_err-push-in-None.ensures.0

pub returns-in-Some : goal.returns-in-Some
returns-in-Some c = sym (ap (λ (o : Option Term). map bound_pair c.args.to.now.items ++ unless_bound o (bound_pair c.args.one.now)) c.in-Some.ensures ∙ append-nil _)

pub returns-in_ok-push-in-None : goal.returns-in_ok-push-in-None
returns-in_ok-push-in-None c =
    ap (map bound_pair) c.in_ok-push-in-None.ensures.items ∙ map_snoc bound_pair c.args.to.now.items c.in_ok-share-in-None.field-0
    ∙ ap (λ (p : ℕ × Term). map bound_pair c.args.to.now.items ++ p ∷ []) c.in_ok-share-in-None.ensures
    ∙ sym (ap (λ (o : Option Term). map bound_pair c.args.to.now.items ++ unless_bound o (bound_pair c.args.one.now)) c.in-None.ensures)
