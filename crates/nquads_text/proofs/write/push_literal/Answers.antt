use Rattle.std.proofs.Common.{ℕ, List, [], ◌∷◌, ◌++◌, ap, ◌∙◌}
use Rattle.list_laws.proofs.Begins.{begins_on}
use Rattle.rdf_terms.specs.Canon.{canonical_form, canonical_kind}
use Rattle.nquads_text.proofs.Runs.{three_steps}
use Rattle.nquads_text.proofs.write.push_literal.Goals as goal

pub returns-clause-ok : goal.returns-clause-ok
returns-clause-ok c =
    three_steps c.push_kind.result c.args.out.now.items c.push_one.new.out.items c.push_form.new.out.items c.push_kind.new.out.items (34 ∷ []) (canonical_form c.args.form.now) (34 ∷ canonical_kind c.args.kind.now) c.in_ok-push_one.ensures.ok
    (c.in_ok-push_form.ensures.ok ∙ ap (λ (l : List ℕ). c.push_one.new.out.items ++ canonical_form l) c.as_bytes.ensures.value) c.push_kind.ensures.ok

pub returns-in_err-push_form-clause-front : goal.returns-in_err-push_form-clause-front
returns-in_err-push_form-clause-front c = begins_on c.args.out.now.items c.push_one.new.out.items c.push_form.new.out.items c.in_ok-push_one.ensures.front c.in_err-push_form.ensures.front

pub returns-clause-front : goal.returns-clause-front
returns-clause-front c =
    begins_on c.args.out.now.items c.push_form.new.out.items c.push_kind.new.out.items (begins_on c.args.out.now.items c.push_one.new.out.items c.push_form.new.out.items c.in_ok-push_one.ensures.front c.in_ok-push_form.ensures.front) c.push_kind.ensures.front
