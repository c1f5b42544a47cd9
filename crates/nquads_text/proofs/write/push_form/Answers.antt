use Rattle.std.proofs.Common.{List, ℕ, ◌++◌, ap, sym, ◌∙◌}
use Rattle.nquads_text.proofs.Runs.{plain_form}
use Rattle.nquads_text.proofs.write.push_form.Goals as goal

pub returns-clause-ok : goal.returns-clause-ok
returns-clause-ok c =
    c.in_ok-push_all.ensures.ok ∙ ap (λ (l : List ℕ). c.loop-n.out.items ++ l) (sym (plain_form 0 c.loop-n.rest.now (sym c.mark_place.ensures.place ∙ c.in_default.is))) ∙ c.loop-n.invariant.written
