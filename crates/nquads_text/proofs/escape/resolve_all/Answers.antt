use Rattle.std.proofs.Common.{List, ℕ, Some, ap, sym, ◌∙◌}
use Rattle.nquads_text.proofs.Escapes.{run_to, plain_from}
use Rattle.nquads_text.proofs.escape.resolve_all.Goals as goal

pub returns-in-None : goal.returns-in-None
returns-in-None c =
    run_to c.args.iri c.loop-n.out.items c.extend_from_slice.new.self.items c.loop-n.rest.now c.split_at.result.0.now c.split_at.result.1.now c.in-Some.n _ c.loop-n.invariant (sym c.backslash.ensures.place ∙ c.in-Some.is) c.split_at.ensures.front c.split_at.ensures.back c.in_ok-extend_from_slice.ensures.items
    ∙ (rw c.in-None.is at c.in_ok-resolve_item.ensures.value)

pub loop-n-preserved : goal.loop-n-preserved
loop-n-preserved c =
    run_to c.args.iri c.loop-n.out.items c.extend_from_slice.new.self.items c.loop-n.rest.now c.split_at.result.0.now c.split_at.result.1.now c.in-Some.n _ c.loop-n.invariant (sym c.backslash.ensures.place ∙ c.in-Some.is) c.split_at.ensures.front c.split_at.ensures.back c.in_ok-extend_from_slice.ensures.items
    ∙ (rw c.in-Some-2.is at c.in_ok-resolve_item.ensures.value)

pub returns : goal.returns
returns c = c.loop-n.invariant ∙ plain_from c.args.iri c.loop-n.out.items 0 c.loop-n.rest.now (sym c.backslash.ensures.place ∙ c.in_default.is) ∙ ap (λ (l : List ℕ). Some l) (sym c.in_ok-extend_from_slice-2.ensures.items)
