-- Each part comes behind the others, and what stood before stays at the front.
use Rattle.std.proofs.Common.{ℕ, List, Bor, ◌++◌, ap, sym, ◌∙◌, arith, append-nil}
use Rattle.std.specs.List.{flat_map}
use Rattle.std.proofs.lemmas.Result.{IfOk-from_err}
use Rattle.std.proofs.lemmas.List.{take_all}
use Rattle.list_laws.proofs.Begins.{begins_on, cut_back, more_begins, same_begins}
use Rattle.http_wire.proofs.write.append_parts.Goals as goal

pub loop-part-init : goal.loop-part-init
loop-part-init c = sym (append-nil c.args.out.now.items)

pub returns-in_err-extend_from_slice-clause-ok : goal.returns-in_err-extend_from_slice-clause-ok
returns-in_err-extend_from_slice-clause-ok c = IfOk-from_err _ _ c.from_residual.ensures.0

pub returns-in_err-extend_from_slice-clause-kept : goal.returns-in_err-extend_from_slice-clause-kept
returns-in_err-extend_from_slice-clause-kept c =
    cut_back c.args.out.now.items c.extend_from_slice.new.self.items (begins_on c.args.out.now.items c.loop-part.out.items c.extend_from_slice.new.self.items (more_begins _ _ _ c.loop-part.invariant) (same_begins _ _ c.in_err-extend_from_slice.ensures.items))

pub returns-clause-ok : goal.returns-clause-ok
returns-clause-ok c =
    c.loop-part.invariant ∙ ap (λ (l : List (Bor (List ℕ))). c.args.out.now.items ++ flat_map (λ p. p.now) l) (take_all c.loop-part.part-index c.args.parts.now (omega (arith, c.loop-part-test.false)))

pub returns-clause-kept : goal.returns-clause-kept
returns-clause-kept c = cut_back c.args.out.now.items c.loop-part.out.items (more_begins _ _ _ c.loop-part.invariant)
