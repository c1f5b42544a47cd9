use Rattle.std.proofs.Common.{List, ℕ, ◌++◌, ap, sym, ◌∙◌}
use Rattle.list_laws.proofs.Begins.{itself_begins, more_begins, same_begins}
use Rattle.hydra_controls.proofs.WholeLaws.{nothing_appended}
use Rattle.hydra_controls.proofs.text_parts.append.Goals as goal

pub returns-then-is_empty-clause-ok : goal.returns-then-is_empty-clause-ok
returns-then-is_empty-clause-ok c = nothing_appended c.args.out.now.items c.args.text.now (sym c.is_empty.ensures ∙ c.if-is_empty.true)

pub returns-then-is_empty-clause-front : goal.returns-then-is_empty-clause-front
returns-then-is_empty-clause-front c = itself_begins c.args.out.now.items

pub returns-in_err-extend_from_slice-clause-front : goal.returns-in_err-extend_from_slice-clause-front
returns-in_err-extend_from_slice-clause-front c = same_begins c.args.out.now.items c.extend_from_slice.new.self.items c.in_err-extend_from_slice.ensures.items

pub returns-clause-ok : goal.returns-clause-ok
returns-clause-ok c = c.in_ok-extend_from_slice.ensures.items ∙ ap (λ (l : List ℕ). c.args.out.now.items ++ l) c.as_bytes.ensures.value

pub returns-clause-front : goal.returns-clause-front
returns-clause-front c = more_begins c.args.out.now.items c.extend_from_slice.new.self.items c.as_bytes.result.now c.in_ok-extend_from_slice.ensures.items
