use Rattle.std.proofs.Common.{ℕ, ◌≡◌, List, Result, Err, ap, sym, ◌∙◌, arith}
use Rattle.rdf_terms.specs.declared.term.Quad.{Quad}
use Rattle.nquads_text.specs.declared.fault.Why.{Why}
use Rattle.nquads_text.specs.Line.{line_read}
use Rattle.quad_feed.proofs.PieceLaws.{none_kept, some_kept, no_line, last_bad, last_ok}
use Rattle.quad_feed.proofs.feed.read_last.Goals as goal

abbrev Found : Type 0
Found = Result (List Quad) (ℕ × Why)

pub returns-then-is_empty : goal.returns-then-is_empty
returns-then-is_empty c = λ cr h. no_line c.args.longest c.args.number c.args.quads.items cr c.args.kept.now (none_kept c.args.kept.now (sym c.is_empty.ensures ∙ c.if-is_empty.true))

pub returns-in-Err-Bad : goal.returns-in-Err-Bad
returns-in-Err-Bad c = λ cr h.
    let bad : line_read c.args.longest c.args.kept.now ≡ Err c.in-Err-Bad.why = rw c.in-Err-Bad.field-0-is at c.in-Err-Bad.ensures in
    last_bad c.args.longest c.args.number c.args.quads.items cr c.args.kept.now c.in-Err-Bad.why (omega arith) (some_kept c.args.kept.now (sym c.is_empty.ensures ∙ c.if-is_empty.false)) c.requires h bad
    ∙ ap (λ (w : Why). let r : Found = Err (c.args.number, w) in r) (sym c.in-Err-Bad.why-is)

pub returns : goal.returns
returns c = λ cr h.
    let q = c.in-Ok.ensures in
    last_ok c.args.longest c.args.number c.args.quads.items c.read_line.new.quads.items cr c.args.kept.now q.0 (some_kept c.args.kept.now (sym c.is_empty.ensures ∙ c.if-is_empty.false)) c.requires h q.1 q.2
