use Rattle.std.proofs.Common.{ℕ, ◌≡◌, List, Bool, ◌++◌, take, drop, Result, Ok, Err, ap, sym, subst, ◌∙◌, arith}
use Rattle.rdf_terms.specs.declared.term.Quad.{Quad}
use Rattle.nquads_text.specs.declared.fault.Why.{Why}
use Rattle.nquads_text.specs.Line.{line_read}
use Rattle.nquads_text.specs.Lines.{after_end}
use Rattle.quad_feed.specs.Pieces.{is_cut_end, reading, ReadsEnded}
use Rattle.quad_feed.proofs.PieceLaws.{line_ok, line_bad}
use Rattle.quad_feed.proofs.EndedLaws.{one_ended}
use Rattle.quad_feed.proofs.feed.read_next.Goals as goal

abbrev Found : Type 0
Found = Result (List Quad) (ℕ × Why)

pub returns-in-Err-Bad-clause-refused : goal.returns-in-Err-Bad-clause-refused
returns-in-Err-Bad-clause-refused c = λ more.
    let bad : line_read c.args.longest (c.args.kept.now.items ++ c.split_at.result.0.now) ≡ Err c.in-Err-Bad.why = rw c.in-Err-Bad.field-0-is at c.in-Err-Bad.ensures.line in
    let here : line_read c.args.longest (c.args.kept.now.items ++ take c.args.n c.args.bytes.now) ≡ Err c.in-Err-Bad.why = subst (λ (l : List ℕ). line_read c.args.longest (c.args.kept.now.items ++ l) ≡ Err c.in-Err-Bad.why) c.split_at.ensures.front bad in
    line_bad c.args.longest c.args.number.now c.args.quads.now.items c.args.kept.now.items c.args.bytes.now more c.args.n c.in-Err-Bad.why (omega arith) c.requires.place c.requires.inside here
    ∙ ap (λ (w : Why). let r : Found = Err (c.args.number.now, w) in r) (sym c.in-Err-Bad.why-is)

pub returns-in-Ok-clause-ok : goal.returns-in-Ok-clause-ok
returns-in-Ok-clause-ok c = λ more.
    let q = c.in-Ok.ensures.line in
    let here : line_read c.args.longest (c.args.kept.now.items ++ take c.args.n c.args.bytes.now) ≡ Ok q.0 = subst (λ (l : List ℕ). line_read c.args.longest (c.args.kept.now.items ++ l) ≡ Ok q.0) c.split_at.ensures.front q.1 in
    let at = line_ok c.args.longest c.args.number.now c.args.quads.now.items c.read_kept.new.quads.items c.args.kept.now.items c.args.bytes.now more c.args.n q.0 c.requires.place c.requires.inside here q.2 in
    let cut : is_cut_end (drop c.args.n c.args.bytes.now) ≡ c.is_cut_end.result = ap is_cut_end (sym c.split_at.ensures.back) ∙ sym c.is_cut_end.ensures in
    let rest : after_end (drop c.args.n c.args.bytes.now) ≡ c.after_end.result.now = ap after_end (sym c.split_at.ensures.back) ∙ sym c.after_end.ensures.rest in
    at
    ∙ ap (λ (k : ℕ). reading c.args.longest c.read_kept.new.quads.items k (is_cut_end (drop c.args.n c.args.bytes.now)) (after_end (drop c.args.n c.args.bytes.now) ++ more)) (sym c.saturating_add.ensures)
    ∙ ap (λ (k : Bool). reading c.args.longest c.read_kept.new.quads.items c.saturating_add.result k (after_end (drop c.args.n c.args.bytes.now) ++ more)) cut
    ∙ ap (λ (l : List ℕ). reading c.args.longest c.read_kept.new.quads.items c.saturating_add.result c.is_cut_end.result (l ++ more)) rest

pub returns-in-Ok-clause-ended : goal.returns-in-Ok-clause-ended
returns-in-Ok-clause-ended c =
    let q = c.in-Ok.ensures.line in
    let here : line_read c.args.longest (c.args.kept.now.items ++ take c.args.n c.args.bytes.now) ≡ Ok q.0 = subst (λ (l : List ℕ). line_read c.args.longest (c.args.kept.now.items ++ l) ≡ Ok q.0) c.split_at.ensures.front q.1 in
    let cut : is_cut_end (drop c.args.n c.args.bytes.now) ≡ c.is_cut_end.result = ap is_cut_end (sym c.split_at.ensures.back) ∙ sym c.is_cut_end.ensures in
    let rest : after_end (drop c.args.n c.args.bytes.now) ≡ c.after_end.result.now = ap after_end (sym c.split_at.ensures.back) ∙ sym c.after_end.ensures.rest in
    subst (λ (k : Bool). ReadsEnded c.args.longest c.args.quads.now.items c.args.number.now (c.args.kept.now.items ++ c.args.bytes.now) c.read_kept.new.quads.items c.saturating_add.result k c.after_end.result.now) cut
    (subst (λ (l : List ℕ). ReadsEnded c.args.longest c.args.quads.now.items c.args.number.now (c.args.kept.now.items ++ c.args.bytes.now) c.read_kept.new.quads.items c.saturating_add.result (is_cut_end (drop c.args.n c.args.bytes.now)) l) rest
    (one_ended c.args.longest c.args.number.now c.saturating_add.result c.args.quads.now.items c.read_kept.new.quads.items c.args.kept.now.items c.args.bytes.now c.args.n q.0 c.requires.place c.requires.inside here q.2 c.saturating_add.ensures))
