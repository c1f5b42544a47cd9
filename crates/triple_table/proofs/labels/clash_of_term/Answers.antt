use Rattle.std.proofs.Common.{sym, ◌∙◌, List, ℕ, Bor, length}
use Rattle.std.proofs.lemmas.List.{length-map}
use Rattle.triple_table.specs.Labels.{texts}
use Rattle.triple_table.proofs.Searched.{clash_at, no_clash, no_iri, no_label, found_at, found_none}
use Rattle.triple_table.proofs.labels.clash_of_term.Goals as goal

pub returns-in_default : goal.returns-in_default
returns-in_default c =
    no_iri c.args.authority.now (texts c.args.labels.now) c.args.term.now (length c.args.labels.now) (sym (length-map c.args.labels.now (λ (t : Bor (List ℕ)). t.now))) c.in_default.not-Iri

pub returns-in_default-label_part : goal.returns-in_default-label_part
returns-in_default-label_part c =
    rw c.in-Iri.is
    (no_label c.args.authority.now (texts c.args.labels.now) c.in-Iri.iri (length c.args.labels.now) (sym (length-map c.args.labels.now (λ (t : Bor (List ℕ)). t.now)))
    (λ label e. c.in_default-label_part.ensures label (c.as_str.ensures.text ∙ e)))

pub returns-in-Ok : goal.returns-in-Ok
returns-in-Ok c =
    rw c.in-Iri.is
    (clash_at c.args.authority.now (texts c.args.labels.now) c.in-Iri.iri c.in-Some.label.now c.in-Ok.place c.requires
    (sym c.as_str.ensures.text ∙ c.in-Some.ensures)
    (simp length-map c.in-Ok.ensures.bound)
    (found_at c.args.labels.now c.requires c.in-Some.label c.in-Some.label.now c.in-Ok.place c.in-Ok.ensures.bound c.in-Ok.ensures.ok))

pub returns-in-Err : goal.returns-in-Err
returns-in-Err c =
    rw (c.in-Iri.is, ← length-map c.args.labels.now (λ (t : Bor (List ℕ)). t.now))
    (no_clash c.args.authority.now (texts c.args.labels.now) c.in-Iri.iri c.in-Some.label.now
    (sym c.as_str.ensures.text ∙ c.in-Some.ensures)
    (found_none c.args.labels.now c.requires c.in-Some.label c.in-Some.label.now c.in-Err.field-0 c.in-Err.ensures.position))
