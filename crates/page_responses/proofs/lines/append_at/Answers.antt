use Rattle.std.proofs.Common.{◌≡◌, List, ℕ, ◌++◌, subst}
use Rattle.std.specs.Prelude.{OnOk}
use Rattle.triple_table.specs.Stored.{held_terms}
use Rattle.page_responses.proofs.PlainForms.{iri_at, other_at, plain_at}
use Rattle.page_responses.proofs.lines.append_at.Goals as goal

pub returns-in-Iri-clause-ok : goal.returns-in-Iri-clause-ok
returns-in-Iri-clause-ok c =
    subst (λ (l : List ℕ). OnOk c.append_enclosed.result (c.append_enclosed.new.out.items ≡ c.args.out.now.items ++ l))
    (iri_at (held_terms c.args.table.now) c.args.id c.term-term.result.now c.in-Iri.text c.as_str.result.now c.term-term.ensures.term c.in-Iri.is c.as_str.ensures.text) c.append_enclosed.ensures.ok

pub returns-in-Blank-clause-ok : goal.returns-in-Blank-clause-ok
returns-in-Blank-clause-ok c =
    subst (λ (l : List ℕ). OnOk c.append_term.result (c.append_term.new.out.items ≡ c.args.out.now.items ++ l)) (other_at (held_terms c.args.table.now) c.args.id c.term-term.result.now c.term-term.ensures.term) c.append_term.ensures.ok

pub returns-then-is_plain-clause-ok : goal.returns-then-is_plain-clause-ok
returns-then-is_plain-clause-ok c =
    subst (λ (l : List ℕ). OnOk c.append_enclosed-then-is_plain.result (c.append_enclosed-then-is_plain.new.out.items ≡ c.args.out.now.items ++ l))
    (plain_at (held_terms c.args.table.now) c.args.id c.term-term.result.now c.in-Literal.form c.as_str-then-is_plain.result.now c.as_str-in-Literal.result.now c.in-Literal.kind c.canonical_len.result c.term-term.ensures.term c.in-Literal.is c.as_str-then-is_plain.ensures.value c.as_str-in-Literal.ensures.value
    c.canonical_len.ensures.length (c.is_plain.ensures c.if-is_plain.true)) c.append_enclosed-then-is_plain.ensures.ok

pub returns-else-is_plain-clause-ok : goal.returns-else-is_plain-clause-ok
returns-else-is_plain-clause-ok c =
    subst (λ (l : List ℕ). OnOk c.append_term-else-is_plain.result (c.append_term-else-is_plain.new.out.items ≡ c.args.out.now.items ++ l)) (other_at (held_terms c.args.table.now) c.args.id c.term-term.result.now c.term-term.ensures.term) c.append_term-else-is_plain.ensures.ok
