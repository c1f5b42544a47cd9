use Rattle.std.proofs.Common.{List, Option, not, ap, ◌∙◌}
use Rattle.std.specs.BTreeSet.{contains}
use Rattle.std.specs.List.{list_any}
use Rattle.std.specs.Ordering.{is_eq}
use Rattle.rdf_terms.specs.declared.term.Term.{Term}
use Rattle.row_algebra.specs.Algebra.{row_eq}
use Rattle.row_algebra.specs.Finding.{key_of, key_order, terms_of}
use Rattle.row_algebra.proofs.Keys.{keys_tie}
use Rattle.row_algebra.proofs.Onces.{seen_more}
use Rattle.row_algebra.proofs.distinct.add_seen.Goals as goal

pub returns-clause-new : goal.returns-clause-new
returns-clause-new c = λ before has.
    c.in_ok-new.ensures.added ∙ ap not (has c.in_ok-key.key ∙ ap (λ (k : List (Option Term)). list_any (λ s. row_eq (key_of c.args.names.now s) k) before) c.in_ok-key.ensures)

pub returns-clause-seen : goal.returns-clause-seen
returns-clause-seen c = λ before has q.
    let names = c.args.names.now in
    seen_more (λ s. row_eq (key_of names s) (terms_of q)) before c.args.row.now (contains key_order c.insert.new.self q) (is_eq (key_order c.in_ok-key.key q)) (contains key_order c.args.seen.now q) (c.in_ok-new.ensures.updates.0 q)
    (keys_tie c.in_ok-key.key.items q.items ∙ ap (λ (k : List (Option Term)). row_eq k (terms_of q)) c.in_ok-key.ensures) (has q)
