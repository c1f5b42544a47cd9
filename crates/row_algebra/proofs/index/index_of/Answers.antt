use Rattle.std.proofs.Common.{◌<◌, List, Option, length, ap, ◌∙◌, arith}
use Rattle.rdf_terms.specs.declared.term.Term.{Term}
use Rattle.row_algebra.specs.Algebra.{row_eq}
use Rattle.row_algebra.specs.Finding.{terms_of, has_key}
use Rattle.row_algebra.proofs.Keys.{keys_tie}
use Rattle.row_algebra.proofs.Indexes.{places_step}
use Rattle.row_algebra.proofs.index.index_of.Goals as goal

pub loop-place-preserved : goal.loop-place-preserved
loop-place-preserved c = λ q.
    let below : c.loop-place.place < length c.args.rows.now = omega arith in
    places_step (has_key c.args.names.now (terms_of q)) c.args.rows.now c.loop-place.place c.index-rows-place.result _ _ _ _ below c.index-rows-place.is
    (keys_tie q.items c.in_ok-key.key.items ∙ ap (λ (k : List (Option Term)). row_eq (terms_of q) k) c.in_ok-key.ensures)
    (c.loop-place.invariant q) (c.in_ok-add_place.ensures q)
