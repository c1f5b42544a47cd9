use Rattle.std.proofs.Common.{rules, arith, Bor, ap, sym, ◌∙◌}
use Rattle.std.proofs.lemmas.List.Sorted.{IsPartitionPoint-from_clause}
use Rattle.rdf_terms.specs.declared.term.Triple.{Triple}
use Rattle.control_triples.specs.Parts.{triple}
use Rattle.control_triples.specs.Ranges.{is_triple_before}
use Rattle.control_triples.proofs.Ranged.{triples_before, triple_at, at_place}
use Rattle.control_triples.proofs.controls.has_triple.Goals as goal

pub returns-then-place-triples : goal.returns-then-place-triples
returns-then-place-triples c =
    let xs = c.args.triples.now in
    let t = triple c.args.subject.now c.args.predicate.now c.args.object.now in
    let point = IsPartitionPoint-from_clause (λ (x : Bor Triple). is_triple_before t x.now) _ _ c.partition_point-place.ensures.partitioned (triples_before xs t c.requires) (λ a r q k. search rules) in
    let elem = c.index-triples-place.result in
    let there = ap (λ (x : Bor Triple). x.now) c.index-triples-place.is in (
      (λ h. at_place xs c.partition_point-place.result elem t c.if-place-triples.true (sym there ∙ c.is_triple.ensures.0 h)),
      (λ h. c.is_triple.ensures.1 (there ∙ (triple_at xs t c.partition_point-place.result c.requires (λ k d l. point.0 k d (omega arith) l) point.1 h).1 elem)),
    )

pub returns-else-place-triples : goal.returns-else-place-triples
returns-else-place-triples c =
    let xs = c.args.triples.now in
    let t = triple c.args.subject.now c.args.predicate.now c.args.object.now in
    let point = IsPartitionPoint-from_clause (λ (x : Bor Triple). is_triple_before t x.now) _ _ c.partition_point-place.ensures.partitioned (triples_before xs t c.requires) (λ a r q k. search rules) in
    let past = c.if-place-triples.false in (
      (λ h. absurd (grind (arith, h, past))),
      (λ h. let within = (triple_at xs t c.partition_point-place.result c.requires (λ k d l. point.0 k d (omega arith) l) point.1 h).0 in absurd (omega (arith, within, past))),
    )
