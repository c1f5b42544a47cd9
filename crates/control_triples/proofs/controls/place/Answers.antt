use Rattle.std.proofs.Common.{rules, arith, Bor}
use Rattle.std.proofs.lemmas.List.Sorted.{IsPartitionPoint-from_clause}
use Rattle.rdf_terms.specs.declared.term.Triple.{Triple}
use Rattle.control_triples.specs.Ranges.{goes_before}
use Rattle.control_triples.proofs.Ranged.{triples_parted}
use Rattle.control_triples.proofs.controls.place.Goals as goal

pub returns-clause-before : goal.returns-clause-before
returns-clause-before c = λ k d h.
    (IsPartitionPoint-from_clause (λ (t : Bor Triple). goes_before c.args.with_equal c.args.subject.now c.args.predicate.now t.now) _ _ c.partition_point.ensures.partitioned
    (triples_parted c.args.triples.now c.args.with_equal c.args.subject.now c.args.predicate.now c.requires) (λ a r q k. search rules)).0 k d (omega arith) h

pub returns-clause-behind : goal.returns-clause-behind
returns-clause-behind c = λ k d h l.
    (IsPartitionPoint-from_clause (λ (t : Bor Triple). goes_before c.args.with_equal c.args.subject.now c.args.predicate.now t.now) _ _ c.partition_point.ensures.partitioned
    (triples_parted c.args.triples.now c.args.with_equal c.args.subject.now c.args.predicate.now c.requires) (λ a r q k. search rules)).1 k d h l
