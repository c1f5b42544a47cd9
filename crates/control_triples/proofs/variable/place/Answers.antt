use Rattle.std.proofs.Common.{rules, arith}
use Rattle.std.proofs.lemmas.List.Sorted.{IsPartitionPoint-from_clause}
use Rattle.control_triples.specs.declared.variable.Variable.{Variable}
use Rattle.control_triples.specs.Variables.{goes_before, named}
use Rattle.control_triples.proofs.Variabled.{variables_parted}
use Rattle.control_triples.proofs.variable.place.Goals as goal

pub returns-clause-before : goal.returns-clause-before
returns-clause-before c = λ k d h.
    (IsPartitionPoint-from_clause (λ (v : Variable). goes_before c.args.with_equal c.args.mapping.now (named v)) _ _ c.partition_point.ensures.partitioned
    (variables_parted c.args.variables.now c.args.with_equal c.args.mapping.now c.requires) (λ a r q k. search rules)).0 k d (omega arith) h

pub returns-clause-behind : goal.returns-clause-behind
returns-clause-behind c = λ k d h l.
    (IsPartitionPoint-from_clause (λ (v : Variable). goes_before c.args.with_equal c.args.mapping.now (named v)) _ _ c.partition_point.ensures.partitioned
    (variables_parted c.args.variables.now c.args.with_equal c.args.mapping.now c.requires) (λ a r q k. search rules)).1 k d h l
