use Rattle.std.proofs.Common.{◌≡◌, List, subst}
use Rattle.rdf_terms.specs.declared.term.Quad.{Quad}
use Rattle.control_triples.specs.Contents.{firsts}
use Rattle.control_reader.specs.Ascending.{triples_of}
use Rattle.control_reader.proofs.Distinct.{all_taken}
use Rattle.control_reader.proofs.own.distinct_triples.Goals as goal

pub take_all-requires : goal.take_all-requires
take_all-requires c =
    all_taken c.args.quads.items c.requires
    (subst (λ (quads : List Quad). firsts (triples_of quads) ≡ triples_of quads) c.as_slice.ensures.value (c.ascend.ensures c.if-ascend.true))
