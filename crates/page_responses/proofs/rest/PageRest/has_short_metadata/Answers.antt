use Rattle.std.proofs.Common.{sym, ◌∙◌, arith}
use Rattle.std.proofs.lemmas.Bool.{leb-true}
use Rattle.page_responses.specs.declared.limits.TheConstants.{LONGEST_PART}
use Rattle.page_responses.proofs.RestLaws.{short_metadata_is}
use Rattle.page_responses.proofs.rest.PageRest.has_short_metadata.Goals as goal

pub returns : goal.returns
returns c = λ short.
    short_metadata_is c.self.inside.snapshot.table c.self.inside.metadata c.self.inside.begun c.self.inside.triples c.self.inside.next c.total_length.result c.args.self.now c.self.view_is
    (omega arith) (sym c.is_begun.ensures ∙ c.if-is_begun.false) (sym c.has_triples.ensures ∙ c.if-has_triples.false) c.total_length.ensures.length (leb-true c.total_length.result LONGEST_PART short)
