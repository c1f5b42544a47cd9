use Rattle.std.proofs.Common.{◌≡◌, ◌∷◌, drop, subst}
use Rattle.triple_table.specs.Stored.{Stored, IsIdTriple, held_terms, triple_at}
use Rattle.page_responses.specs.PageRests.{triples_of}
use Rattle.page_responses.proofs.RestLaws.{first_triple, first_triple_long, triple_stands}
use Rattle.page_responses.proofs.rest.PageRest.begin_triple.Goals as goal

pub invariant_of-self : goal.invariant_of-self
invariant_of-self c = first_triple c.self.inside.snapshot.table c.self.inside.metadata c.pass-ids.result (subst (λ (s : Stored). IsIdTriple (held_terms s) c.pass-ids.result) c.table.ensures c.pass-ids.ensures.held)

pub returns-clause-text : goal.returns-clause-text
returns-clause-text c =
    triple_stands c.self.inside.snapshot.table c.self.inside.triples c.pass-ids.new.self c.self.inside.metadata (drop c.self.inside.next c.self.inside.metadata) _ c.pass-ids.result c.args.self.now
    c.self.view_is c.requires.none
    (subst (λ (s : Stored). triples_of s c.self.inside.triples ≡ triple_at (held_terms s) c.pass-ids.result ∷ triples_of s c.pass-ids.new.self) c.table.ensures c.pass-ids.ensures.first)

pub returns-clause-begun : goal.returns-clause-begun
returns-clause-begun c = first_triple_long c.self.inside.snapshot.table c.self.inside.metadata c.pass-ids.result (subst (λ (s : Stored). IsIdTriple (held_terms s) c.pass-ids.result) c.table.ensures c.pass-ids.ensures.held)
