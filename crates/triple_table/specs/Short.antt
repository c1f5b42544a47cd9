-- The bound of the terms that are served.
use Rattle.std.specs.Prelude.{ℕ, ◌+◌, ◌≤◌, List, length, All}
use Rattle.std.specs.List.{Contains}
use Rattle.rdf_terms.specs.declared.term.Term.{Term}
use Rattle.rdf_terms.specs.declared.term.Triple.{Triple}
use Rattle.rdf_terms.specs.declared.term.Quad.{Quad}
use Rattle.rdf_terms.specs.Canon.{canonical_term}
use Rattle.rdf_terms.specs.Sizes.{IsShortTriple}
use Rattle.tpf_base.specs.Addresses.{IsAuthority}
use Rattle.triple_table.specs.declared.choice.Choice.{Choice}
use Rattle.triple_table.specs.Chosen.{chosen}
use Rattle.triple_table.specs.Served.{terms_of, IsServed}

-- an authority has at most 261 bytes: a host of 255, a colon and five digits
abbrev pub AuthoritiesAreShort : Type 0
AuthoritiesAreShort = (authority : List ℕ) → IsAuthority authority → length authority ≤ 261

-- where each term of the quads has a canonical text of at most so many bytes and labels are short, so has each term that is served; the IRI of a blank node has at most 1052 bytes beside its authority
abbrev pub ServedAreShort : Type 0
ServedAreShort =
    (longest : ℕ) (authority : List ℕ) (choice : Choice) (quads : List Quad) (served : List Triple)
    → length authority + 1052 ≤ longest
    → All (λ (q : Quad). IsShortTriple longest q.triple) quads
    → IsServed authority (chosen choice quads) served
    → (term : Term) → Contains (terms_of served) term → length (canonical_term term) ≤ longest
