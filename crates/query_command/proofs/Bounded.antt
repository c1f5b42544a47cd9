-- Files and generated data are within the limits under which plans are read.
use Rattle.std.proofs.Common.{◌≡◌, ◌≤◌, ◌+◌, List, [], ◌∷◌, length, codes, refl, arith, lit≤}
use Rattle.std.specs.List.{AllByRecursion}
use Rattle.std.proofs.lemmas.List.Elements.{All-from_recursion}
use Rattle.rdf_terms.specs.declared.limits.TheConstants.{LONGEST_TERM}
use Rattle.rdf_terms.specs.declared.term.Quad.{Quad}
use Rattle.rdf_terms.specs.Sizes.{IsShortTriple}
use Rattle.tpf_base.specs.Addresses.{IsAuthority}
use Rattle.nquads_text.specs.Laws.{ReadIsReadable}
use Rattle.nquads_text.proofs.ReadLaws.{short_quads}
use Rattle.triple_table.specs.Short.{ServedAreShort}
use Rattle.bgp_core.specs.declared.pattern.Part.{Part}
use Rattle.bgp_core.specs.declared.pattern.Part.TheVariants.{Fixed, Name}
use Rattle.bgp_core.specs.declared.pattern.Pattern.{Pattern}
use Rattle.bgp_core.specs.Queries.{IsValidPattern}
use Rattle.pattern_parser.specs.Short.{IsShortPart, IsShortPattern, TermsAreShort}
use Rattle.plan_laws.specs.Fitting.{IsAskablePart, IsAskable}
use Rattle.data_servers.specs.Starts.{AreSmall, GeneratedAreSmall}
use Rattle.query_command.specs.Limits.{FilesAreServable, GeneratedAreServable, QueriesAreAskable}

abbrev IsShort : Quad → Type 0
IsShort q = IsShortTriple LONGEST_TERM q.triple

localhost_long : length (codes "localhost") ≡ 9
localhost_long = refl

room : 9 + 1052 ≤ LONGEST_TERM
room = lit≤ tt

pub files_are_servable : ReadIsReadable → ServedAreShort → FilesAreServable
files_are_servable readable short files name choice triples (quads, holds, free, served, few) = record {
  terms = short LONGEST_TERM (codes "localhost") choice quads triples (omega (arith, localhost_long, room)) (All-from_recursion IsShort quads (short_quads LONGEST_TERM quads (readable holds.0 LONGEST_TERM quads holds.3))) served;
  few = let most = few.2 in omega (arith, most);
}

is_localhost : IsAuthority (codes "localhost")
is_localhost = record { host = codes "localhost"; port = 80; is_text = refl; is_host = refl; is_port = refl }

pub generated_are_servable : GeneratedAreSmall → GeneratedAreServable
generated_are_servable law persons triples most served =
    let small : AreSmall triples = law persons (codes "localhost") triples most is_localhost served in
    let few = small.few in
    record { terms = small.terms; few = omega (arith, few) }

part_askable : (part : Part) → IsShortPart part → IsAskablePart part
part_askable (Fixed t) h = h
part_askable (Name n) h = tt

pub patterns_askable : (ps : List Pattern) → AllByRecursion IsValidPattern ps → AllByRecursion IsShortPattern ps → AllByRecursion IsAskable ps
patterns_askable [] v h = tt
patterns_askable (p ∷ ps) v h =
    let short = h.0 in
    (record { valid = v.0; subject = part_askable p.subject short.subject; predicate = part_askable p.predicate short.predicate; object = part_askable p.object short.object }, patterns_askable ps v.1 h.1)

pub queries_are_askable : TermsAreShort → QueriesAreAskable
queries_are_askable law files name q holds valid = patterns_askable q.patterns valid (law holds.0 q holds.2)
