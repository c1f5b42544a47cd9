-- Plans whose addresses are answered with pages that are read (Triple Pattern Fragments; Verborgh et al.).
use Rattle.std.specs.Prelude.{ℕ, ◌≡◌, ◌+◌, ◌≤◌, true, List, length, replicate, None, ⊤}
use Rattle.std.specs.List.{AllByRecursion, Contains}
use Rattle.tpf_base.specs.declared.limits.TheConstants.{HEAD_LIMIT, HIGHEST_NUMBER}
use Rattle.tpf_base.specs.Addresses.{Address, address_text, authority_of, target_of}
use Rattle.tpf_base.specs.Marks.{Mark, version_at}
use Rattle.rdf_terms.specs.declared.term.Term.{Term}
use Rattle.rdf_terms.specs.declared.term.Triple.{Triple}
use Rattle.rdf_terms.specs.declared.limits.TheConstants.{LONGEST_TERM, MOST_ROWS, MOST_UNWRITTEN}
use Rattle.rdf_terms.specs.Canon.{canonical_term}
use Rattle.rdf_terms.specs.Sizes.{term_size}
use Rattle.triple_table.specs.Served.{terms_of}
use Rattle.template_fill.specs.declared.limits.TheConstants.{LONGEST_START}
use Rattle.template_fill.specs.Metadata.{Config}
use Rattle.template_fill.specs.Configurations.{IsConfig, IsHistory}
use Rattle.template_fill.specs.Bodies.{version_of}
use Rattle.template_fill.specs.Responses.{IsVersion}
use Rattle.template_fill.specs.Answered.{address_answer, is_answered}
use Rattle.http_ends.specs.Requests.{request_for}
use Rattle.fragment_page.specs.declared.page.Page.{Page}
use Rattle.control_reader.specs.Takes.{Takes}
use Rattle.bgp_core.specs.declared.pattern.Part.{Part}
use Rattle.bgp_core.specs.declared.pattern.Part.TheVariants.{Fixed, Name}
use Rattle.bgp_core.specs.declared.pattern.Pattern.{Pattern}
use Rattle.bgp_core.specs.Queries.{IsValidPattern}
use Rattle.request_plan.specs.Plans.{plan}
use Rattle.plan_laws.specs.Servers.{server_world}

-- the request for the address is within the limit of heads, and is answered with the status 200 and a body that is read as a page of the address
pub record IsRead (history : List (List Triple)) (mark : Mark) (config : Config) (address : Address) : Type 0 where
  pub short : length (request_for address) ≤ HEAD_LIMIT
  pub answered : is_answered history mark config address ≡ true
  pub page : Page
  pub taken : Takes (address_answer history mark config address).body address page

-- ---- limits

-- each term has a canonical text of at most LONGEST_TERM bytes, and there are at most HIGHEST_NUMBER triples
pub record AreServable (triples : List Triple) : Type 0 where
  pub terms : (term : Term) → Contains (terms_of triples) term → length (canonical_term term) ≤ LONGEST_TERM
  pub few : length triples ≤ HIGHEST_NUMBER

-- a fixed part has texts of at most MOST_UNWRITTEN bytes more than LONGEST_TERM, as in each query that is read
abbrev pub IsAskablePart : Part → Type 0
IsAskablePart (Fixed term) = term_size term ≤ LONGEST_TERM + MOST_UNWRITTEN
IsAskablePart (Name n) = ⊤

-- a pattern of valid terms that are so short
pub record IsAskable (p : Pattern) : Type 0 where
  pub valid : IsValidPattern p
  pub subject : IsAskablePart p.subject
  pub predicate : IsAskablePart p.predicate
  pub object : IsAskablePart p.object

-- A server of one version of a history, within these limits; the text of its base has at most LONGEST_START bytes.
pub record IsServable (history : List (List Triple)) (mark : Mark) (config : Config) : Type 0 where
  pub is_history : IsHistory history
  pub is_config : IsConfig config
  pub version : IsVersion (length history) mark
  pub triples : AreServable (version_of history (version_at mark))
  pub base : length (address_text config.base) ≤ LONGEST_START

-- ---- the laws

-- each address of a plan is read, where a request carries at most so many rows
abbrev pub PlansAreRead : Type 0
PlansAreRead =
    (block : ℕ) (history : List (List Triple)) (mark : Mark) (config : Config) (patterns : List Pattern) (names : ℕ)
    → 1 ≤ block
    → block ≤ MOST_ROWS
    → IsServable history mark config
    → AllByRecursion IsAskable patterns
    → AllByRecursion (IsRead history mark config) (plan (server_world block (version_of history (version_at mark)) config) patterns (replicate names None))

-- the base is answered with the first page of all triples, which is read
abbrev pub BasesAreRead : Type 0
BasesAreRead = (history : List (List Triple)) (mark : Mark) (config : Config) → IsServable history mark config → IsRead history mark config config.base

-- a start that is answered with the status 200 is read
abbrev pub StartsAreRead : Type 0
StartsAreRead =
    (history : List (List Triple)) (mark : Mark) (config : Config) (start : Address)
    → IsServable history mark config
    → authority_of start ≡ authority_of config.base
    → length (target_of start) ≤ LONGEST_START
    → is_answered history mark config start ≡ true
    → IsRead history mark config start
