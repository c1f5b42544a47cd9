-- The page of a round, made of the pages of the servers.
use Rattle.std.specs.Prelude.{ℕ, Bool, true, false, List, [], ◌∷◌, Option, Some, None, option_to_list}
use Rattle.std.specs.List.{flat_map, sum_by}
use Rattle.rdf_terms.specs.declared.term.Triple.{Triple}
use Rattle.rdf_terms.specs.Fragments.{put}
use Rattle.rdf_terms.specs.Order.{triple_order}
use Rattle.bgp_core.specs.Solutions.{distinct_after}
use Rattle.tpf_base.specs.Addresses.{Address}
use Rattle.fragment_page.specs.declared.page.Page.{Page}
use Rattle.request_plan.specs.JointPages.{joint_page}
use Rattle.request_plan.specs.Rounds.{RoundData}
use Rattle.request_plan.specs.declared.joint_page.JointPage.{JointPage}

-- the set with these triples put in, one after another
abbrev pub added : List Triple → List Triple → List Triple
added set [] = set
added set (t ∷ ts) = added (put triple_order t set) ts

abbrev pub all_triples : List Page → List Triple
all_triples pages = flat_map (λ page. page.triples) pages

abbrev pub count_of : List Page → ℕ
count_of pages = sum_by (λ page. page.count) pages

-- the further pages, of the servers that have one
abbrev pub nexts_of : List Page → List Address
nexts_of pages = flat_map (λ page. option_to_list page.next) pages

-- the next round, where a server has a further page
abbrev pub next_round : List Address → List Triple → Option RoundData
next_round [] taken = None
next_round (address ∷ addresses) taken = Some (record { addresses = address ∷ addresses; taken = taken })

-- the triples of these pages that did not come before, each once
abbrev pub new_triples : List Triple → List Page → List Triple
new_triples taken pages = distinct_after taken (all_triples pages)

-- the page of a round: the triples that are new, the sum of the counts, and the next round of the servers that have a further
-- page, behind the triples that came before and those that are new
abbrev pub joined : List Triple → List Page → JointPage
joined taken pages = record {
  triples = new_triples taken pages;
  count = count_of pages;
  next = next_round (nexts_of pages) (added taken (new_triples taken pages));
}

-- the page of a round of one server alone is its page; that of a round of several is made of all of theirs
abbrev pub joined_as : Bool → List Triple → List Page → JointPage
joined_as true taken [] = joined taken []
joined_as true taken (page ∷ pages) = joint_page page
joined_as false taken pages = joined taken pages
