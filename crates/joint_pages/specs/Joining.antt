-- The pages of a round, taken one after another.
use Rattle.std.specs.Prelude.{ℕ, ◌+◌, List, [], ◌∷◌, ◌++◌, option_to_list}
use Rattle.rdf_terms.specs.declared.term.Triple.{Triple}
use Rattle.bgp_core.specs.Solutions.{distinct_after}
use Rattle.tpf_base.specs.Addresses.{Address}
use Rattle.fragment_page.specs.declared.page.Page.{Page}
use Rattle.request_plan.specs.declared.joint_page.JointPage.{JointPage}
use Rattle.joint_pages.specs.Joined.{added, next_round}

-- the triples that came until then, those of them that are new, the sum of the counts, and the further pages
pub record JoiningData : Type 0 where
  pub taken : List Triple
  pub triples : List Triple
  pub count : ℕ
  pub nexts : List Address

abbrev pub with_page : JoiningData → Page → JoiningData
with_page j page = record {
  taken = added j.taken (distinct_after j.taken page.triples);
  triples = j.triples ++ distinct_after j.taken page.triples;
  count = j.count + page.count;
  nexts = j.nexts ++ option_to_list page.next;
}

abbrev pub with_pages : JoiningData → List Page → JoiningData
with_pages j [] = j
with_pages j (page ∷ pages) = with_pages (with_page j page) pages

abbrev pub page_made : JoiningData → JointPage
page_made j = record { triples = j.triples; count = j.count; next = next_round j.nexts j.taken }

-- before the first page
abbrev pub joining_behind : List Triple → JoiningData
joining_behind taken = record { taken = taken; triples = []; count = 0; nexts = [] }
