-- The page of one server as that of a round.
use Rattle.std.specs.Prelude.{ℕ, List, Option}
use Rattle.std.specs.Option.{option_map}
use Rattle.tpf_base.specs.Addresses.{Address}
use Rattle.rdf_terms.specs.declared.term.Triple.{Triple}
use Rattle.fragment_page.specs.declared.page.Page.{Page}
use Rattle.request_plan.specs.declared.joint_page.JointPage.{JointPage}
use Rattle.request_plan.specs.Rounds.{round_of_one}

-- these triples, the count and the next page
abbrev pub joint_of : List Triple → ℕ → Option Address → JointPage
joint_of triples count next = record { triples = triples; count = count; next = option_map round_of_one next }

abbrev pub joint_page : Page → JointPage
joint_page page = joint_of page.triples page.count page.next
