-- What a page makes of a node, as contracts see it. Serves the contracts inside the crate alone.
use Rattle.std.specs.Prelude.{ℕ, ◌≡◌, ◌++◌, true, List, map, option_to_list}
use Rattle.std.specs.List.{All}
use Rattle.bgp_core.specs.declared.pattern.Pattern.{Pattern}
use Rattle.bgp_core.specs.Solutions.{Places}
use Rattle.request_plan.specs.declared.joint_page.JointPage.{JointPage}
use Rattle.join_core.specs.declared.making.Made.{Made}
use Rattle.request_plan.specs.Blocks.{Cut}
use Rattle.join_core.specs.Nodes.{NodeData}
use Rattle.join_core.specs.Events.{MadeOf, IsChosen, is_idle}
use Rattle.join_core.specs.Levels.{seed_node}

-- the nodes that it opens
abbrev pub opened_nodes : Made → List NodeData
opened_nodes made = map seed_node made.opened.items

-- the nodes that it opens and the one that goes on may be started
abbrev pub AllAreIdle : Made → Type 0
AllAreIdle made = All (λ n. is_idle n ≡ true) (opened_nodes made ++ option_to_list made.after)

-- it is what a page of a pattern makes of a block, so many pages of which were taken
abbrev pub IsMadeOf : Cut → Pattern → List Pattern → List Places → ℕ → JointPage → Made → Type 0
IsMadeOf cut p others block k page made = MadeOf cut p others block k page (opened_nodes made) made.rows.items made.after

-- it is what the first page with the least count makes of a node
abbrev pub IsChoiceOf : Cut → NodeData → Made → Type 0
IsChoiceOf cut n made = IsChosen cut n (opened_nodes made) made.rows.items made.after
