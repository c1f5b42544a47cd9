use Rattle.std.proofs.Common.{◌≡◌, ◌<◌, length, map, get_or, sym, subst}
use Rattle.std.specs.List.{remove}
use Rattle.std.proofs.lemmas.Result.{IfOk-weaker}
use Rattle.bgp_core.specs.declared.pattern.Pattern.{Pattern}
use Rattle.request_plan.specs.Blocks.{forms_cut}
use Rattle.join_core.specs.Nodes.{NodeData}
use Rattle.join_core.specs.Events.{MadeOf, chosen_page}
use Rattle.join_core.specs.Levels.{seed_node}
use Rattle.join_core.proofs.Choices.{full-place, last-chosen, no-ticket, no-nothing, page-there}
use Rattle.join_core.proofs.node.Node.choose_last.Goals as goal

pub go_on-requires : goal.go_on-requires
go_on-requires c = subst (λ (n : NodeData). c.args.index < length n.rest) (sym c.swap_first.ensures.after) (full-place c.args.self.now c.args.index c.requires.full c.requires.place)

pub unreachable-requires : goal.unreachable-requires
unreachable-requires c = no-ticket c.args.self.now c.args.index c.swap_first.result c.in-Some-Out.field-0 c.in-Some-Out.field-0-0 c.requires.full c.requires.place c.swap_first.ensures.before c.in-Some-Out.is c.in-Some-Out.field-0-is

pub unreachable-requires-in-None : goal.unreachable-requires-in-None
unreachable-requires-in-None c = no-nothing c.args.self.now c.args.index c.swap_first.result c.requires.full c.requires.place c.swap_first.ensures.before c.in-None.is

pub returns-clause-chosen : goal.returns-clause-chosen
returns-clause-chosen c =
    let at = page-there c.args.self.now c.args.index c.swap_first.result c.in-Some-Got.field-0 c.in-Some-Got.page c.swap_first.ensures.before c.in-Some-Got.is c.in-Some-Got.field-0-is in
    IfOk-weaker c.go_on.result _ _
    (λ m made. last-chosen (forms_cut c.args.cut.now.forms c.args.cut.now.block) c.args.self.now c.args.index c.in-Some-Got.page (map seed_node m.opened.items) m.rows.items m.after c.requires.least at
    (subst (λ (n : NodeData). (p : Pattern) → p ≡ get_or n.rest c.args.index p → MadeOf (forms_cut c.args.cut.now.forms c.args.cut.now.block) p (remove n.rest c.args.index) n.rows (1) (chosen_page c.in-Some-Got.page) (map seed_node m.opened.items) m.rows.items m.after) c.swap_first.ensures.after made))
    c.go_on.ensures.made
