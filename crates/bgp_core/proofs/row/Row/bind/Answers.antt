use Rattle.std.proofs.Common.{rules, ◌≡◌, ◌++◌, ◌∷◌, [], map, ap, ◌∙◌}
use Rattle.list_laws.proofs.Lists.{map_snoc}
use Rattle.bgp_core.specs.Rows.{bound_pair}
use Rattle.bgp_core.proofs.Places.{bind-done}
use Rattle.bgp_core.proofs.row.Row.bind.Goals as goal

pub returns-clause-done : goal.returns-clause-done
returns-clause-done c =
    let e : c.push.new.self.items ≡ c.self.inside.bound.items ++ record { name = c.args.name; term = c.in_ok-term.term } ∷ [] = search rules in
    let v : c.in_ok-term.term.value ≡ c.args.term = search rules in
    bind-done c.self.inside.names (map bound_pair c.self.inside.bound.items) (map bound_pair c.push.new.self.items) c.args.self.now c.args.name c.args.term c.self.view_is c.requires.place c.requires.free
    (ap (λ l. map bound_pair l) e ∙ map_snoc bound_pair c.self.inside.bound.items (record { name = c.args.name; term = c.in_ok-term.term }) ∙ ap (λ t. map bound_pair c.self.inside.bound.items ++ (c.args.name, t) ∷ []) v)
