use Rattle.std.proofs.Common.{map, ap, ◌∙◌, ◌≡◌}
use Rattle.bgp_core.specs.Rows.{bound_pair, term_in}
use Rattle.bgp_core.proofs.Places.{at-within, at-beyond, told-so}
use Rattle.bgp_core.proofs.row.Row.term.Goals as goal

pub returns-then-name-self : goal.returns-then-name-self
returns-then-name-self c =
    let e : term_in c.args.name (map bound_pair c.as_slice.result.now) ≡ term_in c.args.name (map bound_pair c.self.inside.bound.items) = ap (λ l. term_in c.args.name (map bound_pair l)) c.as_slice.ensures.value in
    told-so c.find.result _ _ (e ∙ at-within c.self.inside.names (map bound_pair c.self.inside.bound.items) c.args.self.now c.args.name c.self.view_is c.if-name-self.true) c.find.ensures

pub returns-else-name-self : goal.returns-else-name-self
returns-else-name-self c = at-beyond c.self.inside.names (map bound_pair c.self.inside.bound.items) c.args.self.now c.args.name c.self.view_is c.if-name-self.false
