use Rattle.std.proofs.Common.{sym, ap, ◌∙◌}
use Rattle.std.specs.List.{list_any}
use Rattle.restricted_pages.specs.declared.sieve.Cell.{Cell}
use Rattle.restricted_pages.specs.Patterns.{fits}
use Rattle.restricted_pages.proofs.sieve.Sieve.matches.Goals as goal

pub returns : goal.returns
returns c =
    let t = c.args.triple in
    c.matches_one.ensures ∙ ap (list_any (λ p. fits p t)) c.as_slice.ensures.value
    ∙ ap (λ (x : Cell). list_any (λ p. fits p t) x.patterns.items) c.index-cell.ensures
    ∙ c.self.invariant.each c.cell_of.result _ c.cell_of.ensures.within t (sym c.cell_of.ensures.is)
    ∙ ap (list_any (λ p. fits p t)) c.self.view_is
