use Rattle.std.proofs.Common.{◌≡◌, ap, sym, ◌∙◌, Some}
use Rattle.std.specs.Option.{option_map}
use Rattle.nquads_text.specs.Line.{resolved_quad}
use Rattle.nquads_text.specs.Views.{quad_view, loose_quad}
use Rattle.nquads_text.proofs.Meanings.{quad_means, quad_valid}
use Rattle.nquads_text.proofs.line.quad_of.Goals as goal

pub checked-requires : goal.checked-requires
checked-requires c =
    let at : resolved_quad (quad_view c.args.raw.now) ≡ Some (loose_quad c.in-Some.loose) = sym c.in_ok-found.ensures ∙ ap (λ o. option_map loose_quad o) c.in-Some.is in
    λ none. quad_valid c.args.longest (quad_view c.args.raw.now) (loose_quad c.in-Some.loose) c.requires (quad_means (quad_view c.args.raw.now) (loose_quad c.in-Some.loose) c.requires at) none
