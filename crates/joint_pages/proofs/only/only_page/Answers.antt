use Rattle.std.proofs.Common.{◌≡◌, [], true, List, sym, ap, ◌∙◌}
use Rattle.std.specs.Vec.Iter.{into_iter_items}
use Rattle.std.proofs.lemmas.List.{nil_from_length}
use Rattle.fragment_page.specs.declared.page.Page.{Page}
use Rattle.joint_pages.specs.Joined.{joined_as}
use Rattle.joint_pages.specs.Parts.{PartData, pages_in}
use Rattle.joint_pages.proofs.only.only_page.Goals as goal

pub returns : goal.returns
returns c = λ taken.
    let none : into_iter_items c.loop-part.part-iterator ≡ [] = nil_from_length (into_iter_items c.loop-part.part-iterator) (sym c.loop-part.part-iterator.rest.ok.0 ∙ c.in-None.ensures.steps.0) in
    c.no_page.ensures taken ∙ ap (λ (pages : List Page). joined_as true taken pages) (ap (λ (parts : List PartData). pages_in parts) (sym none) ∙ c.loop-part.invariant)
