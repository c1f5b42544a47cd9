use Rattle.std.proofs.Common.{◌≡◌, Bool, true, List, ap, sym, subst, ◌∙◌}
use Rattle.std.specs.Prelude.{IfOk}
use Rattle.rdf_terms.specs.declared.term.Triple.{Triple}
use Rattle.request_plan.specs.declared.joint_page.JointPage.{JointPage}
use Rattle.joint_pages.specs.Parts.{pages_in}
use Rattle.joint_pages.specs.Joined.{joined, joined_as}
use Rattle.joint_pages.specs.Gatherings.{GatheringData}
use Rattle.joint_pages.specs.Truths.{IsJointPageOf}
use Rattle.joint_pages.proofs.Truth.{joint-true, together}
use Rattle.joint_pages.proofs.gathering.Gathering.joint_page.Goals as goal

pub returns-then-alone-clause-together : goal.returns-then-alone-clause-together
returns-then-alone-clause-together c = λ worlds servers one told whole.
    let g = c.args.self in
    let own = c.only_page.ensures g.taken in
    let exact = subst (λ (d : GatheringData). c.only_page.result ≡ joined_as true g.taken (pages_in d.parts)) c.self.view_is own in
    let as_told = exact ∙ ap (λ (b : Bool). joined_as b g.taken (pages_in g.parts)) (sym c.if-alone.true) in
    subst (λ (p : JointPage). IsJointPageOf worlds g p) (sym as_told) (joint-true worlds g c.args.alone servers one told whole)

pub returns-clause-together : goal.returns-clause-together
returns-clause-together c = λ worlds servers one told whole.
    let g = c.args.self in
    let own = subst (λ (l : List Triple). IfOk c.join_parts.result (λ page. page ≡ joined l (pages_in c.self.inside.parts.items))) c.in_ok-taken.ensures c.join_parts.ensures in
    let exact = subst (λ (d : GatheringData). IfOk c.join_parts.result (λ page. page ≡ joined d.taken (pages_in d.parts))) c.self.view_is own in
    let as_told = subst (λ (b : Bool). IfOk c.join_parts.result (λ page. page ≡ joined_as b g.taken (pages_in g.parts))) (sym c.if-alone.false) exact in
    together worlds g c.args.alone c.join_parts.result as_told servers one told whole
