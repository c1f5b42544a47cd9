-- The rows of a page are cut alike by the forms of a join and by the world that it suits.
use Rattle.std.proofs.Common.{ℕ, ◌≡◌, List, [], ◌∷◌, map, Option, refl, ap, sym, ◌∙◌}
use Rattle.std.specs.List.{remove}
use Rattle.rdf_terms.specs.declared.term.Triple.{Triple}
use Rattle.bgp_core.specs.declared.pattern.Pattern.{Pattern}
use Rattle.bgp_core.specs.Solutions.{Places}
use Rattle.request_plan.specs.declared.joint_page.JointPage.{JointPage}
use Rattle.request_plan.specs.Blocks.{blocks, forms_cut}
use Rattle.request_plan.specs.Worlds.{World, HasForms, cut_of}
use Rattle.request_plan.specs.Plans.{found, askable_rows, least}
use Rattle.join_core.specs.Nodes.{Stage, NodeData, node, fresh, nodes_in, count_of}
use Rattle.join_core.specs.Nodes.Stage.{Asking, Walking}
use Rattle.join_core.specs.Events.{opened_by, chosen_page, MadeOf, IsChosen}
use Rattle.join_core.specs.Joins.{JoinData, cut_in}
use Rattle.request_plan.proofs.Alike.{cuts-alike}
use Rattle.join_core.proofs.Over.{rows-askable}

module _ (w : World) (j : JoinData) (forms : HasForms w j.forms) (block : w.block ≡ j.block) where
  blocks-in : (ps : List Pattern) (rows : List Places) → blocks (cut_in j) ps (askable_rows ps rows) ≡ blocks (cut_of w) ps (askable_rows ps rows)
  blocks-in ps rows = ap (λ (n : ℕ). blocks (forms_cut j.forms n) ps (askable_rows ps rows)) (sym block) ∙ cuts-alike w j.forms forms ps (askable_rows ps rows) (rows-askable ps rows)

  pub nodes-in : (ps : List Pattern) (rows : List Places) → nodes_in (cut_in j) ps rows ≡ nodes_in (cut_of w) ps rows
  nodes-in [] rows = refl
  nodes-in (q ∷ qs) rows = ap (λ (l : List (List Places)). map (fresh (q ∷ qs)) l) (blocks-in (q ∷ qs) rows)

  opened-at : (held : List Places) (rest : List Pattern) (stage : Stage) (ts : List Triple) → opened_by (cut_in j) (node held rest stage) ts ≡ opened_by (cut_of w) (node held rest stage) ts
  opened-at held rest (Asking fs) ts = refl
  opened-at held rest (Walking p k next out) ts = nodes-in rest (found p held ts)

  pub opened-in : (n : NodeData) (ts : List Triple) → opened_by (cut_in j) n ts ≡ opened_by (cut_of w) n ts
  opened-in n ts = opened-at n.rows n.rest n.stage ts

  made-in : (p : Pattern) (others : List Pattern) (held : List Places) (k : ℕ) (page : JointPage) (made : List NodeData) (rows : List Places) (after : Option NodeData) → MadeOf (cut_in j) p others held k page made rows after → MadeOf (cut_of w) p others held k page made rows after
  made-in p others held k page made rows after m = record { opens = m.opens ∙ nodes-in others (found p held page.triples); puts = m.puts; goes = m.goes }

  chosen-at : (held : List Places) (rest : List Pattern) (stage : Stage) (made : List NodeData) (rows : List Places) (after : Option NodeData) → IsChosen (cut_in j) (node held rest stage) made rows after → IsChosen (cut_of w) (node held rest stage) made rows after
  chosen-at held rest (Asking fs) made rows after c = λ p page below at got. made-in p (remove rest (least (map count_of fs))) held (1) (chosen_page page) made rows after (c p page below at got)
  chosen-at held rest (Walking p k next out) made rows after c = c

  pub chosen-in : (n : NodeData) (made : List NodeData) (rows : List Places) (after : Option NodeData) → IsChosen (cut_in j) n made rows after → IsChosen (cut_of w) n made rows after
  chosen-in n made rows after c = chosen-at n.rows n.rest n.stage made rows after c
