use Rattle.std.proofs.Common.{rules, ◌≡◌, true, List, ◌∷◌, ◌++◌, map, ap, sym, subst}
use Rattle.std.specs.List.{All}
use Rattle.std.specs.Vec.Iter.{into_iter_items}
use Rattle.std.proofs.lemmas.List.Elements.{All-head, All-tail}
use Rattle.bgp_core.specs.declared.pattern.Pattern.{Pattern}
use Rattle.bgp_core.specs.Solutions.{Places}
use Rattle.request_plan.specs.Blocks.{forms_cut, blocks}
use Rattle.request_plan.specs.Plans.{all_askable, askable_rows}
use Rattle.join_core.specs.Nodes.{fresh}
use Rattle.join_core.specs.Shown.{IsBlockFor}
use Rattle.join_core.specs.Levels.{seed_node}
use Rattle.join_core.proofs.Over.{rows-askable}
use Rattle.join_core.proofs.Opened.{blocks-fit, nodes-more}
use Rattle.join_core.proofs.opening.add_nodes.Goals as goal

pub cut_rows-requires : goal.cut_rows-requires
cut_rows-requires c =
    let ps = c.args.others.now.value in
    let kept : c.in_ok-kept.kept.items ≡ askable_rows ps c.args.rows.items = search rules in
    let value : c.deref-2.result.now ≡ ps = search rules in
    subst (λ (l : List Pattern). All (λ row. all_askable row l ≡ true) c.in_ok-kept.kept.items) (sym value) (subst (λ (l : List Places). All (λ row. all_askable row ps ≡ true) l) (sym kept) (rows-askable ps c.args.rows.items))

pub loop-block-init : goal.loop-block-init
loop-block-init c =
    let ps = c.args.others.now.value in
    let cut = forms_cut c.args.cut.now.forms c.args.cut.now.block in
    let items : into_iter_items c.into_iter-block-iterator.result ≡ blocks cut ps (askable_rows ps c.args.rows.items) = search rules in
    record {
      nodes = ap (λ (l : List (List Places)). map seed_node c.args.nodes.now.items ++ map (fresh ps) l) items;
      fit = subst (λ (l : List (List Places)). All (IsBlockFor ps) l) (sym items) (blocks-fit cut ps c.args.rows.items c.requires.places c.requires.some);
    }

pub new-requires : goal.new-requires
new-requires c =
    let ps = c.args.others.now.value in
    let steps : into_iter_items c.loop-block.block-iterator ≡ c.in-Some.block ∷ into_iter_items c.next.new.self = search rules in
    let value : c.in_ok-clone.field-0.value ≡ ps = search rules in
    let fit = subst (λ (l : List (List Places)). All (IsBlockFor ps) l) steps c.loop-block.invariant.fit in
    subst (λ (l : List Pattern). IsBlockFor l c.in-Some.block) (sym value) (All-head (IsBlockFor ps) c.in-Some.block (into_iter_items c.next.new.self) fit)

pub loop-block-preserved : goal.loop-block-preserved
loop-block-preserved c =
    let ps = c.args.others.now.value in
    let steps : into_iter_items c.loop-block.block-iterator ≡ c.in-Some.block ∷ into_iter_items c.next.new.self = search rules in
    let value : c.in_ok-clone.field-0.value ≡ ps = search rules in
    let fit = subst (λ (l : List (List Places)). All (IsBlockFor ps) l) steps c.loop-block.invariant.fit in
    record {
      nodes = nodes-more ps c.in_ok-clone.field-0.value c.loop-block.nodes.items c.push.new.self.items c.new.result c.in-Some.block (into_iter_items c.next.new.self) (into_iter_items c.loop-block.block-iterator) _ c.in_ok-push.ensures.items c.new.ensures value steps c.loop-block.invariant.nodes;
      fit = All-tail (IsBlockFor ps) c.in-Some.block (into_iter_items c.next.new.self) fit;
    }
