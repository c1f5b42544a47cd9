use Rattle.std.proofs.Common.{◌∙◌, List, ℕ, refl, subst}
use Rattle.std.specs.String.{string_bytes}
use Rattle.tpf_base.specs.Addresses.{IsAddress}
use Rattle.template_fill.proofs.Expansions.{extends_none, extends_more, part_more, parts_all}
use Rattle.template_fill.proofs.template.Template.expand.Goals as goal

pub loop-part-init : goal.loop-part-init
loop-part-init c = record {
  text = refl;
  extends = extends_none _ _ (c.in_ok-text.ensures.ok ∙ c.text.ensures.text);
}

pub loop-part-preserved : goal.loop-part-preserved
loop-part-preserved c = record {
  text = part_more c.args.values.now c.deref-part-items.result.now c.loop-part.part-index c.part-item.result _ _ _ c.loop-part-test.true c.part-item.is c.in_ok-push.ensures.text c.loop-part.invariant.text;
  extends = extends_more c.self.inside.start _ _ _ c.loop-part.invariant.extends c.in_ok-push.ensures.text c.in_ok-push.ensures.address;
}

pub extended-requires : goal.extended-requires
extended-requires c = c.loop-part.invariant.extends

pub returns-clause-address : goal.returns-clause-address
returns-clause-address c =
    let is = parts_all c.args.self.now c.args.values.now c.self.inside.start c.self.inside.parts.items c.deref-part-items.result.now (string_bytes c.in_ok-text.text) (string_bytes c.loop-part.text) c.loop-part.part-index c.self.view_is c.deref-part-items.ensures.value (c.in_ok-text.ensures.ok ∙ c.text.ensures.text) c.loop-part-test.false c.loop-part.invariant.text in
    subst (λ (text : List ℕ). IsAddress text c.extended.result) is c.extended.ensures.address

pub returns-clause-text : goal.returns-clause-text
returns-clause-text c =
    c.extended.ensures.text
    ∙ parts_all c.args.self.now c.args.values.now c.self.inside.start c.self.inside.parts.items c.deref-part-items.result.now (string_bytes c.in_ok-text.text) (string_bytes c.loop-part.text) c.loop-part.part-index c.self.view_is c.deref-part-items.ensures.value (c.in_ok-text.ensures.ok ∙ c.text.ensures.text) c.loop-part-test.false c.loop-part.invariant.text
