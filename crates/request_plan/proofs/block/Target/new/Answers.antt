use Rattle.std.proofs.Common.{length, arith, ap, subst}
use Rattle.rdf_terms.specs.declared.slots.Slots.{Slots}
use Rattle.tpf_base.specs.Addresses.{IsAddress}
use Rattle.template_fill.specs.Forms.{form_text}
use Rattle.request_plan.proofs.block.Target.new.Goals as goal

pub returns : goal.returns
returns c = record {
  alone = record {
    address = c.in_ok-address.field-0;
    alone = subst (λ (s : Slots). IsAddress (form_text c.args.form.now s) c.in_ok-address.field-0) c.in_ok-slots.ensures c.in_ok-address.ensures.address;
  };
  places = c.new.ensures.items;
  length = let long = ap length c.target.ensures in omega (arith, long);
}
