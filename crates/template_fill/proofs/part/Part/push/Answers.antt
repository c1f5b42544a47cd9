use Rattle.std.proofs.Common.{◌≡◌, true, subst}
use Rattle.std.specs.List.{list_all}
use Rattle.tpf_base.specs.Addresses.{is_address_byte}
use Rattle.template_fill.specs.Templates.{Part, part_text}
use Rattle.template_fill.proofs.Values.{part-address}
use Rattle.template_fill.proofs.part.Part.push.Goals as goal

pub returns-in_err-push_pairs-clause-address : goal.returns-in_err-push_pairs-clause-address
returns-in_err-push_pairs-clause-address c = subst (λ (part : Part). list_all is_address_byte (part_text c.args.values.now part) ≡ true) c.self.view_is (part-address c.self.inside.operator c.self.inside.names.items c.self.inside.literal c.args.values.now c.self.invariant)

pub returns-clause-address : goal.returns-clause-address
returns-clause-address c = subst (λ (part : Part). list_all is_address_byte (part_text c.args.values.now part) ≡ true) c.self.view_is (part-address c.self.inside.operator c.self.inside.names.items c.self.inside.literal c.args.values.now c.self.invariant)
