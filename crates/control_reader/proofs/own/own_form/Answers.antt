use Rattle.std.proofs.Common.{refl, sym, ◌∙◌, subst}
use Rattle.tpf_base.specs.Addresses.{authority_of}
use Rattle.page_controls.proofs.Homes.{when_true}
use Rattle.control_reader.specs.Own.{IsOwnForm}
use Rattle.control_reader.proofs.own.own_form.Goals as goal

pub returns : goal.returns
returns c =
    subst (IsOwnForm c.args.text.now (authority_of c.args.address.now)) (sym c.in_ok-with_own_names.ensures)
    record {
      form = record {
        template = c.in_ok-template.ensures;
        names = sym (c.has_own_names.ensures c.args.text.now) ∙ c.if-not-has_own_names.false;
        subject = refl;
        predicate = refl;
        object = refl;
      };
      home = when_true _ _ c.is_home.result c.if-not-is_home.false (c.is_home.ensures c.args.text.now c.in_ok-template.ensures);
    }
