use Rattle.std.proofs.Common.{◌∙◌, subst, sym, List, ℕ}
use Rattle.std.specs.String.{string_bytes}
use Rattle.tpf_base.specs.Addresses.{IsAddress}
use Rattle.template_fill.proofs.PageTexts.{form_extends}
use Rattle.template_fill.proofs.form.Form.selection_address.Goals as goal

pub extended-requires : goal.extended-requires
extended-requires c =
    (form_extends c.args.self.now c.args.slots.now c.args.rows.now c.in_ok-address.address c.further_mark.result (string_bytes c.in_ok-text.text) (string_bytes c.push_rows.new.out) (sym c.is_empty.ensures ∙ c.if-is_empty.false) c.in_ok-address.ensures.text (c.in_ok-text.ensures.ok ∙ c.text.ensures.text) c.further_mark.ensures.mark c.in_ok-push_rows.ensures).0

pub returns-clause-address : goal.returns-clause-address
returns-clause-address c =
    let is = (form_extends c.args.self.now c.args.slots.now c.args.rows.now c.in_ok-address.address c.further_mark.result (string_bytes c.in_ok-text.text) (string_bytes c.push_rows.new.out) (sym c.is_empty.ensures ∙ c.if-is_empty.false) c.in_ok-address.ensures.text (c.in_ok-text.ensures.ok ∙ c.text.ensures.text) c.further_mark.ensures.mark c.in_ok-push_rows.ensures).1 in
    subst (λ (text : List ℕ). IsAddress text c.extended.result) is c.extended.ensures.address
