use Rattle.std.proofs.Common.{◌≡◌, ◌+◌, ◌++◌, ◌∷◌, [], List, take, ap, sym, subst, ◌∙◌, arith}
use Rattle.std.proofs.lemmas.Bool.{and_parts}
use Rattle.std.proofs.lemmas.List.{take_more}
use Rattle.std.specs.List.{list_all}
use Rattle.tpf_base.specs.Addresses.{Address}
use Rattle.rdf_terms.specs.Askable.{askable}
use Rattle.rdf_terms.specs.Selections.{Selection}
use Rattle.template_fill.specs.declared.form.Form.{Form}
use Rattle.request_plan.specs.Rounds.{AreFirst, ShareForms}
use Rattle.request_plan.proofs.Blanks.{rows-no-blank}
use Rattle.request_plan.proofs.Sets.{first-more, shared-more}
use Rattle.request_plan.proofs.round.first_addresses.Goals as goal

pub selection_address-requires-clause-rows : goal.selection_address-requires-clause-rows
selection_address-requires-clause-rows c = rows-no-blank c.args.rows.now (and_parts (list_all askable c.args.rows.now) (askable c.args.slots.now) c.requires).0

pub loop-form-preserved : goal.loop-form-preserved
loop-form-preserved c =
    let s : Selection = record { slots = c.args.slots.now; rows = c.args.rows.now } in
    let forms = c.args.forms.now in
    let i = c.loop-form.form-index in
    let form = c.form-item.result in
    let had = c.loop-form.addresses.items in
    let address = c.in_ok-selection_address.field-0 in
    let more : take (i + 1) forms ≡ take i forms ++ form ∷ [] = take_more forms i form (omega arith) ∙ ap (λ (f : Form). take i forms ++ f ∷ []) (sym c.form-item.is) in
    let all : c.push.new.self.items ≡ had ++ address ∷ [] = c.in_ok-push.ensures.items in (
      subst (λ (l : List Address). AreFirst (take (i + 1) forms) s l) (sym all) (subst (λ (l : List Form). AreFirst l s (had ++ address ∷ [])) (sym more) (first-more (take i forms) s had form address c.loop-form.invariant.0 c.in_ok-selection_address.ensures.address)),
      subst (λ (l : List Address). ShareForms (take (i + 1) forms) l) (sym all) (subst (λ (l : List Form). ShareForms l (had ++ address ∷ [])) (sym more) (shared-more (take i forms) had form address c.loop-form.invariant.1 c.in_ok-selection_address.ensures.authority)),
    )
