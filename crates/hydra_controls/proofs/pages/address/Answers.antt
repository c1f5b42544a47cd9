use Rattle.std.proofs.Common.{◌≡◌, ℕ, Ok, Err, sym, ◌∙◌, ap, subst}
use Rattle.std.specs.Prelude.{Result, IfOk}
use Rattle.rdf_terms.specs.Selections.{Selection}
use Rattle.tpf_base.specs.Addresses.{Address, IsAddress, address_text}
use Rattle.template_fill.specs.Pages.{page_address}
use Rattle.template_fill.proofs.Authorities.{page_text}
use Rattle.hydra_controls.proofs.pages.address.Goals as goal

-- the address that a call gives has the text of the page's address
each_page_text : {E : Type 0} (base given : Address) (s : Selection) (k : ℕ) (r : Result Address E) → given ≡ base → IsAddress (address_text given) given → IfOk r (λ a. IsAddress (page_address given s k) a) → IfOk r (λ a. address_text a ≡ page_address base s k)
each_page_text base given s k (Err e) same own h = tt
each_page_text base given s k (Ok a) same own h = page_text given a s k own h ∙ ap (λ (x : Address). page_address x s k) same

pub returns-clause-text : goal.returns-clause-text
returns-clause-text c =
    let own = subst (λ (base : Address). IsAddress (address_text base) base) (sym c.base.ensures.base) c.base.ensures.valid.base in
    each_page_text c.args.config.now.base c.base.result.now (record { slots = c.args.slots.now; rows = c.args.rows.now }) c.args.page c.page_address.result c.base.ensures.base own c.page_address.ensures.address
