-- The text of an expansion, part by part.
use Rattle.std.proofs.Common.{◌≡◌, ℕ, suc, ◌+◌, ◌<◌, ◌≤◌, List, [], ◌∷◌, ◌++◌, true, length, drop, get_or, refl, sym, subst, ap, ◌∙◌, add-one, append_assoc, append-nil}
use Rattle.std.proofs.Math.Seq.{drop-cons}
use Rattle.std.proofs.lemmas.List.{drop_all}
use Rattle.std.proofs.lemmas.List.Folds.{list_all-append}
use Rattle.std.specs.List.{list_all, flat_map}
use Rattle.tpf_base.specs.Addresses.{Address, address_text, is_address_byte}
use Rattle.template_fill.specs.Templates.{Part, Template, part_text, expansion}
use Rattle.template_fill.specs.WebAddress.{Extends}
use Rattle.template_fill.specs.declared.value.Value.{Value}

-- the text of an address goes on with nothing
pub extends_none : (a : Address) (text : List ℕ) → text ≡ address_text a → Extends a text
extends_none a text is = record { more = []; is_text = is ∙ sym (append-nil (address_text a)); bytes = refl }

-- and with more characters of a target after what it went on with
pub extends_more : (a : Address) (before more after : List ℕ) → Extends a before → after ≡ before ++ more → list_all is_address_byte more ≡ true → Extends a after
extends_more a before more after e is own = record {
  more = e.more ++ more;
  is_text = is ∙ ap (λ (front : List ℕ). front ++ more) e.is_text ∙ append_assoc (address_text a) e.more more;
  bytes = rw (list_all-append is_address_byte e.more more, e.bytes) own;
}

-- one part more
pub part_more : (values : List Value) (parts : List Part) (i : ℕ) (part : Part) (before after whole : List ℕ) → i < length parts → part ≡ get_or parts i part → after ≡ before ++ part_text values part → whole ≡ before ++ flat_map (part_text values) (drop i parts) → whole ≡ after ++ flat_map (part_text values) (drop (i + 1) parts)
part_more values parts i part before after whole below at own e =
    let rest : drop i parts ≡ part ∷ drop (suc i) parts = drop-cons parts i part below ∙ ap (λ (x : Part). x ∷ drop (suc i) parts) (sym at) in
    rw add-one
    (e ∙ ap (λ (l : List Part). before ++ flat_map (part_text values) l) rest ∙ sym (append_assoc before (part_text values part) (flat_map (part_text values) (drop (suc i) parts)))
    ∙ ap (λ (front : List ℕ). front ++ flat_map (part_text values) (drop (suc i) parts)) (sym own))

-- all parts
pub parts_all : (template : Template) (values : List Value) (start : Address) (parts seen : List Part) (first text : List ℕ) (i : ℕ) → record { start = start; parts = parts } ≡ template → seen ≡ parts → first ≡ address_text start → length seen ≤ i → first ++ flat_map (part_text values) seen ≡ text ++ flat_map (part_text values) (drop i seen) → text ≡ expansion template values
unfolding expansion
parts_all template values start parts seen first text i is same own past e =
    let none = ap (λ (l : List Part). text ++ flat_map (part_text values) l) (drop_all i seen past) ∙ append-nil text in
    let whole : text ≡ address_text start ++ flat_map (part_text values) parts =
    sym none ∙ sym e ∙ ap (λ (front : List ℕ). front ++ flat_map (part_text values) seen) own ∙ ap (λ (l : List Part). address_text start ++ flat_map (part_text values) l) same in
    subst (λ (t : Template). text ≡ expansion t values) is whole
