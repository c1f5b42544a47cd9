-- The authority of a template that was read.
use Rattle.std.proofs.Common.{◌≡◌, ℕ, Bool, true, false, List, [], Some, sym, ◌∙◌, refl, subst, true≢false}
use Rattle.std.specs.Prelude.{◌↔◌, IsTrue, MatchBool}
use Rattle.tpf_base.specs.Addresses.{Address, IsAddress, authority_of}
use Rattle.template_fill.specs.Templates.{Template, read_template, expansion}
use Rattle.template_fill.specs.Authorities.{TemplatesAreKept, ExpansionsAreAddresses, ExpansionsShareAuthority}
use Rattle.template_fill.proofs.Authorities.{same_authority}
use Rattle.page_controls.specs.Controls.{IsHome, IsForeign}

by_start : (template : Template) (authority : List ℕ) (b : Bool) → IsTrue b ↔ (authority_of template.start ≡ authority) → (address : Address) → IsAddress (expansion template []) address
    → authority_of address ≡ authority_of template.start → MatchBool b (IsHome template authority) (IsForeign template authority)
by_start template authority true same address is own = (address, is, own ∙ same.0 refl)
by_start template authority false same address is own = (address, is, λ e. true≢false (sym (same.1 (sym own ∙ e))))

pub home_or_foreign : TemplatesAreKept → ExpansionsAreAddresses → ExpansionsShareAuthority → (template : Template) (authority : List ℕ) (b : Bool) → IsTrue b ↔ (authority_of template.start ≡ authority)
    → (text : List ℕ) → read_template text ≡ Some template → MatchBool b (IsHome template authority) (IsForeign template authority)
home_or_foreign kept addresses shares template authority b same text read =
    let is = kept text template read in
    let there = addresses template [] is in
    by_start template authority b same there.0 there.1 (same_authority template.start there.0 (shares template [] there.0 is there.1))

pub same_start : (start found : Address) (authority : List ℕ) (b : Bool) → found ≡ start → IsTrue b ↔ (authority_of found ≡ authority) → IsTrue b ↔ (authority_of start ≡ authority)
same_start start found authority b e h = subst (λ (a : Address). IsTrue b ↔ (authority_of a ≡ authority)) e h

pub when_true : (P Q : Type 0) (b : Bool) → b ≡ true → MatchBool b P Q → P
when_true P Q true e h = h
when_true P Q false e h = absurd (cc)

pub when_false : (P Q : Type 0) (b : Bool) → b ≡ false → MatchBool b P Q → Q
when_false P Q true e h = absurd (cc)
when_false P Q false e h = h
