use Rattle.std.proofs.Common.{◌≡◌, ℕ, ◌<◌, ◌^◌, List, [], ◌∷◌, ◌++◌, ap, ap₂, ◌∙◌, arith}
use Rattle.std.specs.Prelude.{codes, decimal}
use Rattle.tpf_base.specs.Decimals.{decimal_text}
use Rattle.tpf_base.proofs.DecimalTexts.{decimal_is}
use Rattle.page_responses.specs.Statuses.{version_line}
use Rattle.page_responses.proofs.pages.version_text.Goals as goal

spelled : (number : ℕ) (text first digits second third : List ℕ) → text ≡ third → first ≡ codes "version " → digits ≡ decimal_text number → second ≡ first ++ digits → third ≡ second ++ 10 ∷ [] → text ≡ version_line number
unfolding version_line
spelled number text first digits second third is begins digits_are joined ends = is ∙ ends ∙ ap (λ (l : List ℕ). l ++ 10 ∷ []) (joined ∙ ap₂ (λ (x y : List ℕ). x ++ y) begins digits_are)

pub returns : goal.returns
returns c =
    let small : c.args.number < 2 ^ 64 = c.ranges.number.fits in
    let same : decimal c.args.number ≡ decimal_text c.args.number = decimal_is c.args.number (omega arith) in
    spelled c.args.number c.from_string.result c.in_ok-words.words.bytes.items c.format.result.now c.push_str.new.self.bytes.items c.push_str-2.new.self.bytes.items
    c.from_string.ensures c.in_ok-words.ensures.ok (c.format.ensures.text ∙ same) c.in_ok-push_str.ensures.bytes c.in_ok-push_str-2.ensures.bytes
