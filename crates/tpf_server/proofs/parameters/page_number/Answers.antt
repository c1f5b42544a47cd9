use Rattle.std.proofs.Common.{◌≡◌, ℕ, true, List, length, sym, subst, ◌∙◌, arith}
use Rattle.std.specs.List.{list_all}
use Rattle.std.specs.Char.{is_ascii_digit}
use Rattle.tpf_server.proofs.Numbers.{beyond}
use Rattle.tpf_server.proofs.parameters.page_number.Goals as goal

pub returns-in-Err : goal.returns-in-Err
returns-in-Err c =
    let some : length c.args.text.now ≡ 0 → ⊥ = grind (arith, c.is_empty.ensures, c.if-is_empty.false) in
    let all : list_all is_ascii_digit c.args.text.now ≡ true =
    subst (λ (t : List ℕ). list_all is_ascii_digit t ≡ true) c.as_bytes.ensures.value (sym c.are_digits.ensures ∙ c.if-not-are_digits.false) in
    beyond c.args.text.now c.in-Err.field-0 some all c.in-Err.ensures.value.0
