use Rattle.std.proofs.Common.{arith, rules}
use Rattle.std.proofs.lemmas.List.Elements.{All-from_get_or}
use Rattle.percent_encoding.proofs.PercentLemmas.{IsByte}
use Rattle.template_fill.proofs.Values.{same_text}
use Rattle.template_fill.proofs.value.push_value.Goals as goal

pub returns : goal.returns
returns c =
    let small = All-from_get_or IsByte c.args.value.now 0 (λ i within. omega (arith, c.type_inv.value i)) in
    rw (← same_text c.args.value.now small) (search rules)
