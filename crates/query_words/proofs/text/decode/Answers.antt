use Rattle.std.proofs.Common.{◌≡◌, Result, Ok, subst}
use Rattle.std.specs.Result.{IfOk}
use Rattle.std.specs.Str.{chars}
use Rattle.std.proofs.lemmas.Iterator.{items_from_collect, YieldsList-from_chars}
use Rattle.query_words.proofs.text.decode.Goals as goal

at_ok : {T E : Type 0} (P : T → Type 0) (r : Result T E) (v : T) → r ≡ Ok v → IfOk r P → P v
at_ok P r v e h = subst (λ r. IfOk r P) e h

pub returns : goal.returns
returns c = at_ok (λ w. w.items ≡ chars c.args.text.now) c.collect.result c.in_ok-collect.field-0 c.in_ok-collect.was (items_from_collect _ c.collect.ensures.ran (YieldsList-from_chars c.args.text.now c.utf8.text cc))
