use Rattle.std.proofs.Common.{rules, tests, ◌==◌}
use Rattle.std.proofs.lemmas.Iterator.Search.{any_from_yields_List}
use Rattle.std.proofs.lemmas.Iterator.Splits.{YieldsList-from_slice_split}
use Rattle.tpf_base.specs.HttpHeads.{has_word, is_word}
use Rattle.http_wire.proofs.fields.has_word.Goals as goal

pub returns : goal.returns
unfolding has_word
returns c =
    any_from_yields_List (is_word c.args.word.now) _ _ _ c.any.ensures.ran
    (YieldsList-from_slice_split _ (λ b. b == 44) c.args.value.now c.split.ensures.rest c.split.ensures.done c.split.ensures.closure (λ x r q k. search (rules, tests)))
    (λ x b q k. search (rules, tests))
