use Rattle.std.proofs.Common.{◌≡◌, sym, arith, get_or}
use Rattle.std.specs.Char.{to_ascii_lowercase}
use Rattle.query_words.proofs.Chars.{same_all, differ_at}
use Rattle.query_words.proofs.text.same_word.Goals as goal

pub returns-then-to_ascii_lowercase-from : goal.returns-then-to_ascii_lowercase-from
returns-then-to_ascii_lowercase-from c =
    let differ : to_ascii_lowercase c.index-text-i.result ≡ get_or c.args.word.now c.loop-i.i 0 → ⊥ = λ e. c.if-to_ascii_lowercase-from.true (let d = c.from.ensures in let v = c.to_ascii_lowercase.ensures.value in cc) in
    sym (differ_at c.args.word.now c.args.text.now c.loop-i.i c.index-text-i.result 0 (omega arith) c.if-word-text.false c.index-text-i.is differ)

pub returns : goal.returns
returns c = sym (same_all c.args.word.now c.args.text.now c.loop-i.i (omega arith) (omega arith) c.loop-i.invariant)
