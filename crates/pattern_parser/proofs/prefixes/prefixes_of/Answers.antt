-- What the tokens left declare stands before what the map has; behind the last one it has all.
use Rattle.std.proofs.Common.{◌≡◌, ◌+◌, ◌-◌, ◌≤◌, List, length, take, drop, length-drop, sym, ap, ◌∙◌, arith}
use Rattle.std.specs.BTreeMap.{get_by_text}
use Rattle.std.proofs.lemmas.List.{take_all, drop_all}
use Rattle.std.proofs.lemmas.Result.{IfOk-from_err}
use Rattle.query_words.specs.declared.word.Word.{Word}
use Rattle.pattern_parser.specs.Prefixes.{or_else, iri_of}
use Rattle.pattern_parser.proofs.Skips.{step_prefixes}
use Rattle.pattern_parser.proofs.prefixes.prefixes_of.Goals as goal

pub bounds-words-i : goal.bounds-words-i
bounds-words-i c = c.loop-i-test.true

pub returns-in_err-declare_word : goal.returns-in_err-declare_word
returns-in_err-declare_word c = IfOk-from_err _ _ c.from_residual.ensures.0

pub loop-i-preserved : goal.loop-i-preserved
loop-i-preserved c = λ q.
    let words = c.args.words.now in
    let i = c.loop-i.i in
    let rest = take (length words - (i + 1)) (drop (i + 1) words) in
    let whole : rest ≡ drop (i + 1) words = take_all (length words - (i + 1)) (drop (i + 1) words) (omega (arith, length-drop (i + 1) words)) in
    step_prefixes words rest i c.index-words-i.result q (get_by_text c.loop-i.prefixes q) (get_by_text c.declare_word.new.prefixes q) _ c.loop-i-test.true c.index-words-i.is whole (c.in_ok-declare_word.ensures q) (c.loop-i.invariant q)

pub returns : goal.returns
returns c = λ q.
    let past : length c.args.words.now ≤ c.loop-i.i = omega (arith, c.loop-i-test.false) in
    ap (λ (l : List Word). or_else (iri_of l q) (get_by_text c.loop-i.prefixes q)) (sym (drop_all c.loop-i.i c.args.words.now past)) ∙ c.loop-i.invariant q
