-- Each token's items and names join those of the tokens before it; behind the last one all have joined.
use Rattle.std.proofs.Common.{◌≡◌, ◌+◌, ◌-◌, ◌≤◌, ◌++◌, arith, List, length, drop, take, ℕ, Option, length-drop, append-nil, refl, sym, ap, ◌∙◌}
use Rattle.std.specs.BTreeMap.{get_by_text}
use Rattle.std.proofs.lemmas.List.{take_all, drop_all}
use Rattle.std.proofs.lemmas.Result.{IfOk-from_err}
use Rattle.query_words.specs.declared.word.Word.{Word}
use Rattle.pattern_parser.specs.declared.item.Item.{Item}
use Rattle.pattern_parser.specs.Prefixes.{iris}
use Rattle.pattern_parser.specs.Items.{items_after, names_after}
use Rattle.pattern_parser.proofs.Skips.{step_items, step_names}
use Rattle.pattern_parser.proofs.item.items_of.Goals as goal

pub loop-i-init : goal.loop-i-init
loop-i-init c = record {
  items = ap (λ (l : List Item). l ++ items_after (iris c.args.prefixes.now) c.args.names.now.texts.items 0 c.args.words.now) c.new-items.ensures.items;
  names = refl;
  numbered = c.requires.numbered;
  few = omega arith;
}

pub bounds-words-i : goal.bounds-words-i
bounds-words-i c = c.loop-i-test.true

pub take_or_skip-requires-clause-numbered : goal.take_or_skip-requires-clause-numbered
take_or_skip-requires-clause-numbered c = c.loop-i.invariant.numbered

pub take_or_skip-requires-clause-few : goal.take_or_skip-requires-clause-few
take_or_skip-requires-clause-few c = omega (arith, c.loop-i.invariant.few, c.loop-i-test.true, c.requires.few)

pub returns-in_err-skip-clause-items : goal.returns-in_err-skip-clause-items
returns-in_err-skip-clause-items c = IfOk-from_err _ _ c.from_residual.ensures.0

pub returns-in_err-skip-clause-names : goal.returns-in_err-skip-clause-names
returns-in_err-skip-clause-names c = IfOk-from_err _ _ c.from_residual.ensures.0

pub returns-in_err-skip-clause-numbered : goal.returns-in_err-skip-clause-numbered
returns-in_err-skip-clause-numbered c = IfOk-from_err _ _ c.from_residual.ensures.0

pub returns-in_err-skip-clause-few : goal.returns-in_err-skip-clause-few
returns-in_err-skip-clause-few c = IfOk-from_err _ _ c.from_residual.ensures.0

pub loop-i-preserved : goal.loop-i-preserved
loop-i-preserved c =
    let old = c.loop-i.invariant in
    let now = c.in_ok-skip.ensures in
    let few = old.few in
    let more = now.few in
    let iri : List ℕ → Option (List ℕ) = λ q. get_by_text c.args.prefixes.now q in
    let words = c.args.words.now in
    let i = c.loop-i.i in
    let rest = take (length words - (i + 1)) (drop (i + 1) words) in
    let w = c.index-words-i.result in
    let whole : rest ≡ drop (i + 1) words = take_all (length words - (i + 1)) (drop (i + 1) words) (omega (arith, length-drop (i + 1) words)) in
    record {
      items = step_items iri c.loop-i.names.texts.items c.take_or_skip.new.names.texts.items c.loop-i.skip c.in_ok-skip.skip i words rest w c.loop-i.items.items c.take_or_skip.new.items.items (items_after iri c.args.names.now.texts.items 0 words) c.loop-i-test.true c.index-words-i.is whole now.items old.items;
      names = step_names c.loop-i.names.texts.items c.take_or_skip.new.names.texts.items (names_after c.args.names.now.texts.items 0 words) c.loop-i.skip c.in_ok-skip.skip i words rest w c.loop-i-test.true c.index-words-i.is whole now.names old.names;
      numbered = now.numbered;
      few = omega arith;
    }

pub returns-clause-items : goal.returns-clause-items
returns-clause-items c =
    let past : length c.args.words.now ≤ c.loop-i.i = omega (arith, c.loop-i-test.false) in
    sym (append-nil c.loop-i.items.items) ∙
    ap (λ (l : List Word). c.loop-i.items.items ++ items_after (iris c.args.prefixes.now) c.loop-i.names.texts.items c.loop-i.skip l) (sym (drop_all c.loop-i.i c.args.words.now past)) ∙
    c.loop-i.invariant.items

pub returns-clause-names : goal.returns-clause-names
returns-clause-names c =
    let past : length c.args.words.now ≤ c.loop-i.i = omega (arith, c.loop-i-test.false) in
    ap (λ (l : List Word). names_after c.loop-i.names.texts.items c.loop-i.skip l) (sym (drop_all c.loop-i.i c.args.words.now past)) ∙ c.loop-i.invariant.names

pub returns-clause-numbered : goal.returns-clause-numbered
returns-clause-numbered c = c.loop-i.invariant.numbered

pub returns-clause-few : goal.returns-clause-few
returns-clause-few c = omega (arith, c.loop-i.invariant.few, c.loop-i.auto.i-end)
