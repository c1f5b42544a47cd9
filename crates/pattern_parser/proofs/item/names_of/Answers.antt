use Rattle.std.proofs.Common.{◌≡◌, ◌+◌, ◌-◌, arith, length, drop, take, length-drop}
use Rattle.std.proofs.lemmas.List.{take_all}
use Rattle.pattern_parser.specs.Items.{names_after}
use Rattle.pattern_parser.proofs.Skips.{step_names}
use Rattle.pattern_parser.proofs.item.names_of.Goals as goal

pub loop-i-preserved : goal.loop-i-preserved
loop-i-preserved c =
    let old = c.loop-i.invariant in
    let now = c.in_ok-skip.ensures in
    let few = old.few in
    let more = now.few in
    let words = c.args.words.now in
    let i = c.loop-i.i in
    let rest = take (length words - (i + 1)) (drop (i + 1) words) in
    let w = c.index-words-i.result in
    let whole : rest ≡ drop (i + 1) words = take_all (length words - (i + 1)) (drop (i + 1) words) (omega (arith, length-drop (i + 1) words)) in
    record {
      names = step_names c.loop-i.names.texts.items c.name_or_skip.new.names.texts.items (names_after c.args.names.now.texts.items 0 words) c.loop-i.skip c.in_ok-skip.skip i words rest w c.loop-i-test.true c.index-words-i.is whole now.names old.names;
      numbered = now.numbered;
      few = omega arith;
    }
