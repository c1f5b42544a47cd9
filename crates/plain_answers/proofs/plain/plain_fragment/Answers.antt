use Rattle.std.proofs.Common.{◌≡◌, ◌<◌, ◌-◌, ◌+◌, suc, length, drop, ◌∙◌, ap, arith, rules}
use Rattle.std.specs.List.{filter}
use Rattle.rdf_terms.specs.Slots.{order_of, matches}
use Rattle.rdf_terms.specs.Fragments.{sorted}
use Rattle.plain_answers.proofs.Puts.{sorted_step}
use Rattle.plain_answers.proofs.plain.plain_fragment.Goals as goal

pub loop-i-preserved : goal.loop-i-preserved
loop-i-preserved c =
    let i_below : c.loop-i.i < length c.args.triples.now = search rules in
    let below : length c.args.triples.now - (c.loop-i.i + 1) < length c.args.triples.now = omega (arith, i_below) in
    let next : length c.args.triples.now - c.loop-i.i ≡ suc (length c.args.triples.now - (c.loop-i.i + 1)) = omega (arith, i_below) in
    let before = c.loop-i.invariant ∙ ap (λ n. sorted (order_of c.args.slots.now) (filter (matches c.args.slots.now) (drop n c.args.triples.now))) next in
    sorted_step (order_of c.args.slots.now) (matches c.args.slots.now) c.args.triples.now (length c.args.triples.now - (c.loop-i.i + 1)) c.index-triples-triples.result _ c.loop-i.sorted.items below (search rules) before c.in_ok-put_match.ensures
