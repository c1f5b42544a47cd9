use Rattle.std.proofs.Common.{◌<◌, length, ap, sym, ◌∙◌, rules}
use Rattle.rdf_terms.specs.Slots.{order_of}
use Rattle.rdf_terms.specs.Fragments.{put}
use Rattle.plain_answers.proofs.Puts.{put_here}
use Rattle.plain_answers.proofs.plain.put.Goals as goal

pub returns-in-Less : goal.returns-in-Less
returns-in-Less c =
    let below : c.loop-i.i < length c.loop-i.sorted.items = search rules in
    c.in_ok-insert-in-Less.ensures.items
    ∙ sym (put_here (order_of c.args.slots.now) c.args.triple c.index.result.now c.loop-i.sorted.items _ c.loop-i.i below (search rules) (search rules) c.loop-i.invariant.1)
    ∙ ap (λ v. put (order_of c.args.slots.now) c.args.triple v.items) c.loop-i.invariant.0
