use Rattle.std.proofs.Common.{◌≡◌, List, length, vec_len, rules, ap, ◌∙◌, arith, length-set}
use Rattle.joint_pages.specs.Gatherings.{GatheringData}
use Rattle.federation.proofs.Places.{stays-open, comes-out}
use Rattle.federation.proofs.rounds.take.Goals as goal

pub remove-requires : goal.remove-requires
remove-requires c =
    let h = c.requires.1 in
    let p = c.put_at.ensures c.requires.0 h in
    let long : vec_len c.put_at.new.rounds ≡ length c.put_at.new.rounds.items = search rules in
    let same : length c.put_at.new.rounds.items ≡ length c.args.rounds.now.items = ap (λ (l : List GatheringData). length l) p.now ∙ length-set c.args.rounds.now.items c.args.spot.round p.after in
    let below = h.within in
    omega (arith, long, same, below)

pub returns-then-put_at : goal.returns-then-put_at
returns-then-put_at c = λ ticket h.
    comes-out c.args.rounds.now.items c.put_at.new.rounds.items c.remove.new.self.items c.args.spot ticket c.args.page c.put_at.result c.remove.result h.within (c.put_at.ensures ticket h) c.if-put_at.true c.remove.ensures.value c.remove.ensures.items

pub returns-else-put_at : goal.returns-else-put_at
returns-else-put_at c = λ ticket h.
    stays-open c.args.rounds.now.items c.put_at.new.rounds.items c.args.spot ticket c.args.page c.put_at.result h.within (c.put_at.ensures ticket h) c.if-put_at.false
