-- Links before the place of the loop are not ripe.
use Rattle.std.proofs.Common.{◌≡◌, ◌<◌, ◌≤◌, ℕ, false, length, get_or, ap, sym, ◌∙◌, arith}
use borrow.Author.Count.{below_more}
use Rattle.loop_wire.specs.Held.{Held, no_link}
use Rattle.loop_wire.specs.Looped.{held_of}
use Rattle.loop_wire.proofs.Lists.{seen_at}
use Rattle.loop_wire.proofs.links.first_ripe.Goals as goal

pub loop-k-init : goal.loop-k-init
loop-k-init g c = λ j low high. absurd (omega (arith, low, high))

pub offset_bounds-links-k : goal.offset_bounds-links-k
offset_bounds-links-k g c = omega (arith, c.loop-k-test.true, c.requires)

pub bounds-links-k : goal.bounds-links-k
bounds-links-k g c = omega (arith, c.loop-k-test.true, c.requires)

pub returns-then-is_ripe-clause-found : goal.returns-then-is_ripe-clause-found
returns-then-is_ripe-clause-found g c =
    let below : c.loop-k.k < length c.args.links.now = omega (arith, c.loop-k-test.true, c.requires) in
    (below, ap (λ (h : Held). h.ripe) (sym (seen_at c.args.links.now c.loop-k.k c.index-links-k.result below)) ∙ sym c.is_ripe.ensures ∙ c.if-is_ripe.true)

pub loop-k-preserved : goal.loop-k-preserved
loop-k-preserved g c =
    let below : c.loop-k.k < length c.args.links.now = omega (arith, c.loop-k-test.true, c.requires) in
    below_more (λ (j : ℕ). c.args.from ≤ j → (get_or (held_of c.args.links.now) j no_link).ripe ≡ false) c.loop-k.k c.loop-k.invariant
    (λ low. ap (λ (h : Held). h.ripe) (sym (seen_at c.args.links.now c.loop-k.k c.index-links-k.result below)) ∙ sym c.is_ripe.ensures ∙ c.if-is_ripe.false)

pub returns-clause-none : goal.returns-clause-none
returns-clause-none g c = λ j low high. c.loop-k.invariant j (omega (arith, low, c.loop-k-test.false)) high
