use Rattle.std.proofs.Common.{◌≡◌, ◌∙◌, length, refl, sym, arith}
use Rattle.group_faults.proofs.Runs.{last_is}
use Rattle.group_faults.proofs.limits.excess_in_groups.Goals as goal

pub loop-i-init : goal.loop-i-init
loop-i-init c = (omega arith, λ iri names. (names, refl))

pub returns-in-Some : goal.returns-in-Some
returns-in-Some c = λ iri names.
    let o = c.loop-i.invariant.1 iri names in
    sym (c.in-Some.ensures.over iri o.0) ∙ o.1

pub loop-i-preserved : goal.loop-i-preserved
loop-i-preserved c = (
  c.in_default.ensures.from,
  λ iri names.
      let o = c.loop-i.invariant.1 iri names in
      let g = c.in_default.ensures.within iri o.0 in
      (g.0, g.1 ∙ o.1),
)

pub returns : goal.returns
returns c = λ iri names.
    let o = c.loop-i.invariant.1 iri names in
    let all : c.loop-i.i ≡ length c.args.words.now = omega arith in
    last_is c.args.words.now c.loop-i.walk.from c.loop-i.i c.loop-i.walk.left c.count.new.self.left c.count.result all c.count.ensures.over c.count.ensures.within iri o.0 ∙ o.1
