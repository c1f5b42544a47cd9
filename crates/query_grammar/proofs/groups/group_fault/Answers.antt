use Rattle.std.proofs.Common.{ℕ, ◌≡◌, true, false, length, sym, subst, ◌∙◌, arith}
use Rattle.query_grammar.specs.declared.kind.Kind.TheVariants as kinds
use Rattle.query_grammar.specs.GroupSteps.{Reading}
use Rattle.query_grammar.proofs.GroupFaults.{At, at_start, one_more, stops_here, read, too_early, told_none, told_some}
use Rattle.query_grammar.proofs.groups.group_fault.Goals as goal

pub loop-i-init : goal.loop-i-init
loop-i-init c = subst (λ (r : Reading). At c.args.kinds.now 0 r) (sym c.new-reader.ensures) (at_start c.args.kinds.now)

pub returns-then-not-branch : goal.returns-then-not-branch
returns-then-not-branch c =
    let b : c.in_ok-take.field-0 ≡ false = let h = c.if-not-branch.true in cc in
    stops_here c.args.kinds.now c.loop-i.i c.loop-i.reader kinds.Iri c.loop-i-test.true c.loop-i.invariant (told_none c.in_ok-take.field-0 _ _ b c.in_ok-take.ensures)

pub loop-i-preserved : goal.loop-i-preserved
loop-i-preserved c =
    let b : c.in_ok-take.field-0 ≡ true = let h = c.if-not-branch.false in cc in
    one_more c.args.kinds.now c.loop-i.i c.loop-i.reader _ kinds.Iri c.loop-i-test.true c.loop-i.invariant (told_some c.in_ok-take.field-0 _ _ b c.in_ok-take.ensures)

pub returns-then-is_at_end : goal.returns-then-is_at_end
returns-then-is_at_end c =
    let all : c.loop-i.i ≡ length c.args.kinds.now = omega arith in
    read c.args.kinds.now c.loop-i.reader (subst (λ (n : ℕ). At c.args.kinds.now n c.loop-i.reader) all c.loop-i.invariant) (sym c.is_at_end.ensures ∙ c.if-is_at_end.true)

pub returns : goal.returns
returns c =
    let all : c.loop-i.i ≡ length c.args.kinds.now = omega arith in
    too_early c.args.kinds.now c.loop-i.reader (subst (λ (n : ℕ). At c.args.kinds.now n c.loop-i.reader) all c.loop-i.invariant) (sym c.is_at_end.ensures ∙ c.if-is_at_end.false)
