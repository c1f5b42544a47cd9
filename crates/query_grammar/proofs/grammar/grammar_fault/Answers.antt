use Rattle.std.proofs.Common.{◌≡◌, Some, None, length, sym, ◌∙◌, arith}
use Rattle.query_grammar.specs.declared.kind.Kind.TheVariants.{Iri}
use Rattle.query_grammar.proofs.Follows.{starts}
use Rattle.query_grammar.proofs.Faults.{one_more, stops, read, not_read}
use Rattle.query_grammar.proofs.grammar.grammar_fault.Goals as goal

pub loop-i-init : goal.loop-i-init
loop-i-init c = record { left_is = sym starts }

pub loop-i-preserved : goal.loop-i-preserved
loop-i-preserved c =
    one_more c.args.kinds.now c.loop-i.i c.loop-i.state Iri (Some c.in-Some.after) c.loop-i-test.true c.loop-i.invariant (sym c.next.ensures ∙ c.in-Some.is)

pub returns-in-None : goal.returns-in-None
returns-in-None c =
    stops c.args.kinds.now c.loop-i.i c.loop-i.state c.loop-i-test.true c.loop-i.invariant
    (one_more c.args.kinds.now c.loop-i.i c.loop-i.state Iri None c.loop-i-test.true c.loop-i.invariant (sym c.next.ensures ∙ c.in-None.is))

pub returns-then-is_end : goal.returns-then-is_end
returns-then-is_end c =
    let at_end : length c.args.kinds.now ≡ c.loop-i.i = omega arith in
    read c.args.kinds.now c.loop-i.i c.loop-i.state at_end c.loop-i.invariant (sym c.is_end.ensures ∙ c.if-is_end.true)

pub returns-else-is_end : goal.returns-else-is_end
returns-else-is_end c =
    let at_end : length c.args.kinds.now ≡ c.loop-i.i = omega arith in
    not_read c.args.kinds.now c.loop-i.i c.loop-i.state at_end c.loop-i.invariant (sym c.is_end.ensures ∙ c.if-is_end.false)
