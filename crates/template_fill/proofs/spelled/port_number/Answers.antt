use Rattle.std.proofs.Common.{arith}
use Rattle.template_fill.proofs.Ports.{digits_value-more, is_port_text-above, positive}
use Rattle.template_fill.proofs.spelled.port_number.Goals as goal

pub returns-then-port-gt-HIGHEST_PORT-clause-value : goal.returns-then-port-gt-HIGHEST_PORT-clause-value
returns-then-port-gt-HIGHEST_PORT-clause-value c = is_port_text-above c.args.digits.now c.loop-digit.digit-index c.loop-digit.port c.requires (omega arith) c.loop-digit.invariant.value (omega arith)

pub loop-digit-preserved : goal.loop-digit-preserved
loop-digit-preserved c =
    let more = digits_value-more c.args.digits.now c.loop-digit.digit-index c.loop-digit.port c.requires (omega arith) c.loop-digit.invariant.value in
    record { value = omega arith; small = omega arith }

pub returns-clause-positive : goal.returns-clause-positive
returns-clause-positive c = positive c.args.digits.now c.loop-digit.port c.loop-digit.digit-index c.requires c.if-is_empty.ensures c.if-digits-eq48.false c.loop-digit-test.false c.loop-digit.invariant.value
