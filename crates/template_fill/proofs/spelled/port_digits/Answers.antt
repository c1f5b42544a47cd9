use Rattle.std.specs.Char.{is_ascii_digit}
use Rattle.template_fill.proofs.Passing.{list_all-cut}
use Rattle.template_fill.proofs.Ports.{spells_digits}
use Rattle.template_fill.proofs.spelled.port_digits.Goals as goal

pub port_number-requires : goal.port_number-requires
port_number-requires c = list_all-cut is_ascii_digit _ _ _ c.split_at.ensures.front c.digits_len.ensures.len

pub returns-clause-spelled : goal.returns-clause-spelled
returns-clause-spelled c =
    let all = list_all-cut is_ascii_digit _ _ _ c.split_at.ensures.front c.digits_len.ensures.len in
    spells_digits _ _ _ _ _ c.split_at.ensures.front c.split_at.ensures.back all c.in_ok-port.ensures.value.0 c.in_ok-port.ensures.positive c.in_ok-port.ensures.value.1
