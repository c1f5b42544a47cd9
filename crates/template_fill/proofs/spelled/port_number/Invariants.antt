use Rattle.std.proofs.Common.{◌≡◌, ◌≤◌, take}
use Rattle.std.specs.Str.Parse.{digits_value}
use Rattle.tpf_base.specs.declared.limits.TheConstants.{HIGHEST_PORT}
use Rattle.template_fill.proofs.spelled.port_number.Given as goal

abbrev pub invariant-loop-digit : goal.invariant-loop-digit
invariant-loop-digit l = record {
  value : l.port ≡ digits_value 10 (take l.digit-index l.digits);
  small : l.port ≤ HIGHEST_PORT;
}
