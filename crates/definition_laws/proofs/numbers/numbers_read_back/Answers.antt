use Rattle.definition_laws.proofs.numbers.numbers_read_back.Goals as goal
use Rattle.tpf_base.proofs.DecimalTexts.{reads_back, of_their_number, decimal_text-differ, decimal_is}

pub returns-clause-read : goal.returns-clause-read
returns-clause-read c = reads_back

pub returns-clause-digits : goal.returns-clause-digits
returns-clause-digits c = of_their_number

pub returns-clause-differ : goal.returns-clause-differ
returns-clause-differ c = decimal_text-differ

pub returns-clause-decimal : goal.returns-clause-decimal
returns-clause-decimal c = decimal_is
