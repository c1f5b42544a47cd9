use Rattle.std.proofs.Common.{ap, sym, ◌∙◌, true, false}
use Rattle.std.specs.Prelude.{Some}
use Rattle.http_wire.proofs.ChunkLemmas.{size_is, parts_fit, run_all}
use Rattle.http_wire.proofs.chunk.chunk_size.Goals as goal

pub hexadecimal-requires-clause-digits : goal.hexadecimal-requires-clause-digits
hexadecimal-requires-clause-digits c = run_all c.args.line.now _ c.split_digits.ensures.digits

pub hexadecimal-requires-clause-fits : goal.hexadecimal-requires-clause-fits
hexadecimal-requires-clause-fits c = parts_fit c.args.line.now _ c.split_digits.result.1.now c.split_digits.ensures.digits (sym c.if-are_parts.ensures)

pub returns-then-are_parts : goal.returns-then-are_parts
returns-then-are_parts c = ap Some c.hexadecimal.ensures ∙ sym (size_is c.args.line.now _ _ true c.split_digits.ensures.digits c.split_digits.ensures.rest (sym c.if-are_parts.ensures))

pub returns-else-are_parts : goal.returns-else-are_parts
returns-else-are_parts c = sym (size_is c.args.line.now _ _ false c.split_digits.ensures.digits c.split_digits.ensures.rest (sym c.if-are_parts.ensures))
