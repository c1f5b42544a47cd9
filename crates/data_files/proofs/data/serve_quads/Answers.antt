use Rattle.std.proofs.Common.{ap, Err}
use Rattle.data_files.proofs.data.serve_quads.Goals as goal

pub returns-in-Err-TooMany-clause-err : goal.returns-in-Err-TooMany-clause-err
returns-in-Err-TooMany-clause-err c = c.in-Err-TooMany.ensures.too_many (ap Err c.in-Err-TooMany.field-0-is)
