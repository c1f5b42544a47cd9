use Rattle.metadata_quads.proofs.Numbers.{is_datatype-is}
use Rattle.metadata_quads.proofs.term_text.integer.Goals as goal

pub from_text-requires : goal.from_text-requires
from_text-requires c = is_datatype-is c.in_ok-datatype.datatype c.in_ok-datatype.ensures
